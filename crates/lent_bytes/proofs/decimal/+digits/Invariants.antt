-- The number is the measure.
use Rattle.lent_bytes.proofs.decimal.+digits.Given as goal

abbrev pub decreases-digits : goal.decreases-digits
decreases-digits l = l.n
