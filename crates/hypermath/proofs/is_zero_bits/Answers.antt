-- Zero bits are the bits of +0.
use lib.Ieee
use Rattle.hypermath.proofs.is_zero_bits.Goals as goal

pub returns : goal.returns
unfolding lib.Ieee.of_bits
returns c = c.same_bits.ensures
