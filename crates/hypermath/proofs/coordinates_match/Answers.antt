-- The difference is tested first; where it is too great nothing matches, and where it is no number only equal bits match.
use mathlib.Core.Path.{sym, ◌∙◌}
use lib.Ieee
use Rattle.hypermath.proofs.Bits.{match_near, match_bits, match_far}
use Rattle.hypermath.proofs.coordinates_match.Goals as goal

pub returns-then-is_within : goal.returns-then-is_within
unfolding lib.Ieee.of_bits
returns-then-is_within c = match_near c.args.earlier c.args.later (sym c.is_within.ensures ∙ c.if-is_within.true)

pub returns-then-gap : goal.returns-then-gap
unfolding lib.Ieee.of_bits
returns-then-gap c = c.same_bits.ensures ∙ match_bits c.args.earlier c.args.later (sym c.is_within.ensures ∙ c.if-is_within.false)

pub returns : goal.returns
unfolding lib.Ieee.of_bits
returns c = match_far c.args.earlier c.args.later (sym c.is_within.ensures ∙ c.if-is_within.false) c.if-gap.false
