-- The range is tested first; what is left equals an infinity or is unfit.
use mathlib.Core.Path.{sym, ◌∙◌}
use lib.Ieee
use Rattle.hypermath.proofs.Tests.{kind_finite, kind_plus, kind_minus, kind_unfit}
use Rattle.hypermath.proofs.distance_kind.Goals as goal

pub returns-then-is_within : goal.returns-then-is_within
unfolding lib.Ieee.of_bits
returns-then-is_within c = kind_finite c.args.x (sym c.is_within.ensures ∙ c.if-is_within.true)

pub returns-then-x-infinity : goal.returns-then-x-infinity
unfolding lib.Ieee.of_bits lib.Ieee.div lib.Ieee.neg
returns-then-x-infinity c = kind_plus c.args.x c.if-x-infinity.true

pub returns-then-x-infinity-2 : goal.returns-then-x-infinity-2
unfolding lib.Ieee.of_bits lib.Ieee.div lib.Ieee.neg
returns-then-x-infinity-2 c = kind_minus c.args.x c.if-x-infinity-2.true

pub returns : goal.returns
unfolding lib.Ieee.of_bits lib.Ieee.div lib.Ieee.neg
returns c = kind_unfit c.args.x (sym c.is_within.ensures ∙ c.if-is_within.false) c.if-x-infinity.false c.if-x-infinity-2.false
