-- The two tests one after another.
use mathlib.Core.Bool.{◌&&◌}
use mathlib.Core.Path.{ap₂, sym, ◌∙◌}
use lib.Ieee.{of_bits}
use Rattle.soundness.proofs.floats.hyperplane_sound.Goals as goal

pub returns-then-is_unit : goal.returns-then-is_unit
unfolding of_bits
returns-then-is_unit c = ap₂ ◌&&◌ (sym c.if-is_unit.true ∙ c.is_unit.ensures) c.is_within.ensures
