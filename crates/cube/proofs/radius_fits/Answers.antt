-- Two comparisons.
use mathlib.Core.Path.{sym, ap, ◌∙◌}
use mathlib.Core.Bool.{Bool, ◌&&◌}
use lib.Ieee
use lib.Ieee.{le}
use Rattle.rules.specs.Floats.{farthest}
use Rattle.rules.specs.Cube.{radius_fits}
use Rattle.cube.proofs.radius_fits.Goals as goal

pub returns-then-radius : goal.returns-then-radius
unfolding lib.Ieee.of_bits radius_fits
returns-then-radius c = ap (λ (b : Bool). b && le c.args.radius farthest) (sym c.if-radius.true)

pub returns-else-radius : goal.returns-else-radius
unfolding lib.Ieee.of_bits radius_fits
returns-else-radius c = c.if-radius.false ∙ ap (λ (b : Bool). b && le c.args.radius farthest) (sym c.if-radius.false)
