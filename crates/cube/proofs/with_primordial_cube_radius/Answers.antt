-- The three refusals in their order, and then the cube.
use mathlib.Core.Path.{sym, ◌∙◌}
use native.Mathlib.Omega.{arith}
use Rattle.cube.proofs.CubeReplies.{too_few, too_many, no_radius, no_room, cube_replied}
use Rattle.space.proofs.Sizes.{size_known}
use Rattle.cube.proofs.with_primordial_cube_radius.Goals as goal
use Rattle.cube.proofs.with_primordial_cube_radius.Goals.{then-dimension-lt1-via-then-dimension-lt1, then-dimension-lt1-via-else-dimension-lt1+then-dimension-gt4}

pub returns-then-dimension-lt1 : goal.returns-then-dimension-lt1
returns-then-dimension-lt1 c = elim c.then-dimension-lt1.branch [
  | then-dimension-lt1-via-then-dimension-lt1 w ↦ too_few _ _ _ _ _ _ w.if-dimension-lt1.true
  | then-dimension-lt1-via-else-dimension-lt1+then-dimension-gt4 w ↦ too_many _ _ _ _ _ _ w.if-dimension-gt4.true
]

pub returns-then-not-radius_fits : goal.returns-then-not-radius_fits
returns-then-not-radius_fits c = no_radius _ _ _ _ _ _ (omega arith) (omega arith) (sym c.radius_fits.ensures ∙ c.if-not-radius_fits.true)

pub returns-then-not-right_size : goal.returns-then-not-right_size
returns-then-not-right_size c = no_room _ _ _ _ _ _ (omega arith) (omega arith) (sym c.radius_fits.ensures ∙ c.if-not-radius_fits.false) (sym c.right_size.ensures ∙ c.if-not-right_size.true)

pub put_cube-requires : goal.put_cube-requires
put_cube-requires c = let s = size_known _ _ _ _ (sym c.right_size.ensures ∙ c.if-not-right_size.false) in
    record { axes = omega arith; counts = s.counts; points = s.points; planes = s.planes; elements = s.elements }

pub returns : goal.returns
returns c = cube_replied _ _ _ _ _ _ (omega arith) (omega arith) _ c.put_cube.ensures.memory
    (sym c.radius_fits.ensures ∙ c.if-not-radius_fits.false) (sym c.right_size.ensures ∙ c.if-not-right_size.false)
