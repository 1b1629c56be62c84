-- A corner has a point, and any other element none.
use mathlib.Core.Path.{sym, ◌∙◌}
use native.Mathlib.Omega.{arith}
use Rattle.cube.proofs.CubeEntries.{corner_put, corner_none, corner_room}
use Rattle.cube.proofs.CubeRows.{power_low}
use Rattle.cube.proofs.put_corner.Goals as goal

pub overflow_cast-number : goal.overflow_cast-number
overflow_cast-number c = let l = power_low c.args.d c.requires.in_cube.axes in
    omega (arith, c.requires.in_cube.used, l)

pub returns-then-not-is_corner : goal.returns-then-not-is_corner
returns-then-not-is_corner c = corner_none _ _ c.requires.in_cube.axes _ _ _ (sym c.is_corner.ensures ∙ c.if-not-is_corner.true) c.requires.count

pub overflow_mul-v : goal.overflow_mul-v
overflow_mul-v c =
    let a_corner = sym c.is_corner.ensures ∙ c.if-not-is_corner.false in
    let few = corner_room c.args.d c.args.e.0 c.requires.in_cube.axes c.requires.in_cube.used a_corner in
    omega (arith, few, c.requires.count)

pub put_point-requires : goal.put_point-requires
put_point-requires c =
    let a_corner = sym c.is_corner.ensures ∙ c.if-not-is_corner.false in
    let few = corner_room c.args.d c.args.e.0 c.requires.in_cube.axes c.requires.in_cube.used a_corner in
    omega (arith, few, c.requires.count, c.requires.long)

pub overflow_add-result : goal.overflow_add-result
overflow_add-result c =
    let a_corner = sym c.is_corner.ensures ∙ c.if-not-is_corner.false in
    let few = corner_room c.args.d c.args.e.0 c.requires.in_cube.axes c.requires.in_cube.used a_corner in
    omega (arith, few, c.requires.count)

pub returns : goal.returns
returns c =
    let a_corner = sym c.is_corner.ensures ∙ c.if-not-is_corner.false in
    corner_put _ _ c.requires.in_cube.axes _ _ _ _ _ c.requires.in_cube.used a_corner c.requires.count c.corner_point-p.ensures c.put_point.ensures
