-- A facet has a hyperplane, and any other element none.
use mathlib.Core.Path.{sym, ◌∙◌}
use native.Mathlib.Omega.{arith}
use Rattle.cube.proofs.CubeEntries.{facet_put, facet_none, facet_room}
use Rattle.cube.proofs.CubeRows.{power_low}
use Rattle.cube.proofs.put_facet.Goals as goal

pub overflow_cast-number : goal.overflow_cast-number
overflow_cast-number c = let l = power_low c.args.d c.requires.in_cube.axes in
    omega (arith, c.requires.in_cube.used, l)

pub returns-then-not-is_facet : goal.returns-then-not-is_facet
returns-then-not-is_facet c = facet_none _ _ c.requires.in_cube.axes _ _ _ (sym c.is_facet.ensures ∙ c.if-not-is_facet.true) c.requires.count

pub overflow_mul-h : goal.overflow_mul-h
overflow_mul-h c =
    let a_facet = sym c.is_facet.ensures ∙ c.if-not-is_facet.false in
    let few = facet_room c.args.d c.args.e.0 c.requires.in_cube.axes c.requires.in_cube.used a_facet in
    omega (arith, few, c.requires.count)

pub put_hyperplane-requires : goal.put_hyperplane-requires
put_hyperplane-requires c =
    let a_facet = sym c.is_facet.ensures ∙ c.if-not-is_facet.false in
    let few = facet_room c.args.d c.args.e.0 c.requires.in_cube.axes c.requires.in_cube.used a_facet in
    omega (arith, few, c.requires.count, c.requires.long)

pub overflow_add-result : goal.overflow_add-result
overflow_add-result c =
    let a_facet = sym c.is_facet.ensures ∙ c.if-not-is_facet.false in
    let few = facet_room c.args.d c.args.e.0 c.requires.in_cube.axes c.requires.in_cube.used a_facet in
    omega (arith, few, c.requires.count)

pub returns : goal.returns
returns c =
    let a_facet = sym c.is_facet.ensures ∙ c.if-not-is_facet.false in
    facet_put _ _ c.requires.in_cube.axes _ _ _ c.facet_normal-normal.result _ _ c.requires.in_cube.used a_facet c.requires.count c.facet_normal-normal.ensures c.hyperplane_row-row.ensures c.put_hyperplane.ensures
