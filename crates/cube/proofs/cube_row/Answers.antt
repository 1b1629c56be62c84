-- A corner, a facet or any other element: each has its row.
use Prim.Native.Nat.{◌≤◌, ◌<◌}
use mathlib.Core.Path.{◌≡◌, refl, sym, ◌∙◌}
use native.Mathlib.Omega.{arith}
use mathlib.Core.Bool.{true, false}
use lib.ListN.{length}
use lib.Seq.{length-take-le}
use Rattle.rules.specs.Cube.{digits, is_vertex, is_facet, chosen}
use Rattle.cube.proofs.CubeEntries.{corner_room, facet_room, row_corner, row_polytope, facet_named, faces_few}
use Rattle.cube.proofs.CubeRows.{power_low}
use borrow.Author.Rules.{rules}
use Rattle.cube.proofs.cube_row.Goals as goal

pub overflow_cast-number : goal.overflow_cast-number
overflow_cast-number c = let l = power_low c.args.d c.requires.in_cube.axes in
    omega (arith, c.requires.in_cube.used, l)

pub corner_row-requires : goal.corner_row-requires
corner_row-requires c = let l = corner_room c.args.d c.args.e.0 c.requires.in_cube.axes c.requires.in_cube.used (sym c.is_corner.ensures ∙ c.if-is_corner.true) in
    omega (arith, l, c.requires.vertices)

pub returns-then-is_corner : goal.returns-then-is_corner
returns-then-is_corner c = c.corner_row.ensures ∙ row_corner _ _ _ (sym c.is_corner.ensures ∙ c.if-is_corner.true) c.requires.vertices

pub overflow_cast-h : goal.overflow_cast-h
overflow_cast-h c =
    let a_facet : is_facet (digits c.args.d c.args.e.0) ≡ true =
    sym c.is_facet.ensures ∙ c.if-is_facet.true in
    let facet_few : length (chosen is_facet c.args.d c.args.e.0) < 9 =
    facet_room c.args.d c.args.e.0 c.requires.in_cube.axes c.requires.in_cube.used a_facet in
    let l = facet_few in
    omega (arith, l, c.requires.hyperplanes)

pub polytope_row-requires : goal.polytope_row-requires
polytope_row-requires c =
    let few : c.faces_of-f.result.n ≤ 8 =
    faces_few c.args.d c.args.e.0 c.faces_of-f.result c.requires.in_cube.axes c.faces_of-f.ensures in
    let k = few in
    record { size = (let t = length-take-le c.faces_of-f.result.n c.faces_of-f.result.list (let q : length c.faces_of-f.result.list ≡ 33 = search rules in omega (arith, k, q)) in omega (arith, t, k)); rank = omega (arith, k) }

pub returns-then-is_facet : goal.returns-then-is_facet
returns-then-is_facet c =
    let no_corner : is_vertex (digits c.args.d c.args.e.0) ≡ false =
    sym c.is_corner.ensures ∙ c.if-is_corner.false in
    let a_facet : is_facet (digits c.args.d c.args.e.0) ≡ true =
    sym c.is_facet.ensures ∙ c.if-is_facet.true in
    let facet_few : length (chosen is_facet c.args.d c.args.e.0) < 9 =
    facet_room c.args.d c.args.e.0 c.requires.in_cube.axes c.requires.in_cube.used a_facet in
    c.polytope_row.ensures
    ∙ row_polytope _ _ c.faces_of-f.result c.args.h.0 true no_corner a_facet c.faces_of-f.ensures (facet_named _ _ c.requires.hyperplanes facet_few)

pub polytope_row-requires-2 : goal.polytope_row-requires-2
polytope_row-requires-2 c =
    let few : c.faces_of-f.result.n ≤ 8 =
    faces_few c.args.d c.args.e.0 c.faces_of-f.result c.requires.in_cube.axes c.faces_of-f.ensures in
    let k = few in
    record { size = (let t = length-take-le c.faces_of-f.result.n c.faces_of-f.result.list (let q : length c.faces_of-f.result.list ≡ 33 = search rules in omega (arith, k, q)) in omega (arith, t, k)); rank = omega (arith, k) }

pub returns : goal.returns
returns c =
    let no_corner : is_vertex (digits c.args.d c.args.e.0) ≡ false =
    sym c.is_corner.ensures ∙ c.if-is_corner.false in
    c.polytope_row-2.ensures
    ∙ row_polytope _ _ c.faces_of-f.result 65535 false no_corner (sym c.is_facet.ensures ∙ c.if-is_facet.false) c.faces_of-f.ensures refl
