-- The invariant: the rows of the elements so far, and how many of those are corners and facets.
use Prim.Native.Nat.{ℕ, ◌+◌, ◌^◌, ◌≤◌}
use mathlib.Core.Bool.{Bool, true, false}
use mir.Val.{bool_byte}
use Rattle.space.proofs.RowMade.{bit_is}
use mathlib.Core.Path.{◌≡◌, refl, ap, ◌∙◌}
use native.Mathlib.Omega.{arith}
use Rattle.rules.specs.Cube.{is_vertex, is_facet}
use borrow.Author.Rules.{rules}
use Rattle.cube.specs.Writing.{cube_elements}
use Rattle.cube.proofs.CubeEntries.{elements_next, chosen_counted, chosen_few}
use Rattle.cube.proofs.put_elements.Goals as goal

bit_most : {n : ℕ} (b : Bool) → n ≡ bool_byte b → n ≤ 1
bit_most {n} true e = omega (arith, e)
bit_most {n} false e = omega (arith, e)

pub loop-e-init : goal.loop-e-init
loop-e-init c = record {
  so_far = omega arith;
  axes = search rules;
  all = c.cube_size-size.ensures;
  long = search rules;
  room = search rules;
  vertices = refl;
  hyperplanes = refl;
  slice = c.requires.clear;
}

pub cube_row-row-requires : goal.cube_row-row-requires
cube_row-row-requires c = record { in_cube = record { axes = c.loop-e.invariant.axes; used = omega (arith, c.loop-e.invariant.all.power) }; vertices = c.loop-e.invariant.vertices; hyperplanes = c.loop-e.invariant.hyperplanes }

pub put_row-requires : goal.put_row-requires
put_row-requires c = record { place = omega (arith, c.loop-e.invariant.long, c.loop-e.invariant.all.few); row = search rules }

pub is_corner-requires : goal.is_corner-requires
is_corner-requires c = record { axes = c.loop-e.invariant.axes; used = omega (arith, c.loop-e.invariant.all.power) }

pub overflow_add-v : goal.overflow_add-v
overflow_add-v c = let k = chosen_few is_vertex c.args.d c.loop-e.e in
    let one : c.from-v.result ≤ 1 = bit_most c.is_corner.result c.from-v.ensures in omega (arith, k, one, c.loop-e.invariant.vertices, c.loop-e.invariant.all.few)

pub is_facet-requires : goal.is_facet-requires
is_facet-requires c = record { axes = c.loop-e.invariant.axes; used = omega (arith, c.loop-e.invariant.all.power) }

pub overflow_add-h : goal.overflow_add-h
overflow_add-h c = let k = chosen_few is_facet c.args.d c.loop-e.e in
    let one : c.from-h.result ≤ 1 = bit_most c.is_facet.result c.from-h.ensures in omega (arith, k, one, c.loop-e.invariant.hyperplanes, c.loop-e.invariant.all.few)

pub loop-e-preserved : goal.loop-e-preserved
loop-e-preserved c = record {
  so_far = search rules;
  axes = search rules;
  all = c.loop-e.invariant.all;
  long = search rules;
  room = search rules;
  vertices = ap (λ (n : ℕ). c.loop-e.v + n) (c.from-v.ensures ∙ bit_is c.is_corner.result) ∙ chosen_counted is_vertex c.args.d c.loop-e.e _ _ c.loop-e.invariant.vertices c.is_corner.ensures;
  hyperplanes = ap (λ (n : ℕ). c.loop-e.h + n) (c.from-h.ensures ∙ bit_is c.is_facet.result) ∙ chosen_counted is_facet c.args.d c.loop-e.e _ _ c.loop-e.invariant.hyperplanes c.is_facet.ensures;
  slice = c.put_row.ensures ∙ elements_next _ _ _ _ c.loop-e.invariant.axes (omega (arith, c.loop-e.invariant.all.few)) c.loop-e.invariant.slice c.cube_row-row.ensures;
}

pub returns : goal.returns
returns c = let t : c.loop-e.e ≡ 3 ^ c.args.d = omega (arith, c.loop-e.invariant.all.power) in
    c.loop-e.invariant.slice ∙ ap (cube_elements c.args.d) t
