-- The invariant: the count so far and the triangles of the faces that are left make all, and no face has more than 30.
use mathlib.Core.Path.{◌∙◌}
use native.Mathlib.Nat.{zero-add}
use native.Mathlib.Omega.{arith}
use Rattle.print.specs.Pieces.{count_in}
use Rattle.print.proofs.Facing.{face_walks, face_element, face_edges, total_on, total_end}
use borrow.Author.Rules.{rules}
use Rattle.print.proofs.triangle_count.Goals as goal

pub size_of-n-requires : goal.size_of-n-requires
size_of-n-requires c = record { elements = c.requires.bounds.long; room = c.requires.bounds.used }

pub loop-i-init : goal.loop-i-init
loop-i-init c = unfold count_in in record { within = search rules; size = c.size_of-n.ensures; few = search rules; total = zero-add _ }

pub boundary_at-requires : goal.boundary_at-requires
boundary_at-requires c = record { elements = c.requires.bounds.long; room = c.requires.bounds.used; place = (search (rules, c.requires.bounds.sized, c.loop-i.invariant.size)) }

pub size_of-requires : goal.size_of-requires
size_of-requires c = face_element c.args.elements.now c.args.root.0 _ c.requires c.loop-i.invariant.size c.loop-i.i _ (search rules) (c.wide.ensures.value ∙ c.boundary_at.ensures)

pub overflow_sub-count : goal.overflow_sub-count
overflow_sub-count c = let e = c.wide.ensures.value ∙ c.boundary_at.ensures in
    let w = (face_walks c.args.elements.now c.args.root.0 _ c.requires c.loop-i.invariant.size c.loop-i.i _ (search rules) e).walk in
    let k = face_edges c.args.elements.now c.args.root.0 _ c.requires c.loop-i.invariant.size c.loop-i.i _ (search rules) e _ c.size_of.ensures in
    let x = w.three in
    let y = w.few in
    search (rules, k, x)

pub overflow_add-count : goal.overflow_add-count
overflow_add-count c = let e = c.wide.ensures.value ∙ c.boundary_at.ensures in
    let w = (face_walks c.args.elements.now c.args.root.0 _ c.requires c.loop-i.invariant.size c.loop-i.i _ (search rules) e).walk in
    let k = face_edges c.args.elements.now c.args.root.0 _ c.requires c.loop-i.invariant.size c.loop-i.i _ (search rules) e _ c.size_of.ensures in
    let x = w.three in
    let y = w.few in
    search (rules, k, x, y, c.loop-i.invariant.few, c.loop-i.invariant.size, c.requires.bounds.sized)

pub loop-i-preserved : goal.loop-i-preserved
loop-i-preserved c = let e = c.wide.ensures.value ∙ c.boundary_at.ensures in
    let w = (face_walks c.args.elements.now c.args.root.0 _ c.requires c.loop-i.invariant.size c.loop-i.i _ (search rules) e).walk in
    let k = face_edges c.args.elements.now c.args.root.0 _ c.requires c.loop-i.invariant.size c.loop-i.i _ (search rules) e _ c.size_of.ensures in
    let x = w.three in
    let y = w.few in
    let o = total_on c.args.elements.now c.args.root.0 _ c.requires c.loop-i.invariant.size c.loop-i.i _ (search rules) e in
    record { within = search rules; size = c.loop-i.invariant.size; few = omega (arith, k, x, y, c.loop-i.invariant.few); total = omega (arith, k, o, c.loop-i.invariant.total) }

pub returns : goal.returns
returns c = let o = total_end c.args.elements.now c.args.root.0 _ c.requires c.loop-i.invariant.size c.loop-i.i (search rules) in
    record { value = omega (arith, o, c.loop-i.invariant.total); bound = omega (arith, c.loop-i.invariant.few, c.loop-i.invariant.within, c.loop-i.invariant.size, c.requires.bounds.sized) }
