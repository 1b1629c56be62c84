-- The numbers that are left to mark, and the marks so far, give all marks.
use mathlib.Core.Path.{◌∙◌}
use native.Mathlib.Omega.{arith}
use Rattle.elements.proofs.BelowLoops.{marking_start, marking_next, marking_end}
use borrow.Author.Rules.{rules}
use Rattle.elements.proofs.below.mark_boundary.Goals as goal

pub size_of-n-requires : goal.size_of-n-requires
size_of-n-requires c = record { elements = c.requires.long; room = c.requires.in_room }

pub loop-i-init : goal.loop-i-init
loop-i-init c = record { low = search rules; size = c.size_of-n.ensures; ready = c.requires; marks = marking_start _ _ _ _ c.size_of-n.ensures }

pub boundary_at-requires : goal.boundary_at-requires
boundary_at-requires c = record { elements = c.loop-i.invariant.ready.long; room = c.loop-i.invariant.ready.in_room; place = search (rules, c.loop-i.invariant.ready.few, c.loop-i.invariant.size) }

pub mark-requires : goal.mark-requires
mark-requires c = let q = c.loop-i.invariant.ready.low c.loop-i.i (search (rules, c.loop-i.invariant.size)) in
    let e = c.wide-x.ensures.value ∙ c.boundary_at.ensures in
    omega (arith, q, e)

pub loop-i-preserved : goal.loop-i-preserved
loop-i-preserved c = record {
  low = search rules;
  size = c.loop-i.invariant.size;
  ready = c.loop-i.invariant.ready;
  marks = marking_next _ _ _ _ _ _ c.loop-i.invariant.marks _ _ (search rules) (c.wide-x.ensures.value ∙ c.boundary_at.ensures) c.mark.ensures;
}

pub returns : goal.returns
returns c = marking_end _ _ _ _ _ _ c.loop-i.invariant.marks (omega arith)
