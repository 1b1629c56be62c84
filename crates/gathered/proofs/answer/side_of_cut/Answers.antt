-- A removed side is none; a kept one that is the element's own boundary is the element, and any other is a call of rule 8.
use Rattle.gathered.proofs.SideAdded.{reads_ask, including_asks, side_asks, own_asks, side_removed, side_own, side_kept}
use mathlib.Core.Path.{sym, ◌∙◌}
use Rattle.gathered.proofs.answer.side_of_cut.Goals as goal

pub returns-then-not-is_kept : goal.returns-then-not-is_kept
returns-then-not-is_kept c = side_removed c.requires (sym c.is_kept.ensures ∙ c.if-not-is_kept.true)

pub plane_of-plane-requires : goal.plane_of-plane-requires
plane_of-plane-requires c = reads_ask c.requires

pub is_primordial-mark-requires : goal.is_primordial-mark-requires
is_primordial-mark-requires c = reads_ask c.requires

pub include-requires : goal.include-requires
include-requires c = including_asks c.requires

pub as_slice-numbers-requires : goal.as_slice-numbers-requires
as_slice-numbers-requires c = c.include.ensures.sized 32 c.requires.fit.sized

pub is_own-requires : goal.is_own-requires
is_own-requires c = own_asks c.requires

pub returns-then-is_own : goal.returns-then-is_own
returns-then-is_own c = side_own c.requires _ _ c.as_slice-numbers.ensures (sym c.is_kept.ensures ∙ c.if-not-is_kept.false) c.include.ensures (c.is_own.ensures.only c.if-is_own.true)

pub add_polytope-requires : goal.add_polytope-requires
add_polytope-requires c = side_asks c.requires _ c.include.ensures _ c.as_slice-numbers.ensures

pub returns : goal.returns
returns c = side_kept c.requires _ _ _ _ c.as_slice-numbers.ensures (sym c.is_kept.ensures ∙ c.if-not-is_kept.false) c.plane_of-plane.ensures c.is_primordial-mark.ensures c.include.ensures
    c.add_polytope.ensures.added c.add_polytope.ensures.index
