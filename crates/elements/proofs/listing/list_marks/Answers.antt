-- There is room for as many as are marked, or 12.
use native.Mathlib.Omega.{arith}
use Rattle.elements.specs.Marks.{marked_numbers}
use Rattle.elements.proofs.ListLoops.{no_room, in_front}
use Rattle.elements.proofs.listing.list_marks.Goals as goal

pub returns-then-list-n : goal.returns-then-list-n
returns-then-list-n c = no_room (marked_numbers c.args.s.now.words) _ _ c.size-n.ensures c.if-list-n.true

pub list_all-requires : goal.list_all-requires
list_all-requires c = omega (arith, c.size-n.ensures)

pub returns : goal.returns
returns c = in_front (marked_numbers c.args.s.now.words) c.args.list.now _ _ c.size-n.ensures (omega arith) c.list_all.ensures
