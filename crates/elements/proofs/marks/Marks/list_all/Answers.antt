-- What is left of the words goes to the places from here on: the whole list stays what it will be.
use native.Mathlib.Omega.{arith}
use Rattle.elements.proofs.ListLoops.{filling_start, filling_room, filling_next, filling_end}
use borrow.Author.Rules.{rules}
use Rattle.elements.proofs.marks.Marks.list_all.Goals as goal

pub loop-w-init : goal.loop-w-init
loop-w-init c = record { so_far = search rules; words = search rules; room = search rules; filling = filling_start _ _ }

pub list_word-at-requires : goal.list_word-at-requires
list_word-at-requires c = record { low = search rules; room = filling_room _ _ _ _ _ c.loop-w.invariant.filling (search rules) c.loop-w.invariant.room }

pub loop-w-preserved : goal.loop-w-preserved
loop-w-preserved c = record {
  so_far = search rules;
  words = search rules;
  room = c.loop-w.invariant.room;
  filling = filling_next _ _ _ _ _ c.loop-w.invariant.filling (search rules) _ _ c.list_word-at.ensures.next c.list_word-at.ensures.written;
}

pub shape_of-list : goal.shape_of-list
shape_of-list c = c.loop-w.invariant.filling.long

pub returns : goal.returns
returns c = filling_end _ _ _ _ _ c.loop-w.invariant.filling (omega arith)
