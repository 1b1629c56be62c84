-- What is left of the word goes to the places from here on: the whole list stays what it will be.
use Prim.Native.Nat.{ℕ, ◌+◌, ◌-◌}
use mathlib.Core.List.{List}
use Rattle.elements.specs.Marks.{WordFits}
use Rattle.elements.proofs.ListLoops.{Listing}
use Rattle.elements.proofs.marks.list_word.Given as goal

pub record Listed (old : List ℕ) (from word base : ℕ) (new : List ℕ) (at x left : ℕ) : Type 0 where
  pub fits : WordFits old from word base
  pub listing : Listing old from word base new at x left

abbrev pub invariant-loop-left : goal.invariant-loop-left
invariant-loop-left l = Listed l.initial.list l.from l.word l.base l.list l.at l.x l.left

abbrev pub decreases-loop-left : goal.decreases-loop-left
decreases-loop-left l = l.base + 64 - l.x
