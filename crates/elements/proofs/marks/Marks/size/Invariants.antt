-- What is counted, and the marks of the words that are left, are all marks.
use Prim.Native.Nat.{ℕ, ◌-◌, ◌≤◌}
use mathlib.Core.List.{List}
use mathlib.Core.Path.{◌≡◌}
use lib.ListN.{length}
use Rattle.elements.proofs.ListLoops.{Counting}
use Rattle.elements.proofs.marks.Marks.size.Given as goal

pub record Counted (ws : List ℕ) (n w : ℕ) : Type 0 where
  pub so_far : w ≤ 8
  pub long : length ws ≡ 8
  pub counting : Counting ws n w

abbrev pub invariant-loop-word : goal.invariant-loop-word
invariant-loop-word l = Counted l.word-items l.n l.word-index

abbrev pub decreases-loop-word : goal.decreases-loop-word
decreases-loop-word l = 8 - l.word-index
