-- What is left of the words goes to the places from here on: the whole list stays what it will be.
use Prim.Native.Nat.{ℕ, ◌-◌, ◌≤◌}
use mathlib.Core.List.{List}
use mathlib.Core.Path.{◌≡◌}
use lib.ListN.{length}
use Rattle.elements.specs.Marks.{marked_numbers}
use Rattle.elements.proofs.ListLoops.{Filling}
use Rattle.elements.proofs.marks.Marks.list_all.Given as goal

pub record Filled (ws old new : List ℕ) (at w : ℕ) : Type 0 where
  pub so_far : w ≤ 8
  pub words : length ws ≡ 8
  pub room : length (marked_numbers ws) ≤ length old
  pub filling : Filling ws old new at w

abbrev pub invariant-loop-w : goal.invariant-loop-w
invariant-loop-w l = Filled l.self.words l.initial.list l.list l.at l.w

abbrev pub decreases-loop-w : goal.decreases-loop-w
decreases-loop-w l = 8 - l.w
