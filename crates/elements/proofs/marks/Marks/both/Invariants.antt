-- The words before w are of both, those from w on as they came.
use Prim.Native.Nat.{ℕ, ◌-◌, ◌≤◌}
use mathlib.Core.List.{List}
use mathlib.Core.Path.{◌≡◌}
use lib.ListN.{length}
use Rattle.elements.proofs.CommonLoops.{Meeting}
use Rattle.elements.proofs.marks.Marks.both.Given as goal

pub record Met (old other new : List ℕ) (w : ℕ) : Type 0 where
  pub so_far : w ≤ 8
  pub old_long : length old ≡ 8
  pub long : length new ≡ 8
  pub other_long : length other ≡ 8
  pub meeting : Meeting old other new w

abbrev pub invariant-loop-w : goal.invariant-loop-w
invariant-loop-w l = Met l.initial.both.words l.other.words l.both.words l.w

abbrev pub decreases-loop-w : goal.decreases-loop-w
decreases-loop-w l = 8 - l.w
