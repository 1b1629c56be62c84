-- The ranks that are passed have none.
use Prim.Native.Nat.{ℕ, ◌-◌, ◌≤◌}
use mathlib.Core.List.{List}
use mathlib.Core.Path.{◌≡◌}
use lib.ListN.{length}
use Rattle.elements.proofs.CommonLoops.{Descending}
use Rattle.elements.proofs.ranks.greatest.Given as goal

pub record Down (es ws : List ℕ) (rank i : ℕ) : Type 0 where
  pub so_far : i ≤ rank
  pub long : length es ≡ 18432
  pub none : Descending es ws rank i

abbrev pub invariant-loop-i : goal.invariant-loop-i
invariant-loop-i l = Down l.elements l.s.words l.rank l.i

abbrev pub decreases-loop-i : goal.decreases-loop-i
decreases-loop-i l = l.rank - l.i
