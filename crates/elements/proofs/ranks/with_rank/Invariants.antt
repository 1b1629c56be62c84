-- Those from what is left on are as they should be, and before it none is marked: what is not in the set is passed over.
use Prim.Native.Nat.{ℕ, ◌≤◌}
use mathlib.Core.List.{List}
use mathlib.Core.Path.{◌≡◌}
use lib.ListN.{length}
use Rattle.elements.proofs.RankLoops.{Ranking}
use Rattle.elements.proofs.ranks.with_rank.Given as goal

pub record Down (es ws : List ℕ) (rank : ℕ) (out : List ℕ) (left : ℕ) : Type 0 where
  pub low : left ≤ 512
  pub long : length es ≡ 18432
  pub ranking : Ranking es ws rank out left

abbrev pub invariant-loop-left : goal.invariant-loop-left
invariant-loop-left l = Down l.elements l.s.words l.rank l.some.words l.left

abbrev pub decreases-loop-left : goal.decreases-loop-left
decreases-loop-left l = l.left
