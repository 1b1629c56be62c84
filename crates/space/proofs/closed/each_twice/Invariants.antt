-- The ends that are met so far and those that are left make up the whole; n second meetings mean that each end is met twice.
use Prim.Native.Nat.{ℕ, ◌-◌, ◌≤◌}
use mathlib.Core.List.{List}
use lib.ListN.{length}
use Rattle.space.proofs.EndsCounted.{Round}
use Rattle.space.proofs.closed.each_twice.Given as goal

-- k of the edges are met
pub record SoFar (es list met : List ℕ) (twice k : ℕ) : Type 0 where
  pub bound : k ≤ length list
  pub round : Round es list 1 met twice k

abbrev pub invariant-loop-x : goal.invariant-loop-x
invariant-loop-x l = SoFar l.elements l.list l.met l.twice l.x-index

abbrev pub decreases-loop-x : goal.decreases-loop-x
decreases-loop-x l = l.x-index-end - l.x-index
