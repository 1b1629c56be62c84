-- The edges so far have joined paths, and none of them closed one; what the next edge answers tells the ring, or goes on.
use Prim.Native.Nat.{ℕ, ◌-◌, ◌≤◌}
use mathlib.Core.List.{List}
use lib.ListN.{length}
use Rattle.space.proofs.PathsJoined.{Paths}
use Rattle.space.proofs.closed.is_ring.Given as goal

-- k of the edges have joined paths
pub record SoFar (es list paths : List ℕ) (twice k : ℕ) : Type 0 where
  pub bound : k ≤ length list
  pub paths_so : Paths es list 1 paths twice k

abbrev pub invariant-loop-k : goal.invariant-loop-k
invariant-loop-k l = SoFar l.elements l.list l.paths l.twice l.k

abbrev pub decreases-loop-k : goal.decreases-loop-k
decreases-loop-k l = l.k-end - l.k
