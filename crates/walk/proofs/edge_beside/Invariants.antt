-- What is left to search gives what the whole gives.
use Prim.Native.Nat.{ℕ, ◌-◌, ◌+◌, ◌*◌, ◌≤◌}
use mathlib.Core.Path.{◌≡◌}
use mathlib.Core.List.{List}
use lib.ListN.{length, get_or, drop}
use Rattle.walk.specs.Boundaries.{row_boundary}
use Rattle.walk.specs.Walks.{edge_beside}
use Rattle.walk.proofs.edge_beside.Given as goal

-- the places from i on are left
pub record Searching (es : List ℕ) (f e v n i : ℕ) : Type 0 where
  pub low : i ≤ n
  pub size : n ≡ get_or es (f * 36 + 3) 0
  pub same : edge_beside es e v (row_boundary es f) ≡ edge_beside es e v (drop i (row_boundary es f))

abbrev pub invariant-loop-number : goal.invariant-loop-number
invariant-loop-number l = Searching l.elements l.fn.f.0 l.e.0 l.v.0 (length l.number-items) l.number-index

abbrev pub decreases-loop-number : goal.decreases-loop-number
decreases-loop-number l = l.number-index-end - l.number-index
