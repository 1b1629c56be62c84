-- The lowest so far and what is left give what the whole gives.
use Prim.Native.Nat.{ℕ, ◌-◌, ◌+◌, ◌*◌, ◌≤◌}
use mathlib.Core.Path.{◌≡◌}
use mathlib.Core.List.{List}
use lib.ListN.{length, get_or, drop}
use Rattle.walk.specs.Boundaries.{row_boundary}
use Rattle.walk.specs.Walks.{lowest_end, no_edge}
use Rattle.walk.proofs.lowest_end.Given as goal

-- the places from i on are left, and m is the lowest before them
pub record Lowest (es : List ℕ) (f n m i : ℕ) : Type 0 where
  pub low : i ≤ n
  pub size : n ≡ get_or es (f * 36 + 3) 0
  pub same : lowest_end es no_edge (row_boundary es f) ≡ lowest_end es m (drop i (row_boundary es f))

abbrev pub invariant-loop-number : goal.invariant-loop-number
invariant-loop-number l = Lowest l.elements l.fn.f.0 (length l.number-items) l.m.0 l.number-index

abbrev pub decreases-loop-number : goal.decreases-loop-number
decreases-loop-number l = l.number-index-end - l.number-index
