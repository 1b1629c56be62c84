-- The turns of what is left, added to the sum, are those of the whole.
use Rattle.std.proofs.Common.{◌≡◌, ℕ, ◌-◌, ◌*◌, ◌^◌, ◌≤◌, List, take, drop, ℤ, ◌+ℤ◌, nat_abs}
use lib.Ieee.{Float}
use Rattle.areas.specs.Words.{turns_along}
use Rattle.areas.proofs.piece.turns_along.Given as goal

-- the steps from k on are left
pub record Adding (ps : List Float) (ns : List ℕ) (n : ℕ) (sum : ℤ) (k : ℕ) : Type 0 where
  pub low : k ≤ n
  pub few : nat_abs sum ≤ k * 2 ^ 53
  pub same : turns_along ps (take (2 * n) ns) ≡ sum +ℤ turns_along ps (drop (2 * k) (take (2 * n) ns))

abbrev pub invariant-loop-k : goal.invariant-loop-k
invariant-loop-k l = Adding l.points l.list l.n l.sum l.k

abbrev pub decreases-loop-k : goal.decreases-loop-k
decreases-loop-k l = l.n - l.k
