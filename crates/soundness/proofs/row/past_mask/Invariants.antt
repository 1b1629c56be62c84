-- The mask is right up to the entry that is written next.
use Prim.Native.Nat.{ℕ, ◌-◌, ◌≤◌}
use mathlib.Core.List.{List}
use mathlib.Core.Path.{◌≡◌}
use lib.ListN.{length}
use Rattle.soundness.proofs.PastLoops.{MaskTo}
use Rattle.soundness.proofs.row.past_mask.Given as goal

pub record Made (past : List ℕ) (k : ℕ) : Type 0 where
  pub most : k ≤ 64
  pub least : 32 ≤ k
  pub long : length past ≡ 64
  pub so_far : MaskTo k past

abbrev pub invariant-loop-k : goal.invariant-loop-k
invariant-loop-k l = Made l.past l.k

abbrev pub decreases-loop-k : goal.decreases-loop-k
decreases-loop-k l = 64 - l.k
