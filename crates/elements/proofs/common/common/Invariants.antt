-- The marks, and the roots that are left, are all roots.
use Prim.Native.Nat.{ℕ, ◌+◌, ◌-◌, ◌≤◌}
use mathlib.Core.List.{List}
use lib.ListN.{length}
use Rattle.elements.specs.Ranks.{AllUsed}
use Rattle.elements.proofs.CommonLoops.{Narrowing}
use Rattle.elements.proofs.common.common.Given as goal

-- the roots from i on are left
pub record Left (es roots : List ℕ) (ws : List ℕ) (i : ℕ) : Type 0 where
  pub low : i ≤ length roots
  pub used : AllUsed es roots
  pub marks : Narrowing es roots i ws

abbrev pub invariant-loop-root : goal.invariant-loop-root
invariant-loop-root l = Left l.elements l.roots l.s.words (l.root-index + 1)

abbrev pub decreases-loop-root : goal.decreases-loop-root
decreases-loop-root l = l.root-index-end - l.root-index
