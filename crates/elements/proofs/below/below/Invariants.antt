-- The pass has come down to what is left: what is not marked is passed over. At the end the marks are what is below the root.
use Prim.Native.Nat.{ℕ, ◌-◌, ◌≤◌}
use mathlib.Core.List.{List}
use Rattle.elements.specs.Below.{Used}
use Rattle.elements.proofs.BelowLoops.{Going}
use Rattle.elements.proofs.below.below.Given as goal

-- all is left below the first number, which is one past the root
pub record Down (es : List ℕ) (first : ℕ) (ws : List ℕ) (left : ℕ) : Type 0 where
  pub low : left ≤ first
  pub room : first ≤ 512
  pub root : Used es (first - 1)
  pub going : Going es (first - 1) left ws

abbrev pub invariant-loop-left : goal.invariant-loop-left
invariant-loop-left l = Down l.elements l.initial.left l.marks.words l.left

abbrev pub decreases-loop-left : goal.decreases-loop-left
decreases-loop-left l = l.left
