-- All floats are blank exactly when no bit of them has been seen and the floats that are left are.
use Prim.Native.Nat.{ℕ, ◌-◌, ◌≤◌}
use mathlib.Core.Path.{◌≡◌}
use mathlib.Core.Bool.{◌&&◌}
use mathlib.Core.List.{List}
use lib.Dec.{eqb}
use lib.Ieee.{Float}
use lib.ListN.{length, drop}
use Rattle.soundness.specs.Words.{blank_floats}
use Rattle.soundness.proofs.floats.blank_floats.Given as goal

pub record Seen (list : List Float) (seen i : ℕ) : Type 0 where
  pub within : i ≤ length list
  pub same : blank_floats list ≡ (eqb seen 0 && blank_floats (drop i list))

abbrev pub invariant-loop-x : goal.invariant-loop-x
invariant-loop-x l = Seen l.x-items l.seen l.x-index

abbrev pub decreases-loop-x : goal.decreases-loop-x
decreases-loop-x l = l.x-index-end - l.x-index
