-- The numbers that are left to mark, and the marks so far, give all marks.
use Prim.Native.Nat.{ℕ, ◌+◌, ◌*◌, ◌-◌, ◌≤◌}
use mathlib.Core.List.{List}
use mathlib.Core.Path.{◌≡◌}
use lib.ListN.{get_or}
use Rattle.elements.specs.Below.{BoundaryReady}
use Rattle.elements.proofs.BelowLoops.{Marking}
use Rattle.elements.proofs.below.mark_boundary.Given as goal

-- the numbers from i on are left
pub record Left (es : List ℕ) (e n : ℕ) (old new : List ℕ) (i : ℕ) : Type 0 where
  pub low : i ≤ n
  pub size : n ≡ get_or es (e * 36 + 3) 0
  pub ready : BoundaryReady es e
  pub marks : Marking es e n old new i

abbrev pub invariant-loop-i : goal.invariant-loop-i
invariant-loop-i l = Left l.elements l.e.0 l.n l.initial.marks.words l.marks.words l.i

abbrev pub decreases-loop-i : goal.decreases-loop-i
decreases-loop-i l = l.n - l.i
