-- The corners of the words that are left are to be tested.
use Prim.Native.Nat.{ℕ, ◌-◌, ◌≤◌}
use mathlib.Core.List.{List}
use lib.Ieee.{Float}
use Rattle.rules.specs.declared.Hyperplane.{Hyperplane}
use Rattle.elements.specs.declared.touch.Tested.{Tested}
use Rattle.elements.proofs.TouchLoops.{AllTesting}
use Rattle.elements.proofs.touch.test_corners.Given as goal

pub record Told (d : ℕ) (h : Hyperplane) (ps : List Float) (es ws : List ℕ) (s : Tested) (w : ℕ) : Type 0 where
  pub so_far : w ≤ 8
  pub testing : AllTesting d h ps es ws s w

abbrev pub invariant-loop-w : goal.invariant-loop-w
invariant-loop-w l = Told l.d l.h l.points l.elements l.corners.words l.s l.w

abbrev pub decreases-loop-w : goal.decreases-loop-w
decreases-loop-w l = 8 - l.w
