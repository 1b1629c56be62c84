-- The invariant: the faces across the axes from one on are gathered, the highest first.
use mathlib.Core.Path.{◌≡◌}
use mathlib.Core.List.{List}
use Prim.Native.Nat.{ℕ, ◌≤◌}
use lib.ListN.{length}
use Rattle.cube.specs.declared.Faces.{Faces}
use Rattle.cube.proofs.CubeRows.{Descending}
use Rattle.cube.proofs.faces_of.Given as goal

pub record Down (d e : ℕ) (ks : List ℕ) (f : Faces) (step axis : ℕ) : Type 0 where
  pub left : axis ≤ d
  pub axes : d ≤ 4
  pub long : length ks ≡ 4
  pub going : Descending d e ks f step axis

abbrev pub invariant-loop-axis : goal.invariant-loop-axis
invariant-loop-axis l = Down l.d l.e l.ks l.f l.step l.axis

abbrev pub decreases-loop-axis : goal.decreases-loop-axis
decreases-loop-axis l = l.axis
