-- The invariant: the axes so far are worked out, whatever element the digits are of, and the others are zeros.
use mathlib.Core.Path.{◌≡◌}
use mathlib.Core.List.{List}
use Prim.Native.Nat.{ℕ, ◌≤◌, ◌-◌}
use lib.Ieee.{Float}
use lib.ListN.{length}
use Rattle.rules.specs.Lists.{pad}
use Rattle.rules.specs.Cube.{digits}
use Rattle.cube.specs.Cubes.{coordinate_at}
use Rattle.cube.proofs.CubeEntries.{worked}
use Rattle.cube.proofs.corner_point.Given as goal

pub record Worked (f : ℕ → Float) (d : ℕ) (ks : List ℕ) (p : List Float) (axis : ℕ) : Type 0 where
  pub so_far : axis ≤ d
  pub axes : d ≤ 4
  pub digits_long : length ks ≡ 4
  pub long : length p ≡ 4
  pub done : (e : ℕ) → ks ≡ pad 0 4 (digits d e) → p ≡ worked f (digits d e) axis

abbrev pub invariant-loop-axis : goal.invariant-loop-axis
invariant-loop-axis l = Worked (coordinate_at l.radius) l.d l.ks l.p l.axis

abbrev pub decreases-loop-axis : goal.decreases-loop-axis
decreases-loop-axis l = l.d - l.axis
