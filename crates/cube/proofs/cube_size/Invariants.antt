-- The invariant: a power of 3 for the axes so far.
use mathlib.Core.Path.{◌≡◌}
use Prim.Native.Nat.{ℕ, ◌≤◌, ◌-◌, ◌^◌}
use Rattle.cube.proofs.cube_size.Given as goal

pub record Grown (d size axis : ℕ) : Type 0 where
  pub so_far : axis ≤ d
  pub axes : d ≤ 4
  pub power : size ≡ 3 ^ axis

abbrev pub invariant-loop-axis : goal.invariant-loop-axis
invariant-loop-axis l = Grown l.d l.size l.axis

abbrev pub decreases-loop-axis : goal.decreases-loop-axis
decreases-loop-axis l = l.d - l.axis
