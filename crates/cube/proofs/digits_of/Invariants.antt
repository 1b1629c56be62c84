-- The invariant: the digits so far stand in the front, and the remaining ones are those of what is left.
use mathlib.Core.Path.{◌≡◌}
use Prim.Native.Nat.{ℕ, ◌≤◌, ◌-◌}
use mathlib.Core.List.{List}
use lib.ListN.{length}
use Rattle.cube.proofs.CubeRows.{Reading}
use Rattle.cube.proofs.digits_of.Given as goal

pub record Read (d e : ℕ) (ks : List ℕ) (rest axis : ℕ) : Type 0 where
  pub so_far : axis ≤ d
  pub axes : d ≤ 4
  pub long : length ks ≡ 4
  pub reading : Reading d e axis ks rest

abbrev pub invariant-loop-axis : goal.invariant-loop-axis
invariant-loop-axis l = Read l.d l.e l.ks l.rest l.axis

abbrev pub decreases-loop-axis : goal.decreases-loop-axis
decreases-loop-axis l = l.d - l.axis
