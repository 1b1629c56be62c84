-- The invariant: the axes so far are worked out, and the others are zeros.
use mathlib.Core.Path.{◌≡◌}
use Prim.Native.Nat.{ℕ, ◌≤◌, ◌-◌}
use mathlib.Core.List.{List}
use lib.ListN.{length}
use lib.Ieee.{Float}
use Rattle.hypermath.specs.Axes.{axes}
use Rattle.hypermath.proofs.Crossings.{begun}
use Rattle.hypermath.proofs.point_between.Given as goal

-- the axes of the dimension, of which those below the one at hand are worked out
pub record Filling (t : Float) (a b : List Float) (n : ℕ) (out : List Float) (axis : ℕ) : Type 0 where
  pub here : axis ≤ n
  pub few : n ≤ axes
  pub a_long : length a ≡ axes
  pub b_long : length b ≡ axes
  pub out_long : length out ≡ axes
  pub filled : out ≡ begun t a b axes axis

abbrev pub invariant-loop-axis : goal.invariant-loop-axis
invariant-loop-axis l = Filling l.t l.a l.b l.n l.out l.axis

abbrev pub decreases-loop-axis : goal.decreases-loop-axis
decreases-loop-axis l = l.n - l.axis
