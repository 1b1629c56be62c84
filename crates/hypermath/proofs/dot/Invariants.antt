-- The invariant: the whole sum is the sum so far with the products still to come.
use mathlib.Core.Path.{◌≡◌}
use Prim.Native.Nat.{ℕ, ◌≤◌, ◌-◌}
use mathlib.Core.List.{List}
use lib.Ieee.{Float}
use lib.ListN.{length, take, drop}
use Rattle.rules.specs.Floats.{dot, dot_from}
use Rattle.hypermath.specs.Axes.{axes}
use Rattle.hypermath.proofs.dot.Given as goal

-- the axes of the dimension, and the products from the one at hand on still to come
pub record Adding (a b : List Float) (n : ℕ) (s : Float) (axis : ℕ) : Type 0 where
  pub here : axis ≤ n
  pub few : n ≤ axes
  pub a_long : length a ≡ axes
  pub b_long : length b ≡ axes
  pub sum : dot (take n a) (take n b) ≡ dot_from s (drop axis (take n a)) (drop axis (take n b))

abbrev pub invariant-loop-axis : goal.invariant-loop-axis
invariant-loop-axis l = Adding l.a l.b l.n l.s l.axis

abbrev pub decreases-loop-axis : goal.decreases-loop-axis
decreases-loop-axis l = l.n - l.axis
