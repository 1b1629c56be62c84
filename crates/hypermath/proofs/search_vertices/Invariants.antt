-- Two invariants: the search is asked from the vertex at hand on, and its comparison from the axis at hand on.
use mathlib.Core.Path.{◌≡◌}
use Prim.Native.Nat.{ℕ, ◌≤◌, ◌<◌, ◌-◌, ◌*◌}
use lib.ListN.{length, take}
use lib.Ieee.{Float}
use mathlib.Core.List.{List}
use Rattle.rules.specs.Lists.{find}
use Rattle.rules.specs.Floats.{point_matches}
use Rattle.rules.proofs.Indexed.{sought_from}
use Rattle.hypermath.specs.Axes.{axes, AxesOf}
use Rattle.hypermath.specs.Answers.{points_in}
use Rattle.hypermath.proofs.Searches.{left_from}
use Rattle.hypermath.proofs.search_vertices.Given as goal

-- the search so far: nothing below the vertex at hand matches
abbrev pub Sought : ℕ → ℕ → List Float → List Float → ℕ → Type 0
Sought d n points p v = find (λ r. point_matches r (take d p)) (points_in d n points) ≡ sought_from (take d) (λ r. point_matches r (take d p)) axes n points v

-- the comparison so far: the vertex at hand matches on the axes below the one at hand
pub record Comparing (d n : ℕ) (points p : List Float) (used v₀ v axis : ℕ) : Type 0 where
  pub same : v ≡ v₀
  pub few : axis ≤ used
  pub room : n * axes ≤ length points
  pub long : length p ≡ axes
  pub in_use_lem : v < n
  pub uses : AxesOf d used
  pub left : left_from d n points p used v uses room long in_use_lem 0 ≡ left_from d n points p used v uses room long in_use_lem axis
  pub sought : Sought d n points p v

pub record Seeking (d n : ℕ) (points p : List Float) (v : ℕ) : Type 0 where
  pub few : v ≤ n
  pub sought : Sought d n points p v

abbrev pub invariant-loop-axis : goal.invariant-loop-axis
invariant-loop-axis l = Comparing l.d l.n l.points l.p l.used l.initial.v l.v l.axis

abbrev pub decreases-loop-axis : goal.decreases-loop-axis
decreases-loop-axis l = l.used - l.axis

abbrev pub invariant-vertices : goal.invariant-vertices
invariant-vertices l = Seeking l.d l.n l.points l.p l.v

abbrev pub decreases-vertices : goal.decreases-vertices
decreases-vertices l = l.n - l.v
