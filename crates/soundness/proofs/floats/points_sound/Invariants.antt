-- The rows that are left are sound exactly when all are, until one is not.
use Prim.Native.Nat.{ℕ, ◌-◌, ◌≤◌, ◌*◌}
use mathlib.Core.Bool.{◌&&◌}
use mathlib.Core.List.{List}
use mathlib.Core.Path.{◌≡◌}
use lib.Ieee.{Float}
use lib.ListN.{drop}
use Rattle.rules.specs.Limits.{desk}
use Rattle.rules.specs.Lists.{all, rows}
use Rattle.soundness.specs.Words.{points_sound, point_words, blank_floats}
use Rattle.soundness.proofs.floats.points_sound.Given as goal

-- from row i on they are sound exactly when all are
pub record SoFar (points : List Float) (d v i : ℕ) : Type 0 where
  pub bound : i ≤ v
  pub rest : points_sound desk d v points ≡ (all (point_words d) (rows (v - i) desk.dimensions (drop (i * desk.dimensions) points)) && blank_floats (drop (v * desk.dimensions) points))

abbrev pub invariant-loop-i : goal.invariant-loop-i
invariant-loop-i l = SoFar l.points l.d l.v l.i

abbrev pub decreases-loop-i : goal.decreases-loop-i
decreases-loop-i l = l.v - l.i
