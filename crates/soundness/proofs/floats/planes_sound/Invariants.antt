-- The rows that are left are sound exactly when all are, until one is not.
use Prim.Native.Nat.{ℕ, ◌-◌, ◌≤◌, ◌*◌}
use mathlib.Core.Bool.{◌&&◌}
use mathlib.Core.List.{List}
use mathlib.Core.Path.{◌≡◌}
use lib.Ieee.{Float}
use lib.ListN.{drop}
use Rattle.rules.specs.Limits.{desk}
use Rattle.rules.specs.Lists.{all, rows}
use Rattle.rules.specs.Memory.{plane_width}
use Rattle.soundness.specs.Words.{planes_sound, plane_words, blank_floats}
use Rattle.soundness.proofs.floats.planes_sound.Given as goal

-- from row i on they are sound exactly when all are
pub record SoFar (planes : List Float) (d h i : ℕ) : Type 0 where
  pub bound : i ≤ h
  pub rest : planes_sound desk d h planes ≡ (all (plane_words desk d) (rows (h - i) (plane_width desk) (drop (i * plane_width desk) planes)) && blank_floats (drop (h * plane_width desk) planes))

abbrev pub invariant-loop-i : goal.invariant-loop-i
invariant-loop-i l = SoFar l.planes l.d l.h l.i

abbrev pub decreases-loop-i : goal.decreases-loop-i
decreases-loop-i l = l.h - l.i
