-- The invariant: the faces from i on, put behind those that stand there, make all of them.
use Prim.Native.Nat.{ℕ, ◌+◌, ◌*◌, ◌-◌, ◌≤◌}
use mathlib.Core.List.{List, map}
use mathlib.Core.Path.{◌≡◌}
use lib.ListN.{length, get_or, drop}
use lib.Ieee.{Float}
use Rattle.rules.specs.Lists.{joined}
use Rattle.lent_bytes.proofs.Rests.{Rest}
use Rattle.walk.specs.Boundaries.{row_boundary}
use Rattle.print.specs.Pieces.{face_in}
use Rattle.print.proofs.faces.Given as goal

pub record SoFar (ps : List Float) (es : List ℕ) (root n : ℕ) (before : List ℕ) (at : ℕ) (room : List ℕ) (end i : ℕ) : Type 0 where
  pub within : i ≤ n
  pub size : n ≡ get_or es (root * 36 + 3) 0
  pub long : length room ≡ length before
  pub rest : Rest before at (joined (map (face_in ps es) (row_boundary es root))) room end (joined (map (face_in ps es) (drop i (row_boundary es root))))

abbrev pub invariant-loop-i : goal.invariant-loop-i
invariant-loop-i l = SoFar l.points l.elements l.root.0 l.n l.initial.room l.at l.room l.end l.i

abbrev pub decreases-loop-i : goal.decreases-loop-i
decreases-loop-i l = l.n - l.i
