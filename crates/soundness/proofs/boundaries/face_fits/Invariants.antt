-- The numbers that are left fit exactly when all do, until one does not; the edges before have joined paths, and none closed one.
use Prim.Native.Nat.{ℕ, ◌-◌}
use mathlib.Core.List.{List}
use Rattle.space.proofs.PathsJoined.{Paths}
use Rattle.soundness.specs.Known.{known_rows}
use Rattle.soundness.specs.Words.{stamp_of}
use Rattle.soundness.proofs.EdgesRead.{Numbers}
use Rattle.soundness.proofs.boundaries.face_fits.Given as goal

-- up to place i the numbers fit, and their edges have joined paths, of which none is closed
pub record SoFar (es edges : List ℕ) (e : ℕ) (met : List ℕ) (stamp low twice i : ℕ) : Type 0 where
  pub numbers : Numbers es edges e stamp low i
  pub paths : Paths es edges (stamp_of e) met twice i

abbrev pub invariant-loop-i : goal.invariant-loop-i
invariant-loop-i l = SoFar (known_rows l.earlier l.spacing) l.edges l.e.0 l.met l.stamp l.low l.twice l.i

abbrev pub decreases-loop-i : goal.decreases-loop-i
decreases-loop-i l = l.i-end - l.i
