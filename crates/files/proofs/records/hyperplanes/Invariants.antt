-- The invariant: the records that are left, put behind those that stand there, make all of them.
use Prim.Native.Nat.{◌-◌}
use Rattle.files.specs.Saved.{plane_saved}
use Rattle.files.proofs.SavedRows.{SavedSoFar}
use Rattle.files.proofs.records.hyperplanes.Given as goal

abbrev pub invariant-loop-i : goal.invariant-loop-i
invariant-loop-i l = SavedSoFar (plane_saved l.d) 5 l.n l.planes l.initial.room l.at l.room l.end l.i

abbrev pub decreases-loop-i : goal.decreases-loop-i
decreases-loop-i l = l.n - l.i
