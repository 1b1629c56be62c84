-- The invariant: the records that are left, put behind those that stand there, make all of them.
use Prim.Native.Nat.{◌-◌}
use Rattle.files.specs.Saved.{point_saved}
use Rattle.files.proofs.SavedRows.{SavedSoFar}
use Rattle.files.proofs.records.vertices.Given as goal

abbrev pub invariant-loop-i : goal.invariant-loop-i
invariant-loop-i l = SavedSoFar (point_saved l.d) 4 l.n l.points l.initial.room l.at l.room l.end l.i

abbrev pub decreases-loop-i : goal.decreases-loop-i
decreases-loop-i l = l.n - l.i
