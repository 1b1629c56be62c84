-- The invariant: the records that are left, put behind those that stand there, make all of them.
use Prim.Native.Nat.{◌-◌}
use Rattle.files.specs.Saved.{row_saved}
use Rattle.files.proofs.SavedRows.{SavedSoFar}
use Rattle.files.proofs.records.elements.Given as goal

abbrev pub invariant-loop-e : goal.invariant-loop-e
invariant-loop-e l = SavedSoFar row_saved 36 l.n l.elements l.initial.room l.at l.room l.end l.e

abbrev pub decreases-loop-e : goal.decreases-loop-e
decreases-loop-e l = l.n - l.e
