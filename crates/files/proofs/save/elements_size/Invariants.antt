-- The invariant: what is counted, and the records that are left, make all of it.
use Prim.Native.Nat.{◌-◌}
use Rattle.files.proofs.SavedSizes.{SizeSoFar}
use Rattle.files.proofs.save.elements_size.Given as goal

abbrev pub invariant-loop-e : goal.invariant-loop-e
invariant-loop-e l = SizeSoFar l.elements l.n l.size l.e

abbrev pub decreases-loop-e : goal.decreases-loop-e
decreases-loop-e l = l.n - l.e
