-- The invariant: the rows so far, and the run goes on at the next record.
use Prim.Native.Nat.{◌-◌}
use Rattle.rules.specs.Limits.{desk}
use Rattle.rules.specs.Memory.{plane_row}
use Rattle.rules.specs.Files.{plane_in}
use Rattle.files.proofs.PutRows.{RowsSoFar}
use Rattle.files.proofs.put.put_planes.Given as goal

abbrev pub invariant-loop-i : goal.invariant-loop-i
invariant-loop-i l = RowsSoFar (plane_in l.d) (plane_row desk) 5 320 l.bytes l.from l.n l.at l.i l.planes

abbrev pub decreases-loop-i : goal.decreases-loop-i
decreases-loop-i l = l.n - l.i
