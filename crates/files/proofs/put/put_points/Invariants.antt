-- The invariant: the rows so far, and the run goes on at the next record.
use Prim.Native.Nat.{◌-◌}
use Rattle.rules.specs.Lists.{pad}
use Rattle.rules.specs.Floats.{plus_zero}
use Rattle.rules.specs.Files.{point_in}
use Rattle.files.proofs.PutRows.{RowsSoFar}
use Rattle.files.proofs.put.put_points.Given as goal

abbrev pub invariant-loop-i : goal.invariant-loop-i
invariant-loop-i l = RowsSoFar (point_in l.d) (pad plus_zero 4) 4 1024 l.bytes l.from l.n l.at l.i l.points

abbrev pub decreases-loop-i : goal.decreases-loop-i
decreases-loop-i l = l.n - l.i
