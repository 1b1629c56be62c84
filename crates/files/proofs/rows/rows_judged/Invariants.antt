-- A row that is read is the next row of the slice that the table would have; its laws say what is left.
use Prim.Native.Nat.{◌-◌}
use Rattle.files.proofs.RowsJudged.{SoFar}
use Rattle.files.proofs.rows.rows_judged.Given as goal

abbrev pub invariant-loop-i : goal.invariant-loop-i
invariant-loop-i l = SoFar l.bytes l.laid l.past l.spacing l.i-end l.met l.seen l.kept l.index l.k l.at l.i

abbrev pub decreases-loop-i : goal.decreases-loop-i
decreases-loop-i l = l.i-end - l.i
