-- The invariant: the rows so far, and the run goes on at the next record.
use Prim.Native.Nat.{◌-◌}
use Rattle.rules.specs.Limits.{desk}
use Rattle.rules.specs.Held.{element_words}
use Rattle.rules.specs.Files.{element_in}
use Rattle.files.proofs.PutRows.{RowsSoFar}
use Rattle.files.proofs.put.put_elements.Given as goal

abbrev pub invariant-loop-i : goal.invariant-loop-i
invariant-loop-i l = RowsSoFar element_in (element_words desk) 36 18432 l.bytes l.from l.n l.at l.i l.elements

abbrev pub decreases-loop-i : goal.decreases-loop-i
decreases-loop-i l = l.n - l.i
