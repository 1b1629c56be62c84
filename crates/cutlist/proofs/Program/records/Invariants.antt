-- Each record leaves what was read, and so do all.
use Rattle.cutlist.specs.Kept.{Kept}
use Rattle.cutlist.proofs.Program.records.Given as goal

abbrev pub invariant-loop : goal.invariant-loop
invariant-loop l = let was = l.initial.self.input in let is = l.self.input in Kept was.bytes was.end is.bytes is.end
