-- What is counted, and the marks of the words that are left, are all marks.
use native.Mathlib.Omega.{arith}
use Rattle.elements.proofs.ListLoops.{counting_start, counting_next, counting_end}
use borrow.Author.Rules.{rules}
use Rattle.elements.proofs.marks.Marks.size.Goals as goal

pub loop-word-init : goal.loop-word-init
loop-word-init c = record { so_far = search rules; long = search rules; counting = counting_start _ }

pub loop-word-preserved : goal.loop-word-preserved
loop-word-preserved c = record { so_far = search rules; long = search rules; counting = counting_next _ _ _ _ (search rules) c.ones_of-n.ensures c.loop-word.invariant.counting }

pub returns : goal.returns
returns c = counting_end _ _ _ (omega arith) c.loop-word.invariant.counting
