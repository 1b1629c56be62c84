-- A second field of 0 is flush; else each field is an element or none.
use Rattle.cut.proofs.Words.{output_flush, output_sides}
use borrow.Author.Rules.{rules}
use Rattle.cut.proofs.known.output_at.Goals as goal

pub returns-then-b-eq0 : goal.returns-then-b-eq0
returns-then-b-eq0 c = output_flush c.args.known.now c.args.e.0 c.if-b-eq0.true

pub returns : goal.returns
returns c = output_sides c.args.known.now c.args.e.0 _ _ _ (search rules) c.some_of-inside.ensures c.some_of-outside.ensures c.some_of-intersection.ensures
