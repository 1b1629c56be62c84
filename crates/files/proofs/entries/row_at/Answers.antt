-- The invariant: the four head words and the boundary so far, filled up with zeros.
use native.Mathlib.Omega.{arith}
use borrow.Author.Rules.{rules}
use Rattle.files.proofs.EntriesRead.{row_next}
use Rattle.files.proofs.entries.row_at.Goals as goal

pub loop-j-preserved : goal.loop-j-preserved
loop-j-preserved c = record {
  most = search rules;
  count = c.loop-j.invariant.count;
  words = row_next c.args.bytes.now c.args.at c.loop-j.j c.loop-j.invariant.words c.number-in-loop-j.ensures.value (omega (arith, c.requires.boundary, c.loop-j.invariant.count));
}
