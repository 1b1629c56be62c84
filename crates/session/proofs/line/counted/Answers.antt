-- The name, and the counts behind it.
use lib.ListN.{drop}
use Rattle.session.proofs.Puts.{then_line}
use Rattle.session.proofs.line.counted.Goals as goal

pub returns : goal.returns
returns c = then_line (drop 1 c.args.counts.now) c.word-at.ensures c.counts_end.ensures
