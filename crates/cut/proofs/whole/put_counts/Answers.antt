-- Each count is written, so the words are the array's.
use Rattle.cut.proofs.Counts.{counts_put}
use borrow.Author.Rules.{rules}
use Rattle.cut.proofs.whole.put_counts.Goals as goal

pub returns : goal.returns
returns c = counts_put c.args.counts.now _ c.requires (search rules)
