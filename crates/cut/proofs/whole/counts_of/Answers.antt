-- The array's words are the four counts.
use Rattle.cut.proofs.Counts.{counts_taken}
use Rattle.cut.proofs.whole.counts_of.Goals as goal

pub returns : goal.returns
returns c = counts_taken _ c.requires
