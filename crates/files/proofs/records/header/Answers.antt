-- The mark, and the four counts behind it.
use Rattle.files.proofs.SavedRecords.{header_put}
use Rattle.files.proofs.records.header.Goals as goal

pub returns : goal.returns
returns c = header_put c.args.counts.now c.requires.counts c.word-end.ensures c.numbers.ensures
