-- A vertex element or an edge is cut, and its answer is kept.
use Rattle.cut.proofs.StaysKnown.{low_asks, low_keep, low_asked}
use Rattle.cut.proofs.ranks.answer_low.Goals as goal

pub cut_low-low-requires : goal.cut_low-low-requires
cut_low-low-requires c = low_asks c.requires

pub keep-requires : goal.keep-requires
keep-requires c = low_keep c.cut_low-low.ensures c.requires.ready

pub returns : goal.returns
returns c = low_asked c.cut_low-low.ensures c.requires.ready c.keep.ensures
