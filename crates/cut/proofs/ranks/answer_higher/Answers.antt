-- What the boundary answered is gathered, rule 6 follows, and its answer is kept.
use Rattle.cut.proofs.Higher.{higher_gathers, rule6_ready, higher_keep, higher_asked}
use Rattle.cut.proofs.ranks.answer_higher.Goals as goal

pub gather_known-requires : goal.gather_known-requires
gather_known-requires c = higher_gathers c.requires

pub rule6-whole-requires : goal.rule6-whole-requires
rule6-whole-requires c = rule6_ready c.gather_known.ensures c.requires

pub keep-requires : goal.keep-requires
keep-requires c = higher_keep c.gather_known.ensures c.rule6-whole.ensures c.requires

pub returns : goal.returns
returns c = higher_asked c.gather_known.ensures c.rule6-whole.ensures c.requires c.keep.ensures
