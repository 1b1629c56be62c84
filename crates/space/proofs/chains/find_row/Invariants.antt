-- What has been met is what a search from row x on gives.
use lib.ListN.{take, drop}
use Rattle.space.specs.Numbers.{row_width}
use Rattle.space.proofs.Indexing.{Met, link_of}
use Rattle.space.proofs.chains.find_row.Given as goal

abbrev pub invariant-loop-x : goal.invariant-loop-x
invariant-loop-x l = Met l.elements l.n (take row_width (drop l.from l.words)) (link_of l.met) l.x

abbrev pub decreases-loop-x : goal.decreases-loop-x
decreases-loop-x l = l.x
