-- What has been met is what a search from row x on gives, in the rows of the table that the bytes say.
use Rattle.rules.specs.Held.{elements_of}
use Rattle.rules.specs.Limits.{desk}
use Rattle.rules.specs.Table.{Table}
use Rattle.space.proofs.Indexing.{Met}
use Rattle.files.specs.Laid.{Whole}
use Rattle.files.proofs.KeptRows.{link_of}
use Rattle.files.proofs.rows.last_kept.Given as goal

abbrev pub invariant-loop-x : goal.invariant-loop-x
invariant-loop-x l = (t : Table) → Whole l.bytes l.laid t → Met (elements_of desk t) l.n l.row (link_of l.met) l.x

abbrev pub decreases-loop-x : goal.decreases-loop-x
decreases-loop-x l = l.x
