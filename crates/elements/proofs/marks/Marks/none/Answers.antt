-- Words of zeros have no mark.
use Rattle.elements.proofs.MarkLaws.{none_marked}
use Rattle.elements.proofs.marks.Marks.none.Goals as goal

pub returns : goal.returns
returns c = none_marked 8
