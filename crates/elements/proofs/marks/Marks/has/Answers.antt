-- The last digit of the shifted word is the mark.
use Rattle.elements.specs.Marks.{is_marked}
use Rattle.elements.proofs.MarkLaws.{low_digit}
use Rattle.elements.proofs.marks.Marks.has.Goals as goal

pub returns : goal.returns
unfolding is_marked
returns c = rw low_digit
