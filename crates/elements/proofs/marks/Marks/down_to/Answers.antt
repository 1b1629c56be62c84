-- What is above the digit is shifted out, so the zeros are those from it down, and the digit below them is the mark.
use Rattle.elements.proofs.MarkLaws.{down_to_mark, down_to_first}
use Rattle.elements.proofs.marks.Marks.down_to.Goals as goal

pub returns-then-z-b : goal.returns-then-z-b
returns-then-z-b c = down_to_mark _ _ _ c.zeros_above-z.ensures.zeros c.if-z-b.true

pub returns-else-z-b : goal.returns-else-z-b
returns-else-z-b c = down_to_first _ _ _ c.zeros_above-z.ensures.zeros c.if-z-b.false
