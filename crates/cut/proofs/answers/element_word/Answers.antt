-- FFFF for none, or a number within the room.
use Rattle.cut.proofs.AnswerWords.{word_none, word_some}
use Rattle.cut.proofs.answers.element_word.Goals as goal

pub returns-in-None : goal.returns-in-None
returns-in-None c = word_none _ c.in-None.is

pub returns-in-Some : goal.returns-in-Some
returns-in-Some c = word_some _ _ c.in-Some.is c.requires
