-- An element within the room fits a field, two above its number.
use Rattle.gathered.proofs.Gathering.{some_room}
use Rattle.cut.proofs.Words.{field_none, field_some}
use borrow.Author.Rules.{rules}
use Rattle.cut.proofs.known.field_of.Goals as goal

pub overflow_cast-result : goal.overflow_cast-result
overflow_cast-result c = let h = some_room _ c.in-Some.is c.requires in search rules

pub overflow_add-result : goal.overflow_add-result
overflow_add-result c = let h = some_room _ c.in-Some.is c.requires in search rules

pub returns-in-None : goal.returns-in-None
returns-in-None c = field_none _ c.in-None.is

pub returns-in-Some : goal.returns-in-Some
returns-in-Some c = field_some _ _ c.in-Some.is c.requires
