-- None leaves the set as it is; an element in use fits a word of it.
use Rattle.gathered.proofs.Inserting.{included_is, include_none}
use Rattle.gathered.proofs.Gathering.{some_room}
use borrow.Author.Rules.{rules}
use Rattle.gathered.proofs.sets.Set.include.Goals as goal

pub overflow_cast-e : goal.overflow_cast-e
overflow_cast-e c = let h = some_room _ c.in-Some.is c.requires.room in
    search rules

pub returns-in-Some : goal.returns-in-Some
returns-in-Some c = included_is _ c.in-Some.is c.insert.ensures

pub returns-in_default : goal.returns-in_default
returns-in_default c = included_is _ c.in_default.is (include_none c.args.self.now (search rules))
