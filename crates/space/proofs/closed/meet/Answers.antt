-- The corner gets its next word; the answer is the test of the word that stood there.
use borrow.Author.Rules.{rules}
use Rattle.space.specs.Closed.{meeting}
use Rattle.space.proofs.closed.meet.Goals as goal

pub returns : goal.returns
unfolding meeting
returns g c = search rules
