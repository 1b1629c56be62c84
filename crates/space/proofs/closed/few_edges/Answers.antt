-- One case for each arm of the test.
use mathlib.Core.Bool.{Bool, cond}
use mathlib.Core.Path.{ap, sym}
use borrow.Author.Tests.{lt-ltb, le-ltb}
use Rattle.space.proofs.closed.few_edges.Goals as goal

pub returns-then-d-lt3 : goal.returns-then-d-lt3
returns-then-d-lt3 c = sym (ap (λ (b : Bool). cond b 3 5) (lt-ltb c.args.d 3 c.if-d-lt3.true))

pub returns-else-d-lt3 : goal.returns-else-d-lt3
returns-else-d-lt3 c = sym (ap (λ (b : Bool). cond b 3 5) (le-ltb c.args.d 3 c.if-d-lt3.false))
