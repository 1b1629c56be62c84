-- The two comparisons are those of the definition.
use mathlib.Core.Bool.{true, false}
use mathlib.Core.Path.{refl, ◌∙◌}
use Rattle.hypermath.proofs.Tests.{within_is}
use Rattle.hypermath.proofs.is_within.Goals as goal

pub returns-then-bound-x : goal.returns-then-bound-x
returns-then-bound-x c = within_is c.args.bound c.args.x true _ c.if-bound-x.true refl

pub returns-else-bound-x : goal.returns-else-bound-x
returns-else-bound-x c = c.if-bound-x.false ∙ within_is c.args.bound c.args.x false _ c.if-bound-x.false refl
