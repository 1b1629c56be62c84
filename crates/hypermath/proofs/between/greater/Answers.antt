-- By the one comparison.
use mathlib.Core.Path.{sym}
use Rattle.rules.proofs.Laws.{if_true, if_false}
use Rattle.hypermath.proofs.between.greater.Goals as goal

pub returns-then-a-b : goal.returns-then-a-b
returns-then-a-b c = sym (if_true _ _ _ c.if-a-b.true)

pub returns : goal.returns
returns c = sym (if_false _ _ _ c.if-a-b.false)
