-- By the one comparison.
use mathlib.Core.Path.{sym}
use Rattle.rules.proofs.Laws.{if_true, if_false}
use Rattle.hypermath.proofs.between.lesser.Goals as goal

pub returns-then-b-a : goal.returns-then-b-a
returns-then-b-a c = sym (if_true _ _ _ c.if-b-a.true)

pub returns : goal.returns
returns c = sym (if_false _ _ _ c.if-b-a.false)
