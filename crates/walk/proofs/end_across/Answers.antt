-- From the first end to the second, or back.
use mathlib.Core.Path.{sym, ◌∙◌}
use Rattle.rules.proofs.Laws.{eq_test, unlike_eq}
use Rattle.walk.proofs.EdgeLoops.{across_second, across_first}
use Rattle.walk.proofs.end_across.Goals as goal

pub returns-then-eq : goal.returns-then-eq
returns-then-eq c = across_second c.args.elements.now _ _ _ c.end_at-a.ensures _ c.end_at.ensures (eq_test _ _ (sym c.eq.ensures ∙ c.if-eq.true))

pub returns : goal.returns
returns c = across_first c.args.elements.now _ _ _ c.end_at-a.ensures (unlike_eq _ _ (sym c.eq.ensures ∙ c.if-eq.false))
