-- The first end is the corner, or else the second tells.
use mathlib.Core.Path.{sym, ◌∙◌}
use Rattle.rules.proofs.Laws.{eq_test, unlike_eq}
use Rattle.walk.proofs.EdgeLoops.{first_end_lem, second_end_lem}
use Rattle.walk.proofs.has_end.Goals as goal

pub returns-then-eq : goal.returns-then-eq
returns-then-eq c = c.if-eq.true ∙ first_end_lem c.args.elements.now _ _ _ c.end_at.ensures (eq_test _ _ (sym c.eq.ensures ∙ c.if-eq.true))

pub returns-else-eq : goal.returns-else-eq
returns-else-eq c = c.eq-else-eq.ensures
    ∙ second_end_lem c.args.elements.now _ _ _ c.end_at.ensures _ c.end_at-else-eq.ensures (unlike_eq _ _ (sym c.eq.ensures ∙ c.if-eq.false))
