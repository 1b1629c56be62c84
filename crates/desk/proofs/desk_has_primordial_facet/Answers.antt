-- A refusal's number, or the answer in bit 8.
use mathlib.Core.Path.{sym, ap, ◌∙◌}
use Rattle.desk.specs.Words.{facet_word}
use Rattle.desk.proofs.desk_has_primordial_facet.Goals as goal
use Rattle.std.specs.Prelude.{Ok}

pub returns-in-Err : goal.returns-in-Err
returns-in-Err c = c.refused.ensures.value ∙ sym (ap facet_word c.in-Err.is) ∙ ap facet_word c.has_primordial_facet-reply.ensures

pub returns-then-b : goal.returns-then-b
returns-then-b c = sym (ap facet_word (c.in-Ok.is ∙ ap Ok c.if-b.true)) ∙ ap facet_word c.has_primordial_facet-reply.ensures

pub returns-else-b : goal.returns-else-b
returns-else-b c = sym (ap facet_word (c.in-Ok.is ∙ ap Ok c.if-b.false)) ∙ ap facet_word c.has_primordial_facet-reply.ensures
