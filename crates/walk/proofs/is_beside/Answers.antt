-- An edge is not beside itself; of another the ends tell.
use mathlib.Core.Bool.{◌&&◌}
use mathlib.Core.Path.{sym, ap, ◌∙◌}
use Rattle.walk.specs.Walks.{has_end}
use Rattle.walk.proofs.is_beside.Goals as goal

pub returns-then-ne : goal.returns-then-ne
returns-then-ne c = c.has_end.ensures ∙ ap (λ b. b && has_end c.args.elements.now c.args.v.0 c.args.x.0) (sym c.if-ne.true ∙ c.ne.ensures)

pub returns-else-ne : goal.returns-else-ne
returns-else-ne c = c.if-ne.false ∙ ap (λ b. b && has_end c.args.elements.now c.args.v.0 c.args.x.0) (sym c.if-ne.false ∙ c.ne.ensures)
