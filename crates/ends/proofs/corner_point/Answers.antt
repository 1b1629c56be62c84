-- The word of the row is the vertex number of the point that is read.
use mathlib.Core.Path.{ap, ◌∙◌}
use Rattle.space.specs.Shared.{stored_point}
use Rattle.ends.proofs.corner_point.Goals as goal

pub returns : goal.returns
returns c = c.read_point.ensures ∙ ap (stored_point c.args.points.now) (c.wide.ensures.value ∙ c.boundary_at.ensures)
