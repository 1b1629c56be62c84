-- The number is the one of the row that is read.
use mathlib.Core.Path.{◌∙◌}
use Rattle.walk.proofs.end_at.Goals as goal

pub returns : goal.returns
returns c = c.wide.ensures.value ∙ c.boundary_at.ensures
