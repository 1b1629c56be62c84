-- The number is the one of the row that is read, and a word.
use mathlib.Core.Path.{◌∙◌}
use Rattle.walk.proofs.vertex_of.Goals as goal

pub returns : goal.returns
returns c = record { named = c.wide.ensures.value ∙ c.boundary_at.ensures; small = c.wide.ensures.bound }
