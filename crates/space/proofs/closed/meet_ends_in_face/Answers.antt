-- The edge's two ends are read, and are the corners that are met.
use mathlib.Core.Path.{◌∙◌}
use Rattle.space.proofs.EndsCounted.{ends_met}
use Rattle.space.proofs.closed.meet_ends_in_face.Goals as goal

pub returns : goal.returns
returns c = ends_met (c.wide-a.ensures.value ∙ c.boundary_at.ensures) (c.wide-b.ensures.value ∙ c.boundary_at-2.ensures) c.meet_both.ensures
