-- The first two numbers of the row are vertex elements in use, so each has a point.
use mathlib.Core.Path.{◌∙◌}
use lib.Dec.{lit≤}
use Rattle.ends.proofs.Edges.{number_asked, end_asked}
use Rattle.ends.proofs.read_ends.Goals as goal

pub boundary_at-requires : goal.boundary_at-requires
boundary_at-requires c = number_asked c.requires 0 (lit≤ tt)

pub boundary_at-requires-2 : goal.boundary_at-requires-2
boundary_at-requires-2 c = number_asked c.requires 1 (lit≤ tt)

pub corner_point-p-requires : goal.corner_point-p-requires
corner_point-p-requires c = end_asked c.requires 0 _ (lit≤ tt) (c.wide.ensures.value ∙ c.boundary_at.ensures)

pub corner_point-q-requires : goal.corner_point-q-requires
corner_point-q-requires c = end_asked c.requires 1 _ (lit≤ tt) (c.wide-2.ensures.value ∙ c.boundary_at-2.ensures)
