-- The edge's two ends are read, and are the corners whose paths it joins.
use mathlib.Core.Path.{◌∙◌}
use Rattle.space.proofs.PathsJoined.{edge_joined, edge_paths}
use Rattle.space.proofs.closed.join_ends_in_face.Goals as goal

pub join_paths-requires-clause-ready : goal.join_paths-requires-clause-ready
join_paths-requires-clause-ready c =
    edge_paths (c.wide-a.ensures.value ∙ c.boundary_at.ensures) (c.wide-b.ensures.value ∙ c.boundary_at-2.ensures) c.requires.edge.ends c.requires.edge.stamp c.requires.stamped

pub returns : goal.returns
returns c = edge_joined (c.wide-a.ensures.value ∙ c.boundary_at.ensures) (c.wide-b.ensures.value ∙ c.boundary_at-2.ensures) c.join_paths.ensures
