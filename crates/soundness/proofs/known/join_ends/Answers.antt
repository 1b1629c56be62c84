-- The two ends that are known are the corners whose paths the edge joins.
use Rattle.space.proofs.PathsJoined.{edge_joined}
use Rattle.soundness.proofs.known.join_ends.Goals as goal

pub returns : goal.returns
returns c = edge_joined c.end_known-a.ensures.value c.end_known-b.ensures.value c.join_paths.ensures
