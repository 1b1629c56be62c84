-- Rank 0 is a vertex, and what is left is rank 1.
use native.Mathlib.Omega.{arith}
use Rattle.ends.proofs.Edges.{edge_left}
use Rattle.ends.proofs.Vertices.{low_at, corner_ready, corner_left}
use Rattle.ends.proofs.cut_low.Goals as goal

pub cut_corner-requires : goal.cut_corner-requires
cut_corner-requires c = corner_ready (low_at 0 c.if-rank-eq0.true c.requires)

pub returns-then-rank-eq0 : goal.returns-then-rank-eq0
returns-then-rank-eq0 c = corner_left c.if-rank-eq0.true c.cut_corner.ensures c.requires.indexed

pub cut_edge-requires : goal.cut_edge-requires
cut_edge-requires c = low_at 1 (omega (arith, c.if-rank-eq0.false, c.requires.low)) c.requires

pub returns : goal.returns
returns c = edge_left (omega (arith, c.if-rank-eq0.false, c.requires.low)) c.cut_edge.ensures
