-- Its rank is above 0, and one below the dimension.
use Rattle.cube.proofs.CubeEntries.{facet_is}
use Rattle.cube.proofs.is_facet.Goals as goal

pub returns-then-rank-ne0 : goal.returns-then-rank-ne0
returns-then-rank-ne0 c = facet_is c.args.d c.args.e c.cube_rank-rank.result c.cube_rank-rank.ensures.rank c.if-rank-ne0.true
