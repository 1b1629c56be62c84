-- Its rank is 0.
use mathlib.Core.Path.{ap}
use lib.Dec.{eqb}
use Rattle.cube.proofs.is_corner.Goals as goal

pub returns : goal.returns
returns c = ap (λ n. eqb n 0) c.cube_rank.ensures.rank
