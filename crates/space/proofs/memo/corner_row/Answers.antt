-- Four stores over zeros are the row that the rules write of a corner.
use Rattle.space.proofs.VertexMemo.{corner_is}
use Rattle.space.proofs.memo.corner_row.Goals as goal

pub returns : goal.returns
returns c = corner_is c.args.v.0
