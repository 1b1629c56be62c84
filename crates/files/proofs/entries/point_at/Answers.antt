-- Axis by axis.
use Rattle.files.proofs.EntriesRead.{point_is}
use Rattle.files.proofs.entries.point_at.Goals as goal

pub returns : goal.returns
returns c = point_is c.args.bytes.now c.args.d _ c.component-x0.ensures c.component-x1.ensures c.component-x2.ensures c.component-x3.ensures c.requires.axes
