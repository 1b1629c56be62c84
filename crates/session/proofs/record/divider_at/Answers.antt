-- Component by component, where the dimension is within the room.
use Rattle.session.proofs.Records.{divider_is}
use Rattle.session.proofs.record.divider_at.Goals as goal

pub returns : goal.returns
returns c = divider_is c.args.input.now c.args.d c.component-n0.ensures c.component-n1.ensures c.component-n2.ensures c.component-n3.ensures c.float-distance.ensures
