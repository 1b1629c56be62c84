-- The divider's row, and two bits of the byte.
use Rattle.cut.proofs.Listing.{params_are}
use Rattle.cut.proofs.lists.params_at.Goals as goal

pub returns : goal.returns
returns c = params_are c.args.dividers.now c.args.kept.now c.args.i c.hyperplane_at-divider.ensures c.from-inside.ensures c.from-outside.ensures
