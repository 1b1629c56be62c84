-- The count is read as a number.
use mathlib.Core.Path.{ap}
use lib.Dec.{ltb}
use Rattle.soundness.proofs.asked.in_use.Goals as goal

pub returns : goal.returns
returns c = ap (ltb c.args.root.0) c.wide.ensures.value
