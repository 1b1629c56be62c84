-- The counts are written, and the sets emptied.
use mathlib.Core.Path.{refl}
use Rattle.gathered.proofs.Gathering.{cleared}
use Rattle.gathered.proofs.sets.Room.clear.Goals as goal

pub returns : goal.returns
returns c = cleared c.args.self.now _ refl refl refl c.clear.ensures c.clear-2.ensures c.clear-3.ensures
