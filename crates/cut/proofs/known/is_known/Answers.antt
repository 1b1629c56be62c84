-- An element was asked where its word is not 0.
use mathlib.Core.Path.{refl}
use Rattle.cut.specs.Known.{known_at}
use Rattle.cut.proofs.known.is_known.Goals as goal

pub returns : goal.returns
unfolding known_at
returns c = refl
