-- Four words are written, one behind the other.
use mathlib.Core.Path.{refl}
use Rattle.files.specs.Kept.{kept_with}
use Rattle.files.proofs.rows.keep.Goals as goal

pub returns : goal.returns
unfolding kept_with
returns c = refl
