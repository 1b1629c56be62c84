-- Three fields fit a word of 32 bits, and the word of an element lies within the array.
use mathlib.Core.Path.{refl}
use Rattle.cut.specs.Known.{fields_at}
use Rattle.cut.proofs.known.put_fields.Goals as goal

pub returns : goal.returns
unfolding fields_at
returns c = refl
