-- A field below 2 is none, and any other is two above its element.
use mathlib.Core.Path.{refl}
use Rattle.cut.proofs.Words.{some_none, some_is}
use Rattle.cut.proofs.known.some_of.Goals as goal

pub returns-then-field-lt2 : goal.returns-then-field-lt2
returns-then-field-lt2 c = some_none _ c.if-field-lt2.true

pub returns : goal.returns
returns c = some_is _ _ c.if-field-lt2.false refl
