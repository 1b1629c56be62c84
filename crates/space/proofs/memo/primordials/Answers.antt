-- By the two tests of the dimension.
use Rattle.space.proofs.HyperplaneMemo.{primordials_none, primordials_two}
use Rattle.space.proofs.memo.primordials.Goals as goal

pub returns-then-d-lt2 : goal.returns-then-d-lt2
returns-then-d-lt2 c = primordials_none _ c.if-d-lt2.true

pub returns : goal.returns
returns c = primordials_two _ c.if-d-lt2.false
