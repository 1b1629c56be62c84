-- By the first byte, then by the second.
use native.Mathlib.Omega.{arith}
use Rattle.session.proofs.Records.{no_first, by_second}
use Rattle.session.proofs.record.is_marked.Goals as goal

pub returns-then-input-ne67 : goal.returns-then-input-ne67
returns-then-input-ne67 c = no_first c.args.input.now c.args.second (omega arith) c.if-input-ne67.true

pub returns : goal.returns
returns c = by_second c.args.input.now c.args.second (omega arith) c.if-input-ne67.false
