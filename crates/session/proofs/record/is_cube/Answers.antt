-- Too short, or the mark tells.
use native.Mathlib.Omega.{arith}
use Rattle.session.proofs.Records.{cube_short, cube_marked}
use Rattle.session.proofs.record.is_cube.Goals as goal

pub returns-then-input-lt11 : goal.returns-then-input-lt11
returns-then-input-lt11 c = cube_short c.args.input.now (omega arith)

pub returns : goal.returns
returns c = cube_marked c.args.input.now (omega arith) c.is_marked.ensures
