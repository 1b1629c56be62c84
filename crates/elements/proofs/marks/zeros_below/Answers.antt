-- A word has at most 64 zeros.
use mathlib.Core.Path.{refl}
use native.Mathlib.Omega.{arith}
use lib.Count.{trailing_le}
use Rattle.elements.proofs.marks.zeros_below.Goals as goal

pub overflow_cast-result : goal.overflow_cast-result
overflow_cast-result c = record { fits = omega (arith, trailing_le 64 c.args.x) }

pub returns : goal.returns
returns c = record { zeros = refl; most = trailing_le 64 c.args.x }
