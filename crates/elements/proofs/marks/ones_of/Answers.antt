-- As many digits are 1 as numbers are listed.
use mathlib.Core.Path.{sym}
use native.Mathlib.Omega.{arith}
use lib.Count.{ones-le}
use Rattle.elements.proofs.MemberLaws.{ones_listed}
use Rattle.elements.proofs.marks.ones_of.Goals as goal

pub returns : goal.returns
returns c = record { of = λ base. sym (ones_listed 64 c.args.x base c.ranges.x.fits); most = ones-le 64 c.args.x c.ranges.x.fits }

pub overflow_cast-result : goal.overflow_cast-result
overflow_cast-result c = record { fits = omega (arith, ones-le 64 c.args.x c.ranges.x.fits) }
