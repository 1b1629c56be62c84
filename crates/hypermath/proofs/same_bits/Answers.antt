-- A NaN is told by differing from itself; of numbers the bits tell the value.
use Rattle.hypermath.proofs.Bits.{number, nan_bits, nan_second, bits_tell}
use Rattle.hypermath.proofs.same_bits.Goals as goal

pub returns-then-a : goal.returns-then-a
returns-then-a c = nan_bits c.args.a c.args.b c.if-a.true

pub returns-then-b : goal.returns-then-b
returns-then-b c = nan_second c.args.a c.args.b c.if-a.false c.if-b.true

pub float_to_bits-result : goal.float_to_bits-result
float_to_bits-result c = number c.args.a c.if-a.false

pub float_to_bits-result-2 : goal.float_to_bits-result-2
float_to_bits-result-2 c = number c.args.b c.if-b.false

pub returns : goal.returns
returns c = bits_tell c.args.a c.args.b c.well_formed.0.1 c.well_formed.1.0.1
