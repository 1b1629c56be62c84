-- A NaN is told by differing from itself, and is not +0; of numbers the bits tell the value.
use mathlib.Core.Bool.{true, false}
use mathlib.Core.Path.{◌≡◌, refl, sym, ap, ◌∙◌}
use lib.Dec.{eqb}
use lib.Ieee.{Float, binary64, ne, is_nan, to_bits, fits}
use Rattle.rules.specs.Floats.{plus_zero, same_bits}
use Rattle.hypermath.proofs.Bits.{differs, number, nan_second, bits_tell}
use Rattle.soundness.proofs.Unseen.{eq_turned}
use Rattle.soundness.proofs.floats.bits_of.Goals as goal

zero_bits : to_bits binary64 plus_zero ≡ 0
unfolding to_bits
zero_bits = refl

zero_fits : fits binary64 plus_zero ≡ true
unfolding fits
zero_fits = refl

bits_are : (x : Float) → fits binary64 x ≡ true → eqb (to_bits binary64 x) 0 ≡ same_bits plus_zero x
bits_are x f = sym (eq_turned 0 (to_bits binary64 x)) ∙ ap (λ k. eqb k (to_bits binary64 x)) (sym zero_bits) ∙ bits_tell plus_zero x zero_fits f

zero_number : ne plus_zero plus_zero ≡ false
unfolding is_nan
zero_number = differs plus_zero

pub returns-then-x : goal.returns-then-x
returns-then-x c = nan_second plus_zero c.args.x zero_number c.if-x.true

pub float_to_bits-result : goal.float_to_bits-result
float_to_bits-result c = number c.args.x c.if-x.false

pub returns : goal.returns
returns c = bits_are c.args.x c.well_formed.0.1
