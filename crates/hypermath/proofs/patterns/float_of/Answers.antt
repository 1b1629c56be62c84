-- A pattern above an infinity's is a NaN's, and stands for the one NaN; no other is one.
use Prim.Native.Nat.{ℕ, ◌%◌, ◌<◌}
use mathlib.Core.Bool.{true, false≢true}
use mathlib.Core.Path.{◌≡◌, refl, sym, ◌∙◌}
use native.Mathlib.Omega.{arith}
use lib.Arith.{le→nltb}
use lib.Dec.{lt→ltb}
use lib.Ieee.{Float, nan, inf, fin, binary64, div, of_bits, is_nan}
use lib.Ieee.Bits.{is_true, nan_bits_is, nan_bits_above}
use Rattle.hypermath.proofs.patterns.float_of.Goals as goal

nan_of : (x : Float) → is_nan x ≡ true → nan ≡ x
unfolding is_nan
nan_of nan e = refl
nan_of (inf s) e = absurd (false≢true e)
nan_of (fin s m z) e = absurd (false≢true e)

nan_above : (w : ℕ) → 0x7ff0_0000_0000_0000 < w % 0x8000_0000_0000_0000 → nan ≡ of_bits binary64 w
nan_above w h = nan_of (of_bits binary64 w) (sym (nan_bits_is binary64 w) ∙ nan_bits_above binary64 w ∙ is_true _ (lt→ltb 0x7ff0_0000_0000_0000 (w % 0x8000_0000_0000_0000) h))

zero_over_zero : div binary64 (of_bits binary64 0) (of_bits binary64 0) ≡ nan
unfolding div of_bits
zero_over_zero = refl

pub returns-then-word-gt9218868437227405312 : goal.returns-then-word-gt9218868437227405312
returns-then-word-gt9218868437227405312 c = zero_over_zero ∙ nan_above c.args.word (omega arith)

pub float_from_bits-result : goal.float_from_bits-result
float_from_bits-result c = rw (nan_bits_above binary64) (le→nltb 0x7ff0_0000_0000_0000 (c.args.word % 0x8000_0000_0000_0000) (omega arith))
