-- The bits below the sign, and the sign's.
use Prim.Native.Nat.{ℕ, ◌+◌}
use mathlib.Core.Path.{ap, ◌∙◌}
use native.Mathlib.Omega.{arith}
use lib.Ieee.{is_nan}
use Rattle.rules.proofs.Laws.{falsely}
use Rattle.hypermath.proofs.Narrowing.{narrow_plus, narrow_minus}
use Rattle.hypermath.proofs.narrow.narrowed_bits.Goals as goal

pub float_to_bits-bits : goal.float_to_bits-bits
float_to_bits-bits c = falsely (is_nan c.args.x) c.requires

pub returns-then-bits-lt-SIGN : goal.returns-then-bits-lt-SIGN
returns-then-bits-lt-SIGN c = c.narrowed_size-size.ensures.is ∙ narrow_plus c.args.x c.well_formed.0.1 c.requires (omega arith)

pub overflow_add-result : goal.overflow_add-result
overflow_add-result c = omega (arith, c.narrowed_size-size.ensures.below)

pub returns : goal.returns
returns c = ap (λ (n : ℕ). 2147483648 + n) c.narrowed_size-size.ensures.is ∙ narrow_minus c.args.x c.well_formed.0.1 c.requires (omega arith)
