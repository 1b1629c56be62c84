-- The four cases of the exponent's field.
use Prim.Native.Nat.{ℕ, ◌+◌, ◌-◌, ◌*◌, ◌^◌}
use mathlib.Core.Path.{sym, ap, ◌∙◌}
use native.Mathlib.Omega.{arith}
use lib.Ieee.Nearest.{closest}
use Rattle.hypermath.specs.Narrow.{with_leading}
use Rattle.hypermath.proofs.Narrowing.{size_tiny, size_large, size_small, size_normal}
use Rattle.hypermath.proofs.narrow.narrowed_size.Goals as goal

pub returns-then-field-lt-NEAREST : goal.returns-then-field-lt-NEAREST
returns-then-field-lt-NEAREST c = let a = c.args in record { is = sym (size_tiny a.field a.digits (omega arith)); below = omega arith }

pub returns-then-field-gt-LARGEST : goal.returns-then-field-gt-LARGEST
returns-then-field-gt-LARGEST c = let a = c.args in record { is = sym (size_large a.field a.digits (omega arith) (omega arith)); below = omega arith }

pub returns-then-field-lt-NORMAL : goal.returns-then-field-lt-NORMAL
returns-then-field-lt-NORMAL c = record {
  is = c.rounded.ensures.is ∙ ap (closest (with_leading c.args.digits)) c.unit_of.ensures ∙ sym (size_small c.args.field c.args.digits (omega arith) (omega arith) (omega arith));
  below = omega (arith, c.rounded.ensures.below);
}

pub returns : goal.returns
returns c = record {
  is = ap (λ (z : ℕ). (c.args.field - 897) * 2 ^ 23 + z) (c.rounded-2.ensures.is ∙ ap (closest (with_leading c.args.digits)) c.unit_of-2.ensures)
      ∙ sym (size_normal c.args.field c.args.digits (omega arith) (omega arith) (omega arith));
  below = omega (arith, c.rounded-2.ensures.below);
}
