-- Bits that a loop gathers to its end: there are none exactly when no number that it has met has any.
use Prim.Native.Nat.{ℕ, zero, suc}
use mathlib.Core.Path.{◌≡◌, refl, sym, ap, ◌∙◌}
use mathlib.Core.Bool.{Bool, true, false, ◌&&◌}
use native.Mathlib.Omega.{arith}
use lib.Bits.{bit_or, bit_xor, or_add_and, xor_add_and, xor_self, and_le_l, and_le_r}
use lib.Dec.{eqb, eqb-suc-zero}
use Rattle.rules.proofs.Laws.{eq_test, test_eq, not_eq, unlike_eq}

-- bits gathered of two numbers are none exactly when neither has any
pub no_bits : (a b : ℕ) → eqb (bit_or a b) 0 ≡ (eqb a 0 && eqb b 0)
no_bits zero b = refl
no_bits (suc a) b =
    not_eq (bit_or (suc a) b) 0 (λ q. let s = or_add_and (suc a) b in let l = and_le_r (suc a) b in let z : ⊥ = omega (arith, q, s, l) in z)
    ∙ ap (λ (c : Bool). c && eqb b 0) (sym (eqb-suc-zero a))

-- bits in which two numbers differ are none exactly when they are equal
pub no_difference : (a b : ℕ) → eqb (bit_xor a b) 0 ≡ eqb a b
no_difference a b = told (eqb a b) refl
  where
    told : (c : Bool) → eqb a b ≡ c → eqb (bit_xor a b) 0 ≡ c
    told true e = test_eq (bit_xor a b) 0 (ap (bit_xor a) (sym (eq_test a b e)) ∙ xor_self a)
    told false e =
        not_eq (bit_xor a b) 0
        (λ q.
        let s = xor_add_and a b in
        let l = and_le_l a b in
        let r = and_le_r a b in
        unlike_eq a b e (let z : a ≡ b = omega (arith, q, s, l, r) in z))
