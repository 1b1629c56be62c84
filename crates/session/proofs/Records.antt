-- A record's test, one part after another; its divider, component by component.
use Rattle.std.specs.Prelude.{if◌then◌else◌}
use Prim.Native.Nat.{ℕ, zero, suc, ◌+◌, ◌*◌, ◌≤◌, ◌<◌}
use mathlib.Core.Bool.{Bool, true, false, ◌&&◌}
use mathlib.Core.List.{List, [], ◌∷◌}
use mathlib.Core.Path.{◌≡◌, refl, sym, ap, ◌∙◌}
use native.Mathlib.Omega.{arith}
use lib.Dec.{leb, eqb, ltb}
use lib.ListN.{length, get_or, take}
use lib.Ieee.{Float, binary64, of_bits}
use Rattle.rules.specs.Limits.{desk}
use Rattle.rules.specs.Lists.{alike}
use Rattle.rules.specs.Floats.{plus_zero}
use Rattle.rules.specs.Bytes.{number_at, float_at}
use Rattle.rules.specs.Session.{is_cube, is_cut, cut_length, divider_at}
use Rattle.rules.specs.declared.Hyperplane.{Hyperplane}
use Rattle.rules.proofs.Laws.{test_eq, not_eq, test_le, test_above}

-- ---- the mark

abbrev pub Marked : List ℕ → ℕ → Bool
Marked bs second = alike eqb (take 2 bs) (0x43 ∷ second ∷ [])

by_bytes : (bs : List ℕ) (second : ℕ) → 2 ≤ length bs → Marked bs second ≡ (eqb (get_or bs 0 0) 0x43 && (eqb (get_or bs 1 0) second && true))
by_bytes [] second h = absurd (omega (arith, h))
by_bytes (x ∷ []) second h = absurd (omega (arith, h))
by_bytes (x ∷ y ∷ bs) second h = refl

and_yes : (a b : Bool) → b ≡ true → (a && b) ≡ a
and_yes true b h = h
and_yes false b h = refl

and_no : (a b : Bool) → b ≡ false → (a && b) ≡ false
and_no true b h = h
and_no false b h = refl

pub no_first : (bs : List ℕ) (second : ℕ) → 2 ≤ length bs → (get_or bs 0 0 ≡ 0x43 → ⊥) → false ≡ Marked bs second
no_first bs second h n = sym (by_bytes bs second h ∙ ap (λ (b : Bool). b && (eqb (get_or bs 1 0) second && true)) (not_eq (get_or bs 0 0) 0x43 n))

pub by_second : (bs : List ℕ) (second : ℕ) → 2 ≤ length bs → get_or bs 0 0 ≡ 0x43 → eqb (get_or bs 1 0) second ≡ Marked bs second
by_second bs second h e = sym (by_bytes bs second h ∙ ap (λ (b : Bool). b && (eqb (get_or bs 1 0) second && true)) (test_eq (get_or bs 0 0) 0x43 e) ∙ and_yes (eqb (get_or bs 1 0) second) true refl)

-- ---- a cube, a cut

pub cube_short : (bs : List ℕ) → length bs < 11 → false ≡ is_cube bs
cube_short bs h = sym (and_no (Marked bs 0x55) (leb 11 (length bs)) (test_above 11 (length bs) h))

pub cube_marked : (bs : List ℕ) {r : Bool} → 11 ≤ length bs → r ≡ Marked bs 0x55 → r ≡ is_cube bs
cube_marked bs h e = e ∙ sym (and_yes (Marked bs 0x55) (leb 11 (length bs)) (test_le 11 (length bs) h))

module _ (bs : List ℕ) (d : ℕ) where
  abbrev long : Bool
  long = leb (cut_length d) (length bs)

  abbrev kept : Bool
  kept = leb (number_at 1 2 bs) 3

  pub cut_short : length bs < 13 + 8 * d → false ≡ is_cut d bs
  cut_short h = sym (ap (λ (b : Bool). b && kept) (and_no (Marked bs 0x54) long (test_above (cut_length d) (length bs) (omega (arith, h)))))

  pub cut_unkept : 3 < number_at 1 2 bs → false ≡ is_cut d bs
  cut_unkept h = sym (and_no (Marked bs 0x54 && long) kept (test_above (number_at 1 2 bs) 3 h))

  pub cut_marked : {r : Bool} → 13 + 8 * d ≤ length bs → number_at 1 2 bs ≤ 3 → r ≡ Marked bs 0x54 → r ≡ is_cut d bs
  cut_marked h k e = e ∙ sym (and_yes (Marked bs 0x54 && long) kept (test_le (number_at 1 2 bs) 3 k) ∙ and_yes (Marked bs 0x54) long (test_le (cut_length d) (length bs) (omega (arith, h))))

-- ---- the divider

pub zero_is : of_bits binary64 0 ≡ plus_zero
unfolding of_bits
zero_is = refl

abbrev component_at : ℕ → ℕ → List ℕ → Float
component_at axis d bs = if ltb axis d then float_at (5 + 8 * axis) bs else plus_zero

pub divider_is : (bs : List ℕ) (d : ℕ) {a b c e x : Float} → a ≡ component_at 0 d bs → b ≡ component_at 1 d bs → c ≡ component_at 2 d bs → e ≡ component_at 3 d bs → x ≡ float_at (5 + 8 * d) bs → d ≤ 4 →
    ◌≡◌ {A = Hyperplane} (record { normal = a ∷ b ∷ c ∷ e ∷ []; distance = x }) (divider_at desk d bs)
divider_is bs zero p q r s t h = λ i. record { normal = p i ∷ q i ∷ r i ∷ s i ∷ []; distance = t i }
divider_is bs (suc zero) p q r s t h = λ i. record { normal = p i ∷ q i ∷ r i ∷ s i ∷ []; distance = t i }
divider_is bs (suc (suc zero)) p q r s t h = λ i. record { normal = p i ∷ q i ∷ r i ∷ s i ∷ []; distance = t i }
divider_is bs (suc (suc (suc zero))) p q r s t h = λ i. record { normal = p i ∷ q i ∷ r i ∷ s i ∷ []; distance = t i }
divider_is bs (suc (suc (suc (suc zero)))) p q r s t h = λ i. record { normal = p i ∷ q i ∷ r i ∷ s i ∷ []; distance = t i }
divider_is bs (suc (suc (suc (suc (suc d))))) p q r s t h = absurd (omega (arith, h))
