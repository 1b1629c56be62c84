-- A coordinate in whole units. Multiplied by 1,024 a float only moves its exponent, so the product is exact; its whole part is below 2^27, so it is exact as a float again.
use Rattle.std.proofs.Common.{◌≡◌, ℕ, zero, suc, ◌+◌, ◌-◌, ◌*◌, ◌/◌, ◌%◌, ◌^◌, ◌<◌, ◌≤◌, min, Bool, true, false, cond, ◌&&◌, ◌||◌, T, eqb, ltb, leb, ◌⊎◌, ℤ, pos, negsuc, neg_ℤ, nat_abs, sym, refl, ap}
use Rattle.std.proofs.Common.{◌∙◌, subst, ap₂, inl, inr, ⊎_elim, le_trans, le_of_eq, lt_of_lt_of_le, le_of_suc-le-suc, lt_of_le_of_lt, mul-le-mul_right, mul_assoc, mul_comm, add-mul, mul-pos, one-mul}
use Rattle.std.proofs.Common.{lt_of_not-le, div-add-mod', zero-mul, mul-one, mul_right_comm, not-le_of_lt, le_of_mul-le-mul_right, arith, lit≤, le→leb, ltb→lt, lt→ltb, leb→le, pow_pos, pow_mono}
use Rattle.std.proofs.Common.{pow-add, shl_lt}
use mathlib.Core.Bool.{beq, false≢true}
use native.Mathlib.Nat.{eq_of_mul-eq-mul_right, div-le_of_le-mul}
use lib.Pow.{pow-lt}
use lib.Ieee.{Float, nan, inf, fin, binary64, up, down, neg, mul, lt, eq, le, below, round, fits, of_int, to_signed, in_float}
use lib.Ieee.Exact.{HasValue, round_exact}
use lib.Ieee.Fits.{down_pos, and_l, and_r}
use lib.Ieee.Nearest.{div_same}
use Rattle.rules.specs.Floats.{within, farthest}
use Rattle.rules.specs.Areas.{signed, on_grid, units}
use Rattle.rules.proofs.AreaSizes.{in_bounds, size_signed, units_few}
use Rattle.rules.proofs.Comparisons.{SignedLe, test}
use Rattle.rules.proofs.Laws.{holds, truly, both_ways, eq_test, test_eq, or_left, or_right, beq_self}

-- 1,024 as a float
abbrev pub scale : Float
scale = fin false 1 (pos 10)

-- ---- the product is exact

second_third : (a b c d : Bool) → T (a && b && c && d) → T b × T c
second_third a b c d h = (and_r a b (and_l (a && b) c (and_l (a && b && c) d h)), and_r (a && b) c (and_l (a && b && c) d h))

digits : (s : Bool) (m : ℕ) (e : ℤ) → T (fits binary64 (fin s m e)) → m < 2 ^ 53
unfolding fits
digits s zero e f = pow_pos 53
digits s (suc m) e f = ltb→lt (suc m) (2 ^ 53) (second_third (eqb (suc m % 2) 1) (ltb (suc m) (2 ^ 53)) (leb (down e) (2 ^ 1074)) (ltb (suc m * up e) (2 ^ 1024 * down e)) f).0

-- the exponent of a float that fits is -1074 at least
low_exponent : (s : Bool) (m k : ℕ) → T (fits binary64 (fin s m (negsuc k))) → suc k ≤ 1074
unfolding fits
low_exponent s zero k f =
    let l = pow-lt {i = 0} {j = suc k} (let z : 0 < suc k = omega arith in z) in
    let z : 2 ^ suc k ≡ 1 = sym (one-mul (2 ^ suc k)) ∙ eq_test (1 * 2 ^ suc k) 1 (holds _ f) in
    absurd (omega (arith, l, z))
low_exponent s (suc m) k f =
    le_of_pow (leb→le (2 ^ suc k) (2 ^ 1074) (second_third (eqb (suc m % 2) 1) (ltb (suc m) (2 ^ 53)) (leb (2 ^ suc k) (2 ^ 1074)) (ltb (suc m * 1) (2 ^ 1024 * 2 ^ suc k)) f).1)
  where
    le_of_pow : 2 ^ suc k ≤ 2 ^ 1074 → suc k ≤ 1074
    le_of_pow h = le_of_suc-le-suc (lt_of_not-le (λ (g : suc 1074 ≤ suc k). not-le_of_lt (pow-lt g) h))

-- rounded, the product is itself
product_exact : (s : Bool) (m : ℕ) (e : ℤ) → m < 2 ^ 53 → T (fits binary64 (fin s m e)) → m * up e ≤ 65536 * down e
    → HasValue (round binary64 s (m * up e * 1024) (down e * 1)) s (m * up e * 1024) (down e * 1)
product_exact s m (pos k) few f h =
    let more : m * 2 ^ (k + 1084) ≡ m * 2 ^ k * 2 ^ 1084 = ap (λ (z : ℕ). m * z) (pow-add 2 k 1084) ∙ sym (mul_assoc m (2 ^ k) (2 ^ 1084)) in
    let small : m * 2 ^ k < 2 ^ 17 = omega (arith, h) in
    round_exact binary64 s (m * 2 ^ k * 1024) 1 m (k + 1084) (lit≤ tt) few
    (lt_of_le_of_lt (le_of_eq more) (lt_of_lt_of_le (shl_lt 17 1084 small) (pow_mono {i = 1101} {j = 2098} (lit≤ tt))))
    (mul_assoc (m * 2 ^ k) 1024 (2 ^ 1074) ∙ sym more ∙ sym (mul-one (m * 2 ^ (k + 1084))))
product_exact s m (negsuc k) few f h =
    let l = low_exponent s m k f in
    let j = 1084 - suc k in
    let parts : 2 ^ 1084 ≡ 2 ^ j * 2 ^ suc k = ap (λ (z : ℕ). 2 ^ z) (let z : 1084 ≡ j + suc k = omega (arith, l) in z) ∙ pow-add 2 j (suc k) in
    round_exact binary64 s (m * 1 * 1024) (2 ^ suc k * 1) m j (mul-pos (pow_pos (suc k)) (lit≤ tt)) few
    (lt_of_lt_of_le (shl_lt 53 j few) (pow_mono (let z : 53 + j ≤ 2098 = omega arith in z)))
    (mul_assoc (m * 1) 1024 (2 ^ 1074) ∙ ap₂ (λ (a b : ℕ). a * b) (mul-one m) parts ∙ sym (mul_assoc m (2 ^ j) (2 ^ suc k)) ∙ ap (λ (z : ℕ). m * 2 ^ j * z) (sym (mul-one (2 ^ suc k))))

product : (s : Bool) (m : ℕ) (e : ℤ) → T (fits binary64 (fin s m e)) → within farthest (fin s m e) ≡ true
    → HasValue (mul binary64 (fin s m e) scale) s (m * up e * 1024) (down e)
unfolding mul
product false m e f w = subst (HasValue (round binary64 false (m * up e * 1024) (down e * 1)) false (m * up e * 1024)) (mul-one (down e)) (product_exact false m e (digits false m e f) f (in_bounds false m e w))
product true m e f w = subst (HasValue (round binary64 true (m * up e * 1024) (down e * 1)) true (m * up e * 1024)) (mul-one (down e)) (product_exact true m e (digits true m e f) f (in_bounds true m e w))

-- ---- a float of at most 2^26 in size, as an integer

module _ (s : Bool) (m : ℕ) (e : ℤ) (few : m * up e ≤ 2 ^ 26 * down e) where
  pub not_below : T (le (fin true 1 (pos 63)) (fin s m e))
  unfolding le lt eq
  not_below = truly _ (test true s (1 * 2 ^ 63 * down e) (m * up e * 1) (go s))
    where
      go : (s : Bool) → SignedLe true (1 * 2 ^ 63 * down e) s (m * up e * 1)
      go false = tt
      go true = let z : m * up e * 1 ≤ 1 * 2 ^ 63 * down e = omega (arith, few) in z

  pub not_above : T (lt (fin s m e) (fin false 1 (pos 63)))
  unfolding lt
  not_above = go s
    where
      positive : 0 < down e
      positive = down_pos e

      go : (s : Bool) → T (below s (m * up e * 1) false (1 * 2 ^ 63 * down e))
      go false = lt→ltb (m * up e * 1) (1 * 2 ^ 63 * down e) (let z : m * up e * 1 < 1 * 2 ^ 63 * down e = omega (arith, few, positive) in z)
      go true = lt→ltb 0 (m * up e * 1 + 1 * 2 ^ 63 * down e) (let z : 0 < m * up e * 1 + 1 * 2 ^ 63 * down e = omega (arith, positive) in z)

  pub whole_part : to_signed 63 (fin s m e) ≡ signed s (m * up e / down e)
  unfolding to_signed
  whole_part = go s
    where
      small : m * up e / down e ≤ 2 ^ 26
      small = div-le_of_le-mul (down e) (le_trans few (le_of_eq (mul_comm (2 ^ 26) (down e))))

      go : (s : Bool) → cond s (neg_ℤ (pos (min (m * up e / down e) (2 ^ 63)))) (pos (min (m * up e / down e) (2 ^ 63 - 1))) ≡ signed s (m * up e / down e)
      go false = ap pos (let z : min (m * up e / down e) (2 ^ 63 - 1) ≡ m * up e / down e = omega (arith, small) in z)
      go true = ap (λ (n : ℕ). neg_ℤ (pos n)) (let z : min (m * up e / down e) (2 ^ 63) ≡ m * up e / down e = omega (arith, small) in z)

-- ---- the product of a coordinate

-- a / d is n / c, and at most 65,536 * 1,024
rescaled : (a d n c : ℕ) → 0 < d → n * d ≡ a * 1024 * c → a ≤ 65536 * d → n ≤ 2 ^ 26 * c
rescaled a d n c D q h =
    le_of_mul-le-mul_right
    (le_trans (le_of_eq q)
    (le_trans (mul-le-mul_right c (let z : a * 1024 ≤ 2 ^ 26 * d = omega (arith, h) in z)) (le_of_eq (mul_right_comm (2 ^ 26) d c)))) D

-- a number in bounds is finite
pub record Scaled (s : Bool) (a d : ℕ) (y : Float) : Type 0 where
  pub m : ℕ
  pub e : ℤ
  pub is : y ≡ fin s m e
  pub same : m * up e * d ≡ a * 1024 * down e
  pub few : m * up e ≤ 2 ^ 26 * down e

scaled_of : (s : Bool) (a d : ℕ) (y : Float) → 0 < d → a ≤ 65536 * d → HasValue y s (a * 1024) d → Scaled s a d y
scaled_of s a d nan D h v = absurd v
scaled_of s a d (inf t) D h v = absurd v
scaled_of s a d (fin t m e) D h v = record {
  m = m;
  e = e;
  is = ap (λ (b : Bool). fin b m e) v.0;
  same = v.1;
  few = rescaled a d (m * up e) (down e) D v.1 h;
}

pub scaled : (s : Bool) (m : ℕ) (e : ℤ) → T (fits binary64 (fin s m e)) → within farthest (fin s m e) ≡ true → Scaled s (m * up e) (down e) (mul binary64 (fin s m e) scale)
scaled s m e f w = scaled_of s (m * up e) (down e) _ (down_pos e) (in_bounds s m e w) (product s m e f w)

-- ---- in units

not_number : {A : Type 0} → within farthest nan ≡ true → A
unfolding within le lt eq neg
not_number h = absurd (false≢true h)

infinite : {A : Type 0} (s : Bool) → within farthest (inf s) ≡ true → A
unfolding within le lt eq neg
infinite false h = absurd (false≢true h)
infinite true h = absurd (false≢true h)

pub scaled_low : (x : Float) → fits binary64 x ≡ true → within farthest x ≡ true → T (le (fin true 1 (pos 63)) (mul binary64 x scale))
scaled_low nan f w = not_number w
scaled_low (inf s) f w = infinite s w
scaled_low (fin s m e) f w = let r = scaled s m e (truly (fits binary64 (fin s m e)) f) w in subst (λ (y : Float). T (le (fin true 1 (pos 63)) y)) (sym r.is) (not_below s r.m r.e r.few)

pub scaled_high : (x : Float) → fits binary64 x ≡ true → within farthest x ≡ true → T (lt (mul binary64 x scale) (fin false 1 (pos 63)))
scaled_high nan f w = not_number w
scaled_high (inf s) f w = infinite s w
scaled_high (fin s m e) f w = let r = scaled s m e (truly (fits binary64 (fin s m e)) f) w in subst (λ (y : Float). T (lt y (fin false 1 (pos 63)))) (sym r.is) (not_above s r.m r.e r.few)

pub scaled_units : (x : Float) → fits binary64 x ≡ true → within farthest x ≡ true → to_signed 63 (mul binary64 x scale) ≡ units x
unfolding units
scaled_units nan f w = not_number w
scaled_units (inf s) f w = infinite s w
scaled_units (fin s m e) f w =
    let r = scaled s m e (truly (fits binary64 (fin s m e)) f) w in
    ap (to_signed 63) r.is ∙ whole_part s r.m r.e r.few
    ∙ ap (signed s) (div_same (r.m * up r.e) (down r.e) (m * up e * 1024) (down e) (down_pos r.e) (down_pos e) r.same)

-- ---- back as a float, and on the grid

-- the units as a float are exact
small_exact : (s : Bool) (n : ℕ) → n ≤ 2 ^ 26 → HasValue (round binary64 s n 1) s n 1
small_exact s n h =
    let small : n < 2 ^ 27 = omega (arith, h) in
    round_exact binary64 s n 1 n 1074 (lit≤ tt) (lt_of_lt_of_le small (pow_mono {i = 27} {j = 53} (lit≤ tt)))
    (lt_of_lt_of_le (shl_lt 27 1074 small) (pow_mono {i = 1101} {j = 2098} (lit≤ tt))) (sym (mul-one (n * 2 ^ 1074)))

pub units_float : (x : Float) → within farthest x ≡ true → T (in_float binary64 (units x))
unfolding in_float
units_float x w = go (units x) (units_few x w)
  where
    go : (z : ℤ) → nat_abs z ≤ 2 ^ 26 → T (in_float binary64 z)
    go (pos n) h = le→leb n (2 ^ 53) (le_trans h (lit≤ tt))
    go (negsuc n) h = lt→ltb n (2 ^ 53) (le_trans h (lit≤ tt))

-- ±n against ±p/q, which is a/d in size, of which n is the whole part: equal exactly where nothing is left
whole_test : (a d n p q k c : ℕ) → 0 < d → 0 < q → 0 < c → n ≡ a / d → p * d ≡ a * q → k ≡ n * c → eqb (k * q) (p * c) ≡ eqb (a % d) 0
whole_test a d n p q k c D Q C hn hp hk =
    both_ways (eqb (k * q) (p * c)) (eqb (a % d) 0)
    (λ t. test_eq (a % d) 0 (zero_left (sym (add_zero_of (sym parts ∙ sym (ap (λ (z : ℕ). z * d) (eq_test (k * q) (p * c) t)))))))
    (λ t. test_eq (k * q) (p * c) (eq_of_mul-eq-mul_right d D (k * q) (p * c) (sym (parts ∙ ap (λ (z : ℕ). k * q * d + z * (c * q)) (eq_test (a % d) 0 t) ∙ add_nothing (k * q * d)))))
  where
    add_nothing : (z : ℕ) → z + 0 * (c * q) ≡ z
    add_nothing z = ap (λ (y : ℕ). z + y) (zero-mul (c * q)) ∙ (let w : z + 0 ≡ z = omega arith in w)

    parts : p * c * d ≡ k * q * d + a % d * (c * q)
    parts =
        mul_right_comm p c d ∙ ap (λ (z : ℕ). z * c) hp ∙ ap (λ (z : ℕ). z * q * c) (sym (div-add-mod' a d)) ∙ ap (λ (z : ℕ). (z * d + a % d) * q * c) (sym hn)
        ∙ mul_assoc (n * d + a % d) q c ∙ ap (λ (z : ℕ). (n * d + a % d) * z) (mul_comm q c) ∙ add-mul (n * d) (a % d) (c * q)
        ∙ ap (λ (z : ℕ). z + a % d * (c * q)) (mul_right_comm n d (c * q) ∙ ap (λ (z : ℕ). z * d) (sym (mul_assoc n c q) ∙ ap (λ (z : ℕ). z * q) (sym hk)))

    add_zero_of : {u v : ℕ} → u + v ≡ u → 0 ≡ v
    add_zero_of {u} {v} h = let w : 0 ≡ v = omega (arith, h) in w

    zero_left : a % d * (c * q) ≡ 0 → a % d ≡ 0
    zero_left h = eq_of_mul-eq-mul_right (c * q) (mul-pos C Q) (a % d) 0 (h ∙ sym (zero-mul (c * q)))

-- the signs agree, or there is no unit
abbrev Signs : Bool → Bool → ℕ → Type 0
Signs t s n = (t ≡ s) ⊎ (n ≡ 0)

drop_true : (a b : Bool) → b ≡ true → (a && b) ≡ a
drop_true true b h = h
drop_true false b h = refl

compared : (t s : Bool) (u : Float) (a d n m : ℕ) (e : ℤ) → 0 < d → n ≡ a / d → m * up e * d ≡ a * down e → Signs t s n → HasValue u t n 1 → eq u (fin s m e) ≡ eqb (a % d) 0
compared t s nan a d n m e D hn hp g v = absurd v
compared t s (inf b) a d n m e D hn hp g v = absurd v
compared t s (fin b k c) a d n m e D hn hp g v =
    unfold eq in
    drop_true (eqb (k * up c * down e) (m * up e * down c)) _ (⊎_elim same none g)
    ∙ whole_test a d n (m * up e) (down e) (k * up c) (down c) D (down_pos e) (down_pos c) hn hp units_are
  where
    units_are : k * up c ≡ n * down c
    units_are = sym (mul-one (k * up c)) ∙ v.1

    same : t ≡ s → (beq b s || eqb (k * up c * down e) 0) ≡ true
    same q = or_left (beq b s) (eqb (k * up c * down e) 0) (ap (λ (z : Bool). beq z s) (v.0 ∙ q) ∙ beq_self s)

    none : n ≡ 0 → (beq b s || eqb (k * up c * down e) 0) ≡ true
    none q = or_right (beq b s) (eqb (k * up c * down e) 0) (test_eq (k * up c * down e) 0 (ap (λ (z : ℕ). z * down e) (units_are ∙ ap (λ (z : ℕ). z * down c) q ∙ zero-mul (down c)) ∙ zero-mul (down e)))

pub grid_told : (x : Float) → fits binary64 x ≡ true → within farthest x ≡ true → eq (of_int binary64 (units x)) (mul binary64 x scale) ≡ on_grid x
unfolding units on_grid of_int
grid_told nan f w = not_number w
grid_told (inf s) f w = infinite s w
grid_told (fin s m e) f w =
    let r = scaled s m e (truly (fits binary64 (fin s m e)) f) w in
    ap (eq (of_int binary64 (signed s (m * up e * 1024 / down e)))) r.is
    ∙ go s (m * up e * 1024 / down e) r.m r.e refl r.same (le_trans (le_of_eq (sym (size_signed s (m * up e * 1024 / down e)))) (units_few (fin s m e) w))
  where
    go : (s : Bool) (n k : ℕ) (c : ℤ) → n ≡ m * up e * 1024 / down e → k * up c * down e ≡ m * up e * 1024 * down c → n ≤ 2 ^ 26
        → eq (of_int binary64 (signed s n)) (fin s k c) ≡ eqb (m * up e * 1024 % down e) 0
    go false n k c hn hp h = compared false false _ (m * up e * 1024) (down e) n k c (down_pos e) hn hp (inl refl) (small_exact false n h)
    go true zero k c hn hp h = compared false true _ (m * up e * 1024) (down e) 0 k c (down_pos e) hn hp (inr refl) (small_exact false 0 h)
    go true (suc n) k c hn hp h = compared true true _ (m * up e * 1024) (down e) (suc n) k c (down_pos e) hn hp (inl refl) (small_exact true (suc n) h)
