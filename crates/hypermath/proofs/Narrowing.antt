-- The 32 bits of a narrowed float. Rounding keeps 24 digits of a magnitude and counts those it drops; the bits of q * 2 ^ k smallest values are k times the
-- field's weight and q, also where rounding carried a digit out, since that digit adds one to the field.
use Rattle.std.specs.Prelude.{if◌then◌else◌}
use Prim.Native.Nat.{ℕ, zero, suc, ◌+◌, ◌-◌, ◌*◌, ◌/◌, ◌%◌, ◌^◌, ◌≤◌, ◌<◌, compare, Ordering}
use mathlib.Core.Bool.{Bool, true, false, cond, false≢true, true≢false}
use mathlib.Core.Logic.{◌⊎◌, inl, inr}
use mathlib.Core.Path.{◌≡◌, refl, sym, ap, ◌∙◌, subst}
use native.Mathlib.Nat.{le_refl, le_trans, le_of_eq, le_antisymm, zero-add, lt_of_lt_of_le, lt_of_le_of_lt, lt_of_not-le, not-le_of_lt, lt-suc_self, lt_irrefl, le_of_suc-le-suc, le_of_mul-le-mul_right, mod-lt}
use native.Mathlib.Nat.{eq-or-lt_of_le, add_assoc, suc-add, mul-one, mul_assoc, mul-pos, suc-mul, mul-le-mul_right, mul-div_cancel, div-one, div-le_self, div-eq_of_lt, mod-eq_of_lt, le-div_iff_mul-le, two-pow-succ}
use native.Mathlib.Omega.{arith}
use lib.Dec.{is_le, compare_is_eq, leb, ltb, eqb}
use lib.Arith.{add-le_cancel_left}
use lib.Pow.{pow-add, pow_pos, pow_mono, pow-lt, shl_lt, shr_lt}
use lib.Ieee.{Float, nan, inf, fin, Format, binary32, binary64, prec, low, up, down, hid, top, size, nearest, odd, units, round, of_fields, of_bits, to_bits, is_nan, fits}
use lib.Ieee.Bits.{of_bits-to_bits}
use lib.Ieee.Digits.{size-lt, size-le}
use lib.Ieee.Fits.{round_is, nearest-le, down_pos}
use lib.Ieee.Nearest.{closest, closest_same, nearest-ge}
use lib.Ieee.Exact.{HasValue, odd_sign, units_val}
use lib.Ieee.Scale.{round_same}
use Rattle.rules.specs.Print.{narrowed}
use Rattle.rules.proofs.Laws.{truly, le_test, test_le, not_le, test_above, test_eq, not_eq, eq_test, if_true, if_false}
use Rattle.hypermath.specs.Narrow.{with_leading, narrowed_size, NumberUnder}

-- ---- to the nearest, by which way a comparison goes

at_less : (q : ℕ) (o : Ordering) → is_le o ≡ true → compare_is_eq o ≡ false → nearest q o ≡ q
at_less q Ordering.lt l e = refl
at_less q Ordering.eq l e = absurd (true≢false e)
at_less q Ordering.gt l e = absurd (false≢true l)

at_more : (q : ℕ) (o : Ordering) → is_le o ≡ false → nearest q o ≡ suc q
at_more q Ordering.lt l = absurd (true≢false l)
at_more q Ordering.eq l = absurd (true≢false l)
at_more q Ordering.gt l = refl

at_tie : (q : ℕ) (o : Ordering) → compare_is_eq o ≡ true → nearest q o ≡ q + q % 2
at_tie q Ordering.lt e = absurd (false≢true e)
at_tie q Ordering.eq e = refl
at_tie q Ordering.gt e = absurd (false≢true e)

nearest_less : (q a b : ℕ) → a < b → nearest q (compare a b) ≡ q
nearest_less q a b h =
    at_less q (compare a b) (test_le a b (let z : a ≤ b = omega arith in z)) (not_eq a b (λ e. let z : ⊥ = omega arith in z))

nearest_more : (q a b : ℕ) → b < a → nearest q (compare a b) ≡ suc q
nearest_more q a b h = at_more q (compare a b) (test_above a b h)

nearest_tie : (q a b : ℕ) → a ≡ b → nearest q (compare a b) ≡ q + q % 2
nearest_tie q a b e = at_tie q (compare a b) (test_eq a b e)

-- the three ways, of a whole part and what is left over
module _ (q unit : ℕ) (h : q < 2 ^ 53) where
  pub rounded_down : q % unit * 2 < unit → NumberUnder (closest q unit) (2 ^ 54) (q / unit)
  rounded_down l = let d = div-le_self q unit in record { is = sym (nearest_less (q / unit) (q % unit * 2) unit l); below = omega arith }

  pub rounded_up : unit < q % unit * 2 → NumberUnder (closest q unit) (2 ^ 54) (q / unit + 1)
  rounded_up l =
      let d = div-le_self q unit in
      record { is = (let e : q / unit + 1 ≡ suc (q / unit) = omega arith in e) ∙ sym (nearest_more (q / unit) (q % unit * 2) unit l); below = omega arith }

  pub rounded_even : q % unit * 2 ≡ unit → NumberUnder (closest q unit) (2 ^ 54) (q / unit + q / unit % 2)
  rounded_even e = let d = div-le_self q unit in record { is = sym (nearest_tie (q / unit) (q % unit * 2) unit e); below = omega arith }

-- ---- powers, and how many digits a number has

power_back : (a b : ℕ) → 2 ^ a ≤ 2 ^ b → a ≤ b
power_back a b h = le_of_suc-le-suc (lt_of_not-le (λ (g : suc b ≤ a). lt_irrefl (2 ^ b) (lt_of_lt_of_le (pow-lt g) h)))

size_above : (n j : ℕ) → 2 ^ j ≤ n → j < size n
size_above n j h = lt_of_not-le (λ (g : size n ≤ j). not-le_of_lt (lt_of_lt_of_le (size-lt n) (pow_mono g)) h)

size_is : (n j : ℕ) → 2 ^ j ≤ n → n < 2 ^ suc j → size n ≡ suc j
size_is n j a b = le_antisymm (size-le n (suc j) b) (size_above n j a)

-- ---- the bits of a value, in units of the format's smallest

abbrev unit_bits : Format → Bool → ℕ → ℕ
unit_bits f s n = cond s (top f) 0 + (size n - prec f) * hid f + n / 2 ^ (size n - prec f)

value_bits : (f : Format) (x : Float) (s : Bool) (n : ℕ) → HasValue x s n (2 ^ low f) → to_bits f x ≡ unit_bits f s n
unfolding to_bits
value_bits f nan s n v = absurd v
value_bits f (inf t) s n v = absurd v
value_bits f (fin t m e) s n v =
    ap (λ (b : Bool). unit_bits f b (m * up e * 2 ^ low f / down e)) v.0
    ∙ ap (unit_bits f s) (ap (λ (z : ℕ). z / down e) v.1 ∙ mul-div_cancel n (down_pos e))

module _ (p : ℕ) where
  abbrev fields_of : ℕ → ℕ
  fields_of n = (size n - suc p) * 2 ^ p + n / 2 ^ (size n - suc p)

  fields_at : (n k q : ℕ) → size n - suc p ≡ k → n / 2 ^ k ≡ q → fields_of n ≡ k * 2 ^ p + q
  fields_at n k q a b = ap (λ (z : ℕ). z * 2 ^ p + n / 2 ^ z) a ∙ ap (λ (z : ℕ). k * 2 ^ p + z) b

  -- few digits
  small : (q : ℕ) → q < 2 ^ suc p → fields_of q ≡ 0 * 2 ^ p + q
  small q h = fields_at q 0 q (let a = size-le q (suc p) h in let z : size q - suc p ≡ 0 = omega arith in z) (div-one q)

  -- all digits
  full : (q k : ℕ) → 2 ^ p ≤ q → q < 2 ^ suc p → fields_of (q * 2 ^ k) ≡ k * 2 ^ p + q
  full q k a b =
      let l : 2 ^ (p + k) ≤ q * 2 ^ k = le_trans (le_of_eq (pow-add 2 p k)) (mul-le-mul_right (2 ^ k) a) in
      let u : q * 2 ^ k < 2 ^ suc (p + k) = subst (λ (z : ℕ). q * 2 ^ k < 2 ^ z) (suc-add p k) (shl_lt (suc p) k b) in
      let e : size (q * 2 ^ k) ≡ suc (p + k) = size_is (q * 2 ^ k) (p + k) l u in
      fields_at (q * 2 ^ k) k q (let z : size (q * 2 ^ k) - suc p ≡ k = omega arith in z) (mul-div_cancel q (pow_pos k))

  -- one digit more, and all but the first are zero
  carried : (k : ℕ) → fields_of (2 ^ suc p * 2 ^ k) ≡ k * 2 ^ p + 2 ^ suc p
  carried k =
      ap fields_of (sym (pow-add 2 (suc p) k) ∙ ap (λ (z : ℕ). 2 ^ z) (let z : suc p + k ≡ p + suc k = omega arith in z) ∙ pow-add 2 p (suc k))
      ∙ full (2 ^ p) (suc k) (le_refl (2 ^ p)) (pow-lt (lt-suc_self p))
      ∙ ap (λ (z : ℕ). z + 2 ^ p) (suc-mul k (2 ^ p))
      ∙ add_assoc (k * 2 ^ p) (2 ^ p) (2 ^ p)
      ∙ ap (λ (z : ℕ). k * 2 ^ p + z) (sym (two-pow-succ p))

  fields_of_lem : (q k : ℕ) → q ≤ 2 ^ suc p → (k ≡ 0) ⊎ (2 ^ p ≤ q) → fields_of (q * 2 ^ k) ≡ k * 2 ^ p + q
  fields_of_lem q k h c = elim (eq-or-lt_of_le h) [
    | inl e ↦ subst (λ (z : ℕ). fields_of (z * 2 ^ k) ≡ k * 2 ^ p + z) (sym e) (carried k)
    | inr l ↦ elim c [
      | inl z ↦ subst (λ (j : ℕ). fields_of (q * 2 ^ j) ≡ j * 2 ^ p + q) (sym z) (ap fields_of (mul-one q) ∙ small q l)
      | inr a ↦ full q k a l
    ]
  ]

abbrev sign_of : Bool → ℕ
sign_of s = cond s (top binary32) 0

units_bits : (s : Bool) (q k : ℕ) → q ≤ 2 ^ 24 → (k ≡ 0) ⊎ (2 ^ 23 ≤ q) → q * 2 ^ k < 2 ^ 277 → to_bits binary32 (units binary32 s q k) ≡ sign_of s + (k * 2 ^ 23 + q)
units_bits s q k a b c =
    value_bits binary32 (units binary32 s q k) s (q * 2 ^ k) (units_val binary32 s q k c)
    ∙ add_assoc (sign_of s) ((size (q * 2 ^ k) - 24) * 2 ^ 23) (q * 2 ^ k / 2 ^ (size (q * 2 ^ k) - 24))
    ∙ ap (λ (z : ℕ). sign_of s + z) (fields_of_lem 23 q k a b)

infinite_bits : (s : Bool) → to_bits binary32 (inf s) ≡ sign_of s + 255 * 2 ^ 23
unfolding to_bits
infinite_bits s = refl

-- from 2 ^ 277 smallest values on
units_infinite : (s : Bool) (q k : ℕ) → 2 ^ 277 ≤ q * 2 ^ k → to_bits binary32 (units binary32 s q k) ≡ sign_of s + 255 * 2 ^ 23
unfolding units
units_infinite s q k h =
    ap (λ (b : Bool). to_bits binary32 (cond b (odd 25 s q k 149) (inf s))) (test_above (suc (q * 2 ^ k)) (2 ^ 277) (lt_of_le_of_lt h (lt-suc_self (q * 2 ^ k)))) ∙ infinite_bits s

-- ---- what rounding keeps, and how many digits it drops

kept_same : (q k l w j d : ℕ) → k + l + d ≡ w + j → closest (q * 2 ^ k * 2 ^ l) (2 ^ w * 2 ^ j) ≡ closest q (2 ^ d)
kept_same q k l w j d e =
    closest_same (q * 2 ^ k * 2 ^ l) (2 ^ w * 2 ^ j) q (2 ^ d) (mul-pos (pow_pos w) (pow_pos j)) (pow_pos d)
    (ap (λ (z : ℕ). z * 2 ^ d) (mul_assoc q (2 ^ k) (2 ^ l))
    ∙ mul_assoc q (2 ^ k * 2 ^ l) (2 ^ d)
    ∙ ap (λ (z : ℕ). q * z) (ap (λ (z : ℕ). z * 2 ^ d) (sym (pow-add 2 k l)) ∙ sym (pow-add 2 (k + l) d) ∙ ap (λ (z : ℕ). 2 ^ z) e ∙ pow-add 2 w j))

-- q * 2 ^ k of the longer format's smallest values, counted in the shorter one's
abbrev short : ℕ → ℕ → ℕ
short q k = q * 2 ^ k * 2 ^ 149 / 2 ^ 1074

rounded_units : (s : Bool) (q k j d : ℕ) → size (short q k) - 24 ≡ j → k + 149 + d ≡ 1074 + j → round binary32 s (q * 2 ^ k) (2 ^ 1074) ≡ units binary32 s (closest q (2 ^ d)) j
rounded_units s q k j d a e =
    round_is binary32 s (q * 2 ^ k) (2 ^ 1074)
    ∙ ap (λ (z : ℕ). units binary32 s (closest (q * 2 ^ k * 2 ^ 149) (2 ^ 1074 * 2 ^ z)) z) a
    ∙ ap (λ (z : ℕ). units binary32 s z j) (kept_same q k 149 1074 j d e)

few_digits : (q k l w j : ℕ) → q < 2 ^ 53 → 53 + k + l ≤ j + w → q * 2 ^ k * 2 ^ l / 2 ^ w < 2 ^ j
few_digits q k l w j h g = shr_lt j w (lt_of_lt_of_le (shl_lt (53 + k) l (shl_lt 53 k h)) (pow_mono g))

many_digits : (q k l w j : ℕ) → 2 ^ 52 ≤ q → j + w ≤ 52 + k + l → 2 ^ j ≤ q * 2 ^ k * 2 ^ l / 2 ^ w
many_digits q k l w j h g =
    (le-div_iff_mul-le (pow_pos w)).1
    (le_trans (le_of_eq (sym (pow-add 2 j w))) (le_trans (pow_mono g)
    (le_trans (le_of_eq (pow-add 2 (52 + k) l ∙ ap (λ (z : ℕ). z * 2 ^ l) (pow-add 2 52 k))) (mul-le-mul_right (2 ^ l) (mul-le-mul_right (2 ^ k) h)))))

none_dropped_lem : (q k : ℕ) → q < 2 ^ 53 → k ≤ 896 → size (short q k) - 24 ≡ 0
none_dropped_lem q k h g =
    no_more (size (short q k)) (size-le (short q k) 24 (few_digits q k 149 1074 24 h (let z : 53 + k + 149 ≤ 24 + 1074 = omega arith in z)))
  where
    no_more : (z : ℕ) → z ≤ 24 → z - 24 ≡ 0
    no_more z h = omega arith

some_dropped : (q k : ℕ) → q < 2 ^ 53 → 2 ^ 52 ≤ q → 896 ≤ k → size (short q k) - 24 ≡ k - 896
some_dropped q k h l g =
    so_many (size (short q k)) (size_is (short q k) (k - 873) (many_digits q k 149 1074 (k - 873) l low_enough) (few_digits q k 149 1074 (suc (k - 873)) h high_enough))
  where
    low_enough : k - 873 + 1074 ≤ 52 + k + 149
    low_enough = omega arith

    high_enough : 53 + k + 149 ≤ suc (k - 873) + 1074
    high_enough = omega arith

    so_many : (z : ℕ) → z ≡ suc (k - 873) → z - 24 ≡ k - 896
    so_many z e = omega arith

-- ---- bounds of what is kept

closest_high : (q j d : ℕ) → q < 2 ^ (j + d) → closest q (2 ^ d) ≤ 2 ^ j
closest_high q j d h = le_trans (nearest-le (q / 2 ^ d) (compare (q % 2 ^ d * 2) (2 ^ d))) (shr_lt j d h)

closest_low : (q j d : ℕ) → 2 ^ (j + d) ≤ q → 2 ^ j ≤ closest q (2 ^ d)
closest_low q j d h = le_trans ((le-div_iff_mul-le (pow_pos d)).1 (le_trans (le_of_eq (sym (pow-add 2 j d))) h)) (nearest-ge (q / 2 ^ d) (compare (q % 2 ^ d * 2) (2 ^ d)))

-- below half of a unit
closest_none : (q d : ℕ) → q * 2 < 2 ^ d → closest q (2 ^ d) ≡ 0
closest_none q d h =
    let l : q < 2 ^ d = lt_of_le_of_lt (twice q) h in
    ap (λ (z : ℕ). nearest z (compare (q % 2 ^ d * 2) (2 ^ d))) (div-eq_of_lt l)
    ∙ nearest_less 0 (q % 2 ^ d * 2) (2 ^ d) (subst (λ (z : ℕ). z * 2 < 2 ^ d) (sym (mod-eq_of_lt l)) h)
  where
    twice : (n : ℕ) → n ≤ n * 2
    twice n = omega arith

-- ---- the bits of a rounded magnitude, by its exponent

abbrev bits_rounded : Bool → ℕ → ℕ → ℕ
bits_rounded s q k = to_bits binary32 (round binary32 s (q * 2 ^ k) (2 ^ 1074))

low_exponent : (k : ℕ) → k ≤ 925 → k + 149 + (925 - k) ≡ 1074 + 0
low_exponent k h = omega arith

tiny_bits : (s : Bool) (q k : ℕ) → q < 2 ^ 53 → k < 872 → bits_rounded s q k ≡ sign_of s + 0
tiny_bits s q k h g =
    ap (to_bits binary32) (rounded_units s q k 0 (925 - k) (none_dropped_lem q k h (omega arith)) (low_exponent k (omega arith))
    ∙ ap (λ (z : ℕ). units binary32 s z 0) (closest_none q (925 - k) (lt_of_lt_of_le (shl_lt 53 1 h) (pow_mono (let z : 53 + 1 ≤ 925 - k = omega arith in z)))))
    ∙ units_bits s 0 0 (le_test 0 (2 ^ 24) refl) (inl refl) (le_test 1 (2 ^ 277) refl)

small_bits : (s : Bool) (q k : ℕ) → q < 2 ^ 53 → k < 896 → bits_rounded s q k ≡ sign_of s + closest q (2 ^ (925 - k))
small_bits s q k h g =
    let u : closest q (2 ^ (925 - k)) ≤ 2 ^ 24 = closest_high q 24 (925 - k) (lt_of_lt_of_le h (pow_mono (let z : 53 ≤ 24 + (925 - k) = omega arith in z))) in
    ap (to_bits binary32) (rounded_units s q k 0 (925 - k) (none_dropped_lem q k h (omega arith)) (low_exponent k (omega arith)))
    ∙ units_bits s (closest q (2 ^ (925 - k))) 0 u (inl refl) (lt_of_le_of_lt (le_of_eq (mul-one (closest q (2 ^ (925 - k))))) (lt_of_le_of_lt u (le_test (suc (2 ^ 24)) (2 ^ 277) refl)))
    ∙ ap (λ (z : ℕ). sign_of s + z) (zero_field (closest q (2 ^ (925 - k))))
  where
    zero_field : (n : ℕ) → 0 * 2 ^ 23 + n ≡ n
    zero_field n = omega arith

module _ (s : Bool) (q k : ℕ) (h : q < 2 ^ 53) (l : 2 ^ 52 ≤ q) (g : 896 ≤ k) where
  abbrev kept : ℕ
  kept = closest q (2 ^ 29)

  rounds : round binary32 s (q * 2 ^ k) (2 ^ 1074) ≡ units binary32 s kept (k - 896)
  rounds = rounded_units s q k (k - 896) 29 (some_dropped q k h l g) (let z : k + 149 + 29 ≡ 1074 + (k - 896) = omega arith in z)

  kept_high : kept ≤ 2 ^ 24
  kept_high = closest_high q 24 29 h

  kept_low : 2 ^ 23 ≤ kept
  kept_low = closest_low q 23 29 l

  large_bits : 1150 ≤ k → bits_rounded s q k ≡ sign_of s + 255 * 2 ^ 23
  large_bits m =
      ap (to_bits binary32) rounds
      ∙ units_infinite s kept (k - 896) (le_trans (pow_mono (let z : 277 ≤ 23 + (k - 896) = omega arith in z)) (le_trans (le_of_eq (pow-add 2 23 (k - 896))) (mul-le-mul_right (2 ^ (k - 896)) kept_low)))

  -- the bits of the last field, with a digit carried out of it, are an infinity's
  at_end : (j : ℕ) → j ≤ 253 → 2 ^ 277 ≤ kept * 2 ^ j → j * 2 ^ 23 + kept ≡ 255 * 2 ^ 23
  at_end j m e = last j (le_antisymm m (add-le_cancel_left 24 (power_back 277 (24 + j) (le_trans e (le_trans (mul-le-mul_right (2 ^ j) kept_high) (le_of_eq (sym (pow-add 2 24 j)))))))) e
    where
      last : (i : ℕ) → i ≡ 253 → 2 ^ 277 ≤ kept * 2 ^ i → i * 2 ^ 23 + kept ≡ 255 * 2 ^ 23
      last i z x =
          ap (λ (n : ℕ). n * 2 ^ 23 + kept) z
          ∙ ap (λ (n : ℕ). 253 * 2 ^ 23 + n) (le_antisymm kept_high (le_of_mul-le-mul_right (le_trans (le_of_eq (sym (pow-add 2 24 253))) (subst (λ (n : ℕ). 2 ^ 277 ≤ kept * 2 ^ n) z x)) (pow_pos 253)))

  normal_bits : k < 1150 → bits_rounded s q k ≡ sign_of s + ((k - 896) * 2 ^ 23 + kept)
  normal_bits m = ap (to_bits binary32) rounds ∙ go (leb (suc (kept * 2 ^ (k - 896))) (2 ^ 277)) refl
    where
      few : k - 896 ≤ 253
      few = omega arith

      go : (b : Bool) → leb (suc (kept * 2 ^ (k - 896))) (2 ^ 277) ≡ b → to_bits binary32 (units binary32 s kept (k - 896)) ≡ sign_of s + ((k - 896) * 2 ^ 23 + kept)
      go true e = units_bits s kept (k - 896) kept_high (inr kept_low) (le_test (suc (kept * 2 ^ (k - 896))) (2 ^ 277) e)
      go false e =
          let o : 2 ^ 277 ≤ kept * 2 ^ (k - 896) = le_of_suc-le-suc (not_le (suc (kept * 2 ^ (k - 896))) (2 ^ 277) e) in
          units_infinite s kept (k - 896) o ∙ ap (λ (z : ℕ). sign_of s + z) (sym (at_end (k - 896) few o))

-- ---- by the fields of 64 bits

value_narrows : (x : Float) (s : Bool) (a c : ℕ) → 0 < c → HasValue x s a c → narrowed x ≡ round binary32 s a c
unfolding narrowed
value_narrows nan s a c p v = absurd v
value_narrows (inf t) s a c p v = absurd v
value_narrows (fin t m e) s a c p v = ap (λ (b : Bool). round binary32 b (m * up e) (down e)) v.0 ∙ round_same binary32 s (m * up e) (down e) a c (down_pos e) p v.1

odd_narrows : (s : Bool) (q k : ℕ) → to_bits binary32 (narrowed (odd 53 s q k 1074)) ≡ bits_rounded s q k
odd_narrows s q k = ap (to_bits binary32) (value_narrows (odd 53 s q k 1074) s (q * 2 ^ k) (2 ^ 1074) (pow_pos 1074) (odd_sign 53 s q k 1074))

-- the cases of the size
module _ (field digits : ℕ) where
  pub size_tiny : field < 873 → narrowed_size field digits ≡ 0
  unfolding narrowed_size
  size_tiny h = if_true (ltb field 873) _ _ (test_le (suc field) 873 h)

  module _ (h : 873 ≤ field) where
    pub size_large : 1150 < field → narrowed_size field digits ≡ 255 * 2 ^ 23
    unfolding narrowed_size
    size_large g = if_false (ltb field 873) _ _ (test_above (suc field) 873 (lt_of_le_of_lt h (lt-suc_self field))) ∙ if_true (ltb 1150 field) _ _ (test_le 1151 field g)

    module _ (g : field ≤ 1150) where
      between : narrowed_size field digits
          ≡ (if ltb field 897 then closest (with_leading digits) (2 ^ (926 - field)) else ((field - 897) * 2 ^ 23 + closest (with_leading digits) (2 ^ 29)))
      unfolding narrowed_size
      between =
          if_false (ltb field 873) _ _ (test_above (suc field) 873 (lt_of_le_of_lt h (lt-suc_self field)))
          ∙ if_false (ltb 1150 field) _ _ (test_above 1151 field (lt_of_le_of_lt g (lt-suc_self 1150)))

      pub size_small : field < 897 → narrowed_size field digits ≡ closest (with_leading digits) (2 ^ (926 - field))
      size_small l = between ∙ if_true (ltb field 897) _ _ (test_le (suc field) 897 l)

      pub size_normal : 897 ≤ field → narrowed_size field digits ≡ (field - 897) * 2 ^ 23 + closest (with_leading digits) (2 ^ 29)
      size_normal l = between ∙ if_false (ltb field 897) _ _ (test_above (suc field) 897 (lt_of_le_of_lt l (lt-suc_self field)))

-- a magnitude with a leading digit
module _ (s : Bool) (k digits : ℕ) (h : digits < 2 ^ 52) where
  high : with_leading digits < 2 ^ 53
  high = omega arith

  leads : 2 ^ 52 ≤ with_leading digits
  leads = omega arith

  led_bits : bits_rounded s (with_leading digits) k ≡ sign_of s + narrowed_size (suc k) digits
  led_bits = go (ltb (suc k) 873) (ltb 1150 (suc k)) (ltb (suc k) 897) refl refl refl
    where
      to : {n : ℕ} → narrowed_size (suc k) digits ≡ n → bits_rounded s (with_leading digits) k ≡ sign_of s + n → bits_rounded s (with_leading digits) k ≡ sign_of s + narrowed_size (suc k) digits
      to e b = b ∙ ap (λ (z : ℕ). sign_of s + z) (sym e)

      go : (a b c : Bool) → ltb (suc k) 873 ≡ a → ltb 1150 (suc k) ≡ b → ltb (suc k) 897 ≡ c → bits_rounded s (with_leading digits) k ≡ sign_of s + narrowed_size (suc k) digits
      go true b c p q r = let x = le_test (suc (suc k)) 873 p in to (size_tiny (suc k) digits x) (tiny_bits s (with_leading digits) k high (omega arith))
      go false true c p q r =
          let x = not_le (suc (suc k)) 873 p in
          let y = le_test 1151 (suc k) q in
          to (size_large (suc k) digits (omega arith) y) (large_bits s (with_leading digits) k high leads (omega arith) (omega arith))
      go false false true p q r =
          let x = not_le (suc (suc k)) 873 p in
          let y = not_le 1151 (suc k) q in
          let z = le_test (suc (suc k)) 897 r in
          to (size_small (suc k) digits (omega arith) (omega arith) z)
          (small_bits s (with_leading digits) k high (omega arith) ∙ ap (λ (n : ℕ). sign_of s + closest (with_leading digits) (2 ^ n)) (let e : 925 - k ≡ 926 - suc k = omega arith in e))
      go false false false p q r =
          let x = not_le (suc (suc k)) 873 p in
          let y = not_le 1151 (suc k) q in
          let z = not_le (suc (suc k)) 897 r in
          to (size_normal (suc k) digits (omega arith) (omega arith) (omega arith))
          (normal_bits s (with_leading digits) k high leads (omega arith) (omega arith)
          ∙ ap (λ (n : ℕ). sign_of s + (n * 2 ^ 23 + closest (with_leading digits) (2 ^ 29))) (let e : k - 896 ≡ suc k - 897 = omega arith in e))

fields_narrow : (s : Bool) (field digits : ℕ) → digits < 2 ^ 52 → is_nan (of_fields binary64 s field digits) ≡ false
    → to_bits binary32 (narrowed (of_fields binary64 s field digits)) ≡ sign_of s + narrowed_size field digits
unfolding of_fields
fields_narrow s zero digits h n =
    odd_narrows s digits 0 ∙ tiny_bits s digits 0 (lt_of_lt_of_le h (le_test (2 ^ 52) (2 ^ 53) refl)) (le_test 1 872 refl)
    ∙ ap (λ (z : ℕ). sign_of s + z) (sym (size_tiny 0 digits (le_test 1 873 refl)))
fields_narrow s (suc k) digits h n = go (eqb (suc k) 2047) (eqb digits 0) refl n
  where
    go : (a b : Bool) → eqb (suc k) 2047 ≡ a → is_nan (cond a (cond b (inf s) nan) (odd 53 s (2 ^ 52 + digits) k 1074)) ≡ false
        → to_bits binary32 (narrowed (cond a (cond b (inf s) nan) (odd 53 s (2 ^ 52 + digits) k 1074))) ≡ sign_of s + narrowed_size (suc k) digits
    go true true p m =
        let e = eq_test (suc k) 2047 p in
        unfold narrowed in infinite_bits s ∙ ap (λ (z : ℕ). sign_of s + z) (sym (size_large (suc k) digits (omega arith) (omega arith)))
    go true false p m = unfold is_nan in absurd (true≢false m)
    go false b p m = odd_narrows s (2 ^ 52 + digits) k ∙ led_bits s k digits h

-- ---- by the bits

bits_narrow : (x : Float) → fits binary64 x ≡ true → is_nan x ≡ false → let b = to_bits binary64 x in
    to_bits binary32 (narrowed x) ≡ sign_of (leb (2 ^ 63) b) + narrowed_size (b % 2 ^ 63 / 2 ^ 52) (b % 2 ^ 52)
unfolding of_bits
bits_narrow x f n =
    let b = to_bits binary64 x in
    let e : of_fields binary64 (leb (2 ^ 63) b) (b % 2 ^ 63 / 2 ^ 52) (b % 2 ^ 52) ≡ x = of_bits-to_bits binary64 x (truly _ f) in
    ap (λ (y : Float). to_bits binary32 (narrowed y)) (sym e)
    ∙ fields_narrow (leb (2 ^ 63) b) (b % 2 ^ 63 / 2 ^ 52) (b % 2 ^ 52) (mod-lt b (pow_pos 52)) (ap is_nan e ∙ n)

-- a sign that is not set, and one that is
module _ (x : Float) (f : fits binary64 x ≡ true) (n : is_nan x ≡ false) where
  abbrev size_narrowed : ℕ
  size_narrowed = narrowed_size (to_bits binary64 x % 2 ^ 63 / 2 ^ 52) (to_bits binary64 x % 2 ^ 52)

  pub narrow_plus : to_bits binary64 x < 2 ^ 63 → size_narrowed ≡ to_bits binary32 (narrowed x)
  narrow_plus h = sym (bits_narrow x f n ∙ ap (λ (b : Bool). sign_of b + size_narrowed) (test_above (2 ^ 63) (to_bits binary64 x) h) ∙ zero-add size_narrowed)

  pub narrow_minus : 2 ^ 63 ≤ to_bits binary64 x → 2 ^ 31 + size_narrowed ≡ to_bits binary32 (narrowed x)
  narrow_minus h = sym (bits_narrow x f n ∙ ap (λ (b : Bool). sign_of b + size_narrowed) (test_le (2 ^ 63) (to_bits binary64 x) h))
