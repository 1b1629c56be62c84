-- A mark is one digit of one word: setting it leaves every other digit, and a set of both has the digits of both. The zeros at the top of a shifted word are digits with no mark.
use Prim.Native.Nat.{ℕ, zero, suc, ◌+◌, ◌*◌, ◌-◌, ◌/◌, ◌%◌, ◌^◌, ◌<◌, ◌≤◌}
use mathlib.Core.Bool.{Bool, true, false, ◌||◌, false≢true}
use mathlib.Core.List.{List, [], ◌∷◌}
use mathlib.Core.Logic.{inl, inr}
use mathlib.Core.Path.{◌≡◌, refl, sym, ap, ap₂, subst, ◌∙◌}
use native.Mathlib.Nat.{div_self, div-eq_of_lt, mod-lt, mod-eq_of_lt, one-mul, div-add-mod', eq-zero-or-pos, div-eq_of_eq-mul_left, lt_of_lt_of_le, le_trans, le_of_eq, pow-suc, mul_comm, mul-mod_left, le-div_iff_mul-le, div-lt_iff_lt-mul}
use native.Mathlib.Omega.{arith}
use lib.Bits.{bit_or, bit_and, and_mask, or_shr, or_mod, or_zero_r}
use lib.Count.{count_leading_zeros, leading_length, leading_top, leading_of_zero}
use lib.Dec.{eqb, ltb}
use lib.ListN.{length, get_or, length-set, replicate, get_or-eq_default}
use lib.Pow.{pow_pos, pow_mono, pow-lt, pow-add, shr-shr, shl-shr, field, mod-mod-pow}
use lib.Seq.{get_or-set_same, get_or-set_other}
use Rattle.rules.specs.Lists.{all, member}
use Rattle.rules.proofs.Laws.{eq_test, unlike_eq, and_left, and_right, or_none, le_test}
use Rattle.elements.specs.Marks.{bit, is_marked, marking, marking_all, NoneMarked, DownTo}

-- ---- a digit

pow_same : (b : ℕ) → bit (2 ^ b) b ≡ 1
pow_same b = rw (div_self (pow_pos b))

pow_below : (b c : ℕ) → b < c → bit (2 ^ b) c ≡ 0
pow_below b c h = rw (div-eq_of_lt (pow-lt h))

pow_above : (c d : ℕ) → bit (2 ^ (suc d + c)) c ≡ 0
pow_above c d = rw (div-eq_of_eq-mul_left {n = 2 ^ c} {k = 2 ^ suc d} (pow_pos c) (pow-add 2 (suc d) c), pow-suc, mul-mod_left)

pow_other : (b c : ℕ) → (c ≡ b → ⊥) → bit (2 ^ b) c ≡ 0
pow_other b c n = elim (eq-zero-or-pos (c - b)) [
  | inl e ↦ let s : suc (b - c - 1) + c ≡ b = omega arith in subst (λ (x : ℕ). bit (2 ^ x) c ≡ 0) s (pow_above c (b - c - 1))
  | inr l ↦ pow_below b c (omega arith)
]

bit_or_lem : (w v c : ℕ) → bit (bit_or w v) c ≡ bit_or (bit w c) (bit v c)
bit_or_lem w v c = ap (λ (x : ℕ). x % 2) (or_shr w v c) ∙ or_mod (w / 2 ^ c) (v / 2 ^ c) 1

with_one : (x : ℕ) → x < 2 → bit_or x 1 ≡ 1
with_one zero h = refl
with_one (suc zero) h = refl
with_one (suc (suc x)) h = absurd (omega arith)

set_bit : (w b : ℕ) → bit (bit_or w (2 ^ b)) b ≡ 1
set_bit w b = bit_or_lem w (2 ^ b) b ∙ ap (bit_or (bit w b)) (pow_same b) ∙ with_one (bit w b) (mod-lt (w / 2 ^ b) (omega arith))

other_bit : (w b c : ℕ) → (c ≡ b → ⊥) → bit (bit_or w (2 ^ b)) c ≡ bit w c
other_bit w b c n = bit_or_lem w (2 ^ b) c ∙ ap (bit_or (bit w c)) (pow_other b c n) ∙ or_zero_r (bit w c)

-- what the machine shifts
pub shifted : (b : ℕ) → b < 64 → 1 * 2 ^ b % 18446744073709551616 ≡ 2 ^ b
shifted b h = rw one-mul (mod-eq_of_lt (pow-lt {i = b} {j = 64} h))

pub low_digit : (x : ℕ) → bit_and x 1 ≡ x % 2
low_digit x = and_mask x 1

-- ---- one number marked

pub marking_long : (ws : List ℕ) (x : ℕ) → length (marking ws x) ≡ length ws
unfolding marking
marking_long ws x = length-set ws (x / 64) (bit_or (get_or ws (x / 64) 0) (2 ^ (x % 64)))

word_inside : (ws : List ℕ) (x : ℕ) → length ws ≡ 8 → x < 512 → x / 64 < length ws
word_inside ws x l h = omega (arith, l, h, div-add-mod' x 64)

split : (i j : ℕ) → (j ≡ i → ⊥) → j / 64 ≡ i / 64 → j % 64 ≡ i % 64 → ⊥
split i j n p q = n (omega (arith, div-add-mod' i 64, div-add-mod' j 64))

marked_same : (ws : List ℕ) (i : ℕ) → i / 64 < length ws → is_marked (marking ws i) i ≡ true
unfolding is_marked marking
marked_same ws i h = rw (get_or-set_same, set_bit)

marked_other : (ws : List ℕ) (i j : ℕ) → i / 64 < length ws → (j ≡ i → ⊥) → is_marked (marking ws i) j ≡ is_marked ws j
unfolding is_marked marking
marked_other ws i j h n = go (eqb (j / 64) (i / 64)) refl
  where
    go : (b : Bool) → eqb (j / 64) (i / 64) ≡ b → eqb (bit (get_or (marking ws i) (j / 64) 0) (j % 64)) 1 ≡ eqb (bit (get_or ws (j / 64) 0) (j % 64)) 1
    go true e =
        let p : j / 64 ≡ i / 64 = eq_test (j / 64) (i / 64) e in
        rw (p, get_or-set_same, other_bit (get_or ws (i / 64) 0) (i % 64) (j % 64) (split i j n p))
    go false e = rw (get_or-set_other ws (i / 64) (j / 64) (bit_or (get_or ws (i / 64) 0) (2 ^ (i % 64))) 0 (unlike_eq (j / 64) (i / 64) e))

-- exactly that number more
pub marked_one : (ws : List ℕ) (i x : ℕ) → length ws ≡ 8 → i < 512 → is_marked (marking ws i) x ≡ (eqb x i || is_marked ws x)
marked_one ws i x l h = go (eqb x i) refl
  where
    go : (b : Bool) → eqb x i ≡ b → is_marked (marking ws i) x ≡ (b || is_marked ws x)
    go true e = ap (is_marked (marking ws i)) (eq_test x i e) ∙ marked_same ws i (word_inside ws i l h)
    go false e = marked_other ws i x (word_inside ws i l h) (unlike_eq x i e)

-- ---- every number of a list marked

pub marking_all_long : (ws xs : List ℕ) → length (marking_all ws xs) ≡ length ws
unfolding marking_all
marking_all_long ws [] = refl
marking_all_long ws (x ∷ xs) = marking_all_long (marking ws x) xs ∙ marking_long ws x

pub or_turn : (a b c : Bool) → (a || (b || c)) ≡ ((b || a) || c)
or_turn true true c = refl
or_turn true false c = refl
or_turn false true c = refl
or_turn false false c = refl

pub marked_all : (ws xs : List ℕ) (x : ℕ) → length ws ≡ 8 → all (λ y. ltb y 512) xs ≡ true → is_marked (marking_all ws xs) x ≡ (member x xs || is_marked ws x)
unfolding marking_all
marked_all ws [] x l h = refl
marked_all ws (y ∷ ys) x l h =
    marked_all (marking ws y) ys x (marking_long ws y ∙ l) (and_right (ltb y 512) (all (λ z. ltb z 512) ys) h)
    ∙ ap (λ (b : Bool). member x ys || b) (marked_one ws y x l (le_test (suc y) 512 (and_left (ltb y 512) (all (λ z. ltb z 512) ys) h)))
    ∙ or_turn (member x ys) (eqb x y) (is_marked ws x)

-- ---- none marked

zero_bit : (b : ℕ) → bit 0 b ≡ 0
zero_bit b = rw (div-eq_of_lt (pow_pos b))

zeros_at : (n i : ℕ) → ◌≡◌ {A = ℕ} (get_or (replicate n 0) i 0) 0
zeros_at zero i = refl
zeros_at (suc n) zero = refl
zeros_at (suc n) (suc i) = zeros_at n i

word_zero : (ws : List ℕ) (x : ℕ) → get_or ws (x / 64) 0 ≡ 0 → is_marked ws x ≡ false
unfolding is_marked
word_zero ws x e = ap (λ (w : ℕ). eqb (bit w (x % 64)) 1) e ∙ ap (λ (d : ℕ). eqb d 1) (zero_bit (x % 64))

pub none_marked : (n : ℕ) → NoneMarked (replicate n 0)
none_marked n = record { of = λ x. word_zero (replicate n 0) x (zeros_at n (x / 64)) }

-- one number alone
pub marked_alone : (none ws : List ℕ) (i x : ℕ) → length none ≡ 8 → NoneMarked none → i < 512 → ws ≡ marking none i → is_marked ws x ≡ eqb x i
marked_alone none ws i x l n h q = ap (λ (v : List ℕ). is_marked v x) q ∙ marked_one none i x l h ∙ ap (λ (b : Bool). eqb x i || b) (n.of x) ∙ or_none (eqb x i)

-- past the room nothing is marked
pub marked_high : (ws : List ℕ) (x : ℕ) → length ws ≡ 8 → 512 ≤ x → is_marked ws x ≡ false
marked_high ws x l h = word_zero ws x (get_or-eq_default ws 0 (omega (arith, l, h, div-add-mod' x 64)))

-- ---- down to the next mark

-- the word, shifted until its digit b is the top one
abbrev topped : ℕ → ℕ → ℕ
topped w b = w * 2 ^ (63 - b) % 2 ^ 64

module _ (w b z : ℕ) (h : b < 64) (q : z ≡ count_leading_zeros 64 (topped w b)) where
  -- the digits of w from c up to b
  digits : (c : ℕ) → c ≤ b → topped w b / 2 ^ (63 - b + c) ≡ w / 2 ^ c % 2 ^ (b - c + 1)
  digits c l =
      ap (λ (n : ℕ). w * 2 ^ (63 - b) % 2 ^ n / 2 ^ (63 - b + c)) (let e : 64 ≡ b - c + 1 + (63 - b + c) = omega (arith, h, l) in e)
      ∙ field (w * 2 ^ (63 - b)) (b - c + 1) (63 - b + c)
      ∙ ap (λ (x : ℕ). x % 2 ^ (b - c + 1)) (sym (shr-shr (w * 2 ^ (63 - b)) (63 - b) c) ∙ ap (λ (x : ℕ). x / 2 ^ c) (shl-shr w (63 - b)))

  digit_is : (c : ℕ) → c ≤ b → bit w c ≡ topped w b / 2 ^ (63 - b + c) % 2
  digit_is c l = sym (mod-mod-pow (w / 2 ^ c) (b - c) 1) ∙ ap (λ (x : ℕ). x % 2) (sym (digits c l))

  -- no digit is set of as many as there are leading zeros, from b down
  zeros_from_lem : (c : ℕ) → c ≤ b → b < c + z → bit w c ≡ 0
  zeros_from_lem c l m =
      let n = leading_length 64 (topped w b) (mod-lt (w * 2 ^ (63 - b)) (pow_pos 64)) in
      let few : n.0 ≤ 63 - b + c = let s = n.1 in omega (arith, s, q, m, h) in
      digit_is c l ∙ ap (λ (x : ℕ). x % 2) (div-eq_of_lt (lt_of_lt_of_le n.2 (pow_mono few)))

  -- and the digit below them is
  one_below : z ≤ b → bit w (b - z) ≡ 1
  one_below l = digit_is (b - z) (omega arith) ∙ ap (λ (x : ℕ). x % 2) (ap (λ (n : ℕ). topped w b / 2 ^ n) place ∙ one)
    where
      some : 0 < topped w b
      some = elim (eq-zero-or-pos (topped w b)) [
        | inl e ↦ let f : z ≡ 64 = q ∙ ap (count_leading_zeros 64) e ∙ leading_of_zero 64 in absurd (omega (arith, f, l, h))
        | inr p ↦ p
      ]

      t : (j : ℕ) × (count_leading_zeros 64 (topped w b) + suc j ≡ 64) × (2 ^ j ≤ topped w b) × (topped w b < 2 ^ suc j)
      t = leading_top 64 (topped w b) some (mod-lt (w * 2 ^ (63 - b)) (pow_pos 64))

      place : 63 - b + (b - z) ≡ t.0
      place = let s = t.1 in omega (arith, s, q, l, h)

      one : topped w b / 2 ^ t.0 ≡ 1
      one =
          let a = (le-div_iff_mul-le {k = 2 ^ t.0} {x = 1} {y = topped w b} (pow_pos t.0)).1 (le_trans (le_of_eq (one-mul (2 ^ t.0))) t.2) in
          let d = (div-lt_iff_lt-mul {k = 2 ^ t.0} {x = topped w b} {y = 2} (pow_pos t.0)).1 (lt_of_lt_of_le t.3 (le_of_eq (pow-suc 2 t.0 ∙ mul_comm (2 ^ t.0) 2))) in
          omega (arith, a, d)

module _ (ws : List ℕ) (i z : ℕ) (q : z ≡ count_leading_zeros 64 (topped (get_or ws (i / 64) 0) (i % 64))) where
  low_part : i % 64 < 64
  low_part = mod-lt i (omega arith)

  -- what is passed over is not marked
  passed : (r : ℕ) → i ≤ r + i % 64 → i ≤ r + z → (x : ℕ) → r < x → x ≤ i → is_marked ws x ≡ false
  unfolding is_marked
  passed r m n x a b =
      let p = div-add-mod' x 64 in
      let o = div-add-mod' i 64 in
      let u : x % 64 < 64 = mod-lt x (omega arith) in
      let v = low_part in
      let word : x / 64 ≡ i / 64 = omega (arith, p, o, u, v, a, b, m) in
      ap (λ (j : ℕ). eqb (bit (get_or ws j 0) (x % 64)) 1) word
      ∙ ap (λ (d : ℕ). eqb d 1) (zeros_from_lem (get_or ws (i / 64) 0) (i % 64) z v q (x % 64) (omega (arith, p, o, word, b)) (omega (arith, p, o, word, a, n)))

  pub down_to_mark : z < i % 64 → DownTo ws i (i - z)
  unfolding is_marked
  down_to_mark l = record {
    low = omega arith;
    within = let o = div-add-mod' i 64 in omega (arith, o, l);
    none = passed (i - z) (let o = div-add-mod' i 64 in omega (arith, o, l)) (omega arith);
    stops = λ s. marked;
  }
    where
      word : (i - z) / 64 ≡ i / 64
      word =
          let o = div-add-mod' i 64 in
          let p = div-add-mod' (i - z) 64 in
          let u : (i - z) % 64 < 64 = mod-lt (i - z) (omega arith) in
          let v = low_part in
          omega (arith, o, p, u, v, l)

      digit : (i - z) % 64 ≡ i % 64 - z
      digit =
          let o = div-add-mod' i 64 in
          let p = div-add-mod' (i - z) 64 in
          let w = word in
          omega (arith, o, p, w, l)

      marked : is_marked ws (i - z) ≡ true
      marked =
          ap₂ (λ (j k : ℕ). eqb (bit (get_or ws j 0) k) 1) word digit
          ∙ ap (λ (d : ℕ). eqb d 1) (one_below (get_or ws (i / 64) 0) (i % 64) z low_part q (omega (arith, l)))

  pub down_to_first : i % 64 ≤ z → DownTo ws i (i - i % 64)
  down_to_first l =
      let o = div-add-mod' i 64 in
      record {
        low = omega arith;
        within = omega (arith, o);
        none = passed (i - i % 64) (omega arith) (omega (arith, l));
        stops = λ s. absurd (omega (arith, o, s));
      }

-- there is one such number
pub down_to_one : (ws : List ℕ) (i r s : ℕ) → DownTo ws i r → DownTo ws i s → r ≡ s
down_to_one ws i r s d e = elim (eq-zero-or-pos (s - r)) [
  | inr l ↦ absurd (apart r s d e (omega (arith, l)))
  | inl m ↦ elim (eq-zero-or-pos (r - s)) [
    | inr l ↦ absurd (apart s r e d (omega (arith, l)))
    | inl n ↦ omega (arith, m, n)
  ]
]
  where
    apart : (x y : ℕ) → DownTo ws i x → DownTo ws i y → x < y → ⊥
    apart x y f g l = let w = f.within in false≢true (sym (f.none y l g.low) ∙ g.stops (omega (arith, w, l)))
