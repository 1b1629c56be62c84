-- A word from mark to mark, and a set from word to word: the numbers that are left are the next one and those behind it.
use Prim.Native.Nat.{ℕ, suc, ◌+◌, ◌*◌, ◌-◌, ◌/◌, ◌^◌, ◌<◌, ◌≤◌}
use mathlib.Core.List.{List, [], ◌∷◌, ◌++◌}
use mathlib.Core.Path.{◌≡◌, refl, sym, ap, ap₂, subst, ◌∙◌}
use native.Mathlib.Nat.{div-div-eq-div-mul, div-lt_iff_lt-mul, pos_of_ne-zero}
use native.Mathlib.Omega.{arith}
use lib.Count.{count_trailing_zeros}
use lib.ListN.{get_or}
use lib.Pow.{pow_pos, pow-add}
use Rattle.elements.specs.Marks.{bits_from, words_from, marked_numbers}
use Rattle.elements.proofs.MemberLaws.{bits_none, first_bit, first_place}

-- ---- one word

-- left holds the digits from x on
pub record Leaving (base x left : ℕ) : Type 0 where
  pub low : base ≤ x
  pub span : x ≤ base + 64
  pub fits : left < 2 ^ (base + 64 - x)

-- and these are their numbers
abbrev pub numbers_left : ℕ → ℕ → ℕ → List ℕ
numbers_left base x left = bits_from (base + 64 - x) left x

module _ (base word : ℕ) where
  whole : 64 ≡ base + 64 - base
  whole = omega arith

  pub leaving_start : word < 2 ^ 64 → Leaving base base word
  leaving_start h = record { low = omega arith; span = omega arith; fits = subst (λ (k : ℕ). word < 2 ^ k) whole h }

  pub all_left : bits_from 64 word base ≡ numbers_left base base word
  all_left = ap (λ (k : ℕ). bits_from k word base) whole

pub none_left : (base x left : ℕ) → left ≡ 0 → numbers_left base x left ≡ []
none_left base x left e = ap (λ (w : ℕ). bits_from (base + 64 - x) w x) e ∙ bits_none (base + 64 - x) x

module _ (base x left : ℕ) (i : Leaving base x left) (z : ℕ) (q : z ≡ count_trailing_zeros 64 left) (n : left ≡ 0 → ⊥) where
  abbrev width : ℕ
  width = base + 64 - x

  some : 0 < left
  some = pos_of_ne-zero n

  placed : (z ≡ count_trailing_zeros width left) × (count_trailing_zeros width left < width)
  placed = let s = i.low in let f = first_place width 64 left i.fits some (omega (arith, s)) in (q ∙ f.0, f.1)

  pub next_inside : x + z < base + 64
  next_inside = let e = placed.0 in let f = placed.1 in let s = i.span in omega (arith, e, f, s)

  shifts : left / 2 ^ (z + 1) ≡ left / 2 ^ z / 2 ^ 1
  shifts = ap (λ (m : ℕ). left / m) (pow-add 2 z 1) ∙ sym (div-div-eq-div-mul left (2 ^ z) (2 ^ 1))

  pub next_left : numbers_left base x left ≡ (x + z) ∷ numbers_left base (x + z + 1) (left / 2 ^ z / 2 ^ 1)
  next_left =
      first_bit width left x i.fits some
      ∙ ap (λ (y : ℕ). (x + y) ∷ bits_from (width - (y + 1)) (left / 2 ^ (y + 1)) (x + y + 1)) (sym placed.0)
      ∙ ap₂ (λ (k w : ℕ). (x + z) ∷ bits_from k w (x + z + 1)) (let e : width - (z + 1) ≡ base + 64 - (x + z + 1) = omega arith in e) shifts

  pub leaving_next : Leaving base (x + z + 1) (left / 2 ^ z / 2 ^ 1)
  leaving_next = record {
    low = let b = i.low in omega (arith, b);
    span = let h = next_inside in omega (arith, h);
    fits =
        let h = next_inside in
        let e : width ≡ base + 64 - (x + z + 1) + (z + 1) = omega (arith, h) in
        subst (λ (v : ℕ). v < 2 ^ (base + 64 - (x + z + 1))) shifts
        ((div-lt_iff_lt-mul {k = 2 ^ (z + 1)} {x = left} {y = 2 ^ (base + 64 - (x + z + 1))} (pow_pos (z + 1))).1
        (subst (λ (v : ℕ). left < v) (ap (λ (k : ℕ). 2 ^ k) e ∙ pow-add 2 (base + 64 - (x + z + 1)) (z + 1)) i.fits));
  }

-- ---- all words

pub words_whole : (ws : List ℕ) → marked_numbers ws ≡ words_from (8 - 0) 0 ws
unfolding marked_numbers
words_whole ws = refl

words_on : (n j : ℕ) (ws : List ℕ) → words_from (suc n) j ws ≡ bits_from 64 (get_or ws j 0) (j * 64) ++ words_from n (j + 1) ws
unfolding words_from
words_on n j ws = refl

words_end : (j : ℕ) (ws : List ℕ) → words_from 0 j ws ≡ []
unfolding words_from
words_end j ws = refl

module _ (ws : List ℕ) (w : ℕ) where
  pub next_word : w < 8 → words_from (8 - w) w ws ≡ bits_from 64 (get_or ws w 0) (w * 64) ++ words_from (8 - (w + 1)) (w + 1) ws
  next_word less = ap (λ (n : ℕ). words_from n w ws) (let q : 8 - w ≡ suc (8 - (w + 1)) = omega (arith, less) in q) ∙ words_on (8 - (w + 1)) w ws

  pub no_words : w ≡ 8 → words_from (8 - w) w ws ≡ []
  no_words e = ap (λ (n : ℕ). words_from n w ws) (let q : 8 - w ≡ 0 = omega (arith, e) in q) ∙ words_end w ws
