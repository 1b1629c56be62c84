-- The numbers of a set are those that are marked, in rising order; there are as many as digits that are 1; and trailing zeros lead to the lowest.
-- The width of a word is a variable here: a list of 64 entries is never written out.
use Rattle.std.specs.Prelude.{if◌then◌else◌}
use Prim.Native.Nat.{ℕ, zero, suc, ◌+◌, ◌*◌, ◌-◌, ◌/◌, ◌%◌, ◌^◌, ◌<◌, ◌≤◌}
use mathlib.Core.Bool.{Bool, true, false, false≢true}
use mathlib.Core.List.{List, [], ◌∷◌, ◌++◌, append-nil}
use mathlib.Core.Path.{◌≡◌, refl, sym, ap, ap₂, ◌∙◌}
use native.Mathlib.Numerals.{add-one}
use native.Mathlib.Nat.{mod-lt, div-add-mod', div-div-eq-div-mul, pow-succ', div-lt_iff_lt-mul, pow-suc, pow-zero, div-one, add-mul, one-mul, suc-mul}
use native.Mathlib.Omega.{arith}
use lib.Count.{ones, ones_step, count_trailing_zeros, under}
use lib.Dec.{eqb, ltb}
use lib.ListN.{length, get_or}
use Rattle.rules.specs.Lists.{all, keep, member, up_from, up_to}
use Rattle.rules.proofs.Common.{member_kept}
use Rattle.rules.proofs.Growing.{keep_append}
use Rattle.rules.proofs.Laws.{le_test, not_le}
use Rattle.rules.proofs.VertexSet.{keep_all, up_under}
use Rattle.elements.specs.Marks.{bit, is_marked, put, bits_from, words_from, marked_numbers}

-- ---- what is kept of numbers that rise

keep_same : (p q : ℕ → Bool) → ((x : ℕ) → p x ≡ q x) → (xs : List ℕ) → keep p xs ≡ keep q xs
keep_same p q h [] = refl
keep_same p q h (x ∷ xs) = ap₂ (λ (b : Bool) (ys : List ℕ). if b then x ∷ ys else ys) (h x) (keep_same p q h xs)

keep_none : (p : ℕ → Bool) (k n : ℕ) → ((x : ℕ) → k ≤ x → p x ≡ false) → keep p (up_from k n) ≡ []
keep_none p k zero h = refl
keep_none p k (suc n) h =
    ap (λ (b : Bool). if b then k ∷ keep p (up_from (suc k) n) else keep p (up_from (suc k) n)) (h k (omega arith))
    ∙ keep_none p (suc k) n (λ x l. h x (omega (arith, l)))

-- of what holds of none from n on, what it holds of is below n
pub true_below : (p : ℕ → Bool) (n : ℕ) → ((x : ℕ) → n ≤ x → p x ≡ false) → (x : ℕ) → p x ≡ true → x < n
true_below p n h x e = go (ltb x n) refl
  where
    go : (b : Bool) → ltb x n ≡ b → x < n
    go true q = le_test (suc x) n q
    go false q = absurd (false≢true (sym (h x (let k = not_le (suc x) n q in omega (arith, k))) ∙ e))

up_split : (k m n : ℕ) → up_from k (m + n) ≡ up_from k m ++ up_from (k + m) n
up_split k zero n = ap₂ up_from (let q : k ≡ k + 0 = omega arith in q) (let q : 0 + n ≡ n = omega arith in q)
up_split k (suc m) n =
    ap (up_from k) (let q : suc m + n ≡ suc (m + n) = omega arith in q)
    ∙ ap (λ (xs : List ℕ). k ∷ xs) (up_split (suc k) m n ∙ ap (λ (j : ℕ). up_from (suc k) m ++ up_from j n) (let q : suc k + m ≡ k + suc m = omega arith in q))

-- ---- a word's digits

one_or_none : (d x : ℕ) (xs : List ℕ) → d < 2 → put d x xs ≡ (if eqb d 1 then x ∷ xs else xs)
one_or_none zero x xs h = refl
one_or_none (suc zero) x xs h = refl
one_or_none (suc (suc d)) x xs h = absurd (omega (arith, h))

bit_next : (w b : ℕ) → bit w (suc b) ≡ bit (w / 2) b
bit_next w b = ap (λ (m : ℕ). w / m % 2) (pow-succ' 2 b) ∙ ap (λ (v : ℕ). v % 2) (sym (div-div-eq-div-mul w 2 (2 ^ b)))

bit_first : (w : ℕ) → bit w 0 ≡ w % 2
bit_first w = ap (λ (m : ℕ). w / m % 2) (pow-zero 2) ∙ ap (λ (v : ℕ). v % 2) (div-one w)

bits_keep : (p : ℕ → Bool) (k w base : ℕ) → ((b : ℕ) → b < k → p (base + b) ≡ eqb (bit w b) 1) → bits_from k w base ≡ keep p (up_from base k)
unfolding bits_from
bits_keep p zero w base h = refl
bits_keep p (suc k) w base h =
    one_or_none (w % 2) base (bits_from k (w / 2) (base + 1)) (mod-lt w (omega arith))
    ∙ ap₂ (λ (c : Bool) (ys : List ℕ). if c then base ∷ ys else ys) first
    (ap (bits_from k (w / 2)) (add-one base)
    ∙ bits_keep p k (w / 2) (suc base) (λ b l. ap p (let q : suc base + b ≡ base + suc b = omega arith in q) ∙ h (suc b) (omega (arith, l)) ∙ ap (λ (d : ℕ). eqb d 1) (bit_next w b)))
  where
    first : eqb (w % 2) 1 ≡ p base
    first = ap (λ (d : ℕ). eqb d 1) (sym (bit_first w)) ∙ sym (h 0 (omega arith)) ∙ ap p (let q : base + 0 ≡ base = omega arith in q)

-- ---- all words

marked_at : (ws : List ℕ) (j b : ℕ) → b < 64 → is_marked ws (j * 64 + b) ≡ eqb (bit (get_or ws j 0) b) 1
unfolding is_marked
marked_at ws j b h =
    let x = j * 64 + b in
    let e = div-add-mod' x 64 in
    let l = mod-lt x (let z : 0 < 64 = omega arith in z) in
    let d : x / 64 ≡ j = omega (arith, e, l, h) in
    let m : x % 64 ≡ b = omega (arith, e, l, h) in
    ap₂ (λ (i c : ℕ). eqb (bit (get_or ws i 0) c) 1) d m

word_keep : (ws : List ℕ) (q : ℕ) → 64 ≡ q → (j : ℕ) → bits_from 64 (get_or ws j 0) (j * 64) ≡ keep (is_marked ws) (up_from (j * q) q)
word_keep ws q e j = ap (λ (m : ℕ). bits_from m (get_or ws j 0) (j * m)) e ∙ bits_keep (is_marked ws) q (get_or ws j 0) (j * q) at
  where
    at : (b : ℕ) → b < q → is_marked ws (j * q + b) ≡ eqb (bit (get_or ws j 0) b) 1
    at b l = ap (λ (m : ℕ). is_marked ws (j * m + b)) (sym e) ∙ marked_at ws j b (omega (arith, l, e))

words_keep : (ws : List ℕ) (q : ℕ) → 64 ≡ q → (n j : ℕ) → words_from n j ws ≡ keep (is_marked ws) (up_from (j * q) (n * q))
unfolding words_from
words_keep ws q e zero j = ap (λ (m : ℕ). keep (is_marked ws) (up_from (j * q) m)) (let z : 0 ≡ 0 * q = omega arith in z)
words_keep ws q e (suc n) j =
    ap₂ (λ (a b : List ℕ). a ++ b) (word_keep ws q e j) (words_keep ws q e n (j + 1) ∙ ap (λ (m : ℕ). keep (is_marked ws) (up_from m (n * q))) (next j))
    ∙ sym (keep_append (is_marked ws) (up_from (j * q) q) (up_from (j * q + q) (n * q)))
    ∙ ap (keep (is_marked ws)) (sym (up_split (j * q) q (n * q)) ∙ ap (up_from (j * q)) (more n))
  where
    next : (i : ℕ) → (i + 1) * q ≡ i * q + q
    next i = add-mul i 1 q ∙ ap (λ (m : ℕ). i * q + m) (one-mul q)

    more : (i : ℕ) → q + i * q ≡ suc i * q
    more i = let s = suc-mul i q in omega (arith, s)

-- the numbers of a word, and of all words, are marked
module _ (ws : List ℕ) (x : ℕ) where
  pub word_marked : (j : ℕ) → member x (bits_from 64 (get_or ws j 0) (j * 64)) ≡ true → is_marked ws x ≡ true
  word_marked j h = go 64 refl
    where
      go : (q : ℕ) → 64 ≡ q → is_marked ws x ≡ true
      go q e = (member_kept (is_marked ws) (up_from (j * q) q) x (sym (ap (member x) (word_keep ws q e j)) ∙ h)).1

  pub members_marked : member x (marked_numbers ws) ≡ true → is_marked ws x ≡ true
  unfolding marked_numbers
  members_marked h = go 64 refl
    where
      go : (q : ℕ) → 64 ≡ q → is_marked ws x ≡ true
      go q e = (member_kept (is_marked ws) (up_from (0 * q) (8 * q)) x (sym (ap (member x) (words_keep ws q e 8 0)) ∙ h)).1

words_are : (ws : List ℕ) (q n : ℕ) (p : ℕ → Bool) → 64 ≡ q → n ≤ 8 * q → ((x : ℕ) → is_marked ws x ≡ p x) → ((x : ℕ) → n ≤ x → p x ≡ false) → words_from 8 0 ws ≡ keep p (up_to n)
words_are ws q n p e l same high =
    words_keep ws q e 8 0
    ∙ keep_same (is_marked ws) p same (up_from (0 * q) (8 * q))
    ∙ ap₂ (λ (a b : ℕ). keep p (up_from a b)) (let z : 0 * q ≡ 0 = omega arith in z) (let z : 8 * q ≡ n + (8 * q - n) = omega (arith, l) in z)
    ∙ ap (keep p) (up_split 0 n (8 * q - n))
    ∙ keep_append p (up_from 0 n) (up_from (0 + n) (8 * q - n))
    ∙ ap (λ (xs : List ℕ). keep p (up_from 0 n) ++ xs) (keep_none p (0 + n) (8 * q - n) (λ x h. high x (omega (arith, h))))
    ∙ append-nil (keep p (up_from 0 n))

-- the numbers of a set of what p holds of, where it holds of none from n on
pub members_are : (ws : List ℕ) (n : ℕ) (p : ℕ → Bool) → n ≤ 512 → ((x : ℕ) → is_marked ws x ≡ p x) → ((x : ℕ) → n ≤ x → p x ≡ false) → marked_numbers ws ≡ keep p (up_to n)
unfolding marked_numbers
members_are ws n p l same high = words_are ws 64 n p refl l same high

words_low : (ws : List ℕ) (q : ℕ) → 64 ≡ q → all (λ x. ltb x 512) (words_from 8 0 ws) ≡ true
words_low ws q e =
    ap (all (λ x. ltb x 512)) (words_keep ws q e 8 0)
    ∙ keep_all (λ x. ltb x 512) (is_marked ws) (up_from (0 * q) (8 * q)) (up_under (0 * q) (8 * q) 512 (omega (arith, e)))

pub members_low : (ws : List ℕ) → all (λ x. ltb x 512) (marked_numbers ws) ≡ true
unfolding marked_numbers
members_low ws = words_low ws 64 refl

-- ---- how many, and the lowest

half_fits : (k w : ℕ) → w < 2 ^ suc k → w / 2 < 2 ^ k
half_fits k w h = (div-lt_iff_lt-mul {k = 2} {x = w} {y = 2 ^ k} (omega arith)).1 (rw (← pow-suc 2 k) h)

put_length : (d x : ℕ) (xs : List ℕ) → d < 2 → length (put d x xs) ≡ d + length xs
put_length zero x xs h = omega arith
put_length (suc zero) x xs h = omega arith
put_length (suc (suc d)) x xs h = absurd (omega (arith, h))

pub ones_listed : (k w base : ℕ) → w < 2 ^ k → length (bits_from k w base) ≡ ones w
unfolding bits_from ones
ones_listed zero w base h = ap ones (let q : 0 ≡ w = omega (arith, h, pow-zero 2) in q)
ones_listed (suc k) w base h =
    put_length (w % 2) base (bits_from k (w / 2) (base + 1)) (mod-lt w (omega arith))
    ∙ ap (λ (n : ℕ). w % 2 + n) (ones_listed k (w / 2) (base + 1) (half_fits k w h))
    ∙ sym (ones_step w)

pub bits_none : (k base : ℕ) → bits_from k 0 base ≡ []
unfolding bits_from
bits_none zero base = refl
bits_none (suc k) base = bits_none k (base + 1)

-- the lowest number, and those above it
abbrev rest : ℕ → ℕ → ℕ → ℕ → List ℕ
rest k w base z = (base + z) ∷ bits_from (k - (z + 1)) (w / 2 ^ (z + 1)) (base + z + 1)

pub first_bit : (k w base : ℕ) → w < 2 ^ k → 0 < w → bits_from k w base ≡ rest k w base (count_trailing_zeros k w)
unfolding bits_from count_trailing_zeros
first_bit zero w base h p = absurd (omega (arith, pow-zero 2))
first_bit (suc k) w base h p = go (w % 2) refl (λ q. first_bit k (w / 2) (base + 1) (half_fits k w h) q)
  where
    go : (d : ℕ) → w % 2 ≡ d → (0 < w / 2 → bits_from k (w / 2) (base + 1) ≡ rest k (w / 2) (base + 1) (count_trailing_zeros k (w / 2)))
        → put d base (bits_from k (w / 2) (base + 1)) ≡ rest (suc k) w base (under d (count_trailing_zeros k (w / 2)))
    go zero e ih =
        let q : 0 < w / 2 = omega (arith, div-add-mod' w 2) in
        let z = count_trailing_zeros k (w / 2) in
        let a : base + 1 + z ≡ base + suc z = omega arith in
        let b : k - (z + 1) ≡ suc k - (suc z + 1) = omega arith in
        let s : w / 2 / 2 ^ (z + 1) ≡ w / 2 ^ (suc z + 1) = div-div-eq-div-mul w 2 (2 ^ (z + 1)) ∙ ap (λ (m : ℕ). w / m) (sym (pow-succ' 2 (z + 1)) ∙ ap (λ (m : ℕ). 2 ^ m) (omega arith)) in
        ih q ∙ rw (a, b, s)
    go (suc d) e ih = let a : base + 0 ≡ base = omega arith in let b : suc k - (0 + 1) ≡ k = omega arith in rw (a, b)

-- a word that is not zero has its lowest digit among those it fits, however many are looked at
pub first_place : (k m w : ℕ) → w < 2 ^ k → 0 < w → k ≤ m → (count_trailing_zeros m w ≡ count_trailing_zeros k w) × (count_trailing_zeros k w < k)
unfolding count_trailing_zeros
first_place zero m w h p l = absurd (omega (arith, pow-zero 2))
first_place (suc k) zero w h p l = absurd (omega (arith, l))
first_place (suc k) (suc m) w h p l = go (w % 2) refl (λ q. first_place k m (w / 2) (half_fits k w h) q (omega (arith, l)))
  where
    go : (d : ℕ) → w % 2 ≡ d → (0 < w / 2 → (count_trailing_zeros m (w / 2) ≡ count_trailing_zeros k (w / 2)) × (count_trailing_zeros k (w / 2) < k))
        → (under d (count_trailing_zeros m (w / 2)) ≡ under d (count_trailing_zeros k (w / 2))) × (under d (count_trailing_zeros k (w / 2)) < suc k)
    go zero e ih = let r = ih (omega (arith, div-add-mod' w 2)) in let l = r.1 in (ap suc r.0, omega (arith, l))
    go (suc d) e ih = (refl, omega arith)
