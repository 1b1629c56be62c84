-- A little-endian number is its first byte and, above it, the number of the rest; zeros behind it add nothing.
use Rattle.std.proofs.Common.{ℕ, zero, suc, ◌+◌, ◌*◌, ◌^◌, ◌≤◌, ◌<◌, ◌≡◌, refl, ap, ◌∙◌, List, [], ◌∷◌, ◌++◌, length, get_or, take, drop, replicate, length-append, length-drop, arith}
use Rattle.std.specs.Int.{w64, from_le_bytes}
use lib.ListN.{drop_of_length-le}
use lib.Seq.{length-take-le}
use native.Mathlib.Nat.{pow-suc}
use Rattle.std.proofs.lemmas.List.{get_or-drop}
use Rattle.rules.specs.Bytes.{little_endian, number_at}

-- the byte at i, and the number above it
step : (i : ℕ) (xs : List ℕ) → little_endian (drop i xs) ≡ get_or xs i 0 + 256 * little_endian (drop (suc i) xs)
step zero [] = refl
step zero (x ∷ xs) = refl
step (suc i) [] = refl
step (suc i) (x ∷ xs) = step i xs

-- the number of eight bytes
word_is : (word : List ℕ) → length word ≡ 8 → from_le_bytes w64 word ≡ little_endian word
word_is word h =
    let e = ap little_endian (drop_of_length-le word {i = 8} (omega (arith, h))) in
    omega (arith, e, step 0 word, step 1 word, step 2 word, step 3 word, step 4 word, step 5 word, step 6 word, step 7 word)

zeros_are : (k : ℕ) → little_endian (drop k (replicate 8 0)) ≡ 0
zeros_are k = go k (replicate 8 0) refl
  where
    go : (k : ℕ) (xs : List ℕ) → little_endian xs ≡ 0 → little_endian (drop k xs) ≡ 0
    go zero xs h = h
    go (suc k) [] h = refl
    go (suc k) (x ∷ xs) h = go k xs (omega (arith, h))

zeros_add : (bytes zeros : List ℕ) → little_endian zeros ≡ 0 → little_endian (bytes ++ zeros) ≡ little_endian bytes
zeros_add [] zeros h = h
zeros_add (b ∷ bytes) zeros h = ap (λ (n : ℕ). b + 256 * n) (zeros_add bytes zeros h)

-- the number of k bytes is below the power of 256 that they reach
below : (k : ℕ) (xs : List ℕ) → ((i : ℕ) → get_or xs i 0 < 256) → little_endian (take k xs) < 256 ^ k
below zero xs h = omega arith
below (suc k) [] h =
    let r = below k [] h in
    let p = pow-suc 256 k in
    omega (arith, r, p)
below (suc k) (x ∷ xs) h =
    let l = h 0 in
    let r = below k xs (λ i. h (suc i)) in
    let p = pow-suc 256 k in
    omega (arith, l, r, p)

pub number_below : (k at : ℕ) (bytes : List ℕ) → ((i : ℕ) → get_or bytes i 0 < 256) → number_at k at bytes < 256 ^ k
number_below k at bytes h = below k (drop at bytes) (λ i. rw get_or-drop (h (at + i)))

-- so a word whose front is k bytes, with zeros behind them, is their number
pub word_of : (bytes front : List ℕ) (at k n : ℕ) → front ≡ take n (drop at bytes) → n ≡ k → at + k ≤ length bytes → k ≤ 8 → from_le_bytes w64 (front ++ drop k (replicate 8 0)) ≡ number_at k at bytes
word_of bytes front at k n e m w h =
    word_is (front ++ drop k (replicate 8 0))
    (let l = ap length e in let t = length-take-le n (drop at bytes) (simp length-drop (omega arith)) in simp (length-append, length-drop) (omega arith))
    ∙ zeros_add front (drop k (replicate 8 0)) (zeros_are k)
    ∙ ap little_endian e
    ∙ ap (λ (j : ℕ). little_endian (take j (drop at bytes))) m
