-- Rows word by word, for the loops over them: a run of stores, a comparison of two rows, and the search for a row.
use Prim.Native.Nat.{ℕ, ◌+◌, ◌≤◌, ◌<◌}
use mathlib.Core.Bool.{Bool, true, false, ◌&&◌}
use mathlib.Core.List.{List, ◌++◌, map, [], ◌∷◌, append_assoc}
use borrow.Rule.Slice.PartMut.{put_mid}
use Rattle.std.proofs.Common.{drop-drop}
use mathlib.Core.Path.{◌≡◌, ◌∙◌, ap, ap₂, sym, refl}
use native.Mathlib.Nat.{le_of_lt, le_of_eq, le_trans}
use native.Mathlib.Numerals.{add-one}
use native.Mathlib.Omega.{arith}
use lib.Bits.{bit_or, bit_xor}
use lib.Dec.{eqb}
use lib.ListN.{set, length, take, drop, get_or, length-drop}
use lib.Seq.{sets, paste, length-take-le, sets-eq, paste-suc, take_all, get_or-take, get_or-drop}
use Rattle.rules.specs.Lists.{alike, find, rows}
use Rattle.rules.proofs.Indexed.{alike_go, alike_no, alike_end, sought_from, sought_start}
use Rattle.rules.proofs.Laws.{refute, unlike_eq}
use Rattle.rules.proofs.Selves.{alike_eq}
use Rattle.space.proofs.NoBits.{no_bits, no_difference}
use Rattle.std.specs.Prelude.{Option}

module _ {A : Type 0} where
  -- a run of stores is a copy
  pub sets_paste : (l : List A) (at : ℕ) (s : List A) (j : ℕ) → at + j ≤ length l → j ≤ length s → sets l at (take j s) ≡ paste l at s j
  sets_paste l at s j h k =
      let e = length-take-le j s k in
      sets-eq (take j s) l at (let z : at + length (take j s) ≤ length l = omega (arith, e, h) in z)
      ∙ ap (λ (n : ℕ). take at l ++ take j s ++ drop (at + n) l) e

  pub sets_more : (l : List A) (at : ℕ) (s : List A) (j : ℕ) (z : A) → at + j < length l → j < length s → set (sets l at (take j s)) (at + j) (get_or s j z) ≡ sets l at (take (j + 1) s)
  sets_more l at s j z h k =
      ap (λ (m : List A). set m (at + j) (get_or s j z)) (sets_paste l at s j (le_of_lt h) (le_of_lt k))
      ∙ paste-suc l at s j z h k
      ∙ ap (paste l at s) (sym (add-one j))
      ∙ sym (sets_paste l at s (j + 1) (let q : at + (j + 1) ≤ length l = omega arith in q) (let q : j + 1 ≤ length s = omega arith in q))

  -- a part with a list of its length in its place
  pub part_stored : (l part s : List A) (at n : ℕ) → at + length s ≤ length l → n ≡ length s → part ≡ s → put_mid at n l part ≡ sets l at s
  part_stored l part s at n h m e =
      ap (put_mid at n l) e
      ∙ ap (λ (xs : List A). take at l ++ (s ++ xs)) (drop-drop n at l ∙ ap (λ (j : ℕ). drop j l) (let q : at + n ≡ at + length s = omega (arith, m) in q))
      ∙ sym (sets-eq s l at h ∙ append_assoc (take at l) s (drop (at + length s) l))

  pub sets_all : (l : List A) (at : ℕ) (s : List A) (n : ℕ) → length s ≡ n → sets l at (take n s) ≡ sets l at s
  sets_all l at s n e = ap (sets l at) (take_all n s (le_of_eq e))

module _ {A : Type 0} where
  map_same : (xs : List A) → map (λ x. x) xs ≡ xs
  map_same [] = refl
  map_same (x ∷ xs) = ap (λ (l : List A). x ∷ l) (map_same xs)

-- two rows of 36 words, as the code has them
module _ (es words : List ℕ) (at from : ℕ) (r : from + 36 ≤ length words) (h : at + 36 ≤ length es) where
  abbrev row_in : List ℕ → ℕ → List ℕ
  row_in l i = take 36 (drop i l)

  part_long : (l : List ℕ) (i : ℕ) → i + 36 ≤ length l → length (row_in l i) ≡ 36
  part_long l i k = length-take-le 36 (drop i l) (let e = length-drop i l in let q : 36 ≤ length (drop i l) = omega (arith, e, k) in q)

  in_part : (l : List ℕ) (i : ℕ) → i + 36 ≤ length l → (j : ℕ) → j < 36 → j < length (row_in l i)
  in_part l i k j m = let e = part_long l i k in omega (arith, e, m)

  part_word : (l : List ℕ) (i j : ℕ) → j < 36 → get_or (row_in l i) j 0 ≡ get_or l (i + j) 0
  part_word l i j k = get_or-take 36 (drop i l) j 0 k ∙ get_or-drop i l j 0

  word : (j : ℕ) → j < 36 → eqb (get_or (row_in words from) j 0) (get_or (row_in es at) j 0) ≡ eqb (get_or words (from + j) 0) (get_or es (at + j) 0)
  word j k = ap₂ eqb (part_word words from j k) (part_word es at j k)

  -- rows that differ in one word are not alike
  pub unlike_at : (j : ℕ) → j < 36 → eqb (get_or words (from + j) 0) (get_or es (at + j) 0) ≡ false → false ≡ alike eqb (row_in words from) (row_in es at)
  unlike_at j k q =
      sym
      (refute (alike eqb (row_in words from) (row_in es at))
      (λ e. unlike_eq (get_or (row_in words from) j 0) (get_or (row_in es at) j 0) (word j k ∙ q) (ap (λ (l : List ℕ). get_or l j 0) (alike_eq (row_in words from) (row_in es at) e))))

  -- the words from j on are alike
  abbrev left : ℕ → Bool
  left j = alike eqb (drop j (row_in words from)) (drop j (row_in es at))

  step : {b : Bool} (clear same : Bool) (j : ℕ) → b ≡ (clear && left j) → j < 36 → eqb (get_or words (from + j) 0) (get_or es (at + j) 0) ≡ same
      → b ≡ ((clear && same) && left (j + 1))
  step false same j e k q = e
  step true true j e k q = alike_go eqb 0 (row_in words from) (row_in es at) j e (in_part words from r j k) (in_part es at h j k) (word j k ∙ q)
  step true false j e k q = sym (alike_no eqb 0 (row_in words from) (row_in es at) j e (in_part words from r j k) (in_part es at h j k) (word j k ∙ q))

  -- the rows are alike exactly when no bit has differed yet and the words that are left are alike
  pub same_go : {b : Bool} (differ j : ℕ) → b ≡ (eqb differ 0 && alike eqb (drop j (row_in words from)) (drop j (row_in es at))) → j < 36
      → b ≡ (eqb (bit_or differ (bit_xor (get_or words (from + j) 0) (get_or es (at + j) 0))) 0 && alike eqb (drop (j + 1) (row_in words from)) (drop (j + 1) (row_in es at)))
  same_go differ j e k =
      let x = get_or words (from + j) 0 in
      let y = get_or es (at + j) 0 in
      step (eqb differ 0) (eqb (bit_xor x y) 0) j e k (sym (no_difference x y))
      ∙ ap (λ (c : Bool). c && left (j + 1)) (sym (no_bits differ (bit_xor x y)))

  pub same_end : {b : Bool} (differ j : ℕ) → b ≡ (eqb differ 0 && alike eqb (drop j (row_in words from)) (drop j (row_in es at))) → 36 ≤ j → eqb differ 0 ≡ b
  same_end {b} differ j e k = go (eqb differ 0) e
    where
      go : (clear : Bool) → b ≡ (clear && left j) → clear ≡ b
      go true e = alike_end eqb 0 (row_in words from) (row_in es at) j e (le_trans (le_of_eq (part_long words from r)) k) (le_trans (le_of_eq (part_long es at h)) k)
      go false e = sym e

-- what is left of a search for a row
abbrev pub row_from : (List ℕ → Bool) → ℕ → List ℕ → ℕ → Option ℕ
row_from p n l i = sought_from (λ row. row) p 36 n l i

pub row_start : (p : List ℕ → Bool) (n : ℕ) (l : List ℕ) → find p (rows n 36 l) ≡ row_from p n l 0
row_start p n l = ap (find p) (sym (map_same (rows n 36 l))) ∙ sought_start (λ row. row) p 36 n l 0
