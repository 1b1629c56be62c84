-- Rows one after another, each looked for among the earlier ones: no two are equal as long as none is found.
use Rattle.std.specs.Prelude.{if◌then◌else◌, Some, None}
use Prim.Native.Nat.{ℕ, zero, suc, ◌+◌, ◌*◌, ◌-◌, ◌<◌}
use mathlib.Core.Bool.{Bool, true, false, not, ◌&&◌, ◌||◌}
use mathlib.Core.List.{List, [], ◌∷◌, ◌++◌}
use mathlib.Core.Path.{◌≡◌, refl, sym, ap, ap₂, ◌∙◌}
use native.Mathlib.Numerals.{add-one}
use native.Mathlib.Omega.{arith}
use lib.Dec.{eqb}
use lib.ListN.{take, drop}
use lib.Seq.{drop-drop}
use Rattle.rules.specs.Limits.{desk}
use Rattle.rules.specs.Lists.{alike, any, distinct, find, find_from, rows}
use Rattle.space.specs.Chains.{stored_row}
use Rattle.soundness.specs.Words.{row_new, rows_distinct}
use Rattle.soundness.proofs.ReadBack.{and_zero}

-- ---- one entry behind the others

shuffled : (a p d n : Bool) → (not (a || (p || false)) && (d && not n)) ≡ ((not a && d) && not (p || n))
shuffled true p d n = refl
shuffled false true true n = refl
shuffled false true false n = refl
shuffled false false d n = refl

module _ {A : Type 0} where
  any_last : (q : A → Bool) (xs : List A) (y : A) → any q (xs ++ y ∷ []) ≡ (any q xs || (q y || false))
  any_last q [] y = refl
  any_last q (x ∷ xs) y = or_on (q x) (any q xs) (q y || false) (any_last q xs y)
    where
      or_on : (b d e : Bool) {c : Bool} → c ≡ (d || e) → (b || c) ≡ ((b || d) || e)
      or_on true d e h = refl
      or_on false d e h = h

  distinct_last : (p : A → A → Bool) (xs : List A) (y : A) → distinct p (xs ++ y ∷ []) ≡ (distinct p xs && not (any (p y) xs))
  distinct_last p [] y = refl
  distinct_last p (x ∷ xs) y =
      ap₂ (λ (a d : Bool). not a && d) (any_last (λ z. p z x) xs y) (distinct_last p xs y)
      ∙ shuffled (any (λ z. p z x) xs) (p y x) (distinct p xs) (any (p y) xs)

  none_any : (p : A → Bool) (n : ℕ) (xs : List A) → find_from n p xs ≡ None → any p xs ≡ false
  none_any p n [] h = refl
  none_any p n (x ∷ xs) h = go (p x) h (none_any p (suc n) xs)
    where
      go : (b : Bool) → (if b then Some n else find_from (suc n) p xs) ≡ None → (find_from (suc n) p xs ≡ None → any p xs ≡ false) → (b || any p xs) ≡ false
      go true e r = let z : ◌≡◌ {A = ℕ} 0 1 = cc in absurd (omega arith)
      go false e r = r e

  some_any : (p : A → Bool) (n j : ℕ) (xs : List A) → find_from n p xs ≡ Some j → any p xs ≡ true
  some_any p n j [] h = let z : ◌≡◌ {A = ℕ} 0 1 = cc in absurd (omega arith)
  some_any p n j (x ∷ xs) h = go (p x) h (some_any p (suc n) j xs)
    where
      go : (b : Bool) → (if b then Some n else find_from (suc n) p xs) ≡ Some j → (find_from (suc n) p xs ≡ Some j → any p xs ≡ true) → (b || any p xs) ≡ true
      go true e r = refl
      go false e r = r e

-- ---- rows

rows_last : (i : ℕ) (es : List ℕ) → rows (suc i) 36 es ≡ rows i 36 es ++ stored_row es i ∷ []
rows_last zero es = refl
rows_last (suc i) es =
    ap (λ (l : List (List ℕ)). take 36 es ∷ l)
    (rows_last i (drop 36 es) ∙ ap (λ (l : List ℕ). rows i 36 (drop 36 es) ++ take 36 l ∷ []) (drop-drop (i * 36) 36 es ∙ ap (λ (k : ℕ). drop k es) (let q : 36 + i * 36 ≡ suc i * 36 = omega arith in q)))

module _ (es : List ℕ) where
  abbrev pub apart : ℕ → Bool
  apart i = distinct (alike eqb) (rows i 36 es)

  one_more_lem : (i : ℕ) → apart (suc i) ≡ (apart i && not (any (alike eqb (stored_row es i)) (rows i 36 es)))
  one_more_lem i = ap (distinct (alike eqb)) (rows_last i es) ∙ distinct_last (alike eqb) (rows i 36 es) (stored_row es i)

  -- a row that is found among the earlier ones, and one that is not
  pub row_met : (i j : ℕ) → Some j ≡ find (alike eqb (stored_row es i)) (rows i 36 es) → false ≡ row_new es i
  unfolding row_new
  row_met i j f = ap not (sym (some_any (alike eqb (stored_row es i)) 0 j (rows i 36 es) (sym f)))

  pub row_unmet : (i : ℕ) → None ≡ find (alike eqb (stored_row es i)) (rows i 36 es) → true ≡ row_new es i
  unfolding row_new
  row_unmet i f = ap not (sym (none_any (alike eqb (stored_row es i)) 0 (rows i 36 es) (sym f)))

  one_new : (i : ℕ) → apart (suc i) ≡ (apart i && row_new es i)
  unfolding row_new
  one_new i = one_more_lem i

  pub apart_go : (i : ℕ) → apart i ≡ true → row_new es i ≡ true → apart (i + 1) ≡ true
  apart_go i a f = ap apart (add-one i) ∙ one_new i ∙ ap₂ ◌&&◌ a f

  stays_false : (d i : ℕ) → apart i ≡ false → apart (i + d) ≡ false
  stays_false zero i a = ap apart (let q : i + 0 ≡ i = omega arith in q) ∙ a
  stays_false (suc d) i a =
      ap apart (let q : i + suc d ≡ suc (i + d) = omega arith in q) ∙ one_more_lem (i + d) ∙ ap (λ (b : Bool). b && not (any (alike eqb (stored_row es (i + d))) (rows (i + d) 36 es))) (stays_false d i a)

  pub apart_no : (n i : ℕ) → i < n → row_new es i ≡ false → apart n ≡ false
  apart_no n i l f =
      ap apart (let q : n ≡ suc i + (n - suc i) = omega arith in q)
      ∙ stays_false (n - suc i) (suc i) (one_new i ∙ ap (λ (c : Bool). apart i && c) f ∙ and_zero (apart i))

  pub apart_is : (n : ℕ) → apart n ≡ rows_distinct desk n es
  unfolding rows_distinct
  apart_is n = refl
