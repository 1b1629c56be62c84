-- The one loop over the rows in use. What is asked of all rows is asked of those that are rowsLeft, where k is the vertex that is
-- to be named next: records, vertices in order and elements are three tests of the first row and of the rows after it. What
-- stands past a boundary is asked for all rows at once, at the end.
use Rattle.std.specs.Prelude.{if◌then◌else◌}
use Prim.Native.Nat.{ℕ, suc, ◌+◌, ◌-◌, ◌*◌, ◌≤◌, ◌<◌}
use mathlib.Core.Bool.{Bool, true, false, cond, ◌&&◌}
use mathlib.Core.List.{List, ◌∷◌}
use mathlib.Core.Path.{◌≡◌, refl, sym, ap, ap₂, ◌∙◌}
use native.Mathlib.Nat.{sub-zero}
use native.Mathlib.Numerals.{add-one}
use native.Mathlib.Omega.{arith}
use lib.Dec.{eqb}
use lib.ListN.{get_or, take, drop}
use Rattle.rules.specs.Limits.{desk}
use Rattle.rules.specs.Lists.{all, rows, all_from}
use Rattle.rules.proofs.Indexed.{rows_on}
use Rattle.rules.proofs.Laws.{and_left, and_right, test_eq, not_eq}
use Rattle.soundness.specs.Words.{record_words, head_words, past_blank, corner_named, in_order, element_sound, corners_sound, elements_sound, row_sound, rows_in_use}
use Rattle.soundness.proofs.BoundaryFits.{by_three}
use Rattle.soundness.proofs.ReadBack.{and_assoc, and_one, and_zero}
use Rattle.soundness.proofs.RowLoops.{record_parts}

module _ (es : List ℕ) (d n v h : ℕ) where
  abbrev rows_from : ℕ → List (List ℕ)
  rows_from i = rows (n - i) 36 (drop (i * 36) es)

  abbrev row : ℕ → List ℕ
  row i = take 36 (drop (i * 36) es)

  abbrev pub rows_left : ℕ → ℕ → Bool
  rows_left k i = all (record_words desk) (rows_from i) && in_order k v (rows_from i) && all_from i (element_sound desk es d h) (rows_from i)

  pub pass_start : rows_in_use desk d n v h es ≡ rows_left 0 0
  unfolding corners_sound elements_sound
  pass_start = ap (λ (m : ℕ). all (record_words desk) (rows m 36 es) && in_order 0 v (rows m 36 es) && all_from 0 (element_sound desk es d h) (rows m 36 es)) (sym (sub-zero n))

  corner : (k : ℕ) (r : List ℕ) (rs : List (List ℕ)) (o : ℕ) → o ≡ cond (eqb (get_or r 0 0) 0) 1 0 → in_order k v (r ∷ rs) ≡ (corner_named k r && in_order (k + o) v rs)
  corner k r rs o e = go (eqb (get_or r 0 0) 0) ∙ ap (λ (j : ℕ). corner_named k r && in_order (k + j) v rs) (sym e)
    where
      go : (b : Bool) → (if b then eqb (get_or r 4 0) k && in_order (suc k) v rs else in_order k v rs) ≡ ((if b then eqb (get_or r 4 0) k else true) && in_order (k + cond b 1 0) v rs)
      go true = ap (λ (j : ℕ). eqb (get_or r 4 0) k && in_order j v rs) (sym (add-one k))
      go false = ap (λ (j : ℕ). in_order j v rs) (let z : k ≡ k + 0 = omega arith in z)

  on : (k i o : ℕ) → i < n → o ≡ cond (eqb (get_or (row i) 0 0) 0) 1 0 → rows_left k i ≡ ((past_blank (row i) && row_sound desk es d h k i (row i)) && rows_left (k + o) (i + 1))
  on k i o l e =
      ap (λ (rs : List (List ℕ)). all (record_words desk) rs && in_order k v rs && all_from i (element_sound desk es d h) rs) (rows_on 36 i n es l)
      ∙ ap₂ (λ (b : Bool) (j : ℕ). (record_words desk (row i) && all (record_words desk) (rows_from (i + 1))) && b && (element_sound desk es d h i (row i) && all_from j (element_sound desk es d h) (rows_from (i + 1))))
      (corner k (row i) (rows_from (i + 1)) o e) (sym (add-one i))
      ∙ by_three (record_words desk (row i)) (all (record_words desk) (rows_from (i + 1))) (corner_named k (row i)) (in_order (k + o) v (rows_from (i + 1)))
      (element_sound desk es d h i (row i)) (all_from (i + 1) (element_sound desk es d h) (rows_from (i + 1)))
      ∙ ap (λ (b : Bool). (b && corner_named k (row i) && element_sound desk es d h i (row i)) && rows_left (k + o) (i + 1)) (record_parts (row i))
      ∙ ap (λ (b : Bool). b && rows_left (k + o) (i + 1)) (past_first (head_words desk (row i)) (past_blank (row i)) (corner_named k (row i)) (element_sound desk es d h i (row i)))
    where
      past_first : (a p c e : Bool) → ((a && p) && c && e) ≡ (p && (a && c && e))
      past_first true p c e = sym (and_assoc p c e)
      past_first false p c e = sym (and_zero p)

  -- clear: nothing was seen past a boundary so far
  pub pass_go : {reply : Bool} (clear clear' : Bool) (k i o : ℕ) → reply ≡ (clear && rows_left k i) → i < n → row_sound desk es d h k i (row i) ≡ true → clear' ≡ (clear && past_blank (row i))
      → o ≡ cond (eqb (get_or (row i) 0 0) 0) 1 0 → reply ≡ (clear' && rows_left (k + o) (i + 1))
  pass_go clear clear' k i o t l q c e =
      t ∙ ap (λ (b : Bool). clear && b) (on k i o l e ∙ ap (λ (b : Bool). (past_blank (row i) && b) && rows_left (k + o) (i + 1)) q ∙ ap (λ (b : Bool). b && rows_left (k + o) (i + 1)) (and_one (past_blank (row i))))
      ∙ and_assoc clear (past_blank (row i)) (rows_left (k + o) (i + 1)) ∙ ap (λ (b : Bool). b && rows_left (k + o) (i + 1)) (sym c)

  pub pass_no : {reply : Bool} (clear : Bool) (k i : ℕ) → reply ≡ (clear && rows_left k i) → i < n → row_sound desk es d h k i (row i) ≡ false → false ≡ reply
  pass_no clear k i t l q =
      let o : ℕ = cond (eqb (get_or (row i) 0 0) 0) 1 0 in
      sym (t ∙ ap (λ (b : Bool). clear && b) (on k i o l refl ∙ ap (λ (b : Bool). (past_blank (row i) && b) && rows_left (k + o) (i + 1)) q ∙ ap (λ (b : Bool). b && rows_left (k + o) (i + 1)) (and_zero (past_blank (row i))))
      ∙ and_zero clear)

  end : {reply : Bool} (clear : Bool) (k i : ℕ) → reply ≡ (clear && rows_left k i) → n ≤ i → (clear && eqb k v) ≡ reply
  end clear k i t l =
      sym (t ∙ ap (λ (m : ℕ). clear && (all (record_words desk) (rows m 36 (drop (i * 36) es)) && in_order k v (rows m 36 (drop (i * 36) es)) && all_from i (element_sound desk es d h) (rows m 36 (drop (i * 36) es))))
      (let z : n - i ≡ 0 = omega arith in z) ∙ ap (λ (b : Bool). clear && b) (and_one (eqb k v)))

  pub pass_short : {reply : Bool} (clear : Bool) (k i : ℕ) → reply ≡ (clear && rows_left k i) → n ≤ i → (k ≡ v → ⊥) → false ≡ reply
  pass_short clear k i t l q = sym (ap (λ (b : Bool). clear && b) (not_eq k v q) ∙ and_zero clear) ∙ end clear k i t l

  pub pass_end : {reply : Bool} (clear : Bool) (k i : ℕ) → reply ≡ (clear && rows_left k i) → n ≤ i → k ≡ v → clear ≡ reply
  pass_end clear k i t l q = sym (ap (λ (b : Bool). clear && b) (test_eq k v q) ∙ and_one clear) ∙ end clear k i t l

-- the tests of one row
pub row_is : (es : List ℕ) (d h k e : ℕ) (r : List ℕ) (a b c : Bool) → head_words desk r ≡ a → corner_named k r ≡ b → element_sound desk es d h e r ≡ c → (a && b && c) ≡ row_sound desk es d h k e r
row_is es d h k e r a b c p q s = sym (λ i. p i && q i && s i)

pub row_head : (es : List ℕ) (d h k e : ℕ) (r : List ℕ) → row_sound desk es d h k e r ≡ true → head_words desk r ≡ true
row_head es d h k e r s = and_left (head_words desk r) (corner_named k r) (and_left (head_words desk r && corner_named k r) (element_sound desk es d h e r) s)

pub row_element : (es : List ℕ) (d h k e : ℕ) (r : List ℕ) → row_sound desk es d h k e r ≡ true → element_sound desk es d h e r ≡ true
row_element es d h k e r s = and_right (head_words desk r && corner_named k r) (element_sound desk es d h e r) s

-- ---- with the test that no two rows are equal

module _ (a b : Bool) where
  pub no_first : false ≡ a → false ≡ (a && b)
  no_first q = ap (λ (x : Bool). x && b) q

  pub no_second : b ≡ false → false ≡ (a && b)
  no_second q = sym (ap (λ (x : Bool). a && x) q ∙ and_zero a)

  pub both : {c : Bool} → c ≡ a → b ≡ true → c ≡ (a && b)
  both p q = p ∙ sym (ap (λ (x : Bool). a && x) q ∙ and_one a)
