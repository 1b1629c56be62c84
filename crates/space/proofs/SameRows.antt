-- Two rows are alike, word by word, exactly where their elements are equal; so the search for an equal row is the search for an equal element.
use Rattle.std.specs.Prelude.{if◌then◌else◌, Option, Some}
use Prim.Native.Nat.{◌-◌, ℕ, suc, ◌*◌}
use mathlib.Core.Bool.{true, Bool}
use mathlib.Core.List.{map, List, [], ◌∷◌}
use mathlib.Core.Path.{◌≡◌, refl, ap, sym, subst, ◌∙◌, ap₂}
use lib.Dec.{eqb}
use lib.ListN.{length, length-map, replicate}
use Rattle.rules.specs.Held.{fitting, element_words, Fits, elements_of}
use Rattle.rules.specs.Limits.{Limits, Readable}
use Rattle.rules.specs.Lists.{alike, find, all, find_from, rows, joined}
use Rattle.rules.specs.Memory.{read_element, element_width}
use Rattle.rules.specs.Table.{Element, same_element, Table, element_count}
use Rattle.rules.proofs.Laws.{and_left, and_right, both_ways}
use Rattle.rules.proofs.RoundTrip.{element_back}
use Rattle.rules.proofs.Rows.{rows_back}
use Rattle.rules.proofs.Selves.{alike_eq, element_self, eq_alike, same_element_lem}

module _ (L : Limits) (U : Readable L) where
  pub words_same : (e x : Element) → fitting L e ≡ true → fitting L x ≡ true → alike eqb (element_words L e) (element_words L x) ≡ same_element e x
  words_same e x p q =
      both_ways (alike eqb (element_words L e) (element_words L x)) (same_element e x)
      (λ h. (subst (λ (y : Element). same_element e y ≡ true) (sym (element_back L U e p) ∙ ap read_element (alike_eq (element_words L e) (element_words L x) h) ∙ element_back L U x q) (element_self e)))
      (λ h. (subst (λ (y : Element). alike eqb (element_words L e) (element_words L y) ≡ true) (same_element_lem e x h) (eq_alike (element_words L e))))

  find_map : (e : Element) (n : ℕ) (xs : List Element) → fitting L e ≡ true → all (fitting L) xs ≡ true → find_from n (alike eqb (element_words L e)) (map (element_words L) xs) ≡ find_from n (same_element e) xs
  find_map e n [] p q = refl
  find_map e n (x ∷ xs) p q =
      ap₂ (λ (b : Bool) (r : Option ℕ). if b then Some n else r) (words_same e x p (and_left (fitting L x) (all (fitting L) xs) q)) (find_map e (suc n) xs p (and_right (fitting L x) (all (fitting L) xs) q))

  pub find_rows : (t : Table) → Fits L t → (e : Element) → fitting L e ≡ true → find (alike eqb (element_words L e)) (rows (element_count t) (element_width L) (elements_of L t)) ≡ find (same_element e) t.elements
  unfolding elements_of
  find_rows t F e p =
      ap (λ (n : ℕ). find (alike eqb (element_words L e)) (rows n (element_width L) (elements_of L t))) (sym (length-map t.elements (element_words L)))
      ∙ ap (find (alike eqb (element_words L e))) (rows_back (element_width L) (map (element_words L) t.elements) (replicate (L.elements * element_width L - length (joined (map (element_words L) t.elements))) 0) F.elements)
      ∙ find_map e 0 t.elements p F.kinds
