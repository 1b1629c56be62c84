-- One table inside another, by a renumbering: each element of the first stands in the second with its boundary renumbered.
-- It goes on when the first gets an element that the second has.
use Rattle.std.specs.Prelude.{if◌then◌else◌, Option, Some, None}
use Prim.Native.Nat.{ℕ, suc, zero, ◌<◌, ◌≤◌}
use mathlib.Core.Bool.{Bool, true, false, false≢true}
use mathlib.Core.List.{List, [], ◌∷◌}
use mathlib.Core.Path.{◌≡◌, refl, ap, sym, ◌∙◌, subst}
use native.Mathlib.Nat.{le_refl, le_trans, le_of_lt, lt_irrefl, not-suc-le-zero, le_of_suc-le-suc}
use native.Mathlib.Omega.{arith}
use lib.Dec.{ltb, eqb}
use lib.ListN.{length, get_or}
use lib.Seq.{get_or-append_seam}
use Rattle.rules.specs.Limits.{Limits}
use Rattle.rules.specs.Lists.{find_from, find, rises}
use Rattle.rules.specs.Table.{Element, corner, polytope, Table, element, element_count, boundary, boundary_of, same_element}
use Rattle.rules.specs.Sound.{sound_element}
use Rattle.rules.specs.Cut.{Outcome, done, refused, add_element, share_element, with_element}
use Rattle.rules.specs.Held.{Extends}
use Rattle.carvings.specs.Renumbered.{renumbered}
use Rattle.rules.proofs.Apart.{Apart}
use Rattle.rules.proofs.Corners.{good_fine}
use Rattle.rules.proofs.Extends.{Below, below_more, count_more, extends_refl, extends_trans, grown_element, element_same}
use Rattle.rules.proofs.Fine.{Index, before_end, at_end, index_of, below_names}
use Rattle.rules.proofs.Good.{Good, sound_at, whole}
use Rattle.rules.proofs.Growing.{if_none, length_snoc}
use Rattle.carvings.proofs.Images.{renumbered_agree, renumbered_once, renumbered_same}
use Rattle.rules.proofs.Laws.{if_true, if_false, eqb_self, not_eq}
use Rattle.rules.proofs.Selves.{element_self, same_element_lem}
use Rattle.rules.proofs.Stays.{found_element}
use Rattle.rules.specs.declared.Refusal.TheVariants.{ElementsFull}
use Rattle.rules.specs.declared.Refusal.{Refusal}

-- ---- what adding an element did

pub data Added (y : Element) (t : Table) (i : ℕ) (u : Table) : Type 0 where
  there : u ≡ t → i < element_count t → element t i ≡ y → Added y t i u
  new : ((e : ℕ) → e < element_count t → element t e ≡ y → ⊥) → i ≡ element_count t → u ≡ with_element y t → Added y t i u

pub none_passes : {A : Type 0} (p : A → Bool) (n : ℕ) (xs : List A) (d : A) → find_from n p xs ≡ None → (i : ℕ) → i < length xs → p (get_or xs i d) ≡ false
none_passes p n [] d h i l = absurd (not-suc-le-zero l)
none_passes p n (x ∷ xs) d h zero l = (if_none (p x) n (find_from (suc n) p xs) h).0
none_passes p n (x ∷ xs) d h (suc i) l = none_passes p (suc n) xs d (if_none (p x) n (find_from (suc n) p xs) h).1 i (le_of_suc-le-suc l)

module _ {A : Type 0} where
  pub done_value : {a b : A} {t u : Table} → done a t ≡ done b u → a ≡ b
  done_value e = cc

  pub done_table : {a b : A} {t u : Table} → done a t ≡ done b u → t ≡ u
  done_table e = cc

  pub not_done : {C : Type 0} {n : Refusal} {b : A} {u : Table} → ◌≡◌ {A = Outcome A} (refused n) (done b u) → C
  not_done e = absurd (let z : ◌≡◌ {A = ℕ} 0 1 = cc in let w : ⊥ = omega arith in w)

-- what a search does not find is not there
pub not_there : (y : Element) (t : Table) → find (same_element y) t.elements ≡ None → (e : ℕ) → e < element_count t → element t e ≡ y → ⊥
not_there y t e x l q = false≢true (sym (none_passes (same_element y) 0 t.elements (corner 0) e x l) ∙ ap (same_element y) q ∙ element_self y)

pub added : (L : Limits) (y : Element) (t : Table) (i : ℕ) (u : Table) → add_element L y t ≡ done i u → Added y t i u
unfolding add_element
added L y t i u h = go (find (same_element y) t.elements) refl h
  where
    room : (c : Bool) → find (same_element y) t.elements ≡ None → (if c then done (element_count t) (with_element y t) else refused ElementsFull) ≡ done i u → Added y t i u
    room true e k = new (not_there y t e) (sym (done_value k)) (sym (done_table k))
    room false e k = not_done k

    go : (o : Option ℕ) → find (same_element y) t.elements ≡ o → share_element L y o t ≡ done i u → Added y t i u
    go (Some j) e k =
        let f = found_element (same_element y) t j e in
        let q : j ≡ i = done_value k in
        there (sym (done_table k)) (subst (λ (x : ℕ). x < element_count t) q f.0) (subst (λ (x : ℕ). element t x ≡ y) q (sym (same_element_lem y (element t j) f.1)))
    go None e k = room (ltb (element_count t) L.elements) e k

-- where nothing was appended, it was there
pub was_there : (y : Element) (t : Table) (i : ℕ) → Added y t i t → (i < element_count t) × (element t i ≡ y)
was_there y t i (there q l e) = (l, e)
was_there y t i (new f q e) = absurd (let z : element_count t ≡ suc (element_count t) = ap element_count e ∙ length_snoc t.elements y in let w : ⊥ = omega (arith, z) in w)

-- ---- one table inside another

-- the elements of t stand in B under f; T is the table before, whose elements keep their numbers
pub record Embeds (T B t : Table) (f : ℕ → ℕ) : Type 0 where
  pub content : (e : ℕ) → e < element_count t → element B (f e) ≡ renumbered f (element t e)
  pub used : (e : ℕ) → e < element_count t → f e < element_count B
  pub once : (e e' : ℕ) → e < element_count t → e' < element_count t → f e ≡ f e' → e ≡ e'
  pub rising : (e : ℕ) → e < element_count t → rises (boundary t e) ≡ true
  pub under : (e : ℕ) → e < element_count t → Below e (boundary t e)
  pub old : (e : ℕ) → e < element_count T → f e ≡ e
  pub grown : Extends T t

-- t went on to u, and f with it; R is what holds of the new f
pub record Grown (T B t : Table) (f : ℕ → ℕ) (u : Table) (R : (ℕ → ℕ) → Type 0) : Type 0 where
  pub map : ℕ → ℕ
  pub embeds : Embeds T B u map
  pub agree : (e : ℕ) → e < element_count t → map e ≡ f e
  pub more : element_count t ≤ element_count u
  pub value : R map

-- the number n goes to j
abbrev pub sending : ℕ → ℕ → (ℕ → ℕ) → ℕ → ℕ
sending n j f = λ k. if eqb k n then j else f k

module _ (T B : Table) (apart : Apart B) where
  pub embeds_new : (t : Table) (f : ℕ → ℕ) → Embeds T B t f → (y : Element) → rises (boundary_of y) ≡ true → Below (element_count t) (boundary_of y)
      → ((e : ℕ) → e < element_count t → element t e ≡ y → ⊥) → (j : ℕ) → j < element_count B → element B j ≡ renumbered f y
      → Embeds T B (with_element y t) (sending (element_count t) j f)
  embeds_new t f h y ry by fresh j lj ej = record {
    content = λ e l. content e (index e l);
    used = λ e l. used e (index e l);
    once = λ e e' l l' q. once e e' (index e l) (index e' l') q;
    rising = λ e l. rising e (index e l);
    under = λ e l. under e (index e l);
    old = λ e l. keep e (le_trans l (count_more')) ∙ h.old e l;
    grown = extends_trans h.grown (grown_element y t);
  }
    where
      n : ℕ
      n = element_count t

      g : ℕ → ℕ
      g = sending n j f

      u : Table
      u = with_element y t

      count_more' : element_count T ≤ n
      count_more' = count_more h.grown

      index : (e : ℕ) → e < element_count u → Index n e
      index e l = index_of n e (subst (λ (k : ℕ). e < k) (length_snoc t.elements y) l)

      keep : (e : ℕ) → e < n → g e ≡ f e
      keep e l = if_false (eqb e n) j (f e) (not_eq e n (λ q. lt_irrefl n (subst (λ (k : ℕ). k < n) q l)))

      last : g n ≡ j
      last = if_true (eqb n n) j (f n) (eqb_self n)

      at_last : element u n ≡ y
      at_last = get_or-append_seam t.elements y [] (corner 0)

      before : (e : ℕ) → e < n → element u e ≡ element t e
      before e l = element_same t u e (grown_element y t) l

      content : (e : ℕ) → Index n e → element B (g e) ≡ renumbered g (element u e)
      content e (before_end l) =
          ap (element B) (keep e l) ∙ h.content e l ∙ sym (renumbered_agree f g n keep (element t e) (below_more (boundary t e) (le_of_lt l) (h.under e l))) ∙ ap (renumbered g) (sym (before e l))
      content e (at_end q) =
          subst (λ (k : ℕ). element B (g k) ≡ renumbered g (element u k)) q
          (ap (element B) last ∙ ej ∙ sym (renumbered_agree f g n keep y by) ∙ ap (renumbered g) (sym at_last))

      used : (e : ℕ) → Index n e → g e < element_count B
      used e (before_end l) = subst (λ (k : ℕ). k < element_count B) (sym (keep e l)) (h.used e l)
      used e (at_end q) = subst (λ (k : ℕ). g k < element_count B) q (subst (λ (k : ℕ). k < element_count B) (sym last) lj)

      -- the new one's place is no old one's
      apart_from : (e : ℕ) → e < n → f e ≡ j → ⊥
      apart_from e l q =
          fresh e l (renumbered_once f n h.once (element t e) y (h.rising e l) ry (below_more (boundary t e) (le_of_lt l) (h.under e l)) by
          (sym (h.content e l) ∙ ap (element B) q ∙ ej))

      once : (e e' : ℕ) → Index n e → Index n e' → g e ≡ g e' → e ≡ e'
      once e e' (before_end l) (before_end l') q = h.once e e' l l' (sym (keep e l) ∙ q ∙ keep e' l')
      once e e' (before_end l) (at_end p') q = absurd (apart_from e l (sym (keep e l) ∙ q ∙ ap g (sym p') ∙ last))
      once e e' (at_end p) (before_end l') q = absurd (apart_from e' l' (sym (keep e' l') ∙ sym q ∙ ap g (sym p) ∙ last))
      once e e' (at_end p) (at_end p') q = sym p ∙ p'

      rising : (e : ℕ) → Index n e → rises (boundary u e) ≡ true
      rising e (before_end l) = ap (λ (z : Element). rises (boundary_of z)) (before e l) ∙ h.rising e l
      rising e (at_end p) = subst (λ (k : ℕ). rises (boundary u k) ≡ true) p (ap (λ (z : Element). rises (boundary_of z)) at_last ∙ ry)

      under : (e : ℕ) → Index n e → Below e (boundary u e)
      under e (before_end l) = subst (λ (z : Element). Below e (boundary_of z)) (sym (before e l)) (h.under e l)
      under e (at_end p) = subst (λ (k : ℕ). Below k (boundary u k)) p (subst (λ (z : Element). Below n (boundary_of z)) (sym at_last) by)

  -- an element that B has, renumbered, was found in t at its place, or goes there
  pub element_grown : (t : Table) (f : ℕ → ℕ) → Embeds T B t f → (y : Element) → rises (boundary_of y) ≡ true → Below (element_count t) (boundary_of y)
      → (i : ℕ) (u : Table) → Added y t i u → (j : ℕ) → j < element_count B → element B j ≡ renumbered f y
      → Grown T B t f u (λ g. (j ≡ g i) × (i < element_count u))
  element_grown t f h y ry by i u (there q l e) j lj ej =
      subst (λ (v : Table). Grown T B t f v (λ g. (j ≡ g i) × (i < element_count v))) (sym q) (record {
        map = f;
        embeds = h;
        agree = λ x k. refl;
        more = le_refl (element_count t);
        value = (apart j (f i) lj (h.used i l) (ej ∙ ap (renumbered f) (sym e) ∙ sym (h.content i l)), l);
      })
  element_grown t f h y ry by i u (new fresh q e) j lj ej =
      let n = element_count t in
      let long : element_count (with_element y t) ≡ suc n = length_snoc t.elements y in
      let g : Grown T B t f (with_element y t) (λ g. (j ≡ g n) × (n < element_count (with_element y t))) = record {
        map = sending n j f;
        embeds = embeds_new t f h y ry by fresh j lj ej;
        agree = λ x k. if_false (eqb x n) j (f x) (not_eq x n (λ p. lt_irrefl n (subst (λ (z : ℕ). z < n) p k)));
        more = omega (arith, long);
        value = (sym (if_true (eqb n n) j (f n) (eqb_self n)), omega (arith, long));
      } in
      subst (λ (v : Table). Grown T B t f v (λ g. (j ≡ g i) × (i < element_count v))) (sym e)
      (subst (λ (x : ℕ). Grown T B t f (with_element y t) (λ g. (j ≡ g x) × (x < element_count (with_element y t)))) (sym q) g)

-- ---- a table stands in each that goes on from it

pub good_rising : (L : Limits) (t : Table) → Good L t → (e : ℕ) → e < element_count t → rises (boundary t e) ≡ true
good_rising L t g e l = go (element t e) (sound_at L t e g l)
  where
    go : (y : Element) → sound_element t e y ≡ true → rises (boundary_of y) ≡ true
    go (corner v) s = refl
    go (polytope r b h m) s = (whole t e r b h m s).bound.rising

pub good_under : (L : Limits) (t : Table) → Good L t → (e : ℕ) → e < element_count t → Below e (boundary t e)
good_under L t g e l = below_names (length t.points) e e (element t e) (le_refl e) ((good_fine L t g).names e l)

pub embeds_start : (L : Limits) (T B : Table) → Good L T → Extends T B → Embeds T B T (λ x. x)
embeds_start L T B g x = record {
  content = λ e l. element_same T B e x l ∙ sym (renumbered_same (element T e) (good_rising L T g e l));
  used = λ e l. le_trans l (count_more x);
  once = λ e e' l l' q. q;
  rising = good_rising L T g;
  under = good_under L T g;
  old = λ e l. refl;
  grown = extends_refl T;
}
