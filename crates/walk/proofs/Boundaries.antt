-- The boundary that a row holds is the element's, in a sound table that the memory holds; and what a loop over it leaves:
-- from i on, the number at i and then those from i + 1 on.
use Prim.Native.Nat.{ℕ, suc, ◌+◌, ◌*◌, ◌≤◌, ◌<◌}
use mathlib.Core.Path.{◌≡◌, refl, sym, ap, ◌∙◌, subst}
use mathlib.Core.List.{List, [], ◌∷◌}
use native.Mathlib.Nat.{le_trans, le_of_eq}
use native.Mathlib.Numerals.{add-one}
use native.Mathlib.Omega.{arith}
use lib.Dec.{leb, ltb}
use lib.ListN.{length, get_or, drop, length-drop, drop_of_length-le}
use lib.Seq.{drop-cons, get_or-take, get_or-drop, length-take-le, ext_get_or}
use lib.Ieee.{Float}
use Rattle.rules.specs.Limits.{desk}
use Rattle.rules.specs.Table.{corner, Table, boundary_of, element_count, rank, boundary, element}
use Rattle.rules.specs.Held.{Holds, Ranked, AllOf}
use Rattle.rules.proofs.Good.{Good}
use Rattle.rules.proofs.Growing.{all_get}
use Rattle.rules.proofs.Laws.{le_test}
use Rattle.rules.proofs.Ranked.{set_under}
use Rattle.rules.proofs.StaysCut.{facts}
use Rattle.space.proofs.Room.{size_bound, list_bound, size_word_lem, list_word_lem}
use Rattle.space.proofs.Slices.{slices}
use Rattle.walk.specs.Boundaries.{row_boundary, BoundaryFits}

-- ---- a loop over the row

module _ (es : List ℕ) (e n : ℕ) (B : BoundaryFits es e) (q : n ≡ get_or es (e * 36 + 3) 0) where
  pub row_size : length (row_boundary es e) ≡ n
  unfolding row_boundary
  row_size =
      let a = B.long in
      let b = B.used in
      let s = B.sized in
      let d = length-drop (e * 36 + 4) es in
      length-take-le (get_or es (e * 36 + 3) 0) (drop (e * 36 + 4) es) (omega (arith, a, b, s, d)) ∙ sym q

  pub row_on : (i : ℕ) → i < n → drop i (row_boundary es e) ≡ get_or es (e * 36 + (4 + i)) 0 ∷ drop (i + 1) (row_boundary es e)
  unfolding row_boundary
  row_on i h =
      let s = row_size in
      drop-cons (row_boundary es e) i 0 (omega (arith, s, h))
      ∙ (λ j.
      (get_or-take (get_or es (e * 36 + 3) 0) (drop (e * 36 + 4) es) i 0 (omega (arith, q, h)) ∙ get_or-drop (e * 36 + 4) es i 0
      ∙ ap (λ (k : ℕ). get_or es k 0) (let z : e * 36 + 4 + i ≡ e * 36 + (4 + i) = omega arith in z)) j
      ∷ drop (sym (add-one i) j) (row_boundary es e))

  pub row_end : (i : ℕ) → n ≤ i → drop i (row_boundary es e) ≡ []
  row_end i h = drop_of_length-le (row_boundary es e) (le_trans (le_of_eq row_size) h)

  pub number_low : (i x : ℕ) → i < n → x ≡ get_or es (e * 36 + (4 + i)) 0 → x < 512
  number_low i x h f = le_trans (le_of_eq (ap suc f)) (B.low i (le_trans h (le_of_eq q)))

-- the numbers that are lent of it
module _ (es : List ℕ) (e : ℕ) (B : BoundaryFits es e) (bs : List ℕ) (s : bs ≡ row_boundary es e) where
  pub row_long : length bs ≡ get_or es (e * 36 + 3) 0
  row_long = ap length s ∙ row_size es e (get_or es (e * 36 + 3) 0) B refl

  pub number_at : (i x : ℕ) → i < length bs → x ≡ get_or bs i 0 → x ≡ get_or es (e * 36 + (4 + i)) 0
  unfolding row_boundary
  number_at i x h f =
      f ∙ ap (λ (l : List ℕ). get_or l i 0) s
      ∙ get_or-take (get_or es (e * 36 + 3) 0) (drop (e * 36 + 4) es) i 0 (le_trans h (le_of_eq row_long)) ∙ get_or-drop (e * 36 + 4) es i 0
      ∙ ap (λ (k : ℕ). get_or es k 0) (let z : e * 36 + 4 + i ≡ e * 36 + (4 + i) = omega arith in z)

-- ---- the element's own

module _ {cs : List ℕ} {ps hs : List Float} {es : List ℕ} {t : Table} (H : Holds desk cs ps hs es t) (g : Good desk t) (e r : ℕ) (u : e < element_count t) (q : rank t e ≡ suc r) where
  pub bounds : AllOf (Ranked t (suc r)) (boundary t e)
  bounds = (facts desk t e r g u q).bounds

  size_is : get_or es (e * 36 + 3) 0 ≡ length (boundary t e)
  size_is = ap (λ (l : List ℕ). get_or l (e * 36 + 3) 0) H.elements ∙ size_word_lem desk t H.fits e u ∙ size_bound (element t e) r q

  size_most : get_or es (e * 36 + 3) 0 ≤ 32
  size_most = le_trans (le_of_eq size_is) (le_test (length (boundary t e)) 32 (all_get (λ x. leb (length (boundary_of x)) 32) t.elements e (corner 0) u g.boundary_room))

  pub number_is : (i : ℕ) → i < length (boundary t e) → get_or es (e * 36 + (4 + i)) 0 ≡ get_or (boundary t e) i 0
  number_is i h =
      let l = list_bound (element t e) r q in
      let s = size_is in
      let m = size_most in
      ap (λ (k : List ℕ). get_or k (e * 36 + (4 + i)) 0) H.elements
      ∙ list_word_lem desk t H.fits e u i (subst (λ (k : List ℕ). i < length k) (sym l) h) (let z : 4 + i < 36 = omega (arith, h, s, m) in z)
      ∙ ap (λ (k : List ℕ). get_or k i 0) l

  pub boundary_fits : BoundaryFits es e
  boundary_fits = record {
    long = (slices H).elements;
    used = le_trans u H.fits.element_room;
    sized = size_most;
    low = λ i h.
        (let k = le_trans h (le_of_eq size_is) in
        le_trans (le_of_eq (ap suc (number_is i k)))
        (le_trans (le_test (suc (get_or (boundary t e) i 0)) (element_count t)
        (all_get (λ x. ltb x (element_count t)) (boundary t e) i 0 k (set_under t (suc r) (boundary t e) bounds))) H.fits.element_room));
  }

  pub boundary_is : row_boundary es e ≡ boundary t e
  unfolding row_boundary
  boundary_is =
      let B = boundary_fits in
      let n = row_size es e (length (boundary t e)) B (sym size_is) in
      ext_get_or 0 (row_boundary es e) (boundary t e) n
      (λ i h.
      (let k : i < get_or es (e * 36 + 3) 0 = (let s = size_is in omega (arith, s, n, h)) in
      get_or-take (get_or es (e * 36 + 3) 0) (drop (e * 36 + 4) es) i 0 k ∙ get_or-drop (e * 36 + 4) es i 0
      ∙ ap (λ (j : ℕ). get_or es j 0) (let z : e * 36 + 4 + i ≡ e * 36 + (4 + i) = omega arith in z)
      ∙ number_is i (le_trans k (le_of_eq size_is))))
