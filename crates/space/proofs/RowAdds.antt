-- Appending a row is the step that adds its element.
use Rattle.std.specs.Prelude.{if◌then◌else◌, Option, Some, None, Ok, Err}
use Prim.Native.Nat.{ℕ, ◌+◌, ◌*◌, ◌≤◌, ◌<◌}
use mathlib.Core.Path.{◌≡◌, refl, sym, ap, ap₂, ◌∙◌, subst}
use mathlib.Core.Bool.{Bool, true, false}
use mathlib.Core.List.{List}
use native.Mathlib.Nat.{le_of_eq}
use native.Mathlib.Omega.{arith}
use lib.Dec.{eqb, ltb, lit≤}
use lib.ListN.{length, get_or, take, set}
use lib.Seq.{sets, take_all}
use lib.Ieee.{Float}
use borrow.Author.Tests.{lt-ltb, le-ltb}
use Rattle.rules.specs.Limits.{Readable, desk}
use Rattle.rules.specs.Lists.{alike, find, rows}
use Rattle.rules.specs.Table.{Element, Table, same_element, element_count}
use Rattle.rules.specs.Cut.{refused, done, add_element, share_element, with_element}
use Rattle.rules.specs.Held.{Holds, points_of, planes_of, element_words, fitting, went, stopped, elements_of}
use Rattle.rules.proofs.Extends.{extends_refl}
use Rattle.space.proofs.SameRows.{find_rows}
use Rattle.space.proofs.Room.{element_fitted, element_counted_lem, element_words_stored, row_short}
use Rattle.rules.specs.declared.ElementId.{ElementId}
use Rattle.space.specs.Found.{element_number, placed_at, row_by, row_outcome, RowAdded}
use Rattle.space.proofs.Slices.{slices}
use Rattle.rules.specs.declared.Refusal.TheVariants.{ElementsFull}
use Rattle.rules.specs.declared.Refusal.TheVariants.{ElementsFull}

pub readable_desk : Readable desk
readable_desk = record { planes = lit≤ tt; boundary = lit≤ tt }

-- the row is all of the words that the search reads
pub row_whole : (es row : List ℕ) (n : ℕ) {o : Option ℕ} → length row ≡ 36 → o ≡ find (alike eqb (take 36 row)) (rows n 36 es) → o ≡ find (alike eqb row) (rows n 36 es)
row_whole es row n l f = f ∙ ap (λ (r : List ℕ). find (alike eqb r) (rows n 36 es)) (take_all 36 row (le_of_eq l))

module _ (cs es row : List ℕ) (n : ℕ) (found : Option ElementId) (k : n ≡ get_or cs 1 0) (f : element_number found ≡ find (alike eqb row) (rows n 36 es)) where
  module _ (ps hs : List Float) (t : Table) (e : Element) (H : Holds desk cs ps hs es t) (q : row ≡ element_words desk e) (p : fitting desk e ≡ true) where
    number : n ≡ element_count t
    number = k ∙ (slices H).element_count

    search_is : find (alike eqb row) (rows n 36 es) ≡ find (same_element e) t.elements
    search_is =
        ap₂ (λ (r l : List ℕ). find (alike eqb r) (rows n 36 l)) q H.elements
        ∙ ap (λ (m : ℕ). find (alike eqb (element_words desk e)) (rows m 36 (elements_of desk t))) number
        ∙ find_rows desk readable_desk t H.fits e p

  -- the outcome by the search and the test
  searched : {o : Option ℕ} → element_number found ≡ o → (b : Bool) → ltb (get_or cs 1 0) 512 ≡ b → row_outcome cs es row ≡ row_by cs es row o b
  unfolding row_outcome
  searched e b t = ap₂ (row_by cs es row) (ap (λ (m : ℕ). find (alike eqb row) (rows m 36 es)) (sym k) ∙ sym f ∙ e) t

  pub row_found : (i : ElementId) → found ≡ Some i → RowAdded cs es row (Ok i) cs es
  unfolding add_element
  row_found i g = record {
    words = sym (searched (ap element_number g) _ refl);
    of = λ ps hs t e H q p.
        (let s : find (same_element e) t.elements ≡ Some i.0 = sym (search_is ps hs t e H q p) ∙ sym f ∙ ap element_number g in
        went i.0 t (ap (λ (o : Option ℕ). share_element desk e o t) s) refl H);
  }

  pub row_full : found ≡ None → 512 ≤ n → RowAdded cs es row (Err ElementsFull) cs es
  unfolding add_element
  row_full g l = record {
    words = sym (searched (ap element_number g) false (le-ltb (get_or cs 1 0) 512 (subst (λ (m : ℕ). 512 ≤ m) k l)));
    of = λ ps hs t e H q p.
        (let s : find (same_element e) t.elements ≡ None = sym (search_is ps hs t e H q p) ∙ sym f ∙ ap element_number g in
        let m = number ps hs t e H q p in
        let l' : 512 ≤ element_count t = omega (arith, m, l) in
        stopped ElementsFull t (ap (λ (o : Option ℕ). share_element desk e o t) s
        ∙ ap (λ (b : Bool). if b then done (element_count t) (with_element e t) else refused ElementsFull) (le-ltb (element_count t) 512 l')) refl (extends_refl t) H);
  }

  pub row_new_lem : (cs' es' : List ℕ) → found ≡ None → n < 512 → cs' ≡ set cs 1 (n + 1) → es' ≡ sets es (n * 36) row → RowAdded cs es row (placed_at n) cs' es'
  unfolding add_element points_of planes_of
  row_new_lem cs' es' g l v w = record {
    words = (λ i. record { reply = placed_at (k i); counts = (v ∙ ap (λ (m : ℕ). set cs 1 (m + 1)) k) i; elements = (w ∙ ap (λ (m : ℕ). sets es (m * 36) row) k) i })
        ∙ sym (searched (ap element_number g) true (lt-ltb (get_or cs 1 0) 512 (subst (λ (m : ℕ). m < 512) k l)));
    of = λ ps hs t e H q p.
        (let s : find (same_element e) t.elements ≡ None = sym (search_is ps hs t e H q p) ∙ sym f ∙ ap element_number g in
        let m = number ps hs t e H q p in
        let l' : element_count t < 512 = omega (arith, m, l) in
        went (element_count t) (with_element e t)
        (ap (λ (o : Option ℕ). share_element desk e o t) s
        ∙ ap (λ (b : Bool). if b then done (element_count t) (with_element e t) else refused ElementsFull) (lt-ltb (element_count t) 512 l'))
        (ap placed_at m)
        record {
          counts = v ∙ ap₂ (λ (c : List ℕ) (i : ℕ). set c 1 (i + 1)) H.counts m ∙ sym (element_counted_lem desk t H.fits e);
          points = H.points;
          planes = H.planes;
          elements = w ∙ (λ i. sets (H.elements i) (m i * 36) (q i)) ∙ sym (element_words_stored desk readable_desk t H.fits e l' p);
          fits = element_fitted desk t H.fits e l' (row_short desk readable_desk e p) p;
        });
  }
