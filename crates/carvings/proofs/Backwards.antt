-- A renumbering goes back: each element of the second table comes from one of the first, and from one only. Taking it there undoes the renumbering,
-- on boundaries too, since they rise again. So each test in `Renumbering` is needed here: one that is weaker, or one that moves old entries, does not go back.
use Prim.Native.Nat.{ℕ, suc, ◌<◌, ◌≤◌}
use mathlib.Core.Bool.{Bool, true, false}
use mathlib.Core.Path.{◌≡◌, refl, ap, sym, ◌∙◌, subst}
use native.Mathlib.Nat.{le_trans, le_of_lt}
use native.Mathlib.Omega.{arith}
use lib.Dec.{ltb}
use Rattle.rules.specs.Limits.{Limits}
use Rattle.rules.specs.Table.{ElementNumber, Table, element, element_count}
use Rattle.carvings.specs.Renumbered.{renumbered, Renumbering}
use Rattle.carvings.specs.Promises.{RenumberingGoesBack}
use Rattle.rules.proofs.Good.{Good, sound_good}
use Rattle.rules.proofs.Laws.{le_test, not_le}
use Rattle.carvings.proofs.Embeds.{good_rising, good_under}
use Rattle.carvings.proofs.Images.{renumbered_agree, renumbered_same, renumbered_twice}

module _ (L : Limits) (old : ℕ) (t u : Table) (f : ElementNumber → ElementNumber) (good : Good L t) (fits : old ≤ element_count t) (h : Renumbering old t u f) where
  -- where an element of u comes from; a number that is not in use comes from nowhere, and is given as 0
  abbrev from : (x : ElementNumber) (b : Bool) → ltb x (element_count u) ≡ b → ElementNumber
  from x true e = (h.onto x (le_test (suc x) (element_count u) e)).0
  from x false e = 0

  abbrev back : ElementNumber → ElementNumber
  back x = from x (ltb x (element_count u)) refl

  comes_from : (x : ElementNumber) → x < element_count u → (back x < element_count t) × (f (back x) ≡ x)
  comes_from x l = go (ltb x (element_count u)) refl
    where
      go : (b : Bool) (e : ltb x (element_count u) ≡ b) → (from x b e < element_count t) × (f (from x b e) ≡ x)
      go true e = let w = h.onto x (le_test (suc x) (element_count u) e) in (w.1, w.2)
      go false e = absurd (let w = not_le (suc x) (element_count u) e in let z : ⊥ = omega (arith, w, l) in z)

  undone : (e : ElementNumber) → e < element_count t → back (f e) ≡ e
  undone e l = let c = comes_from (f e) (h.in_use e l) in h.once (back (f e)) e c.0 l c.1

  old_back : (e : ElementNumber) → e < old → back e ≡ e
  old_back e l =
      let k : e < element_count t = le_trans l fits in
      subst (λ (x : ElementNumber). back x ≡ e) (h.old_stays e l) (undone e k)

  -- what comes from an old entry is that entry
  appended_back : (x : ElementNumber) → old ≤ x → x < element_count u → (b : Bool) → ltb (back x) old ≡ b → old ≤ back x
  appended_back x l k true e =
      let v = le_test (suc (back x)) old e in
      let w : x ≡ back x = sym (comes_from x k).1 ∙ h.old_stays (back x) v in
      absurd (let z : ⊥ = omega (arith, v, w, l) in z)
  appended_back x l k false e = let w = not_le (suc (back x)) old e in omega (arith, w)

  element_back : (e : ElementNumber) → e < element_count t → renumbered back (element u (f e)) ≡ element t e
  element_back e l =
      ap (renumbered back) (h.elements e l) ∙ renumbered_twice f back (element t e)
      ∙ renumbered_agree (λ x. x) (λ x. back (f x)) e (λ x k. undone x (le_trans k (le_of_lt l))) (element t e) (good_under L t good e l)
      ∙ renumbered_same (element t e) (good_rising L t good e l)

  goes_back : Renumbering old u t back
  goes_back = record {
    dimension = sym h.dimension;
    points = sym h.points;
    planes = sym h.planes;
    count = sym h.count;
    old_stays = old_back;
    appended = λ x l k. appended_back x l k (ltb (back x) old) refl;
    in_use = λ x l. (comes_from x l).0;
    once = λ x y l k e. sym (comes_from x l).1 ∙ ap f e ∙ (comes_from y k).1;
    onto = λ e l. (f e, h.in_use e l, undone e l);
    elements = λ x l. let c = comes_from x l in sym (element_back (back x) c.0) ∙ ap (λ (y : ElementNumber). renumbered back (element u y)) c.1;
  }

pub renumbering_goes_back : (L : Limits) → RenumberingGoesBack L
renumbering_goes_back L old t u f s fits h = let g = sound_good L t s in (back L old t u f g fits h, goes_back L old t u f g fits h, undone L old t u f g fits h)
