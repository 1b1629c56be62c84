-- In a sound table every polytope has its border: enough boundary elements, rising, earlier, of the rank below. Read off the soundness test.
use Prim.Native.Nat.{ℕ, ◌<◌, suc, zero, ◌≤◌}
use mathlib.Core.Bool.{Bool, true}
use mathlib.Core.List.{List, [], ◌∷◌}
use mathlib.Core.Path.{◌≡◌, refl, subst, ap, sym, ◌∙◌}
use native.Mathlib.Nat.{not-suc-le-zero, le_of_suc-le-suc}
use lib.Dec.{ltb, eqb}
use lib.ListN.{length, get_or}
use Rattle.rules.specs.Limits.{Limits}
use Rattle.rules.specs.Lists.{all, rises}
use Rattle.rules.specs.Table.{Table, element_count, element, rank, Element, corner, rank_of, polytope, boundary, boundary_of}
use Rattle.rules.specs.Sound.{sound}
use Rattle.rules.specs.Promises.{Bordered}
use Rattle.rules.proofs.Good.{whole_at, sound_good}
use Rattle.rules.proofs.Laws.{and_left, and_right, le_test, eq_test}

pub at_each : (p : ℕ → Bool) (b : List ℕ) (j : ℕ) → all p b ≡ true → j < length b → p (get_or b j 0) ≡ true
at_each p [] j h l = absurd (not-suc-le-zero l)
at_each p (y ∷ ys) zero h l = and_left (p y) (all p ys) h
at_each p (y ∷ ys) (suc j) h l = at_each p ys j (and_right (p y) (all p ys) h) (le_of_suc-le-suc l)

pub rise_at : (b : List ℕ) → rises b ≡ true → (i j : ℕ) → i < j → j < length b → get_or b i 0 < get_or b j 0
rise_at [] h i j l k = absurd (not-suc-le-zero k)
rise_at (y ∷ ys) h i zero l k = absurd (not-suc-le-zero l)
rise_at (y ∷ ys) h zero (suc j) l k = le_test (suc y) (get_or ys j 0) (at_each (ltb y) ys j (and_left (all (ltb y) ys) (rises ys) h) (le_of_suc-le-suc k))
rise_at (y ∷ ys) h (suc i) (suc j) l k = rise_at ys (and_right (all (ltb y) ys) (rises ys) h) i j (le_of_suc-le-suc l) (le_of_suc-le-suc k)

pub sound_bordered : (L : Limits) (t : Table) → sound L t ≡ true → (x : ℕ) → x < element_count t → 0 < rank t x → Bordered t x
sound_bordered L t s x l k = go (element t x) refl
  where
    go : (y : Element) → element t x ≡ y → Bordered t x
    go (corner v) q = absurd (not-suc-le-zero (subst (λ (z : Element). 0 < rank_of z) q k))
    go (polytope r b h m) q =
        let w = (whole_at L t x r b h m (sound_good L t s) l q).bound in
        let eb : boundary t x ≡ b = ap boundary_of q in
        let er : rank t x ≡ r = ap rank_of q in
        record {
          enough = subst (λ (c : List ℕ). suc (rank t x) ≤ length c) (sym eb) (subst (λ (n : ℕ). suc n ≤ length b) (sym er) (le_test (suc r) (length b) w.enough));
          rising = subst (λ (c : List ℕ). (i j : ℕ) → i < j → j < length c → get_or c i 0 < get_or c j 0) (sym eb) (rise_at b w.rising);
          earlier = subst (λ (c : List ℕ). (j : ℕ) → j < length c → get_or c j 0 < x) (sym eb) (λ j h₁. le_test (suc (get_or b j 0)) x (at_each (λ y. ltb y x) b j w.under h₁));
          ranks = subst (λ (c : List ℕ). (j : ℕ) → j < length c → suc (rank t (get_or c j 0)) ≡ rank t x) (sym eb)
              (λ j h₁. eq_test (suc (rank t (get_or b j 0))) r (at_each (λ y. eqb (suc (rank t y)) r) b j w.ranks h₁) ∙ sym er);
        }
