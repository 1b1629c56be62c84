-- The walk round a face of a sound table has as many steps as the face has edges: it has no more, it takes each of them, and a rising list has a number once only.
use Rattle.std.specs.Prelude.{if◌then◌else◌}
use Prim.Native.Nat.{ℕ, zero, suc, ◌≤◌, ◌<◌, zero-le, suc-le-suc}
use mathlib.Core.Path.{◌≡◌, refl, sym, ap, ◌∙◌, subst}
use mathlib.Core.Bool.{Bool, true, false, not, false≢true, true≢false}
use mathlib.Core.List.{List, [], ◌∷◌}
use native.Mathlib.Nat.{le_trans, le_of_eq, le_antisymm}
use native.Mathlib.Omega.{arith}
use lib.Dec.{eqb, ltb}
use lib.ListN.{length, length-map}
use Rattle.rules.specs.Limits.{Limits}
use Rattle.rules.specs.Lists.{all, keep, member, rises}
use Rattle.rules.specs.Table.{Table, element_count, rank, boundary}
use Rattle.rules.specs.Sound.{sound}
use Rattle.rules.specs.Walk.{other_end, other_edge, walk, start_of, first_edge, around}
use Rattle.rules.specs.Questions.{answer, pairs, edges_in_order}
use Rattle.rules.proofs.Common.{member_kept}
use Rattle.rules.proofs.FaceEdges.{is_face, linked, starts, takes_all}
use Rattle.rules.proofs.Laws.{and_left, and_right, le_test, eq_test, eqb_self, not_eq, if_true, or_case, or_left}
use Rattle.rules.proofs.VertexSet.{keep_rises}
use Rattle.rules.proofs.WalkRound.{taken, all_taken, told}

-- ---- no more steps than are allowed

pub walk_short : (t : Table) (n : ℕ) (es : List ℕ) (start v e : ℕ) → length (walk n t es start v e) ≤ n
unfolding walk
walk_short t zero es start v e = let z : 0 ≤ 0 = omega arith in z
walk_short t (suc n) es start v e = go (eqb w start) (walk_short t n es start w (other_edge t w e es))
  where
    w : ℕ
    w = other_end t v e

    go : (b : Bool) → length (walk n t es start w (other_edge t w e es)) ≤ n → suc (length (if b then [] else walk n t es start w (other_edge t w e es))) ≤ suc n
    go true h = let z : 1 ≤ suc n = omega arith in z
    go false h = let z : suc (length (walk n t es start w (other_edge t w e es))) ≤ suc n = omega (arith, h) in z

-- ---- no fewer than there are edges

-- what is above y is not y
pub none_again : (y : ℕ) (zs : List ℕ) → all (ltb y) zs ≡ true → keep (λ x. not (eqb x y)) zs ≡ zs
none_again y [] h = refl
none_again y (z ∷ zs) h =
    let l = le_test (suc y) z (and_left (ltb y z) (all (ltb y) zs) h) in
    let d = not_eq z y (λ e. let b : ⊥ = omega (arith, e, l) in b) in
    if_true (not (eqb z y)) (z ∷ keep (λ x. not (eqb x y)) zs) (keep (λ x. not (eqb x y)) zs) (ap not d)
    ∙ ap (λ (r : List ℕ). z ∷ r) (none_again y zs (and_right (ltb y z) (all (ltb y) zs) h))

-- without one number a rising list is at most one shorter
one_less : (y : ℕ) (es : List ℕ) → rises es ≡ true → length es ≤ suc (length (keep (λ x. not (eqb x y)) es))
one_less y [] h = zero-le
one_less y (e ∷ es) h = go (eqb e y) refl (one_less y es (and_right (all (ltb e) es) (rises es) h))
  where
    go : (b : Bool) → eqb e y ≡ b → length es ≤ suc (length (keep (λ x. not (eqb x y)) es))
        → suc (length es) ≤ suc (length (if not b then e ∷ keep (λ x. not (eqb x y)) es else keep (λ x. not (eqb x y)) es))
    go true q l =
        let above = subst (λ (z : ℕ). all (ltb z) es ≡ true) (eq_test e y q) (and_left (all (ltb e) es) (rises es) h) in
        suc-le-suc (le_of_eq (ap length (sym (none_again y es above))))
    go false q l = suc-le-suc l

-- a rising list whose numbers all stand in another is no longer than that
covers : (ts es : List ℕ) → rises es ≡ true → ((x : ℕ) → member x es ≡ true → member x ts ≡ true) → length es ≤ length ts
covers [] [] h a = zero-le
covers [] (e ∷ es) h a = absurd (false≢true (a e (or_left (eqb e e) (member e es) (eqb_self e))))
covers (y ∷ ts) es h a =
    le_trans (one_less y es h) (suc-le-suc (covers ts (keep (λ x. not (eqb x y)) es) (keep_rises (λ x. not (eqb x y)) es h)
    (λ x m.
    (let k = member_kept (λ z. not (eqb z y)) es x m in
    or_case (eqb x y) (member x ts) (a x k.0) (member x ts ≡ true) (λ q. absurd (true≢false (sym k.1 ∙ ap not q))) (λ i. i)))))

module _ (L : Limits) (t : Table) (s : sound L t ≡ true) (f : ℕ) (u : f < element_count t) (q : rank t f ≡ 2) where
  pub rising : rises (boundary t f) ≡ true
  rising = (linked L t s f u q).up

  pub all_steps : length (boundary t f) ≤ length (taken (around t (boundary t f)))
  all_steps =
      covers (taken (around t (boundary t f))) (boundary t f) rising
      (all_taken t (boundary t f) (is_face t (boundary t f) (linked L t s f u q)) (starts L t s f u q) (takes_all L t s f u q))

  steps_long : length (around t (boundary t f)) ≡ length (boundary t f)
  steps_long =
      le_antisymm (walk_short t (length (boundary t f)) (boundary t f) (start_of t (boundary t f)) (start_of t (boundary t f)) (first_edge t (start_of t (boundary t f)) (boundary t f)))
      (le_trans all_steps (le_of_eq (length-map (around t (boundary t f)) _)))

-- ---- as pairs

pairs_long : (t : Table) (v : ℕ) (ss : List (ℕ × ℕ)) → length (pairs t v ss) ≡ length ss
pairs_long t v [] = refl
pairs_long t v (s ∷ ss) = ap suc (pairs_long t s.1 ss)

pub walk_long : (L : Limits) (t : Table) → sound L t ≡ true → (f : ℕ) (ps : List (ℕ × ℕ)) → f < element_count t → edges_in_order t f ≡ answer ps → length ps ≡ length (boundary t f)
walk_long L t s f ps u h =
    let w = told t f ps h in
    ap length (sym w.same) ∙ pairs_long t (start_of t (boundary t f)) (around t (boundary t f)) ∙ steps_long L t s f u w.ranked
