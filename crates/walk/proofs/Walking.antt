-- The walk over the memory's words is the rules' walk over the table, step by step: each edge has the same ends in both.
-- The rules' walk stops at the start, and the words' does not look for it: they are alike where the rules' has as many steps as there are edges.
use Rattle.std.specs.Prelude.{if◌then◌else◌}
use Prim.Native.Nat.{ℕ, zero, suc, ◌≤◌}
use mathlib.Core.Path.{◌≡◌, refl, sym, ap, ap₂, ◌∙◌, subst}
use mathlib.Core.Bool.{Bool, true, false, not, ◌&&◌, ◌||◌}
use mathlib.Core.List.{List, [], ◌∷◌, map}
use native.Mathlib.Nat.{le_of_suc-le-suc}
use native.Mathlib.Omega.{arith}
use lib.Dec.{eqb, ltb}
use lib.ListN.{length, get_or}
use Rattle.rules.specs.Lists.{all, keep, joined, member, rises}
use Rattle.rules.specs.Table.{Table, element_count, boundary}
use Rattle.rules.specs.Held.{AllOf}
use Rattle.rules.specs.Walk.{edges_at, other_end, other_edge, walk, first_edge}
use Rattle.rules.specs.Questions.{pairs}
use Rattle.rules.proofs.WalkSteps.{none_again}
use Rattle.rules.proofs.Laws.{if_true, if_false, either, and_left, not_eq, eqb_self}
use Rattle.rules.proofs.VertexSet.{keep_rises}
use Rattle.rules.proofs.WalkRound.{taken}
use Rattle.walk.specs.Walks.{low_end, high_end, has_end, end_across, edge_beside, no_edge, first_way, numbers_from}
use Rattle.walk.proofs.EdgeLoops.{found_fits}
use Rattle.walk.proofs.Faces.{CornerAt, Met, EdgeAt}

-- ---- what is kept of a list

keep_same : (p q : ℕ → Bool) (xs : List ℕ) → AllOf (λ x. p x ≡ q x) xs → keep p xs ≡ keep q xs
keep_same p q [] h = refl
keep_same p q (x ∷ xs) h = ap₂ (λ (b : Bool) (r : List ℕ). if b then x ∷ r else r) h.0 (keep_same p q xs h.1)

keep_both : (p q : ℕ → Bool) (xs : List ℕ) → keep p (keep q xs) ≡ keep (λ x. p x && q x) xs
keep_both p q [] = refl
keep_both p q (x ∷ xs) = go (p x) (q x) refl ∙ ap (λ (r : List ℕ). if p x && q x then x ∷ r else r) (keep_both p q xs)
  where
    go : (b c : Bool) → p x ≡ b → keep p (if c then x ∷ keep q xs else keep q xs) ≡ (if b && c then x ∷ keep p (keep q xs) else keep p (keep q xs))
    go true true e = if_true (p x) (x ∷ keep p (keep q xs)) (keep p (keep q xs)) e
    go false true e = if_false (p x) (x ∷ keep p (keep q xs)) (keep p (keep q xs)) e
    go true false e = refl
    go false false e = refl

-- in a rising list the second is the first that is not the first
second_is : (ys : List ℕ) → rises ys ≡ true → get_or ys 1 0 ≡ get_or (keep (λ x. not (eqb x (get_or ys 0 0))) ys) 0 0
second_is [] h = refl
second_is (y ∷ ys) h =
    ap (λ (l : List ℕ). get_or l 0 0) (sym (none_again y ys (and_left (all (ltb y) ys) (rises ys) h))
    ∙ sym (if_false (not (eqb y y)) (y ∷ keep (λ x. not (eqb x y)) ys) (keep (λ x. not (eqb x y)) ys) (ap not (eqb_self y))))

-- ---- the edges at a corner

or_none : (b : Bool) → (b || false) ≡ b
or_none true = refl
or_none false = refl

module _ (t : Table) (es : List ℕ) where
  across_is : (v x : ℕ) → Met t es x → other_end t v x ≡ end_across es v x
  across_is v x M = ap₂ (λ (a b : ℕ). if eqb a v then b else a) M.first M.second

  ends_are : (v : ℕ) (xs : List ℕ) → AllOf (EdgeAt t es) xs → AllOf (λ x. member v (boundary t x) ≡ has_end es v x) xs
  ends_are v [] E = tt
  ends_are v (x ∷ xs) E = (ap (member v) E.0.ends ∙ ap (λ (b : Bool). eqb v (low_end es x) || b) (or_none (eqb v (high_end es x))), ends_are v xs E.1)

  module _ (xs : List ℕ) (E : AllOf (EdgeAt t es) xs) where
    at_is : (v : ℕ) → edges_at t v xs ≡ keep (has_end es v) xs
    at_is v = keep_same (λ x. member v (boundary t x)) (has_end es v) xs (ends_are v xs E)

    beside_is : (v e : ℕ) → other_edge t v e xs ≡ edge_beside es e v xs
    unfolding edge_beside
    beside_is v e = ap (λ (l : List ℕ). get_or (keep (λ x. not (eqb x e)) l) 0 0) (at_is v) ∙ ap (λ (l : List ℕ). get_or l 0 0) (keep_both (λ x. not (eqb x e)) (has_end es v) xs)

    mets : (ys : List ℕ) → AllOf (EdgeAt t es) ys → AllOf (Met t es) ys
    mets [] h = tt
    mets (y ∷ ys) h = (h.0.met, mets ys h.1)

    module _ (none : Met t es 0) where
      beside_met : (v e : ℕ) → Met t es (edge_beside es e v xs)
      unfolding edge_beside
      beside_met v e = found_fits (Met t es) (λ x. not (eqb x e) && has_end es v x) xs none (mets xs E)

      -- ---- the first edge

      module _ (small : element_count t ≤ 512) (up : rises xs ≡ true) (v : ℕ) where
        abbrev a : ℕ
        a = edge_beside es no_edge v xs

        abbrev b : ℕ
        b = edge_beside es a v xs

        numbered : (ys : List ℕ) → AllOf (EdgeAt t es) ys → AllOf (λ x. has_end es v x ≡ (not (eqb x no_edge) && has_end es v x)) ys
        numbered [] h = tt
        numbered (y ∷ ys) h =
            let l = h.0.met.used in
            (sym (ap (λ (b : Bool). not b && has_end es v y) (not_eq y no_edge (λ e. let b : ⊥ = omega (arith, e, l, small) in b))), numbered ys h.1)

        one : get_or (edges_at t v xs) 0 0 ≡ a
        unfolding edge_beside
        one = ap (λ (l : List ℕ). get_or l 0 0) (at_is v ∙ keep_same (has_end es v) (λ x. not (eqb x no_edge) && has_end es v x) xs (numbered xs E))

        other : get_or (edges_at t v xs) 1 0 ≡ b
        other =
            second_is (edges_at t v xs) (keep_rises (λ x. member v (boundary t x)) xs up)
            ∙ ap (λ (x : ℕ). other_edge t v x xs) one ∙ beside_is v a

        pub first_is : first_edge t v xs ≡ first_way es v xs
        unfolding first_way
        first_is =
            ap₂ (λ (x y : ℕ). if ltb (other_end t v y) (other_end t v x) then y else x) one other
            ∙ ap₂ (λ (p q : ℕ). if ltb q p then b else a) (across_is v a (beside_met v no_edge)) (across_is v b (beside_met v a))

        pub first_met : Met t es (first_way es v xs)
        unfolding first_way
        first_met = either (Met t es) (ltb (end_across es v b) (end_across es v a)) b a (beside_met v a) (beside_met v no_edge)

      -- ---- the walk

      -- a step, and then the walk from the corner it leads to unless that is the start
      step_is : (n start v e : ℕ) → Met t es e → walk (suc n) t xs start v e
          ≡ (e, end_across es v e) ∷ (if eqb (end_across es v e) start then [] else walk n t xs start (end_across es v e) (edge_beside es e (end_across es v e) xs))
      unfolding walk
      step_is n start v e M =
          ap (λ (w : ℕ). on w (walk n t xs start w (other_edge t w e xs))) (across_is v e M)
          ∙ ap (λ (x : ℕ). on (end_across es v e) (walk n t xs start (end_across es v e) x)) (beside_is (end_across es v e) e)
        where
          on : ℕ → List (ℕ × ℕ) → List (ℕ × ℕ)
          on w rest = (e, w) ∷ (if eqb w start then [] else rest)

      across_corner : (v e : ℕ) → Met t es e → CornerAt t es (end_across es v e)
      across_corner v e M = either (CornerAt t es) (eqb (low_end es e) v) (high_end es e) (low_end es e) M.high M.low

      -- the rules' steps, as vertex numbers
      abbrev numbers_of : ℕ → List (ℕ × ℕ) → List ℕ
      numbers_of v ss = joined (map (λ (p : ℕ × ℕ). p.0 ∷ p.1 ∷ []) (pairs t v ss))

      -- a walk that still has n steps stops here only where n is 0
      goes_on : (n w d : ℕ) (ss : List (ℕ × ℕ)) (b : Bool) → n ≤ length (taken (if b then [] else ss)) → (n ≤ length (taken ss) → numbers_of w ss ≡ numbers_from n es xs w d)
          → numbers_of w (if b then [] else ss) ≡ numbers_from n es xs w d
      unfolding numbers_from
      goes_on n w d ss true l later = ap (λ (m : ℕ). numbers_from m es xs w d) (let k : n ≤ 0 = l in let z : 0 ≡ n = omega (arith, k) in z)
      goes_on n w d ss false l later = later l

      pub walk_is : (n start v e : ℕ) → Met t es e → CornerAt t es v → n ≤ length (taken (walk n t xs start v e)) → numbers_of v (walk n t xs start v e) ≡ numbers_from n es xs v e
      unfolding walk numbers_from
      walk_is zero start v e M c l = refl
      walk_is (suc n) start v e M c l =
          let w = end_across es v e in
          let d = edge_beside es e w xs in
          let a = across_corner v e M in
          let r = step_is n start v e M in
          let more = le_of_suc-le-suc (subst (λ (ss : List (ℕ × ℕ)). suc n ≤ length (taken ss)) r l) in
          ap (numbers_of v) r ∙ (λ i. c.named i ∷ a.named i ∷ goes_on n w d (walk n t xs start w d) (eqb w start) more (walk_is n start w d (beside_met w e) a) i)
