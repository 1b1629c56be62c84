-- Test 7 is the same for a boundary and for that boundary renumbered: a corner lies on as many of the edges, and they hang together.
-- A renumbering may change which corner is the lowest and which neighbour is the lower; one ring, as RingWalked says it, does not name either.
use Rattle.std.specs.Prelude.{if◌then◌else◌}
use Prim.Native.Nat.{ℕ, suc, zero, ◌+◌, ◌<◌, suc-le-suc, zero-le}
use mathlib.Core.Bool.{Bool, true, false, true≢false, ◌||◌, ◌&&◌}
use mathlib.Core.List.{List, [], ◌∷◌, ◌++◌}
use mathlib.Core.Path.{◌≡◌, refl, ap, ap₂, sym, ◌∙◌, subst}
use native.Mathlib.Nat.{le_of_lt, not-suc-le-zero}
use native.Mathlib.Omega.{arith}
use lib.Dec.{ltb, eqb}
use lib.ListN.{length, length-append}
use Rattle.rules.specs.Lists.{all, keep, member, occurrences, with_member, rises, any}
use Rattle.rules.specs.Table.{Table, element, element_count, boundary, boundary_of}
use Rattle.rules.specs.Walk.{ends_of, around, each_once, each_twice}
use Rattle.rules.specs.Sound.{closed}
use Rattle.rules.specs.Rings.{HangTogether}
use Rattle.carvings.specs.Renumbered.{image}
use Rattle.carvings.proofs.Embeds.{Embeds}
use Rattle.rules.proofs.Extends.{Below, below_more}
use Rattle.rules.proofs.FaceEdges.{of_all, Two, two}
use Rattle.rules.proofs.Growing.{keep_append}
use Rattle.carvings.proofs.Images.{below_member, image_new, image_length, boundary_renumbered, any_image, rises_image}
use Rattle.rules.proofs.Laws.{and_right, eq_test, test_eq, or_false, both_ways, and_true, and_left, eqb_self}
use Rattle.rules.proofs.Reach.{some_of_lem, any_at}
use Rattle.rules.proofs.RingWalked.{all_of, none_there, ring_taken, taken_ring}

-- ---- how often a number stands in a list

abbrev step : Bool → ℕ → ℕ
step true n = suc n
step false n = n

step_swap : (a b : Bool) (n : ℕ) → step a (step b n) ≡ step b (step a n)
step_swap true true n = refl
step_swap true false n = refl
step_swap false true n = refl
step_swap false false n = refl

occ_cons : (v x : ℕ) (xs : List ℕ) → occurrences v (x ∷ xs) ≡ step (eqb v x) (occurrences v xs)
occ_cons v x xs = go (eqb v x)
  where
    go : (b : Bool) → length (if b then x ∷ keep (eqb v) xs else keep (eqb v) xs) ≡ step b (occurrences v xs)
    go true = refl
    go false = refl

occ_append : (v : ℕ) (xs ys : List ℕ) → occurrences v (xs ++ ys) ≡ occurrences v xs + occurrences v ys
occ_append v xs ys = ap length (keep_append (eqb v) xs ys) ∙ length-append (keep (eqb v) xs) (keep (eqb v) ys)

occ_some : (v : ℕ) (xs : List ℕ) → member v xs ≡ true → 0 < occurrences v xs
occ_some v [] h = absurd (true≢false (sym h))
occ_some v (x ∷ xs) h = subst (λ (n : ℕ). 0 < n) (sym (occ_cons v x xs)) (go (eqb v x) h (occ_some v xs))
  where
    go : (b : Bool) → (b || member v xs) ≡ true → (member v xs ≡ true → 0 < occurrences v xs) → 0 < step b (occurrences v xs)
    go true k r = suc-le-suc zero-le
    go false k r = r k

occ_there : (v : ℕ) (xs : List ℕ) → 0 < occurrences v xs → member v xs ≡ true
occ_there v xs h = go (member v xs) refl
  where
    go : (b : Bool) → member v xs ≡ b → b ≡ true
    go true e = refl
    go false e = absurd (not-suc-le-zero (subst (λ (n : ℕ). 0 < n) (none_there v xs e) h))

occ_with : (y x : ℕ) (s : List ℕ) → member x s ≡ false → occurrences y (with_member x s) ≡ step (eqb y x) (occurrences y s)
occ_with y x [] h = occ_cons y x []
occ_with y x (z ∷ zs) h = go (ltb x z) (eqb x z) (or_false (eqb x z) (member x zs) h).0 (occ_with y x zs (or_false (eqb x z) (member x zs) h).1)
  where
    go : (b c : Bool) → c ≡ false → occurrences y (with_member x zs) ≡ step (eqb y x) (occurrences y zs)
        → occurrences y (if b then x ∷ z ∷ zs else if c then z ∷ zs else (z ∷ with_member x zs)) ≡ step (eqb y x) (occurrences y (z ∷ zs))
    go true c e r = occ_cons y x (z ∷ zs)
    go false true e r = absurd (true≢false e)
    go false false e r =
        occ_cons y z (with_member x zs) ∙ ap (step (eqb y z)) r ∙ step_swap (eqb y z) (eqb y x) (occurrences y zs) ∙ ap (step (eqb y x)) (sym (occ_cons y z zs))

ends_with : (t : Table) (v x : ℕ) (s : List ℕ) → member x s ≡ false → occurrences v (ends_of t (with_member x s)) ≡ occurrences v (boundary t x) + occurrences v (ends_of t s)
ends_with t v x [] h = occ_append v (boundary t x) []
ends_with t v x (z ∷ zs) h = go (ltb x z) (eqb x z) (or_false (eqb x z) (member x zs) h).0 (ends_with t v x zs (or_false (eqb x z) (member x zs) h).1)
  where
    go : (b c : Bool) → c ≡ false → occurrences v (ends_of t (with_member x zs)) ≡ occurrences v (boundary t x) + occurrences v (ends_of t zs)
        → occurrences v (ends_of t (if b then x ∷ z ∷ zs else if c then z ∷ zs else (z ∷ with_member x zs))) ≡ occurrences v (boundary t x) + occurrences v (ends_of t (z ∷ zs))
    go true c e r = occ_append v (boundary t x) (ends_of t (z ∷ zs))
    go false true e r = absurd (true≢false e)
    go false false e r =
        let p = occ_append v (boundary t z) (ends_of t (with_member x zs)) in
        let q = occ_append v (boundary t z) (ends_of t zs) in
        omega (arith, p, q, r)

-- ---- renumbered

module _ (f : ℕ → ℕ) (n : ℕ) (once : (e e' : ℕ) → e < n → e' < n → f e ≡ f e' → e ≡ e') where
  occ_image : (v : ℕ) → v < n → (s : List ℕ) → rises s ≡ true → Below n s → occurrences (f v) (image f s) ≡ occurrences v s
  occ_image v l [] r b = refl
  occ_image v l (x ∷ xs) r b =
      occ_with (f v) (f x) (image f xs) (image_new f n once x xs r b)
      ∙ ap₂ step (both_ways (eqb (f v) (f x)) (eqb v x) (λ e. test_eq v x (once v x l b.0 (eq_test (f v) (f x) e))) (λ e. test_eq (f v) (f x) (ap f (eq_test v x e))))
      (occ_image v l xs (and_right (all (ltb x) xs) (rises xs) r) b.1)
      ∙ sym (occ_cons v x xs)

below_both : (n : ℕ) (xs ys : List ℕ) → Below n xs → Below n ys → Below n (xs ++ ys)
below_both n [] ys p q = q
below_both n (x ∷ xs) ys p q = (p.0, below_both n xs ys p.1 q)

module _ (T B t : Table) (f : ℕ → ℕ) (em : Embeds T B t f) where
  below_ends : (s : List ℕ) → Below (element_count t) s → Below (element_count t) (ends_of t s)
  below_ends [] b = tt
  below_ends (x ∷ xs) b = below_both (element_count t) (boundary t x) (ends_of t xs) (below_more (boundary t x) (le_of_lt b.0) (em.under x b.0)) (below_ends xs b.1)

  ends_image : (v : ℕ) → v < element_count t → (s : List ℕ) → rises s ≡ true → Below (element_count t) s → occurrences (f v) (ends_of B (image f s)) ≡ occurrences v (ends_of t s)
  ends_image v l [] r b = refl
  ends_image v l (x ∷ xs) r b =
      ends_with B (f v) (f x) (image f xs) (image_new f (element_count t) em.once x xs r b)
      ∙ ap₂ (λ (p q : ℕ). p + q)
      (ap (λ (l : List ℕ). occurrences (f v) l) (ap boundary_of (em.content x b.0) ∙ boundary_renumbered f (element t x))
      ∙ occ_image f (element_count t) em.once v l (boundary t x) (em.rising x b.0) (below_more (boundary t x) (le_of_lt b.0) (em.under x b.0)))
      (ends_image v l xs (and_right (all (ltb x) xs) (rises xs) r) b.1)
      ∙ sym (occ_append v (boundary t x) (ends_of t xs))

  twice_in : (s : List ℕ) → rises s ≡ true → Below (element_count t) s → each_twice B (image f s) ≡ true → each_twice t s ≡ true
  twice_in s rs b h =
      all_of (λ v. eqb (occurrences v (ends_of t s)) 2) (ends_of t s) (λ v m.
      let l = below_member (element_count t) (ends_of t s) v (below_ends s b) m in
      let q = ends_image v l s rs b in
      let m' : member (f v) (ends_of B (image f s)) ≡ true = occ_there (f v) (ends_of B (image f s)) (subst (λ (k : ℕ). 0 < k) (sym q) (occ_some v (ends_of t s) m)) in
      subst (λ (k : ℕ). eqb k 2 ≡ true) q (of_all (λ w. eqb (occurrences w (ends_of B (image f s))) 2) (ends_of B (image f s)) (f v) h m'))

  -- ---- the edges hang together

  boundary_in_lem : (e : ℕ) → e < element_count t → boundary B (f e) ≡ image f (boundary t e)
  boundary_in_lem e l = ap boundary_of (em.content e l) ∙ boundary_renumbered f (element t e)

  into_image : (x : ℕ) (s : List ℕ) → member x s ≡ true → member (f x) (image f s) ≡ true
  into_image x s m = any_image f (eqb (f x)) s ∙ any_at (λ z. eqb (f x) (f z)) s x m (eqb_self (f x))

  from_image : (y : ℕ) (s : List ℕ) → member y (image f s) ≡ true → (x : ℕ) × (member x s ≡ true) × (y ≡ f x)
  from_image y s m = let w = some_of_lem (λ z. eqb y (f z)) s (sym (any_image f (eqb y) s) ∙ m) in (w.0, w.1, eq_test y (f w.0) w.2)

  module _ (s : List ℕ) (b : Below (element_count t) s) where
    used : (x : ℕ) → member x s ≡ true → x < element_count t
    used x m = below_member (element_count t) s x b m

    -- a corner of the renumbered edge is a renumbered corner of the edge
    corner_in : (x v : ℕ) → member x s ≡ true → member v (boundary B (f x)) ≡ true → (c : ℕ) × (member c (boundary t x) ≡ true) × (v ≡ f c)
    corner_in x v m h = from_image v (boundary t x) (subst (λ (l : List ℕ). member v l ≡ true) (boundary_in_lem x (used x m)) h)

    low_corner : (x c : ℕ) → member x s ≡ true → member c (boundary t x) ≡ true → c < element_count t
    low_corner x c m h = below_member (element_count t) (boundary t x) c (below_more (boundary t x) (le_of_lt (used x m)) (em.under x (used x m))) h

    together_in : HangTogether B (image f s) → HangTogether t s
    together_in h S e m z share x n =
        let w = member_of (f x) (h S' (f e) (into_image e s m) (of_member (f e) e m refl z) share' (f x) (into_image x s n)) in
        subst (λ (j : ℕ). S j ≡ true) (sym (em.once x w.0 (used x n) (used w.0 w.1) w.2)) w.3
      where
        -- the new numbers of those in S
        S' : ℕ → Bool
        S' y = any (λ a. eqb y (f a) && S a) s

        of_member : (y a : ℕ) → member a s ≡ true → y ≡ f a → S a ≡ true → S' y ≡ true
        of_member y a k q p = any_at (λ c. eqb y (f c) && S c) s a k (and_true (eqb y (f a)) (S a) (test_eq y (f a) q) p)

        member_of : (y : ℕ) → S' y ≡ true → (a : ℕ) × (member a s ≡ true) × (y ≡ f a) × (S a ≡ true)
        member_of y p =
            let w = some_of_lem (λ c. eqb y (f c) && S c) s p in
            (w.0, w.1, eq_test y (f w.0) (and_left (eqb y (f w.0)) (S w.0) w.2), and_right (eqb y (f w.0)) (S w.0) w.2)

        share' : (y y' v : ℕ) → member y (image f s) ≡ true → member y' (image f s) ≡ true → member v (boundary B y) ≡ true → member v (boundary B y') ≡ true → S' y ≡ true → S' y' ≡ true
        share' y y' v k k' c c' p =
            let a = member_of y p in
            let a' = from_image y' s k' in
            let d = corner_in a.0 v a.1 (subst (λ (j : ℕ). member v (boundary B j) ≡ true) a.2 c) in
            let d' = corner_in a'.0 v a'.1 (subst (λ (j : ℕ). member v (boundary B j) ≡ true) a'.2 c') in
            let q : d'.0 ≡ d.0 = em.once d'.0 d.0 (low_corner a'.0 d'.0 a'.1 d'.1) (low_corner a.0 d.0 a.1 d.1) (sym d'.2 ∙ d.2) in
            of_member y' a'.0 a'.1 a'.2
            (share a.0 a'.0 d.0 a.1 a'.1 d.1 (subst (λ (j : ℕ). member j (boundary t a'.0) ≡ true) q d'.1) a.3)

  -- for rank 2: the edges have two ends each
  pub closed_in : (r : ℕ) (s : List ℕ) → rises s ≡ true → Below (element_count t) s → (r ≡ 2 → (x : ℕ) → member x (image f s) ≡ true → Two (boundary B x))
      → closed B r (image f s) ≡ true → closed t r s ≡ true
  closed_in zero s rs b two_in h = refl
  closed_in (suc zero) s rs b two_in h = subst (λ (k : ℕ). eqb k 2 ≡ true) (image_length f (element_count t) em.once s rs b) h
  closed_in (suc (suc zero)) s rs b two_in h =
      let h₁ = and_left (each_twice B (image f s)) (each_once (image f s) (around B (image f s))) h in
      let h₂ = and_right (each_twice B (image f s)) (each_once (image f s) (around B (image f s))) h in
      let w = twice_in s rs b h₁ in
      and_true (each_twice t s) (each_once s (around t s)) w
      (ring_taken t s (record { ends = λ x m. two_of_lem x (used s b x m) (two_in refl (f x) (into_image x s m)); up = rs; twice = w })
      (together_in s b (taken_ring B (image f s) (record { ends = two_in refl; up = rises_image f s; twice = h₁ }) h₂)))
    where
      two_of_lem : (x : ℕ) → x < element_count t → Two (boundary B (f x)) → Two (boundary t x)
      two_of_lem x l w =
          two (boundary t x)
          (sym (image_length f (element_count t) em.once (boundary t x) (em.rising x l) (below_more (boundary t x) (le_of_lt l) (em.under x l))) ∙ ap length (sym (boundary_in_lem x l) ∙ w.same))
          (em.rising x l)
  closed_in (suc (suc (suc r))) s rs b two_in h = refl
