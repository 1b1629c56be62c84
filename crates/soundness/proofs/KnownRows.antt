-- The words that tell of earlier elements, read as rows: ranks and ends stand where the tests look for them. And where two memories say the same
-- of the elements before a row, the row is sound in the one exactly if it is in the other: only a number below the row's own is ever looked at.
use Rattle.std.specs.Prelude.{if◌then◌else◌}
use Prim.Native.Nat.{ℕ, zero, suc, ◌+◌, ◌*◌, ◌≤◌, ◌<◌}
use mathlib.Core.Bool.{Bool, true, false, cond, ◌&&◌}
use mathlib.Core.List.{List, [], ◌∷◌, map}
use mathlib.Core.Path.{◌≡◌, refl, sym, ap, ap₂, subst, ◌∙◌}
use native.Mathlib.Nat.{mul-le-mul_right, suc-mul, zero-add}
use native.Mathlib.Omega.{arith}
use lib.Dec.{eqb, leb, ltb, lit≤}
use lib.ListN.{length, get_or}
use borrow.Author.Tests.{ltb-true}
use Rattle.rules.specs.Held.{Wide}
use Rattle.rules.specs.Limits.{desk}
use Rattle.rules.specs.Lists.{all, member, occurrences, rises, up_to, up_from}
use Rattle.rules.specs.Table.{boundary}
use Rattle.rules.proofs.Counting.{length_up, getD_up}
use Rattle.rules.proofs.FaceEdges.{Two, of_all}
use Rattle.rules.proofs.Laws.{and_left, and_right, both_ways, eq_test}
use Rattle.rules.proofs.RingWalked.{rule_ring, ring_rule, ring_along}
use Rattle.space.specs.Closed.{EndsLow, first_end, second_end, raw_ends, as_edges, few, ring_raw, closed_raw}
use Rattle.space.proofs.Laid.{laid_read}
use Rattle.space.proofs.TwiceMet.{boundary_as}
use Rattle.soundness.specs.declared.row.Spacing.{Spacing}
use Rattle.soundness.specs.Known.{known_row, known_rows, KnownAlike, Spaced}
use Rattle.soundness.specs.Words.{EdgesLow, boundary_sound, boundary_in, element_sound, facet_words, head_words, corner_named, row_sound}

-- ---- the words as rows

module _ (ws : List ℕ) (sp : Spacing) where
  wide : (xs : List ℕ) → Wide 36 (map (known_row ws sp) xs)
  wide [] = tt
  wide (x ∷ xs) = (refl, wide xs)

  counted : (k n i : ℕ) → i < n → get_or (up_from k n) i 0 ≡ k + i
  counted k n i l = sym (ap (λ (xs : List ℕ). get_or xs i 0) (same (up_from k n))) ∙ getD_up (λ x. x) 0 k n i l
    where
      same : (xs : List ℕ) → map (λ x. x) xs ≡ xs
      same [] = refl
      same (x ∷ xs) = ap (λ (l : List ℕ). x ∷ l) (same xs)

  module _ (x : ℕ) (l : x < 512) where
    word : (j : ℕ) → j < 36 → get_or (known_rows ws sp) (x * 36 + j) 0 ≡ get_or (known_row ws sp x) j 0
    unfolding known_rows
    word j k =
        laid_read 36 (known_row ws sp) 0 18432 (up_to 512) x j 0 0 (wide (up_to 512)) (let e = length_up 0 512 in let z : x < length (up_to 512) = omega (arith, e, l) in z) k
        ∙ ap (λ (y : ℕ). get_or (known_row ws sp y) j 0) (counted 0 512 x l ∙ zero-add x)

    pub rank_is : get_or (known_rows ws sp) (x * 36) 0 ≡ get_or ws (x * sp.width) 0
    rank_is = ap (λ (m : ℕ). get_or (known_rows ws sp) m 0) (let z : x * 36 ≡ x * 36 + 0 = omega arith in z) ∙ word 0 (lit≤ tt)

    pub first_is : first_end (known_rows ws sp) x ≡ get_or ws (x * sp.width + sp.ends) 0
    first_is = word 4 (lit≤ tt)

    pub second_is : second_end (known_rows ws sp) x ≡ get_or ws (x * sp.width + sp.ends + 1) 0
    second_is = word 5 (lit≤ tt)

    -- the first and the second end by their number
    pub end_is : (i : ℕ) → i < 2 → get_or ws (x * sp.width + sp.ends + i) 0 ≡ get_or (known_rows ws sp) (x * 36 + (4 + i)) 0
    end_is zero h = ap (λ (m : ℕ). get_or ws m 0) (let z : x * sp.width + sp.ends + 0 ≡ x * sp.width + sp.ends = omega arith in z) ∙ sym first_is
    end_is (suc zero) h = sym second_is
    end_is (suc (suc i)) h = absurd (let z : ⊥ = omega (arith, h) in z)

    -- the words of an element are there, and few enough to count
    pub record Place : Type 0 where
      pub within : x * sp.width + sp.width ≤ length ws
      pub low : x * sp.width + sp.width ≤ 18432

    pub place : Spaced ws sp → Place
    place S =
        let m : suc x * sp.width ≤ 512 * sp.width = mul-le-mul_right sp.width l in
        let k = suc-mul x sp.width in
        let h = S.long in
        let w = S.width in
        record {
          within = (let z : x * sp.width + sp.width ≤ length ws = omega (arith, m, k, h) in z);
          low = (let z : x * sp.width + sp.width ≤ 18432 = omega (arith, m, k, w) in z);
        }

-- ---- two memories that say the same of the elements before row e

module _ {es fs : List ℕ} {e : ℕ} (K : KnownAlike es fs e) where
  pub edges_alike : EdgesLow es e → EdgesLow fs e
  edges_alike E = record {
    ends = λ x l q.
        let L = E.ends x l (K.ranks x l ∙ q) in
        let a = K.first x l in
        let b = K.second x l in
        let h = L.apart in
        let k = L.second in
        record { apart = (let z : first_end fs x < second_end fs x = omega (arith, a, b, h) in z); second = (let z : second_end fs x < 512 = omega (arith, b, k) in z) };
  }

  ranks_alike : (r : ℕ) (b : List ℕ) → all (λ x. ltb x e) b ≡ true → all (λ x. eqb (suc (get_or es (x * 36) 0)) r) b ≡ all (λ x. eqb (suc (get_or fs (x * 36) 0)) r) b
  ranks_alike r [] h = refl
  ranks_alike r (x ∷ xs) h =
      ap₂ (λ (p q : Bool). p && q) (ap (λ (m : ℕ). eqb (suc m) r) (K.ranks x (ltb-true x e (and_left (ltb x e) (all (λ y. ltb y e) xs) h))))
      (ranks_alike r xs (and_right (ltb x e) (all (λ y. ltb y e) xs) h))

  ends_alike : (b : List ℕ) → all (λ x. ltb x e) b ≡ true → raw_ends es b ≡ raw_ends fs b
  unfolding raw_ends
  ends_alike [] h = refl
  ends_alike (x ∷ xs) h =
      let l = ltb-true x e (and_left (ltb x e) (all (λ y. ltb y e) xs) h) in
      λ i. K.first x l i ∷ K.second x l i ∷ ends_alike xs (and_right (ltb x e) (all (λ y. ltb y e) xs) h) i

  module _ (room : e ≤ 512) (E : EdgesLow es e) (b : List ℕ) (up : rises b ≡ true) (below : all (λ x. ltb x e) b ≡ true) (edges : all (λ x. eqb (suc (get_or es (x * 36) 0)) 2) b ≡ true) where
    low : (x : ℕ) → member x b ≡ true → x < e
    low x m = ltb-true x e (of_all (λ y. ltb y e) b x below m)

    ends : (x : ℕ) → member x b ≡ true → EndsLow es x
    ends x m =
        let q = eq_test (suc (get_or es (x * 36) 0)) 2 (of_all (λ y. eqb (suc (get_or es (y * 36) 0)) 2) b x edges m) in
        E.ends x (low x m) (let z : get_or es (x * 36) 0 ≡ 1 = omega (arith, q) in z)

    pair : (gs : List ℕ) (x : ℕ) → member x b ≡ true → boundary (as_edges gs) x ≡ first_end gs x ∷ second_end gs x ∷ []
    pair gs x m = let l = low x m in boundary_as gs x (let z : x < 512 = omega (arith, l, room) in z)

    same : (x : ℕ) → member x b ≡ true → boundary (as_edges fs) x ≡ boundary (as_edges es) x
    same x m = pair fs x m ∙ sym (λ i. K.first x (low x m) i ∷ K.second x (low x m) i ∷ []) ∙ sym (pair es x m)

    two_here : (x : ℕ) → member x b ≡ true → Two (boundary (as_edges es) x)
    two_here x m = record { one = _; next = _; same = pair es x m; apart = (ends x m).apart }

    two_there : (x : ℕ) → member x b ≡ true → Two (boundary (as_edges fs) x)
    two_there x m = subst Two (sym (same x m)) (two_here x m)

    ring_alike : ring_raw es b ≡ ring_raw fs b
    ring_alike =
        both_ways (ring_raw es b) (ring_raw fs b)
        (λ k. ring_rule (as_edges fs) b up two_there (ring_along (as_edges es) (as_edges fs) b same (rule_ring (as_edges es) b up two_here k)))
        (λ k. ring_rule (as_edges es) b up two_here (ring_along (as_edges fs) (as_edges es) b (λ x m. sym (same x m)) (rule_ring (as_edges fs) b up two_there k)))

    face_alike : (d : ℕ) → closed_raw d es 2 b ≡ closed_raw d fs 2 b
    face_alike d = ap₂ (cond (leb (length b) (few d))) (ap (λ (l : List ℕ). all (λ v. eqb (occurrences v l) 2) l) (ends_alike b below)) ring_alike

  module _ (room : e ≤ 512) (E : EdgesLow es e) where
    closed_alike : (d r : ℕ) (b : List ℕ) → rises b ≡ true → all (λ x. ltb x e) b ≡ true → all (λ x. eqb (suc (get_or es (x * 36) 0)) r) b ≡ true → closed_raw d es r b ≡ closed_raw d fs r b
    closed_alike d zero b up below ranks = refl
    closed_alike d (suc zero) b up below ranks = refl
    closed_alike d (suc (suc zero)) b up below ranks = face_alike room E b up below ranks d
    closed_alike d (suc (suc (suc r))) b up below ranks = refl

    boundary_alike : (d r : ℕ) (b : List ℕ) → boundary_sound desk es d e r b ≡ boundary_sound desk fs d e r b
    unfolding boundary_sound
    boundary_alike d r b = go (rises b) (all (λ x. ltb x e) b) (all (λ x. eqb (suc (get_or es (x * 36) 0)) r) b) refl refl refl
      where
        go : (R A B : Bool) → rises b ≡ R → all (λ x. ltb x e) b ≡ A → all (λ x. eqb (suc (get_or es (x * 36) 0)) r) b ≡ B
            → (rises b && all (λ x. ltb x e) b && all (λ x. eqb (suc (get_or es (x * 36) 0)) r) b && ltb r (length b) && closed_raw d es r b)
            ≡ (rises b && all (λ x. ltb x e) b && all (λ x. eqb (suc (get_or fs (x * 36) 0)) r) b && ltb r (length b) && closed_raw d fs r b)
        go true true true p q k =
            ap₂ (λ (K C : Bool). rises b && all (λ x. ltb x e) b && K && ltb r (length b) && C) (ranks_alike r b q) (closed_alike d r b p q k)
        go true true false p q k =
            let f = sym (ranks_alike r b q) ∙ k in
            (λ i. p i && q i && k i && ltb r (length b) && closed_raw d es r b) ∙ sym (λ i. p i && q i && f i && ltb r (length b) && closed_raw d fs r b)
        go true false B p q k =
            (λ i. p i && q i && k i && ltb r (length b) && closed_raw d es r b)
            ∙ sym (λ i. p i && q i && all (λ x. eqb (suc (get_or fs (x * 36) 0)) r) b && ltb r (length b) && closed_raw d fs r b)
        go false A B p q k =
            (λ i. p i && q i && k i && ltb r (length b) && closed_raw d es r b)
            ∙ sym (λ i. p i && q i && all (λ x. eqb (suc (get_or fs (x * 36) 0)) r) b && ltb r (length b) && closed_raw d fs r b)

    pub row_alike : (d h k : ℕ) (row : List ℕ) → row_sound desk es d h k e row ≡ row_sound desk fs d h k e row
    unfolding element_sound
    row_alike d h k row =
        ap (λ (b : Bool). head_words desk row && corner_named k row
        && (if eqb (get_or row 0 0) 0 then true else (leb (get_or row 0 0) d && b && facet_words d h (get_or row 0 0) (get_or row 2 0) (get_or row 1 0))))
        (boundary_alike d (get_or row 0 0) (boundary_in row))

pub alike_back : {es fs : List ℕ} {e : ℕ} → KnownAlike es fs e → KnownAlike fs es e
alike_back K = record { ranks = λ x l. sym (K.ranks x l); first = λ x l. sym (K.first x l); second = λ x l. sym (K.second x l) }

-- the memory's own rows tell of its elements
pub own_alike : (es : List ℕ) (sp : Spacing) (e : ℕ) → e ≤ 512 → sp.width ≡ 36 → sp.ends ≡ 4 → KnownAlike (known_rows es sp) es e
own_alike es sp e room w k = record {
  ranks = λ x l. rank_is es sp x (in_room_lem x l) ∙ ap (λ (m : ℕ). get_or es (x * m) 0) w;
  first = λ x l. first_is es sp x (in_room_lem x l) ∙ (λ i. get_or es (x * w i + k i) 0);
  second = λ x l. second_is es sp x (in_room_lem x l) ∙ (λ i. get_or es (x * w i + k i + 1) 0) ∙ ap (λ (m : ℕ). get_or es m 0) (let z : x * 36 + 4 + 1 ≡ x * 36 + 5 = omega arith in z);
}
  where
    in_room_lem : (x : ℕ) → x < e → x < 512
    in_room_lem x l = (let z : x < 512 = omega (arith, l, room) in z)
