-- Document 01's lines one by one: what the table read from the memory must meet, and the round trip, is what the words must meet.
use Rattle.std.specs.Prelude.{if◌then◌else◌, Some, None}
use Prim.Native.Nat.{◌-◌, ℕ, ◌≤◌, ◌*◌, ◌<◌, suc, ◌+◌, zero}
use mathlib.Core.Bool.{Bool, ◌&&◌, true, false, not, ◌||◌, cond}
use mathlib.Core.List.{List, map, ◌∷◌, [], ◌++◌}
use mathlib.Core.Path.{◌≡◌, ap, ◌∙◌, refl, ap₂, sym, subst}
use native.Mathlib.Nat.{le_trans, le_of_eq}
use native.Mathlib.Omega.{arith}
use lib.Dec.{eqb, leb}
use lib.Ieee.{Float}
use lib.ListN.{length, drop, take, length-append, get_or, drop_of_length-le, replicate, length-drop}
use lib.Seq.{length-take-le, drop-cons, take-take, take_all}
use Rattle.rules.specs.Floats.{same_bits, plus_zero, within, farthest, unit, farthest_plane}
use Rattle.rules.specs.Held.{element_words, Wide}
use Rattle.rules.specs.Limits.{Limits, no_plane}
use Rattle.rules.specs.Lists.{rows, alike, pad, joined, all, keep, up_from, distinct, any}
use Rattle.rules.specs.Memory.{plane_width, plane_row, read_plane, read_element, plane_named, plane_number, element_width, element_row}
use Rattle.rules.specs.Sound.{sound_point, sound_plane}
use Rattle.rules.specs.Table.{corner, vertex_of, is_corner, Element, polytope, same_element}
use Rattle.rules.proofs.Laws.{test_eq, not_eq, eq_test, eqb_self, le_test, and_left, and_right, both_ways, and_swap}
use Rattle.rules.proofs.Selves.{bits_self, eq_alike, alike_eq, element_self, same_element_lem}
use Rattle.soundness.specs.Words.{point_words, blank_floats, blank_words, points_sound, plane_words, planes_sound, in_order, record_words, records_sound}
use Rattle.space.proofs.Laid.{length_padded}
use Rattle.soundness.proofs.ReadBack.{take_short, laid_alike, all_and, all_same, rows_wide, alike_front, map_map, all_map, alike_split, and_one, and_zero, alike_fill, and_assoc}
use borrow.Author.Tests.{lt-leb, leb-false}

-- the round trip of rows with a test of each
rows_tested : {A : Type 0} (p : A → A → Bool) (f : List A → List A) (s t : List A → Bool) (z : A) (w v room : ℕ) (l : List A) → ((r : List A) → length r ≡ w → length (f r) ≡ w)
    → ((r : List A) → length r ≡ w → (alike p (f r) r && s r) ≡ t r) → v ≤ room → length l ≡ room * w
    → (alike p (pad z (room * w) (joined (map f (rows v w l)))) l && all s (rows v w l)) ≡ (all t (rows v w l) && all (p z) (drop (v * w) l))
rows_tested p f s t z w v room l long one h e =
    let R = rows v w l in
    let B = all (p z) (drop (v * w) l) in
    let X = all (λ r. alike p (f r) r) R in
    ap (λ (b : Bool). b && all s R) (laid_alike p f z w long v room l h e)
    ∙ reorder X B (all s R)
    ∙ ap (λ (b : Bool). b && B) (all_and (λ r. alike p (f r) r) s R ∙ all_same w (λ r. alike p (f r) r && s r) t one R (rows_wide w v room l h e))
  where
    reorder : (a b c : Bool) → ((a && b) && c) ≡ ((a && c) && b)
    reorder true b c = and_swap b c
    reorder false b c = refl

-- ---- points

module _ (L : Limits) (d : ℕ) (low : d ≤ L.dimensions) where
  point_row : (r : List Float) → length r ≡ L.dimensions → (alike same_bits (pad plus_zero L.dimensions (take d r)) r && sound_point d (take d r)) ≡ point_words d r
  unfolding sound_point point_words
  point_row r e =
      ap₂ (λ (a b : Bool). a && (b && all (within farthest) (take d r))) (alike_front same_bits bits_self plus_zero L.dimensions d r e low) (test_eq _ _ (length-take-le d r (le_trans low (le_of_eq (sym e)))))
      ∙ and_swap (blank_floats (drop d r)) (all (within farthest) (take d r))

  pub points_same : (v : ℕ) (ps : List Float) → v ≤ L.vertices → length ps ≡ L.vertices * L.dimensions
      → (alike same_bits (pad plus_zero (L.vertices * L.dimensions) (joined (map (pad plus_zero L.dimensions) (map (take d) (rows v L.dimensions ps))))) ps
      && all (sound_point d) (map (take d) (rows v L.dimensions ps))) ≡ points_sound L d v ps
  unfolding points_sound
  points_same v ps h e =
      ap₂ (λ (l : List (List Float)) (b : Bool). alike same_bits (pad plus_zero (L.vertices * L.dimensions) (joined l)) ps && b)
      (map_map (pad plus_zero L.dimensions) (take d) (rows v L.dimensions ps)) (all_map (sound_point d) (take d) (rows v L.dimensions ps))
      ∙ rows_tested same_bits (λ r. pad plus_zero L.dimensions (take d r)) (λ r. sound_point d (take d r)) (point_words d) plus_zero L.dimensions v L.vertices ps
      (λ r k. length_padded plus_zero L.dimensions (take d r) (le_trans (le_of_eq (length-take-le d r (le_trans low (le_of_eq (sym k))))) low)) point_row h e

  -- ---- planes

  plane_long : (r : List Float) → length r ≡ plane_width L → length (plane_row L (read_plane L d r)) ≡ plane_width L
  unfolding plane_row read_plane
  plane_long r e =
      let k = length-take-le d r (let q : d ≤ length r = omega (arith, e, low) in q) in
      let n = length_padded plus_zero L.dimensions (take d r) (le_trans (le_of_eq k) low) in
      let a = length-append (pad plus_zero L.dimensions (take d r)) (get_or r L.dimensions plus_zero ∷ []) in
      omega (arith, n, a)

  plane_row_lem : (r : List Float) → length r ≡ plane_width L → (alike same_bits (plane_row L (read_plane L d r)) r && sound_plane d (read_plane L d r)) ≡ plane_words L d r
  unfolding plane_row read_plane sound_plane plane_words
  plane_row_lem r e =
      let D = L.dimensions in
      let x = get_or r D plus_zero in
      let k = length-take-le d r (let q : d ≤ length r = omega (arith, e, low) in q) in
      let n = length_padded plus_zero D (take d r) (le_trans (le_of_eq k) low) in
      let lt = length-take-le D r (let q : D ≤ length r = omega (arith, e) in q) in
      let tail : drop D r ≡ x ∷ [] = drop-cons r D plus_zero (let q : D < length r = omega (arith, e) in q) ∙ ap (λ (l : List Float). x ∷ l) (drop_of_length-le r (let q : length r ≤ suc D = omega (arith, e) in q)) in
      let front : alike same_bits (pad plus_zero D (take d r)) (take D r) ≡ blank_floats (drop d (take D r)) =
      ap (λ (l : List Float). alike same_bits (pad plus_zero D l) (take D r)) (sym (take-take d D r low)) ∙ alike_front same_bits bits_self plus_zero D d (take D r) lt low in
      let same : alike same_bits (pad plus_zero D (take d r) ++ x ∷ []) r ≡ blank_floats (drop d (take D r)) =
      alike_split same_bits (pad plus_zero D (take d r)) (x ∷ []) r (let q : length (pad plus_zero D (take d r)) ≤ length r = omega (arith, n, e) in q)
      ∙ ap (λ (m : ℕ). alike same_bits (pad plus_zero D (take d r)) (take m r) && alike same_bits (x ∷ []) (drop m r)) n
      ∙ ap₂ (λ (b : Bool) (l : List Float). b && alike same_bits (x ∷ []) l) front tail
      ∙ ap (λ (b : Bool). blank_floats (drop d (take D r)) && (b && true)) (bits_self x)
      ∙ and_one _ in
      ap₂ (λ (a b : Bool). a && (b && unit (take d r) && within farthest_plane x)) same (test_eq _ _ k)
      ∙ and_swap (blank_floats (drop d (take D r))) (unit (take d r) && within farthest_plane x)

  pub planes_same : (h : ℕ) (hs : List Float) → h ≤ L.hyperplanes → length hs ≡ L.hyperplanes * plane_width L
      → (alike same_bits (pad plus_zero (L.hyperplanes * plane_width L) (joined (map (plane_row L) (map (read_plane L d) (rows h (plane_width L) hs))))) hs
      && all (sound_plane d) (map (read_plane L d) (rows h (plane_width L) hs))) ≡ planes_sound L d h hs
  unfolding planes_sound
  planes_same h hs l e =
      ap₂ (λ (l : List (List Float)) (b : Bool). alike same_bits (pad plus_zero (L.hyperplanes * plane_width L) (joined l)) hs && b)
      (map_map (plane_row L) (read_plane L d) (rows h (plane_width L) hs)) (all_map (sound_plane d) (read_plane L d) (rows h (plane_width L) hs))
      ∙ rows_tested same_bits (λ r. plane_row L (read_plane L d r)) (λ r. sound_plane d (read_plane L d r)) (plane_words L d) plus_zero (plane_width L) h L.hyperplanes hs plane_long plane_row_lem l e

-- ---- corners

order_past : (k v : ℕ) (rs : List (List ℕ)) → v < k → in_order k v rs ≡ false
order_past k v [] h = not_eq k v (λ q. let z : ⊥ = omega (arith, q, h) in z)
order_past k v (r ∷ rs) h = go (eqb (get_or r 0 0) 0) (order_past (suc k) v rs (let q : v < suc k = omega (arith, h) in q)) (order_past k v rs h)
  where
    go : (b : Bool) → in_order (suc k) v rs ≡ false → in_order k v rs ≡ false → (if b then eqb (get_or r 4 0) k && in_order (suc k) v rs else in_order k v rs) ≡ false
    go true p q = ap (λ (c : Bool). eqb (get_or r 4 0) k && c) p ∙ and_zero (eqb (get_or r 4 0) k)
    go false p q = q

pub order_same : (rs : List (List ℕ)) (k j v : ℕ) → k + j ≡ v → alike eqb (map vertex_of (keep is_corner (map read_element rs))) (up_from k j) ≡ in_order k v rs
unfolding read_element
order_same [] k zero v e = sym (test_eq k v (let q : k ≡ v = omega (arith, e) in q))
order_same [] k (suc j) v e = sym (not_eq k v (λ q. let z : ⊥ = omega (arith, e, q) in z))
order_same (r ∷ rs) k j v e =
    go (order_same rs) (eqb (get_or r 0 0) 0) (get_or r 4 0) (polytope (get_or r 0 0) (take (get_or r 3 0) (drop 4 r)) (plane_named (get_or r 2 0)) (eqb (get_or r 1 0) 1)) refl j e
  where
    go : ((k j v : ℕ) → k + j ≡ v → alike eqb (map vertex_of (keep is_corner (map read_element rs))) (up_from k j) ≡ in_order k v rs)
        → (b : Bool) (x : ℕ) (y : Element) → is_corner y ≡ false → (j : ℕ) → k + j ≡ v
        → alike eqb (map vertex_of (keep is_corner ((if b then corner x else y) ∷ map read_element rs))) (up_from k j) ≡ (if b then eqb x k && in_order (suc k) v rs else in_order k v rs)
    go ih true x y c zero e = sym (ap (λ (b : Bool). eqb x k && b) (order_past (suc k) v rs (let q : v < suc k = omega (arith, e) in q)) ∙ and_zero (eqb x k))
    go ih true x y c (suc j) e = ap (λ (b : Bool). eqb x k && b) (ih (suc k) j v (let q : suc k + j ≡ v = omega (arith, e) in q))
    go ih false x y c j e = ap (λ (b : Bool). alike eqb (map vertex_of (if b then y ∷ keep is_corner (map read_element rs) else keep is_corner (map read_element rs))) (up_from k j)) c ∙ ih k j v e

-- ---- distinct

-- a row that is what is written of its element
abbrev pub Own : Limits → List (List ℕ) → Type 0
Own L [] = Unit {0}
Own L (r ∷ rs) = (element_words L (read_element r) ≡ r) × Own L rs

module _ (L : Limits) where
  same_rows : (r s : List ℕ) → element_words L (read_element r) ≡ r → element_words L (read_element s) ≡ s → same_element (read_element r) (read_element s) ≡ alike eqb r s
  same_rows r s p q =
      both_ways (same_element (read_element r) (read_element s)) (alike eqb r s)
      (λ h. subst (λ (y : List ℕ). alike eqb r y ≡ true) (sym p ∙ ap (element_words L) (same_element_lem (read_element r) (read_element s) h) ∙ q) (eq_alike r))
      (λ h. subst (λ (y : List ℕ). same_element (read_element r) (read_element y) ≡ true) (alike_eq r s h) (element_self (read_element r)))

  any_same : (r : List ℕ) (rs : List (List ℕ)) → element_words L (read_element r) ≡ r → Own L rs → any (λ y. same_element y (read_element r)) (map read_element rs) ≡ any (λ y. alike eqb y r) rs
  any_same r [] p q = refl
  any_same r (s ∷ rs) p q = ap₂ (λ (a b : Bool). a || b) (same_rows s r q.0 p) (any_same r rs p q.1)

  pub distinct_same : (rs : List (List ℕ)) → Own L rs → distinct same_element (map read_element rs) ≡ distinct (alike eqb) rs
  distinct_same [] q = refl
  distinct_same (r ∷ rs) q = ap₂ (λ (a b : Bool). not a && b) (any_same r rs q.0 q.1) (distinct_same rs q.1)

-- ---- the row of an element is written again

module _ (L : Limits) (some_room : 1 ≤ L.boundary) where
  mark_back : (m : ℕ) → eqb (cond (eqb m 1) 1 0) m ≡ leb m 1
  mark_back zero = refl
  mark_back (suc zero) = refl
  mark_back (suc (suc m)) =
      ap (λ (b : Bool). eqb (cond b 1 0) (suc (suc m))) (not_eq (suc (suc m)) 1 (λ q. let z : ⊥ = omega (arith, q) in z))
      ∙ not_eq 0 (suc (suc m)) (λ q. let z : ⊥ = omega (arith, q) in z)
      ∙ sym (lt-leb (suc (suc m)) 1 (let q : 1 < suc (suc m) = omega arith in q))

  plane_back : (p : ℕ) → eqb (plane_number (plane_named p)) p ≡ true
  plane_back p = go (eqb p no_plane) refl
    where
      go : (b : Bool) → eqb p no_plane ≡ b → eqb (plane_number (if b then None else Some p)) p ≡ true
      go true q = test_eq no_plane p (sym (eq_test p no_plane q))
      go false q = eqb_self p

  list_back : (n : ℕ) (l : List ℕ) → length l ≡ L.boundary
      → (eqb (length (take n l)) n && alike eqb (take n l ++ replicate (element_width L - suc (suc (suc (suc (length (take n l)))))) 0) l) ≡ (leb n L.boundary && blank_words (drop n l))
  list_back n l e = go (leb n L.boundary) refl
    where
      B : ℕ
      B = L.boundary

      go : (b : Bool) → leb n B ≡ b → (eqb (length (take n l)) n && alike eqb (take n l ++ replicate (element_width L - suc (suc (suc (suc (length (take n l)))))) 0) l) ≡ (b && blank_words (drop n l))
      go true q =
          let h = le_test n B q in
          let k = length-take-le n l (le_trans h (le_of_eq (sym e))) in
          ap₂ (λ (a : Bool) (m : ℕ). a && alike eqb (take n l ++ replicate m 0) l) (test_eq _ _ k) (let z : element_width L - suc (suc (suc (suc (length (take n l))))) ≡ B - length (take n l) = omega arith in z)
          ∙ alike_front eqb eqb_self 0 B n l e h
      go false q =
          let h = leb-false n B q in
          let k = ap length (take_all n l (let z : length l ≤ n = omega (arith, e, h) in z)) in
          ap (λ (a : Bool). a && alike eqb (take n l ++ replicate (element_width L - suc (suc (suc (suc (length (take n l)))))) 0) l) (not_eq (length (take n l)) n (λ z. let y : ⊥ = omega (arith, k, z, e, h) in y))

  record_row : (r : List ℕ) → length r ≡ element_width L → alike eqb (element_words L (read_element r)) r ≡ record_words L r
  unfolding element_row read_element record_words
  record_row [] e = absurd (let z : ⊥ = omega (arith, e) in z)
  record_row (a ∷ []) e = absurd (let z : ⊥ = omega (arith, e, some_room) in z)
  record_row (a ∷ m ∷ []) e = absurd (let z : ⊥ = omega (arith, e, some_room) in z)
  record_row (a ∷ m ∷ p ∷ []) e = absurd (let z : ⊥ = omega (arith, e, some_room) in z)
  record_row (a ∷ m ∷ p ∷ n ∷ []) e = absurd (let z : ⊥ = omega (arith, e, some_room) in z)
  record_row (a ∷ m ∷ p ∷ n ∷ x ∷ l) e = go (eqb a 0) refl
    where
      ands : (b c d f : Bool) → (b && (c && (d && f))) ≡ (b && c && d && f)
      ands true true d f = refl
      ands true false d f = refl
      ands false c d f = refl

      go : (b : Bool) → eqb a 0 ≡ b
          → alike eqb (element_words L (if b then corner x else polytope a (take n (x ∷ l)) (plane_named p) (eqb m 1))) (a ∷ m ∷ p ∷ n ∷ x ∷ l)
          ≡ (if b then eqb 0 m && eqb no_plane p && eqb 1 n && blank_words l else (leb m 1 && leb n L.boundary && blank_words (drop n (x ∷ l))))
      go true q =
          ap₂ (λ (b c : Bool). b && (eqb 0 m && (eqb no_plane p && (eqb 1 n && (c && alike eqb (replicate (element_width L - 5) 0) l))))) (test_eq 0 a (sym (eq_test a 0 q))) (eqb_self x)
          ∙ ap (λ (b : Bool). eqb 0 m && (eqb no_plane p && (eqb 1 n && b))) (alike_fill eqb 0 (element_width L - 5) l (let z : length l ≡ element_width L - 5 = omega (arith, e) in z))
          ∙ ands (eqb 0 m) (eqb no_plane p) (eqb 1 n) (blank_words l)
      go false q =
          ap₂ (λ (b c : Bool). b && (eqb (cond (eqb m 1) 1 0) m && (c && tests))) (eqb_self a) (plane_back p)
          ∙ ap₂ (λ (b c : Bool). b && c) (mark_back m) (list_back n (x ∷ l) (let z : length (x ∷ l) ≡ L.boundary = omega (arith, e) in z))
          ∙ and_assoc (leb m 1) (leb n L.boundary) (blank_words (drop n (x ∷ l)))
        where
          tests : Bool
          tests = eqb (length (take n (x ∷ l))) n && alike eqb (take n (x ∷ l) ++ replicate (element_width L - suc (suc (suc (suc (length (take n (x ∷ l))))))) 0) (x ∷ l)

  record_long : (r : List ℕ) → length r ≡ element_width L → length (element_words L (read_element r)) ≡ element_width L
  unfolding element_row read_element
  record_long r e = length_padded {A = ℕ} 0 (element_width L) (element_row (read_element r)) (go (eqb (get_or r 0 0) 0))
    where
      go : (b : Bool) → length (element_row (if b then corner (get_or r 4 0) else polytope (get_or r 0 0) (take (get_or r 3 0) (drop 4 r)) (plane_named (get_or r 2 0)) (eqb (get_or r 1 0) 1))) ≤ element_width L
      go true = let q : 5 ≤ element_width L = omega (arith, some_room) in q
      go false =
          let s = take_short (get_or r 3 0) (drop 4 r) in
          let k = length-drop 4 r in
          let q : suc (suc (suc (suc (length (take (get_or r 3 0) (drop 4 r)))))) ≤ element_width L = omega (arith, s, k, e) in q

  pub records_same : (n : ℕ) (es : List ℕ) → n ≤ L.elements → length es ≡ L.elements * element_width L
      → alike eqb (pad 0 (L.elements * element_width L) (joined (map (element_words L) (map read_element (rows n (element_width L) es))))) es ≡ records_sound L n es
  unfolding records_sound
  records_same n es h e =
      ap (λ (l : List (List ℕ)). alike eqb (pad 0 (L.elements * element_width L) (joined l)) es) (map_map (element_words L) read_element (rows n (element_width L) es))
      ∙ laid_alike eqb (λ r. element_words L (read_element r)) 0 (element_width L) record_long n L.elements es h e
      ∙ ap (λ (b : Bool). b && blank_words (drop (n * element_width L) es))
      (all_same (element_width L) (λ r. alike eqb (element_words L (read_element r)) r) (record_words L) record_row (rows n (element_width L) es) (rows_wide (element_width L) n L.elements es h e))

  pub records_own : (rs : List (List ℕ)) → Wide (element_width L) rs → all (record_words L) rs ≡ true → Own L rs
  records_own [] w h = tt
  records_own (r ∷ rs) w h =
      (alike_eq (element_words L (read_element r)) r (record_row r w.0 ∙ and_left (record_words L r) (all (record_words L) rs) h), records_own rs w.1 (and_right (record_words L r) (all (record_words L) rs) h))
