-- The cube's elements pass the tests of a table: each by its digits, and no two are equal.
-- Corners differ by how many come before them, and polytopes by their boundaries, which tell their numbers.
use Rattle.std.specs.Prelude.{if◌then◌else◌, Option, Some, None}
use Prim.Native.Nat.{ℕ, ◌<◌, ◌*◌, ◌≤◌, ◌^◌, zero, suc, ◌+◌}
use mathlib.Core.Bool.{Bool, true, ◌&&◌, false, not, true≢false, beq}
use mathlib.Core.List.{List, [], ◌∷◌, map, ◌++◌, append-nil}
use mathlib.Core.Path.{◌≡◌, refl, sym, ap, ◌∙◌, subst, ap₂}
use native.Mathlib.Nat.{add-zero, zero-add}
use native.Mathlib.Numerals.{add-one}
use native.Mathlib.Omega.{arith}
use lib.Dec.{eqb, leb, ltb}
use lib.Ieee.{Float}
use lib.ListN.{length, length-map}
use Rattle.rules.specs.Lists.{alike, all, member, up_to, keep, distinct, all_from}
use Rattle.rules.specs.Table.{polytope, Element, is_corner, boundary_of, same_element, corner, same_plane, rank, rank_of, vertex_of, element, boundary}
use Rattle.rules.specs.Walk.{ends_of, around, each_once, each_twice}
use Rattle.rules.specs.Sound.{closed, sound_facet, names_plane, names_none, sound_element}
use Rattle.rules.specs.Cube.{is_vertex, digits, is_facet, twos, cube, cube_element, of_digits}
use Rattle.rules.specs.Held.{AllOf}
use Rattle.rules.proofs.Counting.{before, all_up, before_zero, up_to_suc, bit, before_suc, before_less, distinct_up, getD_up, all_from_up}
use Rattle.rules.proofs.CubeDigits.{digit_low, twos_length, digits_length, of_digits_lem}
use Rattle.rules.proofs.CubeFaces.{Tells, Face, face_numbers, no_faces, faces_known}
use Rattle.rules.proofs.CubeSquares.{edge_ends, edge_of, Twice, Ringed, square_ring}
use Rattle.rules.proofs.FaceEdges.{Two, two}
use Rattle.rules.proofs.Good.{Bounded, whole_sound}
use Rattle.rules.proofs.Growing.{map_append, keep_append}
use Rattle.rules.proofs.Laws.{and_true, or_case, eq_test, test_le, unlike_eq, not_eq, test_eq}
use Rattle.rules.proofs.RingWalked.{ring_taken}
use Rattle.rules.proofs.Selves.{alike_eq}

and_fails : (a b : Bool) → (b ≡ true → ⊥) → (a && b) ≡ false
and_fails true true h = absurd (h refl)
and_fails true false h = refl
and_fails false b h = refl

-- a polytope differs from what has another boundary
differ : (x y : Element) → is_corner x ≡ false → (boundary_of x ≡ boundary_of y → ⊥) → same_element x y ≡ false
unfolding same_element
differ (corner v) y c h = absurd (true≢false c)
differ (polytope r b k m) (corner w) c h = refl
differ (polytope r b k m) (polytope q e l n) c h = and_fails (eqb r q && same_plane k l && beq m n) (alike eqb b e) (λ a. h (alike_eq b e a))

-- a boundary tells one number only
same_tells : (m n : ℕ) (xs : List ℕ) → 0 < length xs → Tells m xs → Tells n xs → m ≡ n
same_tells m n [] l h k = absurd (omega arith)
same_tells m n (x ∷ []) l h k = absurd h
same_tells m n (x ∷ y ∷ ys) l h k = omega arith

all_of : {P : ℕ → Type 0} (p : ℕ → Bool) (xs : List ℕ) → ((x : ℕ) → P x → p x ≡ true) → AllOf P xs → all p xs ≡ true
all_of p [] h f = refl
all_of p (x ∷ xs) h f = and_true (p x) (all p xs) (h x f.0) (all_of p xs h f.1)

of_members : (P : ℕ → Type 0) (xs : List ℕ) → AllOf P xs → (x : ℕ) → member x xs ≡ true → P x
of_members P [] f x m = absurd (true≢false (sym m))
of_members P (y ∷ ys) f x m = or_case (eqb x y) (member x ys) m (P x) (λ e. subst P (sym (eq_test x y e)) f.0) (of_members P ys f.1 x)

module _ (d : ℕ) where
  abbrev pub vertex_at : ℕ → Bool
  vertex_at e = is_vertex (digits d e)

  abbrev pub facet_at : ℕ → Bool
  facet_at e = is_facet (digits d e)

  -- b: whether n is a facet
  abbrev plane_at : ℕ → Bool → Option ℕ
  plane_at n b = if b then Some (before facet_at n) else None

  abbrev polytope_at : ℕ → Element
  polytope_at n = polytope (twos (digits d n)) (face_numbers (digits d n)) (plane_at n (facet_at n)) (facet_at n)

  -- ---- an entry by its digits

  -- n is a vertex or not, and its entry is the one or the other
  by_digits : (n : ℕ) (P : Element → Type 0)
      → (vertex_at n ≡ true → P (corner (before vertex_at n))) → (vertex_at n ≡ false → P (polytope_at n)) → P (cube_element d n)
  unfolding cube_element before face_numbers
  by_digits n P f g = go (vertex_at n) refl
    where
      go : (b : Bool) → vertex_at n ≡ b → P (if b then corner (before vertex_at n) else polytope_at n)
      go true e = f e
      go false e = g e

  pub rank_of_lem : (n : ℕ) → rank_of (cube_element d n) ≡ twos (digits d n)
  rank_of_lem n = by_digits n (λ y. rank_of y ≡ twos (digits d n)) (λ e. sym (eq_test (twos (digits d n)) 0 e)) (λ e. refl)

  pub boundary_of_lem : (n : ℕ) → boundary_of (cube_element d n) ≡ face_numbers (digits d n)
  boundary_of_lem n =
      by_digits n (λ y. boundary_of y ≡ face_numbers (digits d n))
      (λ e. sym (no_faces (digits d n) (digit_low d n) (eq_test (twos (digits d n)) 0 e))) (λ e. refl)

  -- ---- all entries

  pub boundaries_fit : (room : ℕ) → 2 * d ≤ room → all (λ y. leb (length (boundary_of y)) room) (map (cube_element d) (up_to (3 ^ d))) ≡ true
  boundaries_fit room h =
      all_up (cube_element d) (λ y. leb (length (boundary_of y)) room) 0 (3 ^ d) (λ i l. test_le (length (boundary_of (cube_element d i))) room (fits i))
    where
      fits : (i : ℕ) → length (boundary_of (cube_element d i)) ≤ room
      fits i =
          let e = ap length (boundary_of_lem i) in
          let c = (faces_known (digits d i) (digit_low d i)).count in
          let t = twos_length (digits d i) in
          let s = digits_length d i in
          omega arith

  pub corners_ordered : (n : ℕ) → map vertex_of (keep is_corner (map (cube_element d) (up_to n))) ≡ up_to (before vertex_at n)
  corners_ordered zero = ap up_to (sym (before_zero vertex_at))
  corners_ordered (suc n) =
      ap (λ (l : List ℕ). map vertex_of (keep is_corner (map (cube_element d) l))) (up_to_suc n)
      ∙ ap (λ (l : List Element). map vertex_of (keep is_corner l)) (map_append (cube_element d) (up_to n) (n ∷ []))
      ∙ ap (map vertex_of) (keep_append is_corner (map (cube_element d) (up_to n)) (cube_element d n ∷ []))
      ∙ map_append vertex_of (keep is_corner (map (cube_element d) (up_to n))) (keep is_corner (cube_element d n ∷ []))
      ∙ ap (λ (l : List ℕ). l ++ map vertex_of (keep is_corner (cube_element d n ∷ []))) (corners_ordered n)
      ∙ by_digits n (λ y. up_to (before vertex_at n) ++ map vertex_of (keep is_corner (y ∷ [])) ≡ up_to (before vertex_at (suc n)))
      (λ e. sym (up_to_suc (before vertex_at n)) ∙ ap up_to (sym (add-one (before vertex_at n)) ∙ sym (grown true e)))
      (λ e. append-nil (up_to (before vertex_at n)) ∙ ap up_to (sym (add-zero (before vertex_at n)) ∙ sym (grown false e)))
    where
      grown : (b : Bool) → vertex_at n ≡ b → before vertex_at (suc n) ≡ before vertex_at n + bit b
      grown b e = before_suc vertex_at n ∙ ap (λ (c : Bool). before vertex_at n + bit c) e

  -- ---- no two are equal

  -- equal boundaries, equal numbers
  faces_tell : (m n : ℕ) → m < 3 ^ d → n < 3 ^ d → vertex_at m ≡ false → face_numbers (digits d m) ≡ face_numbers (digits d n) → m ≡ n
  faces_tell m n l h v e =
      let f = faces_known (digits d m) (digit_low d m) in
      let g = faces_known (digits d n) (digit_low d n) in
      let z = unlike_eq (twos (digits d m)) 0 v in
      let c = f.count in
      let p : 0 < length (face_numbers (digits d m)) = omega arith in
      let t = subst (Tells (of_digits (digits d n))) (sym e) g.tells in
      sym (of_digits_lem d m l) ∙ same_tells (of_digits (digits d m)) (of_digits (digits d n)) (face_numbers (digits d m)) p f.tells t ∙ of_digits_lem d n h

  apart : (i j : ℕ) → i < j → j < 3 ^ d → same_element (cube_element d j) (cube_element d i) ≡ false
  unfolding same_element
  apart i j l h =
      by_digits j (λ y. same_element y (cube_element d i) ≡ false)
      (λ v. by_digits i (λ y. same_element (corner (before vertex_at j)) y ≡ false) later (λ u. refl))
      (λ v. differ (polytope_at j) (cube_element d i) refl (unlike v))
    where
      later : vertex_at i ≡ true → eqb (before vertex_at j) (before vertex_at i) ≡ false
      later v = not_eq (before vertex_at j) (before vertex_at i) (λ e. let m = before_less vertex_at i j v l in omega arith)

      unlike : vertex_at j ≡ false → face_numbers (digits d j) ≡ boundary_of (cube_element d i) → ⊥
      unlike v e = let m = faces_tell j i h (omega arith) v (e ∙ boundary_of_lem i) in omega arith

  pub elements_apart : distinct same_element (map (cube_element d) (up_to (3 ^ d))) ≡ true
  elements_apart = distinct_up (cube_element d) same_element 0 (3 ^ d) (λ i j l h. apart i j l (omega arith))

  -- ---- each is sound

  -- x is in the boundary of n
  abbrev FaceAt : ℕ → ℕ → Type 0
  FaceAt n x = (x < n) × (suc (twos (digits d x)) ≡ twos (digits d n))

  faces_at : (n : ℕ) → n < 3 ^ d → AllOf (FaceAt n) (face_numbers (digits d n))
  faces_at n l = go (face_numbers (digits d n)) (faces_known (digits d n) (digit_low d n)).each
    where
      go : (xs : List ℕ) → AllOf (Face (digits d n)) xs → AllOf (FaceAt n) xs
      go [] f = tt
      go (x ∷ xs) f =
          let under = subst (λ (m : ℕ). x < m) (of_digits_lem d n l) f.0.under in
          let ranked = subst (λ (m : ℕ). suc (twos (digits m x)) ≡ twos (digits d n)) (digits_length d n) f.0.rank in
          ((under, ranked), go xs f.1)

  module _ (r : Float) where
    pub points_count : length (cube d r).points ≡ before vertex_at (3 ^ d)
    unfolding cube before
    points_count = length-map (keep vertex_at (up_to (3 ^ d))) _

    pub planes_count : length (cube d r).planes ≡ before facet_at (3 ^ d)
    unfolding cube before
    planes_count = length-map (keep facet_at (up_to (3 ^ d))) _

    pub element_of : (n : ℕ) → n < 3 ^ d → element (cube d r) n ≡ cube_element d n
    unfolding cube
    element_of n l = getD_up (cube_element d) (corner 0) 0 (3 ^ d) n l ∙ ap (cube_element d) (zero-add n)

    -- the ends as the table says them are the ends by digits
    ends_of_lem : (n : ℕ) (xs : List ℕ) → n < 3 ^ d → AllOf (FaceAt n) xs → ends_of (cube d r) xs ≡ edge_ends d xs
    ends_of_lem n [] l f = refl
    ends_of_lem n (x ∷ xs) l f =
        let u : x < 3 ^ d = let h = f.0.0 in omega arith in
        ap₂ (λ (ys zs : List ℕ). ys ++ zs) (ap boundary_of (element_of x u) ∙ boundary_of_lem x) (ends_of_lem n xs l f.1)

    module _ (n : ℕ) (in_use : n < 3 ^ d) where
      abbrev ks : List ℕ
      ks = digits d n

      -- the ends of an edge of a square, as the table says them
      side_of_lem : (x : ℕ) → member x (face_numbers ks) ≡ true → boundary (cube d r) x ≡ edge_of d x
      side_of_lem x m = let h = (of_members (FaceAt n) (face_numbers ks) (faces_at n in_use) x m).0 in ap boundary_of (element_of x (let u : x < 3 ^ d = omega (arith, h, in_use) in u)) ∙ boundary_of_lem x

      two_sided : twos ks ≡ 2 → (x : ℕ) → member x (face_numbers ks) ≡ true → Two (boundary (cube d r) x)
      two_sided e x m =
          let h = (of_members (FaceAt n) (face_numbers ks) (faces_at n in_use) x m).1 in
          let f = faces_known (digits d x) (digit_low d x) in
          let c = f.count in
          subst Two (sym (side_of_lem x m)) (two (edge_of d x) (let z : length (edge_of d x) ≡ 2 = omega (arith, h, c, e) in z) f.rising)

      square_closed : twos ks ≡ 2 → closed (cube d r) 2 (face_numbers ks) ≡ true
      square_closed e =
          let g : Ringed d (face_numbers ks) = subst (λ (m : ℕ). Ringed m (face_numbers ks)) (digits_length d n) (square_ring ks (digit_low d n) e) in
          let w : each_twice (cube d r) (face_numbers ks) ≡ true = subst Twice (sym (ends_of_lem n (face_numbers ks) in_use (faces_at n in_use))) g.twice in
          and_true (each_twice (cube d r) (face_numbers ks)) (each_once (face_numbers ks) (around (cube d r) (face_numbers ks))) w
          (ring_taken (cube d r) (face_numbers ks) (record { ends = two_sided e; up = (faces_known ks (digit_low d n)).rising; twice = w })
          (λ S x m z share. g.hang S x m z (λ a b v ma mb va vb. share a b v ma mb
          (subst (λ (l : List ℕ). member v l ≡ true) (sym (side_of_lem a ma)) va) (subst (λ (l : List ℕ). member v l ≡ true) (sym (side_of_lem b mb)) vb))))

      tight : closed (cube d r) (twos ks) (face_numbers ks) ≡ true
      tight = go (twos ks) refl
        where
          go : (q : ℕ) → twos ks ≡ q → closed (cube d r) q (face_numbers ks) ≡ true
          go zero e = refl
          go (suc zero) e = let c = (faces_known ks (digit_low d n)).count in test_eq (length (face_numbers ks)) 2 (omega arith)
          go (suc (suc zero)) e = square_closed e
          go (suc (suc (suc q))) e = refl

      rank_below : (x : ℕ) → FaceAt n x → eqb (suc (rank (cube d r) x)) (twos ks) ≡ true
      rank_below x h =
          let u : x < 3 ^ d = let l = h.0 in omega arith in
          test_eq (suc (rank (cube d r) x)) (twos ks) (ap suc (ap rank_of (element_of x u) ∙ rank_of_lem x) ∙ h.1)

      bounded_entry : 1 ≤ twos ks → Bounded (cube d r) n (twos ks) (face_numbers ks)
      bounded_entry l =
          let f = faces_known ks (digit_low d n) in
          record {
            rising = f.rising;
            under = all_of (λ x. ltb x n) (face_numbers ks) (λ x h. test_le (suc x) n h.0) (faces_at n in_use);
            ranks = all_of (λ x. eqb (suc (rank (cube d r) x)) (twos ks)) (face_numbers ks) rank_below (faces_at n in_use);
            enough = let c = f.count in test_le (suc (twos ks)) (length (face_numbers ks)) (omega arith);
            tight = tight;
          }

      facet_entry : vertex_at n ≡ false → sound_facet (cube d r) (twos ks) (plane_at n (facet_at n)) (facet_at n) ≡ true
      unfolding sound_facet cube
      facet_entry v =
          subst (λ (b : Bool). (if b then names_plane (cube d r) (plane_at n (facet_at n)) else (names_none (plane_at n (facet_at n)) && not (facet_at n))) ≡ true)
          (ap (λ (b : Bool). not b && eqb (suc (twos ks)) (length ks)) v ∙ ap (eqb (suc (twos ks))) (digits_length d n)) (go (facet_at n) refl)
        where
          go : (b : Bool) → facet_at n ≡ b → (if b then names_plane (cube d r) (plane_at n b) else (names_none (plane_at n b) && not b)) ≡ true
          go true e =
              test_le (suc (before facet_at n)) (length (cube d r).planes)
              (subst (λ (m : ℕ). before facet_at n < m) (sym planes_count) (before_less facet_at n (3 ^ d) e in_use))
          go false e = refl

      entry_sound : sound_element (cube d r) n (cube_element d n) ≡ true
      unfolding cube
      entry_sound = by_digits n (λ y. sound_element (cube d r) n y ≡ true) (λ v. refl) polytope_sound
        where
          polytope_sound : vertex_at n ≡ false → sound_element (cube d r) n (polytope_at n) ≡ true
          polytope_sound v =
              let z = unlike_eq (twos ks) 0 v in
              let l : 1 ≤ twos ks = omega arith in
              let t = twos_length ks in
              let s = digits_length d n in
              whole_sound (cube d r) n (twos ks) (face_numbers ks) (plane_at n (facet_at n)) (facet_at n) (record {
                some_rank = test_le 1 (twos ks) l;
                low_rank = test_le (twos ks) d (omega arith);
                bound = bounded_entry l;
                facet = facet_entry v;
              })

    pub elements_sound_lem : all_from 0 (sound_element (cube d r)) (cube d r).elements ≡ true
    unfolding cube
    elements_sound_lem = all_from_up (cube_element d) (sound_element (cube d r)) 0 (3 ^ d) (λ i l. entry_sound i (omega arith))
