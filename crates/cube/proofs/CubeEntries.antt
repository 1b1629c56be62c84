-- One element of the cube more: its row, and its point or its hyperplane, stand behind the others.
-- How many come before it is its number, so nothing is counted twice.
use Rattle.std.specs.Prelude.{if◌then◌else◌, Option, Some, None}
use Prim.Native.Nat.{ℕ, zero, suc, ◌+◌, ◌*◌, ◌^◌, ◌/◌, ◌-◌, ◌≤◌, ◌<◌}
use mathlib.Core.Bool.{Bool, true, false, not, cond, ◌&&◌}
use mathlib.Core.Path.{◌≡◌, refl, sym, ap, ap₂, subst, ◌∙◌}
use mathlib.Core.List.{List, [], ◌∷◌, ◌++◌, map, append-nil}
use native.Mathlib.Nat.{pow-le-pow_right, le_of_eq}
use native.Mathlib.Numerals.{add-one}
use native.Mathlib.Omega.{arith}
use lib.Dec.{eqb}
use lib.ListN.{length, get_or, set, take, replicate, length-map, length-append, get_or-append}
use lib.Seq.{sets, take-suc, take-length, length-take-le, take-append_seam}
use lib.Ieee.{Float, neg}
use Rattle.rules.specs.Limits.{desk, no_plane}
use Rattle.rules.specs.Lists.{pad, up_to, keep}
use Rattle.rules.specs.Floats.{plus_zero, one}
use Rattle.rules.specs.Table.{Element, corner, polytope, boundary_of, primordials}
use Rattle.rules.specs.Memory.{element_row, plane_row, plane_named}
use Rattle.rules.specs.Cube.{digits, of_digits, faces, twos, is_vertex, is_facet, chosen, cube_element, cube_point, facet_normal, facet_plane, cube}
use Rattle.rules.specs.Held.{laid, Wide, element_words, memory_of, counts_of, points_of, planes_of, elements_of}
use Rattle.rules.proofs.Counting.{before, before_less, up_to_suc, length_up}
use Rattle.rules.proofs.CubeCounts.{vertex_tally, facet_tally}
use Rattle.rules.proofs.CubeDigits.{digits_length, digit_low, twos_length}
use Rattle.rules.proofs.CubeElements.{boundary_of_lem}
use Rattle.rules.proofs.CubeFaces.{face_numbers, faces_known}
use Rattle.rules.proofs.Laws.{not_eq}
use Rattle.rules.proofs.Growing.{keep_append}
use Rattle.hypermath.proofs.Filling.{fill_next}
use Rattle.cube.specs.Cubes.{FacesSoFar, coordinate_at, component_at}
use Rattle.cube.specs.Writing.{cube_elements, cube_points, cube_planes, CornerPut, FacetPut, CubePut}
use Rattle.space.specs.Shared.{four, five, row_of}
use Rattle.cube.specs.declared.Faces.{Faces}
use Rattle.space.proofs.Laid.{laid_append, length_padded, map_append}
use Rattle.space.proofs.Room.{full, encode_parts}
use Rattle.space.proofs.VertexMemo.{four_is}

-- ---- ranks

pub faces_twice : (d e : ℕ) (f : Faces) → FacesSoFar f (map of_digits (faces (digits d e))) → f.n ≡ 2 * twos (digits d e)
unfolding face_numbers
faces_twice d e f g = g.size ∙ (faces_known (digits d e) (digit_low d e)).count

pub rank_half : (d e : ℕ) (f : Faces) → FacesSoFar f (map of_digits (faces (digits d e))) → f.n / 2 ≡ twos (digits d e)
rank_half d e f g = let h = faces_twice d e f g in omega (arith, h)

pub rank_low : (d e : ℕ) → d ≤ 4 → twos (digits d e) < 5
rank_low d e l = let h = twos_length (digits d e) in let k = digits_length d e in omega (arith, h, k)

pub faces_few : (d e : ℕ) (f : Faces) → d ≤ 4 → FacesSoFar f (map of_digits (faces (digits d e))) → f.n ≤ 8
faces_few d e f l g = let h = faces_twice d e f g in let k = rank_low d e l in omega (arith, h, k)

pub facet_is : (d e r : ℕ) → r ≡ twos (digits d e) → (r ≡ 0 → ⊥) → eqb (r + 1) d ≡ is_facet (digits d e)
facet_is d e r q z =
    ap₂ eqb (add-one r ∙ ap suc q) (sym (digits_length d e))
    ∙ ap (λ (b : Bool). not b && eqb (suc (twos (digits d e))) (length (digits d e))) (sym (not_eq (twos (digits d e)) 0 (λ t. z (q ∙ t))))

-- ---- the room for corners and facets

pub corner_room : (d e : ℕ) → d ≤ 4 → e < 3 ^ d → is_vertex (digits d e) ≡ true → length (chosen is_vertex d e) < 17
unfolding before
corner_room d e low l p =
    let h = before_less (λ n. is_vertex (digits d n)) e (3 ^ d) p l in
    let t = vertex_tally d in
    let m : 2 ^ d ≤ 2 ^ 4 = pow-le-pow_right (let q : 0 < 2 = omega arith in q) low in
    omega (arith, h, t, m)

pub facet_room : (d e : ℕ) → d ≤ 4 → e < 3 ^ d → is_facet (digits d e) ≡ true → length (chosen is_facet d e) < 9
unfolding before
facet_room d e low l p =
    let h = before_less (λ n. is_facet (digits d n)) e (3 ^ d) p l in
    let t = facet_tally d in
    let m = few d low in
    omega (arith, h, t, m)
  where
    few : (d : ℕ) → d ≤ 4 → primordials d ≤ 8
    few zero l = omega arith
    few (suc zero) l = omega arith
    few (suc (suc d)) l = omega (arith, l)

-- ---- rows

-- the element e, by whether it is a corner
abbrev element_by : ℕ → ℕ → Bool → Element
element_by d e b =
    if b then corner (length (chosen is_vertex d e))
    else polytope (twos (digits d e)) (map of_digits (faces (digits d e))) (if is_facet (digits d e) then Some (length (chosen is_facet d e)) else None) (is_facet (digits d e))

pub row_corner : (d e v : ℕ) → is_vertex (digits d e) ≡ true → v ≡ length (chosen is_vertex d e) → element_words desk (corner v) ≡ element_words desk (cube_element d e)
unfolding cube_element
row_corner d e v p q =
    ap (λ (n : ℕ). element_words desk (corner n)) q
    ∙ ap (λ (b : Bool). element_words desk (element_by d e b)) (sym p)

pub row_polytope : (d e : ℕ) (f : Faces) (h : ℕ) (b : Bool) → is_vertex (digits d e) ≡ false → is_facet (digits d e) ≡ b → FacesSoFar f (map of_digits (faces (digits d e)))
    → plane_named h ≡ (if b then Some (length (chosen is_facet d e)) else None)
    → element_words desk (polytope (f.n / 2) (take f.n f.list) (plane_named h) b) ≡ element_words desk (cube_element d e)
unfolding cube_element
row_polytope d e f h b p q g n =
    ap₂ (λ (r : ℕ) (l : List ℕ). element_words desk (polytope r l (plane_named h) b)) (rank_half d e f g) list
    ∙ ap (λ (o : Option ℕ). element_words desk (polytope (twos (digits d e)) xs o b)) n
    ∙ ap (λ (c : Bool). element_words desk (polytope (twos (digits d e)) xs (if c then Some (length (chosen is_facet d e)) else None) c)) (sym q)
    ∙ ap (λ (c : Bool). element_words desk (element_by d e c)) (sym p)
  where
    xs : List ℕ
    xs = map of_digits (faces (digits d e))

    list : take f.n f.list ≡ xs
    list = ap₂ take g.size g.list ∙ take-append_seam xs (replicate (33 - length xs) 0)

pub facet_named : (h n : ℕ) → h ≡ n → n < 9 → plane_named h ≡ Some n
facet_named h n q l = ap plane_named q ∙ ap (λ (b : Bool). if b then None else Some n) (not_eq n no_plane (λ e. let z : ⊥ = omega (arith, l, e) in z))

-- ---- floats worked out of digits

pub component_plus : (k : ℕ) → (k ≡ 2 → ⊥) → (k ≡ 0 → ⊥) → one ≡ component_at k
component_plus k h g = ap₂ (λ (a b : Bool). if a then plus_zero else if b then neg one else one) (sym (not_eq k 2 h)) (sym (not_eq k 0 g))

-- the axes so far are worked out, and the others are zeros
abbrev pub worked : (ℕ → Float) → List ℕ → ℕ → List Float
worked f ds axis = pad plus_zero 4 (map f (take axis ds))

pub worked_next : (f : ℕ → Float) (d e axis : ℕ) (ks : List ℕ) (p : List Float) (x : Float) → d ≤ 4 → axis < d → ks ≡ pad 0 4 (digits d e) → p ≡ worked f (digits d e) axis → x ≡ f (get_or ks axis 0)
    → set p axis x ≡ worked f (digits d e) (axis + 1)
worked_next f d e axis ks p x low l read q v =
    ap₂ (λ (r : List Float) (y : Float). set r axis y) q (v ∙ ap f digit)
    ∙ ap (λ (i : ℕ). set (worked f ds axis) i (f (get_or ds axis 0))) (sym here)
    ∙ fill_next plus_zero 4 (map f (take axis ds)) (f (get_or ds axis 0)) (omega (arith, here))
    ∙ ap (pad plus_zero 4) (sym (map_append f (take axis ds) (get_or ds axis 0 ∷ [])))
    ∙ ap (λ (r : List ℕ). pad plus_zero 4 (map f r)) (sym (take-suc ds axis 0 in_use_lem) ∙ ap (λ (i : ℕ). take i ds) (sym (add-one axis)))
  where
    ds : List ℕ
    ds = digits d e

    in_use_lem : axis < length ds
    in_use_lem = let s = digits_length d e in omega (arith, s)

    here : length (map f (take axis ds)) ≡ axis
    here = length-map (take axis ds) f ∙ length-take-le axis ds (omega (arith, in_use_lem))

    digit : get_or ks axis 0 ≡ get_or ds axis 0
    digit = ap (λ (l : List ℕ). get_or l axis 0) read ∙ get_or-append ds (replicate (4 - length ds) 0) 0 axis in_use_lem

pub worked_end : (f : ℕ → Float) (d e axis : ℕ) (p : List Float) → axis ≡ d → p ≡ worked f (digits d e) axis → p ≡ pad plus_zero 4 (map f (digits d e))
worked_end f d e axis p h q =
    q ∙ ap (λ (i : ℕ). worked f (digits d e) i) (h ∙ sym (digits_length d e)) ∙ ap (λ (l : List ℕ). pad plus_zero 4 (map f l)) (take-length (digits d e))

-- ---- one element more

module _ (p : List ℕ → Bool) (d e : ℕ) where
  chosen_next : chosen p d (e + 1) ≡ chosen p d e ++ (if p (digits d e) then e ∷ [] else [])
  chosen_next = ap (chosen p d) (add-one e) ∙ ap (keep (λ n. p (digits d n))) (up_to_suc e) ∙ keep_append (λ n. p (digits d n)) (up_to e) (e ∷ [])

  pub chosen_kept : p (digits d e) ≡ false → chosen p d (e + 1) ≡ chosen p d e
  chosen_kept q = chosen_next ∙ ap (λ (b : Bool). chosen p d e ++ (if b then e ∷ [] else [])) q ∙ append-nil (chosen p d e)

  pub chosen_more : p (digits d e) ≡ true → chosen p d (e + 1) ≡ chosen p d e ++ e ∷ []
  chosen_more q = chosen_next ∙ ap (λ (b : Bool). chosen p d e ++ (if b then e ∷ [] else [])) q

-- an entry whose row is full is put behind the others
module _ {A B : Type 0} (z : B) (w room : ℕ) (f : A → List B) (g : ℕ → A) (long : (n : ℕ) → length (f (g n)) ≡ w) where
  wide_all : (xs : List ℕ) → Wide w (map f (map g xs))
  wide_all [] = tt
  wide_all (x ∷ xs) = (long x, wide_all xs)

  pub put_behind : (xs : List ℕ) (x : ℕ) (ys : List B) → ys ≡ f (g x) → length xs * w + w ≤ room → laid z room f (map g (xs ++ x ∷ [])) ≡ sets (laid z room f (map g xs)) (length xs * w) ys
  put_behind xs x ys q r =
      let s = length-map xs g in
      let k : length ys ≡ w = ap length q ∙ long x in
      ap (laid z room f) (map_append g xs (x ∷ []))
      ∙ laid_append w f z room (map g xs) (g x) ys (wide_all xs) (sym q ∙ full z ys w k) (le_of_eq k) (subst (λ (n : ℕ). n * w + w ≤ room) (sym s) r)
      ∙ ap (λ (n : ℕ). sets (laid z room f (map g xs)) (n * w) ys) s

-- ---- elements

short_row : (x : Element) → length (boundary_of x) ≤ 32 → length (element_row x) ≤ 36
unfolding element_row
short_row (corner v) h = omega arith
short_row (polytope r b o m) h = omega (arith, h)

pub elements_next : (d e : ℕ) (es row : List ℕ) → d ≤ 4 → e < 82 → es ≡ cube_elements d e → row ≡ element_words desk (cube_element d e) → sets es (e * 36) row ≡ cube_elements d (e + 1)
elements_next d e es row low few q r =
    ap (λ (l : List ℕ). sets l (e * 36) row) q
    ∙ ap (λ (n : ℕ). sets (cube_elements d e) (n * 36) row) (sym (length_up 0 e))
    ∙ sym (put_behind 0 36 18432 (element_words desk) (cube_element d) long (up_to e) e row r (let s = length_up 0 e in omega (arith, s)))
    ∙ ap (λ (l : List ℕ). laid 0 18432 (element_words desk) (map (cube_element d) l)) (sym (up_to_suc e) ∙ ap up_to (sym (add-one e)))
  where
    long : (n : ℕ) → length (element_words desk (cube_element d n)) ≡ 36
    long n = length_padded 0 36 (element_row (cube_element d n)) (short_row (cube_element d n) (fits n))
      where
        fits : (n : ℕ) → length (boundary_of (cube_element d n)) ≤ 32
        fits n =
            let b = ap length (boundary_of_lem d n) in
            let c = (faces_known (digits d n) (digit_low d n)).count in
            let t = rank_low d n low in
            omega (arith, b, c, t)

-- ---- points

module _ (d : ℕ) (radius : Float) (low : d ≤ 4) where
  point_long : (n : ℕ) → length (pad plus_zero 4 (cube_point radius (digits d n))) ≡ 4
  unfolding cube_point
  point_long n = length_padded plus_zero 4 (cube_point radius (digits d n)) (let a = length-map (digits d n) (coordinate_at radius) in let b = digits_length d n in omega (arith, a, b))

  pub corner_put : (e v : ℕ) (ps p ps' : List Float) → e < 3 ^ d → is_vertex (digits d e) ≡ true → v ≡ length (chosen is_vertex d e) → p ≡ pad plus_zero 4 (cube_point radius (digits d e)) → ps' ≡ sets ps (v * 4) (four p)
      → CornerPut d radius e ps (v + 1) ps'
  corner_put e v ps p ps' l c q r s = record {
    count = let m = ap length (chosen_more is_vertex d e c) ∙ length-append (chosen is_vertex d e) (e ∷ []) in omega (arith, m, q);
    points = λ before. s
        ∙ ap₂ (λ (a : List Float) (n : ℕ). sets a (n * 4) (four p)) before q
        ∙ sym (put_behind plus_zero 4 1024 (pad plus_zero 4) (λ n. cube_point radius (digits d n)) point_long (chosen is_vertex d e) e (four p) (four_is p (ap length r ∙ point_long e) ∙ r)
        (let m = corner_room d e low l c in omega (arith, m)))
        ∙ ap (λ (a : List ℕ). laid plus_zero 1024 (pad plus_zero 4) (map (λ n. cube_point radius (digits d n)) a)) (sym (chosen_more is_vertex d e c));
  }

  pub corner_none : (e v : ℕ) (ps : List Float) → is_vertex (digits d e) ≡ false → v ≡ length (chosen is_vertex d e) → CornerPut d radius e ps v ps
  corner_none e v ps c q = record {
    count = q ∙ ap length (sym (chosen_kept is_vertex d e c));
    points = λ before. before ∙ ap (λ (a : List ℕ). laid plus_zero 1024 (pad plus_zero 4) (map (λ n. cube_point radius (digits d n)) a)) (sym (chosen_kept is_vertex d e c));
  }

  -- ---- hyperplanes

  normal_long : (n : ℕ) → length (pad plus_zero 4 (facet_normal (digits d n))) ≡ 4
  unfolding facet_normal
  normal_long n = length_padded plus_zero 4 (facet_normal (digits d n)) (let a = length-map (digits d n) component_at in let b = digits_length d n in omega (arith, a, b))

  plane_long : (n : ℕ) → length (plane_row desk (facet_plane radius (digits d n))) ≡ 5
  unfolding plane_row facet_plane
  plane_long n = let a = length-append (pad plus_zero 4 (facet_normal (digits d n))) (radius ∷ []) in let b = normal_long n in omega (arith, a, b)

  row_is : (n : ℕ) (normal : List Float) → normal ≡ pad plus_zero 4 (facet_normal (digits d n)) → row_of (record { normal = normal; distance = radius }) ≡ plane_row desk (facet_plane radius (digits d n))
  unfolding plane_row facet_plane
  row_is n normal q = ap (λ (l : List Float). l ++ radius ∷ []) (four_is normal (ap length q ∙ normal_long n) ∙ q)

  pub facet_put : (e k : ℕ) (hs normal row hs' : List Float) → e < 3 ^ d → is_facet (digits d e) ≡ true → k ≡ length (chosen is_facet d e) → normal ≡ pad plus_zero 4 (facet_normal (digits d e))
      → row ≡ row_of (record { normal = normal; distance = radius }) → hs' ≡ sets hs (k * 5) (five row) → FacetPut d radius e hs (k + 1) hs'
  facet_put e k hs normal row hs' l c q r w s = record {
    count = let m = ap length (chosen_more is_facet d e c) ∙ length-append (chosen is_facet d e) (e ∷ []) in omega (arith, m, q);
    planes = λ before. s
        ∙ ap₂ (λ (a : List Float) (n : ℕ). sets a (n * 5) (five row)) before q
        ∙ sym (put_behind plus_zero 5 320 (plane_row desk) (λ n. facet_plane radius (digits d n)) plane_long (chosen is_facet d e) e (five row) (ap five w ∙ row_is e normal r) (let m = facet_room d e low l c in omega (arith, m)))
        ∙ ap (λ (a : List ℕ). laid plus_zero 320 (plane_row desk) (map (λ n. facet_plane radius (digits d n)) a)) (sym (chosen_more is_facet d e c));
  }

  pub facet_none : (e k : ℕ) (hs : List Float) → is_facet (digits d e) ≡ false → k ≡ length (chosen is_facet d e) → FacetPut d radius e hs k hs
  facet_none e k hs c q = record {
    count = q ∙ ap length (sym (chosen_kept is_facet d e c));
    planes = λ before. before ∙ ap (λ (a : List ℕ). laid plus_zero 320 (plane_row desk) (map (λ n. facet_plane radius (digits d n)) a)) (sym (chosen_kept is_facet d e c));
  }

-- ---- counts

pub chosen_counted : (p : List ℕ → Bool) (d e v : ℕ) (b : Bool) → v ≡ length (chosen p d e) → b ≡ p (digits d e) → v + cond b 1 0 ≡ length (chosen p d (e + 1))
chosen_counted p d e v true q r =
    let m = ap length (chosen_more p d e (sym r)) ∙ length-append (chosen p d e) (e ∷ []) in
    omega (arith, m, q)
chosen_counted p d e v false q r =
    let m = ap length (chosen_kept p d e (sym r)) in
    omega (arith, m, q)

-- no more are chosen than there are
pub chosen_few : (p : List ℕ → Bool) (d e : ℕ) → length (chosen p d e) ≤ e
chosen_few p d zero = omega arith
chosen_few p d (suc e) = subst (λ (n : ℕ). length (chosen p d n) ≤ n) (add-one e) (one_more_lem (p (digits d e)) refl (chosen_few p d e))
  where
    one_more_lem : (b : Bool) → p (digits d e) ≡ b → length (chosen p d e) ≤ e → length (chosen p d (e + 1)) ≤ e + 1
    one_more_lem true q h = let c = chosen_counted p d e (length (chosen p d e)) true refl (sym q) in omega (arith, h, c)
    one_more_lem false q h = let c = chosen_counted p d e (length (chosen p d e)) false refl (sym q) in omega (arith, h, c)

-- ---- the whole memory

-- cleared room is that of no entries
pub cleared : {A B : Type 0} (z : B) (f : A → List B) (n room : ℕ) → n ≡ room → replicate n z ≡ laid z room f []
cleared z f n room s = ap (λ (m : ℕ). replicate m z) (let h : n ≡ room - 0 = omega (arith, s) in h)

pub cube_put : (d : ℕ) (radius : Float) (cs : List ℕ) (ps hs : List Float) (es : List ℕ)
    → cs ≡ d ∷ 3 ^ d ∷ length (chosen is_vertex d (3 ^ d)) ∷ length (chosen is_facet d (3 ^ d)) ∷ [] → ps ≡ cube_points d radius (3 ^ d) → hs ≡ cube_planes d radius (3 ^ d) → es ≡ cube_elements d (3 ^ d)
    → CubePut d radius cs ps hs es
unfolding cube counts_of points_of planes_of elements_of
cube_put d radius cs ps hs es c p h e = record {
  memory = (λ i. memory_of ((c ∙ counts) i) (p i) (h i) (e i)) ∙ sym (encode_parts desk (cube d radius));
}
  where
    vertices : ℕ
    vertices = length (map (λ n. cube_point radius (digits d n)) (chosen is_vertex d (3 ^ d)))

    counts : d ∷ 3 ^ d ∷ length (chosen is_vertex d (3 ^ d)) ∷ length (chosen is_facet d (3 ^ d)) ∷ [] ≡ counts_of (cube d radius)
    counts =
        ap₂ (λ (a b : ℕ). d ∷ a ∷ b ∷ length (chosen is_facet d (3 ^ d)) ∷ []) (sym (length-map (up_to (3 ^ d)) (cube_element d) ∙ length_up 0 (3 ^ d)))
        (sym (length-map (chosen is_vertex d (3 ^ d)) (λ n. cube_point radius (digits d n))))
        ∙ ap (λ (b : ℕ). d ∷ length (map (cube_element d) (up_to (3 ^ d))) ∷ vertices ∷ b ∷ []) (sym (length-map (chosen is_facet d (3 ^ d)) (λ n. facet_plane radius (digits d n))))
