-- Words of the lent slices are fields of the model: each read, each append and each truncation, over any limits, from the law of rows.
use Prim.Native.Nat.{◌-◌, ℕ, ◌*◌, ◌<◌, ◌+◌, suc, ◌≤◌}
use mathlib.Core.Bool.{cond, true, ◌&&◌, Bool}
use mathlib.Core.List.{map, List, ◌∷◌, [], ◌++◌, append-nil}
use mathlib.Core.Path.{◌≡◌, refl, ap, sym, ◌∙◌, subst}
use native.Mathlib.Nat.{mul-le-mul_right, add-zero, suc-mul, le_of_eq, le_trans}
use native.Mathlib.Omega.{arith}
use lib.Dec.{leb, eqb}
use lib.Ieee.{Float}
use lib.ListN.{length, get_or, get_or-append, replicate, set, length-append}
use lib.Seq.{sets}
use Rattle.rules.specs.Cut.{with_element, with_point, with_plane}
use Rattle.rules.specs.Floats.{plus_zero}
use Rattle.rules.specs.Held.{counts_of, points_of, planes_of, elements_of, Fits, element_words, fitting, Wide, Extends, Begins}
use Rattle.rules.specs.Limits.{Limits, Readable}
use Rattle.rules.specs.Lists.{pad, all}
use Rattle.rules.specs.Memory.{encode, element_width, plane_width, plane_row, element_row, plane_number}
use Rattle.rules.specs.Table.{Table, element, element_count, Plane, Element, corner, polytope, rank, rank_of, boundary_of, is_primordial, plane_of}
use Rattle.rules.proofs.Good.{Good}
use Rattle.rules.proofs.Growing.{all_snoc}
use Rattle.rules.proofs.Laws.{le_test, and_right, and_left, and_true}
use Rattle.rules.proofs.RoundTrip.{Shaped, good_shaped, element_long, axes_long, row_long}
use Rattle.rules.proofs.Rows.{wide_map}
use Rattle.space.proofs.Laid.{laid_size, laid_read, laid_append, map_append, wide_append, wide_left, length_padded, laid_back}

pub encode_parts : (L : Limits) (t : Table) → encode L t ≡ record { counts = counts_of t; points = points_of L t; planes = planes_of L t; elements = elements_of L t }
unfolding encode counts_of points_of planes_of elements_of
encode_parts L t = refl

pub shaped_fits : (L : Limits) (U : Readable L) (t : Table) → Shaped L U t → Fits L t
shaped_fits L U t g = record {
  element_room = g.element_room;
  point_room = g.point_room;
  plane_room = g.plane_room;
  elements = wide_map (element_width L) (element_words L) (fitting L) (element_long L U) t.elements g.elements;
  kinds = g.elements;
  points = wide_map L.dimensions (pad plus_zero L.dimensions) (λ p. eqb (length p) t.dimension) (axes_long L U t.dimension g.dimension) t.points g.points;
  planes = wide_map (plane_width L) (plane_row L) (λ h. eqb (length h.normal) t.dimension) (row_long L U t.dimension g.dimension) t.planes g.planes;
}

pub good_fits : (L : Limits) (U : Readable L) (t : Table) → Good L t → Fits L t
good_fits L U t g = shaped_fits L U t (good_shaped L U t g)

-- a row that is as long as its room
pub full : {A : Type 0} (z : A) (ys : List A) (n : ℕ) → length ys ≡ n → ys ≡ pad z n ys
full z ys n e = sym (ap (λ (m : ℕ). ys ++ replicate m z) (let q : n - length ys ≡ 0 = omega (arith, e) in q) ∙ append-nil ys)

-- one row more of the same width
pub wide_more : {A B : Type 0} (w : ℕ) (f : A → List B) (xs : List A) (x : A) → Wide w (map f xs) → length (f x) ≡ w → Wide w (map f (xs ++ x ∷ []))
wide_more w f xs x h k = subst (Wide w) (sym (map_append f xs (x ∷ []))) (wide_append w (map f xs) (f x) h k)

-- how many numbers stand after the four
abbrev pub size_of : Element → ℕ
size_of (corner v) = 1
size_of (polytope r b h m) = length b

abbrev pub list_of : Element → List ℕ
list_of (corner v) = v ∷ []
list_of (polytope r b h m) = b

-- an element of some rank is a polytope
pub size_bound : (x : Element) (n : ℕ) → rank_of x ≡ suc n → size_of x ≡ length (boundary_of x)
size_bound (corner v) n h = absurd (let z : ⊥ = omega (arith, h) in z)
size_bound (polytope r b h m) n q = refl

pub list_bound : (x : Element) (n : ℕ) → rank_of x ≡ suc n → list_of x ≡ boundary_of x
list_bound (corner v) n h = absurd (let z : ⊥ = omega (arith, h) in z)
list_bound (polytope r b h m) n q = refl

module _ (L : Limits) (t : Table) (F : Fits L t) where
  pub elements_size : length (elements_of L t) ≡ L.elements * element_width L
  unfolding elements_of
  elements_size = laid_size (element_width L) (element_words L) 0 (L.elements * element_width L) t.elements F.elements (mul-le-mul_right (element_width L) F.element_room)

  pub points_size : length (points_of L t) ≡ L.vertices * L.dimensions
  unfolding points_of
  points_size = laid_size L.dimensions (pad plus_zero L.dimensions) plus_zero (L.vertices * L.dimensions) t.points F.points (mul-le-mul_right L.dimensions F.point_room)

  pub planes_size : length (planes_of L t) ≡ L.hyperplanes * plane_width L
  unfolding planes_of
  planes_size = laid_size (plane_width L) (plane_row L) plus_zero (L.hyperplanes * plane_width L) t.planes F.planes (mul-le-mul_right (plane_width L) F.plane_room)

  -- ---- words of an element

  module _ (e : ℕ) (u : e < element_count t) where
    pub word : (j : ℕ) → j < element_width L → get_or (elements_of L t) (e * element_width L + j) 0 ≡ get_or (element_words L (element t e)) j 0
    unfolding elements_of
    word j k = laid_read (element_width L) (element_words L) 0 (L.elements * element_width L) t.elements e j (corner 0) 0 F.elements u k

    first : 0 < element_width L
    first = let z : 0 < 4 + L.boundary = omega arith in z

    pub rank_word : get_or (elements_of L t) (e * element_width L) 0 ≡ rank t e
    unfolding element_row
    rank_word = ap (λ (n : ℕ). get_or (elements_of L t) n 0) (sym (add-zero (e * element_width L))) ∙ word 0 first ∙ go (element t e)
      where
        go : (x : Element) → get_or (element_words L x) 0 0 ≡ rank_of x
        go (corner v) = refl
        go (polytope r b h m) = refl

    pub mark_word : get_or (elements_of L t) (e * element_width L + 1) 0 ≡ cond (is_primordial (element t e)) 1 0
    unfolding element_row
    mark_word = word 1 (let z : 1 < 4 + L.boundary = omega arith in z) ∙ go (element t e)
      where
        go : (x : Element) → get_or (element_words L x) 1 0 ≡ cond (is_primordial x) 1 0
        go (corner v) = refl
        go (polytope r b h m) = refl

    pub plane_word : get_or (elements_of L t) (e * element_width L + 2) 0 ≡ plane_number (plane_of (element t e))
    unfolding element_row
    plane_word = word 2 (let z : 2 < 4 + L.boundary = omega arith in z) ∙ go (element t e)
      where
        go : (x : Element) → get_or (element_words L x) 2 0 ≡ plane_number (plane_of x)
        go (corner v) = refl
        go (polytope r b h m) = refl

    pub size_word_lem : get_or (elements_of L t) (e * element_width L + 3) 0 ≡ size_of (element t e)
    unfolding element_row
    size_word_lem = word 3 (let z : 3 < 4 + L.boundary = omega arith in z) ∙ go (element t e)
      where
        go : (x : Element) → get_or (element_words L x) 3 0 ≡ size_of x
        go (corner v) = refl
        go (polytope r b h m) = refl

    pub list_word_lem : (i : ℕ) → i < length (list_of (element t e)) → 4 + i < element_width L → get_or (elements_of L t) (e * element_width L + (4 + i)) 0 ≡ get_or (list_of (element t e)) i 0
    unfolding element_row
    list_word_lem i k s = word (4 + i) s ∙ ap (λ (n : ℕ). get_or (element_words L (element t e)) n 0) (let q : 4 + i ≡ suc (suc (suc (suc i))) = omega arith in q) ∙ go (element t e) k
      where
        go : (x : Element) → i < length (list_of x) → get_or (element_words L x) (suc (suc (suc (suc i)))) 0 ≡ get_or (list_of x) i 0
        go (corner v) q = get_or-append (v ∷ []) (replicate (element_width L - length (element_row (corner v))) 0) 0 i q
        go (polytope r b h m) q = get_or-append b (replicate (element_width L - length (element_row (polytope r b h m))) 0) 0 i q

  -- a coordinate of a point, whatever stands past the end
  pub point_word_or : (v j : ℕ) (d : Float) → v < length t.points → j < L.dimensions → get_or (points_of L t) (v * L.dimensions + j) d ≡ get_or (pad plus_zero L.dimensions (get_or t.points v [])) j d
  unfolding points_of
  point_word_or v j d u k = laid_read L.dimensions (pad plus_zero L.dimensions) plus_zero (L.vertices * L.dimensions) t.points v j [] d F.points u k

  -- ---- entries appended

  row_fits : (w : ℕ) {n room : ℕ} → n < room → n * w + w ≤ room * w
  row_fits w {n} {room} h = let e = suc-mul n w in let m = mul-le-mul_right w h in omega (arith, e, m)

  pub element_fitted : (e : Element) → element_count t < L.elements → length (element_row e) ≤ element_width L → fitting L e ≡ true → Fits L (with_element e t)
  element_fitted e u k f = record {
    kinds = all_snoc (fitting L) t.elements e F.kinds f;
    element_room = subst (λ (n : ℕ). n ≤ L.elements) (sym (length-append t.elements (e ∷ []))) (let z : element_count t + 1 ≤ L.elements = omega (arith, u) in z);
    point_room = F.point_room;
    plane_room = F.plane_room;
    elements = wide_more (element_width L) (element_words L) t.elements e F.elements (length_padded 0 (element_width L) (element_row e) k);
    points = F.points;
    planes = F.planes;
  }

  pub element_counted_lem : (e : Element) → counts_of (with_element e t) ≡ set (counts_of t) 1 (element_count t + 1)
  unfolding counts_of
  element_counted_lem e = ap (λ (n : ℕ). t.dimension ∷ n ∷ length t.points ∷ length t.planes ∷ []) (length-append t.elements (e ∷ []))

  pub point_fitted : (p : List Float) → length t.points < L.vertices → length p ≤ L.dimensions → Fits L (with_point p t)
  point_fitted p u k = record {
    kinds = F.kinds;
    element_room = F.element_room;
    point_room = subst (λ (n : ℕ). n ≤ L.vertices) (sym (length-append t.points (p ∷ []))) (let z : length t.points + 1 ≤ L.vertices = omega (arith, u) in z);
    plane_room = F.plane_room;
    elements = F.elements;
    points = wide_more L.dimensions (pad plus_zero L.dimensions) t.points p F.points (length_padded plus_zero L.dimensions p k);
    planes = F.planes;
  }

  pub point_counted : (p : List Float) → counts_of (with_point p t) ≡ set (counts_of t) 2 (length t.points + 1)
  unfolding counts_of
  point_counted p = ap (λ (n : ℕ). t.dimension ∷ element_count t ∷ n ∷ length t.planes ∷ []) (length-append t.points (p ∷ []))

  pub plane_stored : (h : Plane) → length t.planes < L.hyperplanes → length (plane_row L h) ≡ plane_width L → planes_of L (with_plane h t) ≡ sets (planes_of L t) (length t.planes * plane_width L) (plane_row L h)
  unfolding planes_of
  plane_stored h u k = laid_append (plane_width L) (plane_row L) plus_zero (L.hyperplanes * plane_width L) t.planes h (plane_row L h) F.planes (full plus_zero (plane_row L h) (plane_width L) k) (le_of_eq k)
      (row_fits (plane_width L) u)

  pub plane_counted_lem : (h : Plane) → counts_of (with_plane h t) ≡ set (counts_of t) 3 (length t.planes + 1)
  unfolding counts_of
  plane_counted_lem h = ap (λ (n : ℕ). t.dimension ∷ element_count t ∷ length t.points ∷ n ∷ []) (length-append t.planes (h ∷ []))

-- an element that fits has a short enough row, and its whole row of words may be stored
pub row_short : (L : Limits) → Readable L → (e : Element) → fitting L e ≡ true → length (element_row e) ≤ element_width L
unfolding element_row
row_short L U (corner v) p = let u = U.boundary in let q : 5 ≤ 4 + L.boundary = omega (arith, u) in q
row_short L U (polytope r b h m) k =
    let s = le_test (length b) L.boundary (and_right (leb 1 r) (leb (length b) L.boundary) (and_left (leb 1 r && leb (length b) L.boundary) _ k)) in
    let q : suc (suc (suc (suc (length b)))) ≤ 4 + L.boundary = omega (arith, s) in
    q

pub element_words_stored : (L : Limits) → Readable L → (t : Table) → Fits L t → (e : Element) → element_count t < L.elements → fitting L e ≡ true
    → elements_of L (with_element e t) ≡ sets (elements_of L t) (element_count t * element_width L) (element_words L e)
unfolding elements_of
element_words_stored L U t F e u p =
    let k = element_long L U e p in
    laid_append (element_width L) (element_words L) 0 (L.elements * element_width L) t.elements e (element_words L e) F.elements (full 0 (element_words L e) (element_width L) k) (le_of_eq k)
    (let e = suc-mul (element_count t) (element_width L) in let m = mul-le-mul_right (element_width L) u in let q : element_count t * element_width L + element_width L ≤ L.elements * element_width L = omega (arith, e, m) in q)

pub point_words_stored : (L : Limits) (t : Table) → Fits L t → (p : List Float) → length t.points < L.vertices → length p ≤ L.dimensions
    → points_of L (with_point p t) ≡ sets (points_of L t) (length t.points * L.dimensions) (pad plus_zero L.dimensions p)
unfolding points_of
point_words_stored L t F p u k =
    let n = length_padded plus_zero L.dimensions p k in
    laid_append L.dimensions (pad plus_zero L.dimensions) plus_zero (L.vertices * L.dimensions) t.points p (pad plus_zero L.dimensions p) F.points (full plus_zero (pad plus_zero L.dimensions p) L.dimensions n) (le_of_eq n)
    (let e = suc-mul (length t.points) L.dimensions in let m = mul-le-mul_right L.dimensions u in let q : length t.points * L.dimensions + L.dimensions ≤ L.vertices * L.dimensions = omega (arith, e, m) in q)

-- ---- the old table's memory back

module _ (L : Limits) (t u : Table) (x : Extends t u) (F : Fits L u) where
  pub elements_restored : sets (elements_of L u) (element_count t * element_width L) (replicate (element_count u * element_width L - element_count t * element_width L) 0) ≡ elements_of L t
  unfolding elements_of
  elements_restored = laid_back (element_width L) (element_words L) 0 (L.elements * element_width L) t.elements u.elements F.elements x.elements (mul-le-mul_right (element_width L) F.element_room)

  pub points_restored : sets (points_of L u) (length t.points * L.dimensions) (replicate (length u.points * L.dimensions - length t.points * L.dimensions) plus_zero) ≡ points_of L t
  unfolding points_of
  points_restored = laid_back L.dimensions (pad plus_zero L.dimensions) plus_zero (L.vertices * L.dimensions) t.points u.points F.points x.points (mul-le-mul_right L.dimensions F.point_room)

  pub planes_restored : sets (planes_of L u) (length t.planes * plane_width L) (replicate (length u.planes * plane_width L - length t.planes * plane_width L) plus_zero) ≡ planes_of L t
  unfolding planes_of
  planes_restored = laid_back (plane_width L) (plane_row L) plus_zero (L.hyperplanes * plane_width L) t.planes u.planes F.planes x.planes (mul-le-mul_right (plane_width L) F.plane_room)

  pub counts_restored : set (set (set (counts_of u) 1 (element_count t)) 2 (length t.points)) 3 (length t.planes) ≡ counts_of t
  unfolding counts_of
  counts_restored = ap (λ (d : ℕ). d ∷ element_count t ∷ length t.points ∷ length t.planes ∷ []) x.dimension

  pub fits_before : Fits L t
  fits_before = record {
    element_room = le_trans (shorter t.elements u.elements x.elements) F.element_room;
    point_room = le_trans (shorter t.points u.points x.points) F.point_room;
    plane_room = le_trans (shorter t.planes u.planes x.planes) F.plane_room;
    elements = front (element_width L) (element_words L) t.elements u.elements x.elements F.elements;
    kinds = all_front (fitting L) t.elements u.elements x.elements F.kinds;
    points = front L.dimensions (pad plus_zero L.dimensions) t.points u.points x.points F.points;
    planes = front (plane_width L) (plane_row L) t.planes u.planes x.planes F.planes;
  }
    where
      shorter : {A : Type 0} (xs ys : List A) → Begins xs ys → length xs ≤ length ys
      shorter xs ys b = let q = ap length b.1 ∙ length-append xs b.0 in let z : length xs ≤ length ys = omega (arith, q) in z

      front : {A B : Type 0} (w : ℕ) (f : A → List B) (xs ys : List A) → Begins xs ys → Wide w (map f ys) → Wide w (map f xs)
      front w f xs ys b g = wide_left w (map f xs) (map f b.0) (subst (Wide w) (ap (map f) b.1 ∙ map_append f xs b.0) g)

      all_left : {A : Type 0} (p : A → Bool) (xs ys : List A) → all p (xs ++ ys) ≡ true → all p xs ≡ true
      all_left p [] ys g = refl
      all_left p (y ∷ xs) ys g = and_true (p y) (all p xs) (and_left (p y) (all p (xs ++ ys)) g) (all_left p xs ys (and_right (p y) (all p (xs ++ ys)) g))

      all_front : {A : Type 0} (p : A → Bool) (xs ys : List A) → Begins xs ys → all p ys ≡ true → all p xs ≡ true
      all_front {A} p xs ys b g = all_left p xs b.0 (subst (λ (l : List A). all p l ≡ true) b.1 g)
