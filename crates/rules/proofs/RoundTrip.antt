-- A sound table is read back from the memory that it is written to, and a sound memory is what is written of its table.
-- Each row is read back by itself; the law of rows does the rest.
use Rattle.std.specs.Prelude.{if◌then◌else◌, Option, Some, None}
use Prim.Native.Nat.{◌-◌, ◌≤◌, ◌+◌, suc, ℕ, zero, ◌<◌, ◌*◌}
use mathlib.Core.Bool.{true, ◌&&◌, not, Bool, false≢true, false, cond}
use mathlib.Core.List.{◌++◌, List, ◌∷◌, [], append_assoc}
use mathlib.Core.Path.{◌≡◌, refl, ap, ◌∙◌, ap₂, subst, sym}
use native.Mathlib.Nat.{le_trans, le_of_eq}
use native.Mathlib.Omega.{arith}
use lib.Dec.{leb, eqb}
use lib.Ieee.{Float}
use lib.ListN.{length, get_or, take, replicate, length-append}
use lib.Seq.{take-append_seam, take_at, get_or_at}
use Rattle.rules.specs.Limits.{Limits, Readable, no_plane}
use Rattle.rules.specs.Lists.{pad, all, all_from, alike}
use Rattle.rules.specs.Floats.{plus_zero, within, farthest, unit, same_bits}
use Rattle.rules.specs.Table.{Element, corner, polytope, Plane, Table, boundary_of, element_count}
use Rattle.rules.specs.Sound.{names_none, sound_point, sound, sound_plane, names_plane, sound_element, sound_facet}
use Rattle.rules.specs.Memory.{element_width, element_row, plane_number, plane_named, read_element, plane_row, plane_width, read_plane, decode, encode, right_size, Memory, same_memory, sound_memory}
use Rattle.rules.specs.Held.{fitting}
use Rattle.rules.proofs.Good.{whole, Good, sound_good}
use Rattle.rules.proofs.Each.{all_map}
use Rattle.rules.proofs.Laws.{le_test, and_right, and_left, not_eq, eq_test, and_true, test_eq, eqb_self, mark_back}
use Rattle.rules.proofs.Rows.{length_pad, read_rows, rows_fill}
use Rattle.rules.proofs.Selves.{alike_self, bits_self, alike_eq, same_floats}

-- ---- what a row needs: its test, and that it fits its width

module _ (L : Limits) (U : Readable L) where
  pub element_long : (e : Element) → fitting L e ≡ true → length (pad 0 (element_width L) (element_row e)) ≡ element_width L
  unfolding element_row
  element_long (corner v) h = let u = U.boundary in length_pad 0 (element_width L) (element_row (corner v)) (let q : 5 ≤ 4 + L.boundary = omega (arith, u) in q)
  element_long (polytope r b h m) k =
      let s = le_test (length b) L.boundary (and_right (leb 1 r) (leb (length b) L.boundary) (and_left (leb 1 r && leb (length b) L.boundary) _ k)) in
      length_pad 0 (element_width L) (element_row (polytope r b h m)) (let q : suc (suc (suc (suc (length b)))) ≤ 4 + L.boundary = omega (arith, s) in q)

  pub plane_back : (h : Option ℕ) → not (eqb (plane_number h) no_plane && not (names_none h)) ≡ true → plane_named (plane_number h) ≡ h
  plane_back None k = refl
  plane_back (Some n) k = go (eqb n no_plane) k
    where
      go : (b : Bool) → not (b && true) ≡ true → (if b then None else Some n) ≡ Some n
      go true g = absurd (false≢true g)
      go false g = refl

  -- whatever follows the row
  pub row_back : (e : Element) (rest : List ℕ) → fitting L e ≡ true → read_element (element_row e ++ rest) ≡ e
  unfolding element_row read_element
  row_back (corner v) rest k = refl
  row_back (polytope zero b h m) rest k = absurd (false≢true k)
  row_back (polytope (suc r) b h m) rest k =
      ap (λ (c : Bool). if c then corner (get_or (b ++ rest) 0 0) else polytope (suc r) (take (length b) (b ++ rest)) (plane_named (plane_number h)) (eqb (cond m 1 0) 1)) (not_eq (suc r) 0 (λ q. suc_ne r q))
      ∙ ap₂ (λ (c : List ℕ) (x : Option ℕ). polytope (suc r) c x (eqb (cond m 1 0) 1)) (take-append_seam b rest) (plane_back h (and_right (leb 1 (suc r) && leb (length b) L.boundary) _ k))
      ∙ ap (polytope (suc r) b h) (mark_back m)
    where
      suc_ne : (n : ℕ) → suc n ≡ zero → ⊥
      suc_ne n q = let z : ⊥ = omega (arith, q) in z

  pub element_back : (e : Element) → fitting L e ≡ true → read_element (pad 0 (element_width L) (element_row e)) ≡ e
  element_back e k = row_back e (replicate (element_width L - length (element_row e)) 0) k

  -- a point and a hyperplane need only a coordinate for each dimension
  pub axes_long : (d : ℕ) → d ≤ L.dimensions → (p : List Float) → eqb (length p) d ≡ true → length (pad plus_zero L.dimensions p) ≡ L.dimensions
  axes_long d l p h = length_pad plus_zero L.dimensions p (le_trans (le_of_eq (eq_test (length p) d h)) l)

  axes_back : (d : ℕ) (p : List Float) → eqb (length p) d ≡ true → take d (pad plus_zero L.dimensions p) ≡ p
  axes_back d p h = take_at p (replicate (L.dimensions - length p) plus_zero) d (eq_test (length p) d h)

  pub row_long : (d : ℕ) → d ≤ L.dimensions → (h : Plane) → eqb (length h.normal) d ≡ true → length (plane_row L h) ≡ plane_width L
  unfolding plane_row
  row_long d l h k =
      let e = length-append (pad plus_zero L.dimensions h.normal) (h.distance ∷ []) in
      let n = axes_long d l h.normal k in
      omega (arith, e, n)

  row_read : (d : ℕ) → d ≤ L.dimensions → (h : Plane) → eqb (length h.normal) d ≡ true → read_plane L d (plane_row L h) ≡ h
  unfolding plane_row read_plane
  row_read d l h k = λ i. record {
    normal = (ap (take d) (append_assoc h.normal (replicate (L.dimensions - length h.normal) plus_zero) (h.distance ∷ [])) ∙ take_at h.normal _ d (eq_test (length h.normal) d k)) i;
    distance = get_or_at (pad plus_zero L.dimensions h.normal) h.distance [] plus_zero L.dimensions (axes_long d l h.normal k) i;
  }

  -- a sound one has them
  point_axes : (d : ℕ) (p : List Float) → sound_point d p ≡ true → eqb (length p) d ≡ true
  unfolding sound_point
  point_axes d p h = and_left (eqb (length p) d) (all (within farthest) p) h

  plane_axes : (d : ℕ) (h : Plane) → sound_plane d h ≡ true → eqb (length h.normal) d ≡ true
  unfolding sound_plane
  plane_axes d h k = and_left (eqb (length h.normal) d) (unit h.normal) (and_left (eqb (length h.normal) d && unit h.normal) _ k)

  pub normal_long : (d : ℕ) (h : Plane) → sound_plane d h ≡ true → length h.normal ≡ d
  normal_long d h k = eq_test (length h.normal) d (plane_axes d h k)

  pub point_long : (d : ℕ) → d ≤ L.dimensions → (p : List Float) → sound_point d p ≡ true → length (pad plus_zero L.dimensions p) ≡ L.dimensions
  point_long d l p h = axes_long d l p (point_axes d p h)

  pub point_back : (d : ℕ) (p : List Float) → sound_point d p ≡ true → take d (pad plus_zero L.dimensions p) ≡ p
  point_back d p h = axes_back d p (point_axes d p h)

  pub plane_long : (d : ℕ) → d ≤ L.dimensions → (h : Plane) → sound_plane d h ≡ true → length (plane_row L h) ≡ plane_width L
  plane_long d l h k = row_long d l h (plane_axes d h k)

  pub plane_read : (d : ℕ) → d ≤ L.dimensions → (h : Plane) → sound_plane d h ≡ true → read_plane L d (plane_row L h) ≡ h
  plane_read d l h k = row_read d l h (plane_axes d h k)

  -- ---- a whole table

  -- a sound element fits its row
  pub element_fits_lem : (t : Table) → Good L t → all (fitting L) t.elements ≡ true
  element_fits_lem t g = go 0 t.elements g.elements g.boundary_room
    where
      low : (n : ℕ) → n < length t.planes → (eqb n no_plane && true) ≡ false
      low n h =
          let r = le_test (length t.planes) L.hyperplanes g.plane_room in
          let u = U.planes in
          ap (λ (c : Bool). c && true) (not_eq n no_plane (λ q. (let z : ⊥ = omega (arith, h, r, u, q) in z)))

      named : (b : Bool) (h : Option ℕ) (m : Bool) → (if b then names_plane t h else (names_none h && not m)) ≡ true → not (eqb (plane_number h) no_plane && not (names_none h)) ≡ true
      named b None m k = refl
      named true (Some n) m k = ap not (low n (le_test (suc n) (length t.planes) k))
      named false (Some n) m k = absurd (false≢true k)

      one : (n : ℕ) (e : Element) → sound_element t n e ≡ true → leb (length (boundary_of e)) L.boundary ≡ true → fitting L e ≡ true
      one n (corner v) h k = refl
      one n (polytope r b j m) h k =
          let w = whole t n r b j m h in
          and_true (leb 1 r && leb (length b) L.boundary) (not (eqb (plane_number j) no_plane && not (names_none j))) (and_true (leb 1 r) (leb (length b) L.boundary) w.some_rank k) (facet_named r j m w.facet)
        where
          facet_named : (r : ℕ) (j : Option ℕ) (m : Bool) → sound_facet t r j m ≡ true → not (eqb (plane_number j) no_plane && not (names_none j)) ≡ true
          facet_named r j m f = unfold sound_facet in named (eqb (suc r) t.dimension) j m f

      go : (n : ℕ) (es : List Element) → all_from n (sound_element t) es ≡ true → all (λ e. leb (length (boundary_of e)) L.boundary) es ≡ true → all (fitting L) es ≡ true
      go n [] h k = refl
      go n (e ∷ es) h k =
          and_true (fitting L e) (all (fitting L) es)
          (one n e (and_left (sound_element t n e) (all_from (suc n) (sound_element t) es) h) (and_left (leb (length (boundary_of e)) L.boundary) _ k))
          (go (suc n) es (and_right (sound_element t n e) (all_from (suc n) (sound_element t) es) h) (and_right (leb (length (boundary_of e)) L.boundary) _ k))

  -- a table whose rows fit the room, sound or not
  pub record Shaped (t : Table) : Type 0 where
    pub dimension : t.dimension ≤ L.dimensions
    pub point_room : length t.points ≤ L.vertices
    pub element_room : element_count t ≤ L.elements
    pub plane_room : length t.planes ≤ L.hyperplanes
    pub points : all (λ p. eqb (length p) t.dimension) t.points ≡ true
    pub elements : all (fitting L) t.elements ≡ true
    pub planes : all (λ h. eqb (length h.normal) t.dimension) t.planes ≡ true

  pub good_shaped : (t : Table) → Good L t → Shaped t
  good_shaped t g = record {
    dimension = le_test t.dimension L.dimensions g.high;
    point_room = le_test (length t.points) L.vertices g.vertex_room;
    element_room = le_test (element_count t) L.elements g.element_room;
    plane_room = le_test (length t.planes) L.hyperplanes g.plane_room;
    points = all_map (sound_point t.dimension) (λ p. eqb (length p) t.dimension) (point_axes t.dimension) t.points g.points;
    elements = element_fits_lem t g;
    planes = all_map (sound_plane t.dimension) (λ h. eqb (length h.normal) t.dimension) (plane_axes t.dimension) t.planes g.planes;
  }

  module _ (t : Table) (g : Shaped t) where
    -- what was written is read back
    read_back : decode L (encode L t) ≡ t
    unfolding decode encode
    read_back = λ i. record {
      dimension = t.dimension;
      points = read_rows plus_zero (L.vertices * L.dimensions) L.dimensions (pad plus_zero L.dimensions) (take t.dimension) (λ p. eqb (length p) t.dimension) t.points
          (axes_long t.dimension g.dimension) (axes_back t.dimension) g.points i;
      elements = read_rows 0 (L.elements * element_width L) (element_width L) (λ e. pad 0 (element_width L) (element_row e)) read_element (fitting L) t.elements element_long element_back g.elements i;
      planes = read_rows plus_zero (L.hyperplanes * plane_width L) (plane_width L) (plane_row L) (read_plane L t.dimension) (λ h. eqb (length h.normal) t.dimension) t.planes
          (row_long t.dimension g.dimension) (row_read t.dimension g.dimension) g.planes i;
    }

    size_right : right_size L (encode L t) ≡ true
    unfolding right_size encode
    size_right =
        and_true _ _ (and_true _ _ (and_true _ _ refl
        (test_eq _ _ (rows_fill plus_zero L.vertices L.dimensions (pad plus_zero L.dimensions) (λ p. eqb (length p) t.dimension) t.points
        (axes_long t.dimension g.dimension) g.points g.point_room)))
        (test_eq _ _ (rows_fill plus_zero L.hyperplanes (plane_width L) (plane_row L) (λ h. eqb (length h.normal) t.dimension) t.planes (row_long t.dimension g.dimension) g.planes g.plane_room)))
        (test_eq _ _ (rows_fill 0 L.elements (element_width L) (λ e. pad 0 (element_width L) (element_row e)) (fitting L) t.elements element_long g.elements g.element_room))

  memory_self : (m : Memory) → same_memory m m ≡ true
  unfolding same_memory
  memory_self m = and_true _ _ (and_true _ _ (and_true _ _ (alike_self eqb eqb_self m.counts) (alike_self same_bits bits_self m.points)) (alike_self same_bits bits_self m.planes)) (alike_self eqb eqb_self m.elements)

  -- the memory written of a table whose rows fit is sound exactly where the table is
  pub written_as : (t : Table) → Shaped t → sound_memory L (encode L t) ≡ sound L t
  unfolding sound_memory
  written_as t g =
      let r = read_back t g in
      ap₂ ◌&&◌ (and_true _ _ (size_right t g) (subst (λ (u : Table). same_memory (encode L u) (encode L t) ≡ true) (sym r) (memory_self (encode L t)))) (ap (sound L) r)

  pub written_sound : (t : Table) → sound L t ≡ true → sound_memory L (encode L t) ≡ true
  written_sound t s = written_as t (good_shaped t (sound_good L t s)) ∙ s

  pub table_back : (t : Table) → sound L t ≡ true → decode L (encode L t) ≡ t
  table_back t s = read_back t (good_shaped t (sound_good L t s))

-- ---- a sound memory is the one memory of its table

same_memory_lem : (m n : Memory) → same_memory m n ≡ true → m ≡ n
unfolding same_memory
same_memory_lem m n h =
    let a = alike eqb m.counts n.counts in
    let b = alike same_bits m.points n.points in
    let c = alike same_bits m.planes n.planes in
    let d = alike eqb m.elements n.elements in
    let h₂ : (a && b && c) ≡ true = and_left (a && b && c) d h in
    let h₁ : (a && b) ≡ true = and_left (a && b) c h₂ in
    λ i. record {
      counts = alike_eq m.counts n.counts (and_left a b h₁) i;
      points = same_floats m.points n.points (and_right a b h₁) i;
      planes = same_floats m.planes n.planes (and_right (a && b) c h₂) i;
      elements = alike_eq m.elements n.elements (and_right (a && b && c) d h) i;
    }

pub memory_back : (L : Limits) (m : Memory) → sound_memory L m ≡ true → encode L (decode L m) ≡ m
unfolding sound_memory
memory_back L m h =
    same_memory_lem (encode L (decode L m)) m
    (and_right (right_size L m) (same_memory (encode L (decode L m)) m) (and_left (right_size L m && same_memory (encode L (decode L m)) m) (sound L (decode L m)) h))
