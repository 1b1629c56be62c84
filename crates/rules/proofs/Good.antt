-- Soundness by its parts, and what it says of one element: the record `Good` has a field for each test of `sound`.
-- An element that is sound stays sound in a table that extends.
use Rattle.std.specs.Prelude.{if◌then◌else◌, Option, Some, None}
use Prim.Native.Nat.{ℕ, suc, ◌≤◌, ◌<◌}
use mathlib.Core.Bool.{true, ◌&&◌, Bool, not, false}
use mathlib.Core.List.{map, List, [], ◌∷◌}
use mathlib.Core.Path.{◌≡◌, ap, subst, refl, ap₂, ◌∙◌, sym}
use native.Mathlib.Nat.{le_trans, zero-add, le_refl, le_of_lt, not-suc-le-zero}
use lib.Dec.{leb, eqb, ltb}
use lib.ListN.{length}
use Rattle.rules.specs.Limits.{Limits}
use Rattle.rules.specs.Lists.{all, keep, up_to, all_from, distinct, alike, rises}
use Rattle.rules.specs.Table.{Table, element, element_count, boundary_of, primordials, corner, vertex_of, is_corner, Element, same_element, rank, polytope, rank_of}
use Rattle.rules.specs.Sound.{sound_point, sound, sound_plane, sound_element, room_fits, corners_in_order, closed, sound_boundary, names_plane, sound_facet, names_none}
use Rattle.rules.specs.Held.{Extends}
use Rattle.rules.proofs.Extends.{Below, rank_same, below_more, closed_same, begins_length}
use Rattle.rules.proofs.Growing.{all_from_step, all_at}
use Rattle.rules.proofs.Laws.{and_left, and_right, and_true, le_test, test_le}
use Rattle.rules.proofs.Selves.{alike_eq, eq_alike}

-- ---- the tests of a table

pub record Good (L : Limits) (t : Table) : Type 0 where
  pub low : leb 1 t.dimension ≡ true
  pub high : leb t.dimension L.dimensions ≡ true
  pub vertex_room : leb (length t.points) L.vertices ≡ true
  pub element_room : leb (element_count t) L.elements ≡ true
  pub plane_room : leb (length t.planes) L.hyperplanes ≡ true
  pub boundary_room : all (λ e. leb (length (boundary_of e)) L.boundary) t.elements ≡ true
  pub points : all (sound_point t.dimension) t.points ≡ true
  pub planes : all (sound_plane t.dimension) t.planes ≡ true
  pub primordial : leb (primordials t.dimension) (length t.planes) ≡ true
  pub corners : map vertex_of (keep is_corner t.elements) ≡ up_to (length t.points)
  pub elements : all_from 0 (sound_element t) t.elements ≡ true
  pub apart : distinct same_element t.elements ≡ true

pub sound_good : (L : Limits) (t : Table) → sound L t ≡ true → Good L t
unfolding sound room_fits corners_in_order
sound_good L t h =
    let a₁ = leb 1 t.dimension in
    let a₂ = leb t.dimension L.dimensions in
    let a₃ = leb (length t.points) L.vertices in
    let a₄ = leb (element_count t) L.elements in
    let a₅ = leb (length t.planes) L.hyperplanes in
    let a₆ = all (λ e. leb (length (boundary_of e)) L.boundary) t.elements in
    let b = all (sound_point t.dimension) t.points in
    let c = all (sound_plane t.dimension) t.planes in
    let p = leb (primordials t.dimension) (length t.planes) in
    let k = alike eqb (map vertex_of (keep is_corner t.elements)) (up_to (length t.points)) in
    let e = all_from 0 (sound_element t) t.elements in
    let d = distinct same_element t.elements in
    let a = a₁ && a₂ && a₃ && a₄ && a₅ && a₆ in
    let h₆ : (a && b && c && p && k && e) ≡ true = and_left (a && b && c && p && k && e) d h in
    let h₅ : (a && b && c && p && k) ≡ true = and_left (a && b && c && p && k) e h₆ in
    let h₄ : (a && b && c && p) ≡ true = and_left (a && b && c && p) k h₅ in
    let h₃ : (a && b && c) ≡ true = and_left (a && b && c) p h₄ in
    let h₂ : (a && b) ≡ true = and_left (a && b) c h₃ in
    let h₁ : a ≡ true = and_left a b h₂ in
    let g₅ : (a₁ && a₂ && a₃ && a₄ && a₅) ≡ true = and_left (a₁ && a₂ && a₃ && a₄ && a₅) a₆ h₁ in
    let g₄ : (a₁ && a₂ && a₃ && a₄) ≡ true = and_left (a₁ && a₂ && a₃ && a₄) a₅ g₅ in
    let g₃ : (a₁ && a₂ && a₃) ≡ true = and_left (a₁ && a₂ && a₃) a₄ g₄ in
    let g₂ : (a₁ && a₂) ≡ true = and_left (a₁ && a₂) a₃ g₃ in
    record {
      low = and_left a₁ a₂ g₂;
      high = and_right a₁ a₂ g₂;
      vertex_room = and_right (a₁ && a₂) a₃ g₃;
      element_room = and_right (a₁ && a₂ && a₃) a₄ g₄;
      plane_room = and_right (a₁ && a₂ && a₃ && a₄) a₅ g₅;
      boundary_room = and_right (a₁ && a₂ && a₃ && a₄ && a₅) a₆ h₁;
      points = and_right a b h₂;
      planes = and_right (a && b) c h₃;
      primordial = and_right (a && b && c) p h₄;
      corners = alike_eq (map vertex_of (keep is_corner t.elements)) (up_to (length t.points)) (and_right (a && b && c && p) k h₅);
      elements = and_right (a && b && c && p && k) e h₆;
      apart = and_right (a && b && c && p && k && e) d h;
    }

pub good_sound : (L : Limits) (t : Table) → Good L t → sound L t ≡ true
unfolding sound room_fits corners_in_order
good_sound L t g =
    and_true _ _ (and_true _ _ (and_true _ _ (and_true _ _ (and_true _ _ (and_true _ _
    (and_true _ _ (and_true _ _ (and_true _ _ (and_true _ _ (and_true _ _ g.low g.high) g.vertex_room) g.element_room) g.plane_room) g.boundary_room)
    g.points) g.planes) g.primordial)
    (subst (λ (l : List ℕ). alike eqb (map vertex_of (keep is_corner t.elements)) l ≡ true) g.corners (eq_alike (map vertex_of (keep is_corner t.elements)))))
    g.elements) g.apart

-- ---- the tests of one element

pub all_below_lem : (n : ℕ) (b : List ℕ) → all (λ x. ltb x n) b ≡ true → Below n b
all_below_lem n [] h = tt
all_below_lem n (x ∷ xs) h = (le_test (suc x) n (and_left (ltb x n) (all (λ y. ltb y n) xs) h), all_below_lem n xs (and_right (ltb x n) (all (λ y. ltb y n) xs) h))

pub ranks_same : (t l : Table) (r : ℕ) (b : List ℕ) → Extends t l → Below (element_count t) b → all (λ x. eqb (suc (rank l x)) r) b ≡ all (λ x. eqb (suc (rank t x)) r) b
ranks_same t l r [] x h = refl
ranks_same t l r (y ∷ ys) x h = ap₂ (λ (k : ℕ) (p : Bool). eqb (suc k) r && p) (rank_same t l y x h.0) (ranks_same t l r ys x h.1)

-- what the third line says of a boundary
pub record Bounded (t : Table) (e r : ℕ) (b : List ℕ) : Type 0 where
  pub rising : rises b ≡ true
  pub under : all (λ x. ltb x e) b ≡ true
  pub ranks : all (λ x. eqb (suc (rank t x)) r) b ≡ true
  pub enough : ltb r (length b) ≡ true
  pub tight : closed t r b ≡ true

pub bounded : (t : Table) (e r : ℕ) (b : List ℕ) → sound_boundary t e r b ≡ true → Bounded t e r b
unfolding sound_boundary
bounded t e r b h =
    let p = rises b in
    let q = all (λ x. ltb x e) b in
    let s = all (λ x. eqb (suc (rank t x)) r) b in
    let n = ltb r (length b) in
    let h₃ : (p && q && s && n) ≡ true = and_left (p && q && s && n) (closed t r b) h in
    let h₂ : (p && q && s) ≡ true = and_left (p && q && s) n h₃ in
    let h₁ : (p && q) ≡ true = and_left (p && q) s h₂ in
    record {
      rising = and_left p q h₁;
      under = and_right p q h₁;
      ranks = and_right (p && q) s h₂;
      enough = and_right (p && q && s) n h₃;
      tight = and_right (p && q && s && n) (closed t r b) h;
    }

pub bounded_sound : (t : Table) (e r : ℕ) (b : List ℕ) → Bounded t e r b → sound_boundary t e r b ≡ true
unfolding sound_boundary
bounded_sound t e r b g = and_true _ _ (and_true _ _ (and_true _ _ (and_true _ _ g.rising g.under) g.ranks) g.enough) g.tight

pub bounded_later : (t l : Table) (e r : ℕ) (b : List ℕ) → Extends t l → e ≤ element_count t → Bounded t e r b → Bounded l e r b
bounded_later t l e r b x n g =
    let h : Below (element_count t) b = below_more b n (all_below_lem e b g.under) in
    record {
      rising = g.rising;
      under = g.under;
      ranks = ranks_same t l r b x h ∙ g.ranks;
      enough = g.enough;
      tight = closed_same t l r b x h ∙ g.tight;
    }

pub names_later : (t l : Table) (h : Option ℕ) → Extends t l → names_plane t h ≡ true → names_plane l h ≡ true
names_later t l None x k = k
names_later t l (Some n) x k = test_le (suc n) (length l.planes) (le_trans (le_test (suc n) (length t.planes) k) (begins_length t.planes l.planes x.planes))

pub facet_later : (t l : Table) (r : ℕ) (h : Option ℕ) (m : Bool) → Extends t l → sound_facet t r h m ≡ true → sound_facet l r h m ≡ true
unfolding sound_facet
facet_later t l r h m x k =
    subst (λ (d : ℕ). (if eqb (suc r) d then names_plane l h else (names_none h && not m)) ≡ true) (sym x.dimension) (go (eqb (suc r) t.dimension) k)
  where
    go : (b : Bool) → (if b then names_plane t h else (names_none h && not m)) ≡ true → (if b then names_plane l h else (names_none h && not m)) ≡ true
    go true g = names_later t l h x g
    go false g = g

-- a polytope's four tests
pub record Whole (t : Table) (e r : ℕ) (b : List ℕ) (h : Option ℕ) (m : Bool) : Type 0 where
  pub some_rank : leb 1 r ≡ true
  pub low_rank : leb r t.dimension ≡ true
  pub bound : Bounded t e r b
  pub facet : sound_facet t r h m ≡ true

pub whole : (t : Table) (e r : ℕ) (b : List ℕ) (h : Option ℕ) (m : Bool) → sound_element t e (polytope r b h m) ≡ true → Whole t e r b h m
whole t e r b h m k =
    let p = leb 1 r in
    let q = leb r t.dimension in
    let s = sound_boundary t e r b in
    let k₂ : (p && q && s) ≡ true = and_left (p && q && s) (sound_facet t r h m) k in
    let k₁ : (p && q) ≡ true = and_left (p && q) s k₂ in
    record {
      some_rank = and_left p q k₁;
      low_rank = and_right p q k₁;
      bound = bounded t e r b (and_right (p && q) s k₂);
      facet = and_right (p && q && s) (sound_facet t r h m) k;
    }

pub whole_sound : (t : Table) (e r : ℕ) (b : List ℕ) (h : Option ℕ) (m : Bool) → Whole t e r b h m → sound_element t e (polytope r b h m) ≡ true
whole_sound t e r b h m w = and_true _ _ (and_true _ _ (and_true _ _ w.some_rank w.low_rank) (bounded_sound t e r b w.bound)) w.facet

pub whole_later : (t l : Table) (e r : ℕ) (b : List ℕ) (h : Option ℕ) (m : Bool) → Extends t l → e ≤ element_count t → Whole t e r b h m → Whole l e r b h m
whole_later t l e r b h m x n w = record {
  some_rank = w.some_rank;
  low_rank = subst (λ (d : ℕ). leb r d ≡ true) (sym x.dimension) w.low_rank;
  bound = bounded_later t l e r b x n w.bound;
  facet = facet_later t l r h m x w.facet;
}

pub sound_later : (t l : Table) (e : ℕ) (y : Element) → Extends t l → e ≤ element_count t → sound_element t e y ≡ true → sound_element l e y ≡ true
sound_later t l e (corner v) x n h = refl
sound_later t l e (polytope r b k m) x n h = whole_sound l e r b k m (whole_later t l e r b k m x n (whole t e r b k m h))

pub elements_later : (t l : Table) → Extends t l → all_from 0 (sound_element t) t.elements ≡ true → all_from 0 (sound_element l) t.elements ≡ true
elements_later t l x h =
    all_from_step (sound_element t) (sound_element l) 0 (element_count t) t.elements (subst (λ (k : ℕ). k ≤ element_count t) (sym (zero-add (element_count t))) (le_refl (element_count t)))
    (λ k y n g. sound_later t l k y x (le_of_lt n) g) h

-- ---- an element in use

pub sound_at : (L : Limits) (t : Table) (e : ℕ) → Good L t → e < element_count t → sound_element t e (element t e) ≡ true
sound_at L t e g l =
    subst (λ (i : ℕ). sound_element t i (element t e) ≡ true) (zero-add e) (all_at (sound_element t) 0 t.elements e (corner 0) l g.elements)

pub whole_at : (L : Limits) (t : Table) (e r : ℕ) (b : List ℕ) (h : Option ℕ) (m : Bool) → Good L t → e < element_count t → element t e ≡ polytope r b h m → Whole t e r b h m
whole_at L t e r b h m g l q = whole t e r b h m (subst (λ (y : Element). sound_element t e y ≡ true) q (sound_at L t e g l))

-- a polytope in use has a rank above 0
pub above_zero : (L : Limits) (t : Table) (e r : ℕ) (b : List ℕ) (h : Option ℕ) (m : Bool) → Good L t → e < element_count t → element t e ≡ polytope r b h m → rank t e ≡ 0 → ⊥
above_zero L t e r b h m g l q z =
    not-suc-le-zero (subst (λ (n : ℕ). 1 ≤ n) (sym (ap rank_of q) ∙ z) (le_test 1 r (whole_at L t e r b h m g l q).some_rank))
