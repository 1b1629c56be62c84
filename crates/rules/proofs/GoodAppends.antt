-- A sound table with one entry more is sound, if that entry passes the tests and is new.
use Prim.Native.Nat.{ℕ, zero-le}
use mathlib.Core.Bool.{Bool, true}
use mathlib.Core.List.{List, map, ◌∷◌, [], append-nil, ◌++◌}
use mathlib.Core.Path.{◌≡◌, subst, sym, ap, ◌∙◌, refl}
use native.Mathlib.Nat.{zero-add, le_refl, le_trans}
use lib.Dec.{ltb, leb}
use lib.Ieee.{Float}
use lib.ListN.{length}
use Rattle.rules.specs.Limits.{Limits}
use Rattle.rules.specs.Lists.{find, keep, up_to}
use Rattle.rules.specs.Table.{polytope, Table, element_count, same_element, Element, boundary_of, corner, vertex_of, is_corner, Plane, primordials}
use Rattle.rules.specs.Sound.{sound_element, sound_point, sound_plane}
use Rattle.rules.specs.Cut.{with_element, with_plane}
use Rattle.rules.proofs.Extends.{grown_element, with_vertex, grown_vertex, begins_length, grown_plane}
use Rattle.rules.proofs.Good.{Good, Whole, elements_later, sound_later, whole_sound}
use Rattle.rules.proofs.Growing.{length_snoc, all_snoc, keep_append, all_from_snoc, apart_snoc, map_append, up_from_snoc}
use Rattle.rules.proofs.Laws.{test_le, le_test}
use Rattle.std.specs.Prelude.{Option, None}

pub good_polytope : (L : Limits) (t : Table) (r : ℕ) (b : List ℕ) (h : Option ℕ) (m : Bool) → Good L t → Whole t (element_count t) r b h m
    → ltb (element_count t) L.elements ≡ true → leb (length b) L.boundary ≡ true → find (same_element (polytope r b h m)) t.elements ≡ None
    → Good L (with_element (polytope r b h m) t)
good_polytope L t r b h m g w room short fresh =
    let y : Element = polytope r b h m in
    let u : Table = with_element y t in
    record {
      low = g.low;
      high = g.high;
      vertex_room = g.vertex_room;
      element_room = subst (λ (n : ℕ). leb n L.elements ≡ true) (sym (length_snoc t.elements y)) room;
      plane_room = g.plane_room;
      boundary_room = all_snoc (λ e. leb (length (boundary_of e)) L.boundary) t.elements y g.boundary_room short;
      points = g.points;
      planes = g.planes;
      primordial = g.primordial;
      corners = ap (map vertex_of) (keep_append is_corner t.elements (y ∷ []) ∙ append-nil (keep is_corner t.elements)) ∙ g.corners;
      elements = all_from_snoc (sound_element u) 0 t.elements y (elements_later t u (grown_element y t) g.elements)
          (subst (λ (n : ℕ). sound_element u n y ≡ true) (sym (zero-add (element_count t))) (sound_later t u (element_count t) y (grown_element y t) (le_refl (element_count t)) (whole_sound t (element_count t) r b h m w)));
      apart = apart_snoc same_element 0 t.elements y g.apart fresh;
    }

pub good_vertex : (L : Limits) (t : Table) (p : List Float) → Good L t → sound_point t.dimension p ≡ true
    → ltb (length t.points) L.vertices ≡ true → ltb (element_count t) L.elements ≡ true → find (same_element (corner (length t.points))) t.elements ≡ None
    → Good L (with_vertex p t)
good_vertex L t p g sp roomV roomE fresh =
    let n = length t.points in
    let y : Element = corner n in
    let u : Table = with_vertex p t in
    record {
      low = g.low;
      high = g.high;
      vertex_room = subst (λ (k : ℕ). leb k L.vertices ≡ true) (sym (length_snoc t.points p)) roomV;
      element_room = subst (λ (k : ℕ). leb k L.elements ≡ true) (sym (length_snoc t.elements y)) roomE;
      plane_room = g.plane_room;
      boundary_room = all_snoc (λ e. leb (length (boundary_of e)) L.boundary) t.elements y g.boundary_room (test_le 0 L.boundary zero-le);
      points = all_snoc (sound_point t.dimension) t.points p g.points sp;
      planes = g.planes;
      primordial = g.primordial;
      corners = ap (map vertex_of) (keep_append is_corner t.elements (y ∷ [])) ∙ map_append vertex_of (keep is_corner t.elements) (y ∷ [])
          ∙ ap (λ (l : List ℕ). l ++ n ∷ []) g.corners ∙ ap (λ (k : ℕ). up_to n ++ k ∷ []) (sym (zero-add n)) ∙ sym (up_from_snoc 0 n)
          ∙ ap up_to (sym (length_snoc t.points p));
      elements = all_from_snoc (sound_element u) 0 t.elements y (elements_later t u (grown_vertex p t) g.elements) refl;
      apart = apart_snoc same_element 0 t.elements y g.apart fresh;
    }

pub good_plane : (L : Limits) (t : Table) (h : Plane) → Good L t → sound_plane t.dimension h ≡ true → ltb (length t.planes) L.hyperplanes ≡ true → Good L (with_plane h t)
good_plane L t h g s room =
    let u : Table = with_plane h t in
    record {
      low = g.low;
      high = g.high;
      vertex_room = g.vertex_room;
      element_room = g.element_room;
      plane_room = subst (λ (k : ℕ). leb k L.hyperplanes ≡ true) (sym (length_snoc t.planes h)) room;
      boundary_room = g.boundary_room;
      points = g.points;
      planes = all_snoc (sound_plane t.dimension) t.planes h g.planes s;
      primordial = test_le (primordials t.dimension) (length (t.planes ++ h ∷ []))
          (le_trans (le_test (primordials t.dimension) (length t.planes) g.primordial) (begins_length t.planes (t.planes ++ h ∷ []) (h ∷ [], refl)));
      corners = g.corners;
      elements = elements_later t u (grown_plane h t) g.elements;
      apart = g.apart;
    }
