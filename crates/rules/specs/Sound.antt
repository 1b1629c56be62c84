-- Document 01, "A table is sound when": one test for each of its lines. Definitions only.
-- That unused room is zero bits is said where memory is (Memory): a table here has none.
use Rattle.std.specs.Prelude.{ℕ, zero, suc, Bool, true, false, not, ◌&&◌, List, map, leb, ltb, eqb, length, Float, if◌then◌else◌, Option, Some, None}
use Rattle.rules.specs.Limits.{Limits}
use Rattle.rules.specs.Lists.{all, keep, all_from, alike, distinct, up_to, rises}
use Rattle.rules.specs.Floats.{within, farthest, farthest_plane, unit}
use Rattle.rules.specs.Table.{ElementNumber, HyperplaneNumber, Element, corner, polytope, Plane, Table, boundary_of, vertex_of, is_corner, same_element, rank, element_count, primordials}
use Rattle.rules.specs.Walk.{one_ring}

-- ---- the first line: dimension, room, coordinates, hyperplanes

-- the dimension is 1 to 4 and no count passes its room
unfoldable pub room_fits : Limits → Table → Bool
room_fits L t =
    leb 1 t.dimension && leb t.dimension L.dimensions
    && leb (length t.points) L.vertices && leb (element_count t) L.elements && leb (length t.planes) L.hyperplanes
    && all (λ e. leb (length (boundary_of e)) L.boundary) t.elements

-- a coordinate for each dimension, from -65,536 to 65,536
unfoldable pub sound_point : ℕ → List Float → Bool
sound_point d p = eqb (length p) d && all (within farthest) p

-- a unit normal, and a distance from -262,144 to 262,144
unfoldable pub sound_plane : ℕ → Plane → Bool
sound_plane d h = eqb (length h.normal) d && unit h.normal && within farthest_plane h.distance

-- ---- the second: vertex elements name vertices 0, 1, 2 .. in order, each once

unfoldable pub corners_in_order : Table → Bool
corners_in_order t = alike eqb (map vertex_of (keep is_corner t.elements)) (up_to (length t.points))

-- ---- the third: a polytope's rank and boundary

-- rank 1 has exactly two; in rank 2 the edges make one ring. Test 7 of the cut is the same
abbrev pub closed : Table → ℕ → List ElementNumber → Bool
closed t zero b = true
closed t (suc zero) b = eqb (length b) 2
closed t (suc (suc zero)) b = one_ring t b
closed t (suc (suc (suc r))) b = true

-- the boundary numbers of element e, of rank r, rise strictly, are below its own, have rank one less, and are more than its rank in count
unfoldable pub sound_boundary : Table → ElementNumber → ℕ → List ElementNumber → Bool
sound_boundary t e r b =
    rises b && all (λ x. ltb x e) b && all (λ x. eqb (suc (rank t x)) r) b && ltb r (length b) && closed t r b

-- ---- the fourth: it names a hyperplane in use exactly when rank + 1 is the dimension, and has a primordial mark only then

abbrev pub names_plane : Table → Option HyperplaneNumber → Bool
names_plane t None = false
names_plane t (Some h) = ltb h (length t.planes)

abbrev pub names_none : Option HyperplaneNumber → Bool
names_none None = true
names_none (Some h) = false

unfoldable pub sound_facet : Table → ℕ → Option HyperplaneNumber → Bool → Bool
sound_facet t r h m = if eqb (suc r) t.dimension then names_plane t h else (names_none h && not m)

-- ---- a table

-- a polytope has rank 1 to the dimension
abbrev pub sound_element : Table → ElementNumber → Element → Bool
sound_element t e (corner v) = true
sound_element t e (polytope r b h m) = leb 1 r && leb r t.dimension && sound_boundary t e r b && sound_facet t r h m

-- and no two elements are equal in all fields
unfoldable pub sound : Limits → Table → Bool
sound L t =
    room_fits L t && all (sound_point t.dimension) t.points && all (sound_plane t.dimension) t.planes
    && leb (primordials t.dimension) (length t.planes)
    && corners_in_order t && all_from 0 (sound_element t) t.elements && distinct same_element t.elements
