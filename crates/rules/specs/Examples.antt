-- Examples beside the marked ones, for what those do not tell: each line of soundness broken once, each refusal met once, and choices that a wrong rule would make otherwise.
-- Each row is what the rules give and what is right; proofs/Answers.antt has the theorems. Definitions only.
use Rattle.std.specs.Prelude.{ℕ, true, false, List, [], ◌∷◌, ◌++◌, map, pos, negsuc, set, take, drop, replicate, Float, Option, Some, None, Ok, Err, Bool}
use Rattle.std.specs.Float.{nan, inf, fin, binary64}
use Rattle.std.specs.Float.Ieee.{neg, of_bits}
use Rattle.rules.specs.Limits.{Limits}
use Rattle.rules.specs.Floats.{plus_zero, one, tolerance, side_of, close_call, edge_test, crossing_point, clamp}
use Rattle.rules.specs.Table.{ElementNumber, Element, corner, polytope, Plane, Table}
use Rattle.rules.specs.Sound.{sound}
use Rattle.rules.specs.Memory.{Memory, encode, sound_memory}
use Rattle.rules.specs.Cube.{cube}
use Rattle.rules.specs.Replies.{is_sound_reply, cube_reply, sub_elements_reply, with_rank_reply, vertex_set_reply, greatest_common_reply, edges_in_order_reply, primordial_facet_reply}
use Rattle.rules.specs.Marked.{Shown, cut_shown, list_shown, side_shown, verdict, numbers, floats, show_cut, show_list, at_x, slanted, room}
use Rattle.rules.specs.declared.Hyperplane.{Hyperplane}
use Rattle.rules.specs.declared.Side.TheVariants.{Inside, On, Outside}
use Rattle.rules.specs.declared.PolytopeFate.{PolytopeFate}
use Rattle.rules.specs.declared.PolytopeFate.TheVariants.{Remove, Keep}
use Rattle.rules.specs.Refusals.{refusal_number, Reply, reply_number}

-- ---- tables made by hand

abbrev pub room_of : ℕ → ℕ → ℕ → ℕ → ℕ → Limits
room_of d v e h b = record { dimensions = d; vertices = v; elements = e; hyperplanes = h; boundary = b }

abbrev pub made : ℕ → List (List Float) → List Element → List Plane → Table
made d ps es hs = record { dimension = d; points = ps; elements = es; planes = hs }

abbrev pub two : Float
two = fin false 1 (pos 1)

abbrev pub minus_one : Float
minus_one = neg one

abbrev pub plane : Float → Float → Float → Plane
plane a b d = record { normal = a ∷ b ∷ []; distance = d }

-- four corners, four edges between them, and their face: the square with its corners first
abbrev pub points : List (List Float)
points = (minus_one ∷ minus_one ∷ []) ∷ (one ∷ minus_one ∷ []) ∷ (minus_one ∷ one ∷ []) ∷ (one ∷ one ∷ []) ∷ []

abbrev pub corners : List Element
corners = corner 0 ∷ corner 1 ∷ corner 2 ∷ corner 3 ∷ []

abbrev pub edge : ElementNumber → ElementNumber → ℕ → Element
edge a b h = polytope 1 (a ∷ b ∷ []) (Some h) true

abbrev pub edges : List Element
edges = edge 0 1 0 ∷ edge 2 3 1 ∷ edge 0 2 2 ∷ edge 1 3 3 ∷ []

abbrev pub face : List ElementNumber → Element
face b = polytope 2 b None false

abbrev pub planes : List Plane
planes = plane plus_zero minus_one one ∷ plane plus_zero one one ∷ plane minus_one plus_zero one ∷ plane one plus_zero one ∷ []

abbrev pub whole_face : Element
whole_face = face (4 ∷ 5 ∷ 6 ∷ 7 ∷ [])

unfoldable pub square : Table
square = made 2 points (corners ++ edges ++ whole_face ∷ []) planes

-- the room that it just fills, one with a line more, and one in which cuts have place
abbrev pub tight : Limits
tight = room_of 2 4 9 4 4

abbrev pub wider : Limits
wider = room_of 3 5 10 5 5

abbrev pub small : Limits
small = room_of 4 9 20 9 8

abbrev pub big : Limits
big = room_of 4 16 64 8 8

-- the square of radius 1 in the small one
unfoldable pub small_q : Memory
small_q = encode small (cube 2 one)

-- ---- edges that are no ring

-- two triangles, with these faces: each its own, or the two as one
abbrev pub six_points : List (List Float)
six_points = points ++ (plus_zero ∷ two ∷ []) ∷ (two ∷ plus_zero ∷ []) ∷ []

unfoldable pub triangles : List Element → Table
triangles fs = made 2 six_points (corners ++ corner 4 ∷ corner 5 ∷ edge 0 1 0 ∷ edge 0 2 0 ∷ edge 1 2 0 ∷ edge 3 4 0 ∷ edge 3 5 0 ∷ edge 4 5 0 ∷ fs) planes

-- two edges between the same two corners, twice over, and beside a triangle
unfoldable pub doubled : Table
doubled = made 2 points (corners ++ edge 0 1 0 ∷ edge 0 1 1 ∷ edge 2 3 2 ∷ edge 2 3 3 ∷ whole_face ∷ []) planes

unfoldable pub beside_triangle : Table
beside_triangle = made 2 (points ++ (plus_zero ∷ two ∷ []) ∷ [])
    (corners ++ corner 4 ∷ edge 0 1 0 ∷ edge 0 1 1 ∷ edge 2 3 0 ∷ edge 2 4 0 ∷ edge 3 4 0 ∷ face (5 ∷ 6 ∷ 7 ∷ 8 ∷ 9 ∷ []) ∷ []) planes

-- two tetrahedra as one body, each with one corner at x = -1 and three at x = 1: nothing is asked of rank 3
abbrev pub line3 : ElementNumber → ElementNumber → Element
line3 a b = polytope 1 (a ∷ b ∷ []) None false

abbrev pub face3 : ElementNumber → ElementNumber → ElementNumber → Element
face3 a b c = polytope 2 (a ∷ b ∷ c ∷ []) (Some 0) false

abbrev pub three : Float
three = fin false 3 (pos 0)

unfoldable pub tetrahedra : Table
tetrahedra = made 3
    ((minus_one ∷ plus_zero ∷ plus_zero ∷ []) ∷ (one ∷ plus_zero ∷ plus_zero ∷ []) ∷ (one ∷ one ∷ plus_zero ∷ []) ∷ (one ∷ plus_zero ∷ one ∷ [])
    ∷ (minus_one ∷ three ∷ plus_zero ∷ []) ∷ (one ∷ three ∷ plus_zero ∷ []) ∷ (one ∷ three ∷ one ∷ []) ∷ (one ∷ two ∷ one ∷ []) ∷ [])
    (corners ++ corner 4 ∷ corner 5 ∷ corner 6 ∷ corner 7
    ∷ line3 0 1 ∷ line3 0 2 ∷ line3 0 3 ∷ line3 1 2 ∷ line3 1 3 ∷ line3 2 3 ∷ line3 4 5 ∷ line3 4 6 ∷ line3 4 7 ∷ line3 5 6 ∷ line3 5 7 ∷ line3 6 7
    ∷ face3 8 9 11 ∷ face3 8 10 12 ∷ face3 9 10 13 ∷ face3 11 12 13 ∷ face3 14 15 17 ∷ face3 14 16 18 ∷ face3 15 16 19 ∷ face3 17 18 19
    ∷ polytope 3 (20 ∷ 21 ∷ 22 ∷ 23 ∷ 24 ∷ 25 ∷ 26 ∷ 27 ∷ []) None false ∷ [])
    (replicate 6 (record { normal = one ∷ plus_zero ∷ plus_zero ∷ []; distance = one }))

-- ---- soundness: each line of document 01 broken, and nothing else

abbrev pub broken : Table → Shown × Shown
broken t = (verdict (sound wider t), verdict false)

abbrev pub broken_memory : Memory → Shown × Shown
broken_memory m = (verdict (sound_memory wider m), verdict false)

abbrev pub of_elements : List Element → Table
of_elements es = made 2 points es planes

abbrev pub of_points : List (List Float) → Table
of_points ps = made 2 ps (corners ++ edges ++ whole_face ∷ []) planes

abbrev pub of_planes : List Plane → Table
of_planes hs = made 2 points (corners ++ edges ++ whole_face ∷ []) hs

-- the square's memory in the wider room, with one slice of it changed
abbrev pub counts_changed : (List ℕ → List ℕ) → Memory
counts_changed f = let m = encode wider square in record { counts = f m.counts; points = m.points; planes = m.planes; elements = m.elements }

abbrev pub points_changed : (List Float → List Float) → Memory
points_changed f = let m = encode wider square in record { counts = m.counts; points = f m.points; planes = m.planes; elements = m.elements }

abbrev pub planes_changed : (List Float → List Float) → Memory
planes_changed f = let m = encode wider square in record { counts = m.counts; points = m.points; planes = f m.planes; elements = m.elements }

abbrev pub elements_changed : (List ℕ → List ℕ) → Memory
elements_changed f = let m = encode wider square in record { counts = m.counts; points = m.points; planes = m.planes; elements = f m.elements }

unfoldable pub soundness : List (Shown × Shown)
soundness =
    (verdict (sound tight square), verdict true)
    ∷ (verdict (sound_memory wider (encode wider square)), verdict true)
    -- the dimension is at least 1, and no count passes its room
    ∷ broken (made 0 [] [] [])
    ∷ (verdict (sound (room_of 1 4 9 4 4) square), verdict false)
    ∷ (verdict (sound (room_of 2 3 9 4 4) square), verdict false)
    ∷ (verdict (sound (room_of 2 4 8 4 4) square), verdict false)
    ∷ (verdict (sound (room_of 2 4 9 3 4) square), verdict false)
    ∷ (verdict (sound (room_of 2 4 9 4 3) square), verdict false)
    -- a coordinate just beyond 65,536; a point with a coordinate too many
    ∷ broken (of_points ((of_bits binary64 0xc0f0000000000001 ∷ minus_one ∷ []) ∷ drop 1 points))
    ∷ broken (of_points ((minus_one ∷ minus_one ∷ plus_zero ∷ []) ∷ drop 1 points))
    -- squares that add up to 0, and to 1 + 2^-18; a component of 1 + 2^-22; a distance just beyond 262,144; a component too many; fewer than P hyperplanes
    ∷ broken (of_planes (plane plus_zero plus_zero one ∷ drop 1 planes))
    ∷ broken (of_planes (plane (fin false 1 (negsuc 8)) one one ∷ drop 1 planes))
    ∷ broken (of_planes (plane plus_zero (of_bits binary64 0x3ff0000040000000) one ∷ drop 1 planes))
    ∷ broken (of_planes (plane plus_zero one (of_bits binary64 0x4110000000000001) ∷ drop 1 planes))
    ∷ broken (of_planes (record { normal = plus_zero ∷ one ∷ plus_zero ∷ []; distance = one } ∷ drop 1 planes))
    ∷ broken (made 2 points corners (drop 1 planes))
    -- vertices out of order; a vertex that no element names
    ∷ broken (of_elements (corner 1 ∷ corner 0 ∷ drop 2 corners ++ edges ++ whole_face ∷ []))
    ∷ broken (of_points (points ++ (plus_zero ∷ plus_zero ∷ []) ∷ []))
    -- a face in one dimension
    ∷ broken (made 1 ((plus_zero ∷ []) ∷ (one ∷ []) ∷ (two ∷ []) ∷ []) (corner 0 ∷ corner 1 ∷ corner 2
    ∷ polytope 1 (0 ∷ 1 ∷ []) None false ∷ polytope 1 (0 ∷ 2 ∷ []) None false ∷ polytope 1 (1 ∷ 2 ∷ []) None false ∷ face (3 ∷ 4 ∷ 5 ∷ []) ∷ []) [])
    -- boundary numbers that do not rise; a boundary number above its own; a rank not one less; a count not above the rank
    ∷ broken (of_elements (corners ++ edges ++ face (5 ∷ 4 ∷ 6 ∷ 7 ∷ []) ∷ []))
    ∷ broken (of_elements (corners ++ face (5 ∷ 6 ∷ 7 ∷ 8 ∷ []) ∷ edges))
    ∷ broken (of_elements (corners ++ edges ++ edge 3 4 0 ∷ []))
    ∷ broken (of_elements (corners ++ edge 0 1 0 ∷ edge 0 1 1 ∷ face (4 ∷ 5 ∷ []) ∷ []))
    -- an edge with three ends; a face that is not closed, once with its lowest corner inside the path and once at its end, from where the walk takes each edge once
    ∷ broken (of_elements (corners ++ polytope 1 (0 ∷ 1 ∷ 2 ∷ []) (Some 0) true ∷ []))
    ∷ broken (of_elements (corners ++ edges ++ face (4 ∷ 5 ∷ 6 ∷ []) ∷ []))
    ∷ broken (of_elements (corners ++ edges ++ face (4 ∷ 5 ∷ 7 ∷ []) ∷ []))
    -- two triangles are two faces, and no face together; nor are two edges between two corners beside others
    ∷ (verdict (sound small (triangles (face (6 ∷ 7 ∷ 8 ∷ []) ∷ face (9 ∷ 10 ∷ 11 ∷ []) ∷ []))), verdict true)
    ∷ (verdict (sound small (triangles (face (6 ∷ 7 ∷ 8 ∷ 9 ∷ 10 ∷ 11 ∷ []) ∷ []))), verdict false)
    ∷ (verdict (sound small doubled), verdict false)
    ∷ (verdict (sound small beside_triangle), verdict false)
    -- a hyperplane not in use; none where one is due; one where none is; a mark where none is
    ∷ broken (of_elements (corners ++ edge 0 1 4 ∷ []))
    ∷ broken (of_elements (corners ++ polytope 1 (0 ∷ 1 ∷ []) None false ∷ []))
    ∷ broken (of_elements (corners ++ edges ++ polytope 2 (4 ∷ 5 ∷ 6 ∷ 7 ∷ []) (Some 0) false ∷ []))
    ∷ broken (of_elements (corners ++ edges ++ polytope 2 (4 ∷ 5 ∷ 6 ∷ 7 ∷ []) None true ∷ []))
    -- two elements equal in all fields
    ∷ broken (of_elements (corners ++ edges ++ edge 0 1 0 ∷ []))
    -- memory: each slice of another size
    ∷ broken_memory (counts_changed (λ ns. ns ++ 0 ∷ []))
    ∷ broken_memory (points_changed (drop 1))
    ∷ broken_memory (planes_changed (drop 1))
    ∷ broken_memory (elements_changed (λ ns. ns ++ 0 ∷ []))
    -- -0 past the dimension, in an unused point, past a normal; a word in an unused row and behind a boundary
    ∷ broken_memory (points_changed (λ xs. set xs 2 (neg plus_zero)))
    ∷ broken_memory (points_changed (λ xs. set xs 12 (neg plus_zero)))
    ∷ broken_memory (planes_changed (λ xs. set xs 2 (neg plus_zero)))
    ∷ broken_memory (elements_changed (λ ns. set ns 81 1))
    ∷ broken_memory (elements_changed (λ ns. set ns 80 1))
    -- a corner's mark, hyperplane and count; a mark of 2; a count above the room
    ∷ broken_memory (elements_changed (λ ns. set ns 1 1))
    ∷ broken_memory (elements_changed (λ ns. set ns 2 0))
    ∷ broken_memory (elements_changed (λ ns. set ns 3 2))
    ∷ broken_memory (elements_changed (λ ns. set ns 37 2))
    ∷ broken_memory (elements_changed (λ ns. set ns 75 6))
    ∷ []

-- ---- sound tables that no session reaches

-- a triangle whose lowest corner has its lower neighbour on the second edge; no edge is primordial
unfoldable pub triangle : Table
triangle = made 2 (drop 1 points) (corner 0 ∷ corner 1 ∷ corner 2
    ∷ polytope 1 (0 ∷ 2 ∷ []) (Some 0) false ∷ polytope 1 (0 ∷ 1 ∷ []) (Some 1) false ∷ polytope 1 (1 ∷ 2 ∷ []) (Some 2) false ∷ face (3 ∷ 4 ∷ 5 ∷ []) ∷ []) planes

-- on a line, at 0, 0.9 T, -1, 1 and 1.5 T, an edge from -1 to 1; x = 0 is hyperplane 0
unfoldable pub line : Table
line = made 1 ((plus_zero ∷ []) ∷ (of_bits binary64 0x3eaccccccccccccd ∷ []) ∷ (minus_one ∷ []) ∷ (one ∷ []) ∷ (fin false 3 (negsuc 20) ∷ []) ∷ [])
    (corner 0 ∷ corner 1 ∷ corner 2 ∷ corner 3 ∷ corner 4 ∷ polytope 1 (2 ∷ 3 ∷ []) None false ∷ []) (record { normal = one ∷ []; distance = plus_zero } ∷ [])

abbrev pub on_line : ℕ → Hyperplane
on_line bits = at_x (of_bits binary64 bits)

-- a bent ring of five edges, two of which lie on y = 0 and one of which crosses it, from the corner (2, y)
unfoldable pub bent : Float → Table
bent y = made 2 ((plus_zero ∷ plus_zero ∷ []) ∷ (one ∷ plus_zero ∷ []) ∷ (two ∷ plus_zero ∷ []) ∷ (two ∷ y ∷ []) ∷ (one ∷ minus_one ∷ []) ∷ [])
    (corners ++ corner 4 ∷ edge 0 1 0 ∷ edge 1 2 0 ∷ edge 2 3 0 ∷ edge 3 4 0 ∷ edge 0 4 0 ∷ face (5 ∷ 6 ∷ 7 ∷ 8 ∷ 9 ∷ []) ∷ []) planes

-- a ring of five edges, four of which cross x = 0
unfoldable pub zigzag : Table
zigzag = made 2 ((minus_one ∷ plus_zero ∷ []) ∷ (one ∷ one ∷ []) ∷ (minus_one ∷ two ∷ []) ∷ (one ∷ fin false 3 (pos 0) ∷ []) ∷ (minus_one ∷ fin false 1 (pos 2) ∷ []) ∷ [])
    (corners ++ corner 4 ∷ edge 0 1 0 ∷ edge 1 2 0 ∷ edge 2 3 0 ∷ edge 3 4 0 ∷ edge 0 4 0 ∷ face (5 ∷ 6 ∷ 7 ∷ 8 ∷ 9 ∷ []) ∷ []) planes

-- a ring of four edges, whose corner 3 matches the point at 0 on edge 0-1 and lies inside of the plane through it
unfoldable pub pinched : Table
pinched = made 2 ((minus_one ∷ minus_one ∷ []) ∷ (one ∷ one ∷ []) ∷ (one ∷ minus_one ∷ []) ∷ (fin true 15 (negsuc 23) ∷ neg tolerance ∷ []) ∷ [])
    (corners ++ edge 0 1 0 ∷ edge 1 2 1 ∷ edge 2 3 2 ∷ edge 0 3 3 ∷ whole_face ∷ []) planes

abbrev pub flat_y : Hyperplane
flat_y = record { normal = plus_zero ∷ one ∷ plus_zero ∷ plus_zero ∷ []; distance = plus_zero }

abbrev pub show_crossing : Option Float → Shown
show_crossing None = floats []
show_crossing (Some t) = floats ((t ∷ []) ∷ [])

abbrev pub show_facet : Reply Bool → Shown
show_facet (Err r) = list_shown (refusal_number r) []
show_facet (Ok b) = verdict b

-- ---- choices

abbrev pub cut_small : Hyperplane → PolytopeFate → PolytopeFate → ElementNumber → Shown
cut_small h i o root = show_cut small h i o root small_q

unfoldable pub choices : List (Shown × Shown)
choices =
    -- -T is on, the next float below it inside; what is not a number is outside
    (side_shown (side_of (neg tolerance)), side_shown On)
    ∷ (side_shown (side_of (of_bits binary64 0xbeb0000000000001)), side_shown Inside)
    ∷ (side_shown (side_of nan), side_shown Outside)
    -- from -1 to 2 the plane is met a third of the way, which is no float; two ends on one side are not crossed
    ∷ (show_crossing (edge_test minus_one two).crossing, floats ((of_bits binary64 0x3fd5555555555555 ∷ []) ∷ []))
    ∷ (show_crossing (edge_test minus_one minus_one).crossing, floats [])
    -- a third of the way from 1 to 2, with the lower-numbered end first
    ∷ (floats (crossing_point (of_bits binary64 0x3fd5555555555555) (one ∷ []) (two ∷ []) ∷ []), floats ((of_bits binary64 0x3ff5555555555555 ∷ []) ∷ []))
    ∷ (floats ((clamp one two nan ∷ clamp one two (inf false) ∷ clamp two one plus_zero ∷ []) ∷ []), floats ((one ∷ two ∷ one ∷ []) ∷ []))
    -- the square's planes: outward, the highest axis first
    ∷ (floats (map (λ (h : Plane). h.normal) (cube 2 one).planes), floats ((plus_zero ∷ minus_one ∷ []) ∷ (plus_zero ∷ one ∷ []) ∷ (minus_one ∷ plus_zero ∷ []) ∷ (one ∷ plus_zero ∷ []) ∷ []))
    -- M2, M3, M4 and M5, in the small room: the theorem of M1 to M11 is another crate's, and these tell most of what goes wrong in a cut
    ∷ (cut_small (at_x plus_zero) Remove Remove 8, cut_shown 0 (None ∷ None ∷ Some 11 ∷ []) false (12 ∷ 6 ∷ 5 ∷ []))
    ∷ (cut_small (at_x one) Keep Remove 8, cut_shown 0 (Some 8 ∷ None ∷ Some 7 ∷ []) false (9 ∷ 4 ∷ 5 ∷ []))
    ∷ (cut_small (at_x (inf false)) Remove Remove 8, cut_shown 0 (Some 8 ∷ None ∷ None ∷ []) false (9 ∷ 4 ∷ 4 ∷ []))
    ∷ (cut_small (at_x plus_zero) Remove Keep 0, cut_shown 0 (Some 0 ∷ None ∷ None ∷ []) false (9 ∷ 4 ∷ 5 ∷ []))
    -- the corner (1, 1) lies at T: the products are added, and the distance is subtracted after them; before them it would lie beyond
    ∷ (cut_small (slanted 0x3ff6666566666666) Keep Keep 4, cut_shown 0 [] false (9 ∷ 4 ∷ 5 ∷ []))
    -- 0.8 T is nearer to vertex 1 than to vertex 0, which is the lowest match
    ∷ (show_cut small (on_line 0x3ea999999999999a) Keep Keep 5 (encode small line), cut_shown 0 (Some 6 ∷ Some 7 ∷ Some 0 ∷ []) false (8 ∷ 5 ∷ 1 ∷ []))
    -- 0.9 T is hyperplane 0, and the corner at 1.5 T is on the divider as given
    ∷ (show_cut small (on_line 0x3eaccccccccccccd) Keep Keep 4 (encode small line), cut_shown 0 [] false (6 ∷ 5 ∷ 1 ∷ []))
    -- two flush edges are a flush face, and the edge crossed on the way keeps its entries
    ∷ (show_cut small flat_y Keep Keep 10 (encode small (bent one)), cut_shown 0 [] false (14 ∷ 6 ∷ 5 ∷ []))
    -- questions: the root and all below it; a rank that nothing has; vertices
    ∷ (show_list (sub_elements_reply small small_q 7 room), list_shown 0 (1 ∷ 4 ∷ 7 ∷ []))
    ∷ (show_list (with_rank_reply small small_q 1 8 room), list_shown 0 (2 ∷ 5 ∷ 6 ∷ 7 ∷ []))
    ∷ (show_list (with_rank_reply small small_q 200 8 room), list_shown 0 [])
    ∷ (show_list (vertex_set_reply small small_q 5 room), list_shown 0 (2 ∷ 3 ∷ []))
    ∷ (show_list (greatest_common_reply small small_q (7 ∷ 7 ∷ []) room), list_shown 0 (7 ∷ []))
    -- first to the lower neighbour, by edges; a face that no walk goes round is none
    ∷ (show_list (edges_in_order_reply small (encode small triangle) 6 room), list_shown 0 (0 ∷ 1 ∷ 1 ∷ 2 ∷ 2 ∷ 0 ∷ []))
    ∷ (show_list (edges_in_order_reply small (encode small doubled) 8 room), list_shown 3 [])
    -- a primordial facet, none, and a rank that is not full
    ∷ (show_facet (primordial_facet_reply small small_q 8), verdict true)
    ∷ (show_facet (primordial_facet_reply small (encode small triangle) 6), verdict false)
    ∷ (show_facet (primordial_facet_reply small small_q 7), list_shown 6 [])
    ∷ []

-- ---- close calls (document 02, order 2)

unfoldable pub close_calls : List (Shown × Shown)
close_calls =
    -- 16 T on both sides, and the next floats beyond; T on both sides, and the next floats; what is not a number
    (verdict (close_call (of_bits binary64 0x3ef0000000000000)), verdict true)
    ∷ (verdict (close_call (of_bits binary64 0xbef0000000000000)), verdict true)
    ∷ (verdict (close_call (of_bits binary64 0x3ef0000000000001)), verdict false)
    ∷ (verdict (close_call (of_bits binary64 0xbef0000000000001)), verdict false)
    ∷ (verdict (close_call tolerance), verdict false)
    ∷ (verdict (close_call (neg tolerance)), verdict false)
    ∷ (verdict (close_call (of_bits binary64 0x3eb0000000000001)), verdict true)
    ∷ (verdict (close_call (of_bits binary64 0xbeb0000000000001)), verdict true)
    ∷ (verdict (close_call nan), verdict false)
    -- either end of an edge, crossed or not
    ∷ (verdict (edge_test minus_one two).warning, verdict false)
    ∷ (verdict (edge_test (of_bits binary64 0x3ef0000000000000) minus_one).warning, verdict true)
    ∷ (verdict (edge_test two (of_bits binary64 0x3ef0000000000000)).warning, verdict true)
    -- 8 T from the corners at x = -1, of which the last edge asked has none: the square, an edge of it, a corner that is near and one that is not
    ∷ (cut_small (on_line 0xbfeffff000000000) Keep Keep 8, cut_shown 0 (Some 16 ∷ Some 17 ∷ Some 15 ∷ []) true (18 ∷ 6 ∷ 5 ∷ []))
    ∷ (cut_small (on_line 0xbfeffff000000000) Keep Keep 2, cut_shown 0 (Some 10 ∷ Some 11 ∷ Some 9 ∷ []) true (12 ∷ 5 ∷ 5 ∷ []))
    ∷ (cut_small (on_line 0xbfeffff000000000) Remove Keep 0, cut_shown 0 (Some 0 ∷ None ∷ None ∷ []) true (9 ∷ 4 ∷ 5 ∷ []))
    ∷ (cut_small (on_line 0xbfeffff000000000) Keep Remove 1, cut_shown 0 (None ∷ Some 1 ∷ None ∷ []) false (9 ∷ 4 ∷ 5 ∷ []))
    -- 8 T beyond the corners at x = 1: the square is its old entry
    ∷ (cut_small (on_line 0x3ff0000800000000) Keep Keep 8, cut_shown 0 (Some 8 ∷ None ∷ None ∷ []) true (9 ∷ 4 ∷ 5 ∷ []))
    -- a flush face, a corner of which is near
    ∷ (show_cut small flat_y Keep Keep 10 (encode small (bent (fin false 1 (negsuc 16)))), cut_shown 0 [] true (14 ∷ 6 ∷ 5 ∷ []))
    ∷ []

-- ---- refusals, each met once, and their order

-- a segment in a small room of one dimension
abbrev pub in_room : Limits → Table → Float → Shown
in_room L t d = show_cut L (record { normal = one ∷ []; distance = d }) Keep Keep 2 (encode L t)

-- a face in a small room of two, by the normal (0.6, 0.8)
abbrev pub in_plane : Limits → Table → Float → Shown
in_plane L t d = show_cut L (record { normal = take 2 (slanted 0).normal; distance = d }) Keep Keep 8 (encode L t)

-- the normal (1, y), and distance 0
abbrev pub flat : Float → Hyperplane
flat y = record { normal = one ∷ y ∷ plus_zero ∷ plus_zero ∷ []; distance = plus_zero }

unfoldable pub refusals : List (Shown × Shown)
refusals =
    -- 3, 4 and 5 before the rules, in this order; 5 also with an infinite distance
    (show_cut small (record { normal = []; distance = nan }) Keep Keep 99 (counts_changed (λ ns. ns)), cut_shown 3 [] false (9 ∷ 4 ∷ 4 ∷ []))
    ∷ (cut_small (record { normal = []; distance = nan }) Keep Keep 9, cut_shown 4 [] false (9 ∷ 4 ∷ 4 ∷ []))
    ∷ (cut_small (record { normal = plus_zero ∷ plus_zero ∷ plus_zero ∷ plus_zero ∷ []; distance = inf false }) Keep Keep 8, cut_shown 5 [] false (9 ∷ 4 ∷ 4 ∷ []))
    ∷ (cut_small (record { normal = one ∷ plus_zero ∷ plus_zero ∷ neg plus_zero ∷ []; distance = plus_zero }) Keep Keep 8, cut_shown 5 [] false (9 ∷ 4 ∷ 4 ∷ []))
    ∷ (cut_small (at_x (of_bits binary64 0x4110000000000001)) Keep Keep 8, cut_shown 5 [] false (9 ∷ 4 ∷ 4 ∷ []))
    -- squares that add up to 1 + 2^-18, and to 1 + 2^-20
    ∷ (cut_small (flat (fin false 1 (negsuc 8))) Keep Keep 0, cut_shown 5 [] false (9 ∷ 4 ∷ 4 ∷ []))
    ∷ (cut_small (flat (fin false 1 (negsuc 9))) Keep Keep 0, cut_shown 0 (Some 0 ∷ None ∷ None ∷ []) false (9 ∷ 4 ∷ 5 ∷ []))
    -- no room: 10 for the hyperplane, then 8 for the vertex, then 9 for its element; a refusal leaves the counts
    ∷ (in_room (room_of 1 2 3 0 2) (cube 1 one) plus_zero, cut_shown 10 [] false (3 ∷ 2 ∷ 0 ∷ []))
    ∷ (in_room (room_of 1 2 3 1 2) (cube 1 one) plus_zero, cut_shown 8 [] false (3 ∷ 2 ∷ 0 ∷ []))
    ∷ (in_room (room_of 1 3 3 1 2) (cube 1 one) plus_zero, cut_shown 9 [] false (3 ∷ 2 ∷ 0 ∷ []))
    -- a corner cut off a square leaves five edges, in a room for four; edges that are no ring are 7, and 11 where there are too many of them
    ∷ (in_plane (room_of 2 9 20 9 4) square one, cut_shown 11 [] false (9 ∷ 4 ∷ 4 ∷ []))
    ∷ (in_plane (room_of 2 9 20 9 5) pinched plus_zero, cut_shown 7 [] false (9 ∷ 4 ∷ 4 ∷ []))
    ∷ (in_plane (room_of 2 9 20 9 4) pinched plus_zero, cut_shown 11 [] false (9 ∷ 4 ∷ 4 ∷ []))
    -- a new edge with four ends
    ∷ (show_cut small (at_x plus_zero) Remove Remove 10 (encode small zigzag), cut_shown 7 [] false (11 ∷ 5 ∷ 4 ∷ []))
    -- a new face of two triangles; each tetrahedron's own is taken
    ∷ (show_cut big (at_x plus_zero) Remove Remove 28 (encode big tetrahedra), cut_shown 7 [] false (29 ∷ 8 ∷ 6 ∷ []))
    -- a cube: 1, then 2, then 3
    ∷ (
      numbers (reply_number (cube_reply small 0 nan (encode tight square)).0 ∷ reply_number (cube_reply small 5 one small_q).0 ∷ reply_number (cube_reply small 2 nan (encode tight square)).0
          ∷ reply_number (cube_reply small 2 (of_bits binary64 0x40f0000000000001) small_q).0 ∷ reply_number (cube_reply small 2 one (encode tight square)).0 ∷ reply_number (cube_reply tight 2 one (encode tight square)).0 ∷ []),
      numbers (1 ∷ 1 ∷ 2 ∷ 2 ∷ 3 ∷ 0 ∷ []),
    )
    ∷ (numbers (reply_number (is_sound_reply small small_q) ∷ reply_number (is_sound_reply tight small_q) ∷ []), numbers (0 ∷ 3 ∷ []))
    -- 4 before 6, 6 before 12; a room too short is 12
    ∷ (show_list (greatest_common_reply small small_q (8 ∷ 2 ∷ 9 ∷ []) []), list_shown 4 [])
    ∷ (show_list (greatest_common_reply small small_q (8 ∷ 2 ∷ []) []), list_shown 6 [])
    ∷ (show_list (greatest_common_reply small small_q [] room), list_shown 6 [])
    ∷ (show_list (edges_in_order_reply small small_q 7 []), list_shown 6 [])
    ∷ (show_list (sub_elements_reply small small_q 8 room), list_shown 12 [])
    ∷ []
