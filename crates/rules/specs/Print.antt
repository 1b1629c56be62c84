-- Document 02, order 11: a piece of three dimensions as binary STL, the print file of a resin printer; the whole reply, and what is promised of the file. Definitions only.
use Rattle.std.specs.Prelude.{ℕ, ◌+◌, ◌*◌, ◌-◌, ◌<◌, ◌≡◌, Bool, true, false, ◌&&◌, List, [], ◌∷◌, ◌++◌, map, eqb, length, get_or, replicate, Float, if◌then◌else◌, Some}
use Rattle.std.specs.Float.{nan, inf, fin, binary32}
use Rattle.std.specs.Float.Ieee.{up, down, round, to_bits}
use Rattle.rules.specs.Limits.{Limits}
use Rattle.rules.specs.Lists.{keep, joined, up_from}
use Rattle.rules.specs.Bytes.{number_at, bytes_of}
use Rattle.rules.specs.Table.{ElementNumber, VertexNumber, Table, boundary, element_count}
use Rattle.rules.specs.Sound.{sound}
use Rattle.rules.specs.Memory.{Memory, decode}
use Rattle.rules.specs.Questions.{Asked, no_answer, answer, edges_in_order, primordial_facet}
use Rattle.rules.specs.Replies.{asked, list_size, listed}
use Rattle.rules.specs.Refusals.{Reply}
use Rattle.rules.specs.declared.Refusal.TheVariants.{PrimordialFacet, Rank}

-- ---- coordinates

-- the nearest float of 32 bits, and of two equally near the even one: the library's own rounding
unfoldable pub narrowed : Float → Float
narrowed nan = nan
narrowed (inf s) = inf s
narrowed (fin s m e) = round binary32 s (m * up e) (down e)

-- its 4 bytes, the lowest first; it is asked of no NaN
abbrev pub narrowed_bytes : Float → List ℕ
narrowed_bytes x = bytes_of 4 (to_bits binary32 (narrowed x))

-- ---- triangles

-- three vertex numbers, in the order of their winding
abbrev pub Triangle : Type 0
Triangle = VertexNumber × VertexNumber × VertexNumber

-- an edge of a walk: the way from a vertex to a vertex
abbrev pub Way : Type 0
Way = VertexNumber × VertexNumber

abbrev pub way_at : List Way → ℕ → Way
way_at ps k = get_or ps k (0, 0)

-- the first corner of a walk with each edge that does not meet it, which are all but the first and the last; the winding is the walk's
unfoldable pub fan : List Way → List Triangle
fan ps = map (λ k. ((way_at ps 0).0, (way_at ps k).0, (way_at ps k).1)) (up_from 1 (length ps - 2))

-- a face of a sound table is always walked (Promises, `FaceIsWalked`)
abbrev pub fan_of : Asked (List Way) → List Triangle
fan_of (no_answer n) = []
fan_of (answer ps) = fan ps

unfoldable pub face_triangles : Table → ElementNumber → List Triangle
face_triangles t f = fan_of (edges_in_order t f)

-- of all faces of a piece, which rise
unfoldable pub triangles : Table → ElementNumber → List Triangle
triangles t root = joined (map (face_triangles t) (boundary t root))

-- ---- the file

-- the coordinates of a corner
abbrev pub corner_bytes : List Float → List ℕ
corner_bytes p = joined (map narrowed_bytes p)

-- a normal of zeros, the three corners, attribute 0; `at` gives the point of a vertex
unfoldable pub triangle_bytes : (VertexNumber → List Float) → Triangle → List ℕ
triangle_bytes at c = replicate 12 0 ++ (corner_bytes (at c.0) ++ (corner_bytes (at c.1) ++ (corner_bytes (at c.2) ++ replicate 2 0)))

abbrev pub vertex_at : Table → VertexNumber → List Float
vertex_at t v = get_or t.points v []

-- a header of zeros, how many triangles there are, and the triangles
unfoldable pub print_file : Table → ElementNumber → List ℕ
print_file t root =
    let cs = triangles t root in replicate 80 0 ++ (bytes_of 4 (length cs) ++ joined (map (triangle_bytes (vertex_at t)) cs))

-- ---- the reply

-- 16 where the piece has a primordial facet
abbrev pub unless_facet : Asked Bool → List ℕ → Asked (List ℕ)
unless_facet (no_answer n) file = no_answer n
unless_facet (answer true) file = no_answer PrimordialFacet
unless_facet (answer false) file = answer file

-- 6 unless the table is three-dimensional and the root of full rank
unfoldable pub printed : Table → ElementNumber → Asked (List ℕ)
printed t root = if eqb t.dimension 3 then unless_facet (primordial_facet t root) (print_file t root) else no_answer Rank

-- 3, 4, 6, 16, and 12 last
unfoldable pub print_reply : Limits → Memory → ElementNumber → List ℕ → Reply ℕ × List ℕ
print_reply L m root room = listed (asked L m (root ∷ []) (printed (decode L m) root)) room

-- ---- promises: the file

-- of each face two fewer than it has edges
abbrev pub total_of : List ℕ → ℕ
total_of [] = 0
total_of (n ∷ ns) = n + total_of ns

abbrev pub triangle_count : Table → ElementNumber → ℕ
triangle_count t root = total_of (map (λ f. length (boundary t f) - 2) (boundary t root))

-- 84 bytes and 50 for each triangle, and the file says how many there are
abbrev pub PrintIsSized : Limits → Type 0
PrintIsSized L = (m : Memory) (root : ElementNumber) (room : List ℕ) (n : ℕ) → list_size (print_reply L m root room).0 ≡ Some n
    → (n ≡ 84 + 50 * triangle_count (decode L m) root) × (number_at 4 80 (print_reply L m root room).1 ≡ triangle_count (decode L m) root)

-- ---- promises: the triangles of a face

-- the sides of a triangle, in its winding
abbrev pub sides_of : Triangle → List Way
sides_of c = (c.0, c.1) ∷ (c.1, c.2) ∷ (c.2, c.0) ∷ []

-- how often some ways go from x to y
abbrev pub goes : VertexNumber → VertexNumber → List Way → ℕ
goes x y ps = length (keep (λ (p : Way). eqb p.0 x && eqb p.1 y) ps)

-- The sides of the triangles are the edges of the walk, each as often and in its direction, and spokes, each as often there as back. So within a face nothing is
-- left open. That the faces of a piece close is not said, nor that they wind outward: a sound table need not.
pub record Fanned (ps : List Way) (cs : List Triangle) : Type 0 where
  pub spokes : List Way
  pub sides : (x y : VertexNumber) → goes x y (joined (map sides_of cs)) ≡ goes x y ps + (goes x y spokes + goes y x spokes)

abbrev pub FacesAreFanned : Limits → Type 0
FacesAreFanned L = (t : Table) → sound L t ≡ true → (f : ElementNumber) (ps : List Way) → f < element_count t
    → edges_in_order t f ≡ answer ps → Fanned ps (face_triangles t f)
