-- The lent memory: counts, points, planes and elements, each a list of numbers or floats whose unused room is zero bits. Definitions only.
use Rattle.std.specs.Prelude.{ℕ, ◌+◌, ◌*◌, Bool, ◌&&◌, cond, List, [], ◌∷◌, ◌++◌, map, eqb, length, get_or, take, drop, Float, if◌then◌else◌, Option, Some, None}
use Rattle.rules.specs.Limits.{Limits, no_plane}
use Rattle.rules.specs.Lists.{pad, joined, rows, alike}
use Rattle.rules.specs.Floats.{plus_zero, same_bits}
use Rattle.rules.specs.Table.{HyperplaneNumber, Element, corner, polytope, Plane, Table, element_count}
use Rattle.rules.specs.Sound.{sound}

-- the four slices, in the order in which they are lent
pub record Memory : Type 0 where
  pub counts : List ℕ
  pub points : List Float
  pub planes : List Float
  pub elements : List ℕ

-- ---- written

abbrev pub plane_number : Option HyperplaneNumber → ℕ
plane_number None = no_plane
plane_number (Some h) = h

-- rank, primordial mark, hyperplane or FFFF, count, boundary numbers; a corner is rank 0, mark 0, FFFF, count 1 and its vertex number
unfoldable pub element_row : Element → List ℕ
element_row (corner v) = 0 ∷ 0 ∷ no_plane ∷ 1 ∷ v ∷ []
element_row (polytope r b h m) = r ∷ cond m 1 0 ∷ plane_number h ∷ length b ∷ b

-- the components, zero past the dimension, and the distance last
unfoldable pub plane_row : Limits → Plane → List Float
plane_row L h = pad plus_zero L.dimensions h.normal ++ h.distance ∷ []

-- how many numbers an element's row has
abbrev pub element_width : Limits → ℕ
element_width L = 4 + L.boundary

-- how many floats a plane's row has
abbrev pub plane_width : Limits → ℕ
plane_width L = 1 + L.dimensions

-- the counts are dimension, elements, vertices, hyperplanes; each list's rows stand at its front
unfoldable pub encode : Limits → Table → Memory
encode L t = record {
  counts = t.dimension ∷ element_count t ∷ length t.points ∷ length t.planes ∷ [];
  points = pad plus_zero (L.vertices * L.dimensions) (joined (map (pad plus_zero L.dimensions) t.points));
  planes = pad plus_zero (L.hyperplanes * plane_width L) (joined (map (plane_row L) t.planes));
  elements = pad 0 (L.elements * element_width L) (joined (map (λ e. pad 0 (element_width L) (element_row e)) t.elements));
}

-- ---- read

abbrev pub plane_named : ℕ → Option HyperplaneNumber
plane_named n = if eqb n no_plane then None else Some n

unfoldable pub read_element : List ℕ → Element
read_element row =
    if eqb (get_or row 0 0) 0 then corner (get_or row 4 0)
    else polytope (get_or row 0 0) (take (get_or row 3 0) (drop 4 row)) (plane_named (get_or row 2 0)) (eqb (get_or row 1 0) 1)

unfoldable pub read_plane : Limits → ℕ → List Float → Plane
read_plane L d row = record { normal = take d row; distance = get_or row L.dimensions plus_zero }

-- a count above the room reads rows that are not there, and they come out short
unfoldable pub decode : Limits → Memory → Table
decode L m =
    let d = get_or m.counts 0 0 in record {
      dimension = d;
      points = map (take d) (rows (get_or m.counts 2 0) L.dimensions m.points);
      elements = map read_element (rows (get_or m.counts 1 0) (element_width L) m.elements);
      planes = map (read_plane L d) (rows (get_or m.counts 3 0) (plane_width L) m.planes);
    }

-- ---- sound

-- each slice has the length that the room says
unfoldable pub right_size : Limits → Memory → Bool
right_size L m =
    eqb (length m.counts) 4 && eqb (length m.points) (L.vertices * L.dimensions)
    && eqb (length m.planes) (L.hyperplanes * plane_width L) && eqb (length m.elements) (L.elements * element_width L)

unfoldable pub same_memory : Memory → Memory → Bool
same_memory m n =
    alike eqb m.counts n.counts && alike same_bits m.points n.points
    && alike same_bits m.planes n.planes && alike eqb m.elements n.elements

-- it is what is written of a sound table, so its unused room is zero bits, and a count above the room, which reads back shorter, is not sound
unfoldable pub sound_memory : Limits → Memory → Bool
sound_memory L m = right_size L m && same_memory (encode L (decode L m)) m && sound L (decode L m)
