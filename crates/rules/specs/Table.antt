-- Document 01, "The table": dimension, vertices, elements and hyperplanes, with no room left over. Definitions only.
use Rattle.std.specs.Prelude.{ℕ, zero, suc, ◌*◌, Bool, true, false, ◌&&◌, List, [], eqb, length, get_or, Float, Option, Some, None}
use Rattle.std.specs.Bool.{beq}
use Rattle.rules.specs.Lists.{alike}

-- three numberings, of three separate lists, each from 0
abbrev pub ElementNumber : Type 0
ElementNumber = ℕ

abbrev pub VertexNumber : Type 0
VertexNumber = ℕ

abbrev pub HyperplaneNumber : Type 0
HyperplaneNumber = ℕ

-- an element is a vertex (its vertex number), or a polytope: rank, boundary, perhaps a hyperplane, and a primordial mark
pub data Element : Type 0 where
  corner : VertexNumber → Element
  polytope : ℕ → List ElementNumber → Option HyperplaneNumber → Bool → Element

-- a hyperplane as the table has it: a component for each dimension (a lent one has a component for each axis of the room)
pub record Plane : Type 0 where
  pub normal : List Float
  pub distance : Float

pub record Table : Type 0 where
  pub dimension : ℕ
  pub points : List (List Float)
  pub elements : List Element
  pub planes : List Plane

-- ---- an element's fields

-- a vertex has rank 0
abbrev pub rank_of : Element → ℕ
rank_of (corner v) = 0
rank_of (polytope r b h m) = r

abbrev pub boundary_of : Element → List ElementNumber
boundary_of (corner v) = []
boundary_of (polytope r b h m) = b

abbrev pub plane_of : Element → Option HyperplaneNumber
plane_of (corner v) = None
plane_of (polytope r b h m) = h

abbrev pub is_primordial : Element → Bool
is_primordial (corner v) = false
is_primordial (polytope r b h m) = m

-- asked of corners only
abbrev pub vertex_of : Element → VertexNumber
vertex_of (corner v) = v
vertex_of (polytope r b h m) = 0

abbrev pub is_corner : Element → Bool
is_corner (corner v) = true
is_corner (polytope r b h m) = false

-- ---- equality in all fields

abbrev pub same_plane : Option HyperplaneNumber → Option HyperplaneNumber → Bool
same_plane None None = true
same_plane None (Some k) = false
same_plane (Some h) None = false
same_plane (Some h) (Some k) = eqb h k

unfoldable pub same_element : Element → Element → Bool
same_element (corner v) (corner w) = eqb v w
same_element (corner v) (polytope r b h m) = false
same_element (polytope r b h m) (corner w) = false
same_element (polytope r b h m) (polytope q c k n) = eqb r q && same_plane h k && beq m n && alike eqb b c

-- ---- entries by number

abbrev pub element : Table → ElementNumber → Element
element t e = get_or t.elements e (corner 0)

abbrev pub rank : Table → ElementNumber → ℕ
rank t e = rank_of (element t e)

abbrev pub boundary : Table → ElementNumber → List ElementNumber
boundary t e = boundary_of (element t e)

abbrev pub element_count : Table → ℕ
element_count t = length t.elements

-- the point of a vertex element; asked of corners only
abbrev pub point_of : List (List Float) → Element → List Float
point_of ps (corner v) = get_or ps v []
point_of ps (polytope r b h m) = []

abbrev pub point_at : Table → ElementNumber → List Float
point_at t e = point_of t.points (element t e)

-- P: 2 x dimensions, or 0 in one dimension
abbrev pub primordials : ℕ → ℕ
primordials zero = 0
primordials (suc zero) = 0
primordials (suc (suc d)) = 2 * suc (suc d)
