-- What each answer of this crate says, in the words of the rules. Definitions only.
use Rattle.std.specs.Prelude.{ℕ, ◌+◌, ◌*◌, Bool, true, false, ◌&&◌, ◌≡◌, List, map, get_or, take, drop, ℤ, Float, if◌then◌else◌, Option, Some, None}
use Rattle.std.specs.Float.{nan, inf, fin}
use Rattle.std.specs.Float.Ieee.{is_nan}
use Rattle.rules.specs.Lists.{all, rows}
use Rattle.rules.specs.Floats.{plus_zero, same_bits, within, farthest_plane, signed_distance, side_of, unit, clamp}
use Rattle.rules.specs.Table.{VertexNumber, HyperplaneNumber, Plane}
use Rattle.rules.specs.Replies.{divider_of}
use Rattle.rules.specs.Promises.{Between}
use Rattle.rules.specs.declared.Hyperplane.{Hyperplane}
use Rattle.rules.specs.declared.Side.{Side}
use Rattle.hypermath.specs.Axes.{axes}
use Rattle.hypermath.specs.declared.DistanceKind.{DistanceKind}
use Rattle.hypermath.specs.declared.DistanceKind.TheVariants.{Unfit, Finite, PlusInfinity, MinusInfinity}
use Rattle.rules.specs.declared.HyperplaneId.{HyperplaneId}
use Rattle.rules.specs.declared.VertexId.{VertexId}

-- the signed distance of a lent point from a lent hyperplane, in a space of d dimensions
abbrev pub distance_to : ℕ → Hyperplane → List Float → Float
distance_to d h p = signed_distance (take d h.normal) h.distance (take d p)

-- the sides of two signed distances
pub record SidesOf (sa : Float) (a : Side) (sb : Float) (b : Side) : Type 0 where
  pub first : a ≡ side_of sa
  pub second : b ≡ side_of sb

-- a normal as it is lent: unit over the dimension, and zero bits past it
abbrev pub unit_normal : ℕ → List Float → Bool
unit_normal d normal = unit (take d normal) && all (same_bits plus_zero) (drop d normal)

-- a distance that is not a number or lies beyond 262,144 is unfit, and the infinities are told apart
unfoldable pub distance_kind : Float → DistanceKind
distance_kind nan = Unfit
distance_kind (inf false) = PlusInfinity
distance_kind (inf true) = MinusInfinity
distance_kind (fin s m e) = if within farthest_plane (fin s m e) then Finite else Unfit

-- the number that a search of the rules gives
abbrev pub vertex_number : Option VertexId → Option VertexNumber
vertex_number None = None
vertex_number (Some v) = Some v.0

abbrev pub hyperplane_number : Option HyperplaneId → Option HyperplaneNumber
hyperplane_number None = None
hyperplane_number (Some h) = Some h.0

-- the points of n rows, as a table of d dimensions has them
abbrev pub points_in : ℕ → ℕ → List Float → List (List Float)
points_in d n points = map (take d) (rows n axes points)

-- a row of planes: the components, then the distance
abbrev pub hyperplane_of : List Float → Hyperplane
hyperplane_of row = record { normal = take axes row; distance = get_or row axes plus_zero }

-- the k-th row, as it is lent
abbrev pub row_hyperplane : List Float → ℕ → Hyperplane
row_hyperplane planes k = hyperplane_of (take (1 + axes) (drop (k * (1 + axes)) planes))

-- the hyperplanes of n rows, as a table of d dimensions has them
abbrev pub planes_in : ℕ → ℕ → List Float → List Plane
planes_in d n planes = map (λ row. divider_of d (hyperplane_of row)) (rows n (1 + axes) planes)

-- the clamp of the rules; between its ends where they are numbers, and within every bound that both ends keep
pub record Clamped (a b x r : Float) : Type 0 where
  pub is : r ≡ clamp a b x
  pub between : is_nan a ≡ false → is_nan b ≡ false → Between a b r
  pub bounded : (n : ℕ) (e : ℤ) → within (fin false n e) a ≡ true → within (fin false n e) b ≡ true → within (fin false n e) r ≡ true
