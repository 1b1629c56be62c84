-- The triangles of a piece over the words of the lent memory, and what putting them asks. Definitions only.
use Rattle.std.specs.Prelude.{ℕ, ◌+◌, ◌*◌, ◌-◌, ◌≤◌, ◌<◌, ◌≡◌, true, not, List, ◌++◌, map, length, get_or, take, drop, replicate, Float}
use Rattle.std.specs.Float.Ieee.{is_nan}
use Rattle.rules.specs.Limits.{desk}
use Rattle.rules.specs.Lists.{all, joined, up_from}
use Rattle.rules.specs.Bytes.{bytes_of}
use Rattle.rules.specs.Print.{Triangle, triangle_bytes, total_of}
use Rattle.rules.specs.Held.{AllOf}
use Rattle.space.specs.Numbers.{point_slice}
use Rattle.walk.specs.Boundaries.{row_boundary, BoundaryFits}
use Rattle.walk.specs.Walks.{words_in_order, FaceFits}

-- ---- triangles

-- the three coordinates in the row of vertex v
abbrev pub point_in : List Float → ℕ → List Float
point_in ps v = drop (v * desk.dimensions) (take (v * desk.dimensions + 3) ps)

-- of the numbers of a walk, two for each edge: the first corner, and edge k
abbrev pub triangle_at : List ℕ → ℕ → Triangle
triangle_at ns k = (get_or ns 0 0, get_or ns (2 * k) 0, get_or ns (2 * k + 1) 0)

-- a walk of n edges
unfoldable pub fan_in : List ℕ → ℕ → List Triangle
fan_in ns n = map (triangle_at ns) (up_from 1 (n - 2))

abbrev pub walk_in : List ℕ → ℕ → List ℕ
walk_in es f = words_in_order es (row_boundary es f)

abbrev pub edges_in : List ℕ → ℕ → ℕ
edges_in es f = length (row_boundary es f)

-- the bytes of a face's triangles
unfoldable pub face_in : List Float → List ℕ → ℕ → List ℕ
face_in ps es f = joined (map (triangle_bytes (point_in ps)) (fan_in (walk_in es f) (edges_in es f)))

-- ---- a piece

unfoldable pub count_in : List ℕ → ℕ → ℕ
count_in es root = total_of (map (λ f. edges_in es f - 2) (row_boundary es root))

unfoldable pub file_in : List Float → List ℕ → ℕ → List ℕ
file_in ps es root = replicate 80 0 ++ (bytes_of 4 (count_in es root) ++ joined (map (face_in ps es) (row_boundary es root)))

-- ---- what the functions ask for

-- the slice has its length, and no NaN is in it
pub record PointsReady (ps : List Float) : Type 0 where
  pub long : length ps ≡ point_slice
  pub numbers : all (λ x. not (is_nan x)) ps ≡ true

pub record CornerReady (ps : List Float) (v : ℕ) (room : List ℕ) (at : ℕ) : Type 0 where
  pub points : PointsReady ps
  pub low : v < desk.vertices
  pub fits : at + 12 ≤ length room

pub record TriangleReady (ps : List Float) (a b c : ℕ) (room : List ℕ) (at : ℕ) : Type 0 where
  pub points : PointsReady ps
  pub first : a < desk.vertices
  pub second : b < desk.vertices
  pub third : c < desk.vertices
  pub fits : at + 50 ≤ length room

-- a walk of n edges names vertices of the room
pub record WalkLow (ns : List ℕ) (n : ℕ) : Type 0 where
  pub three : 3 ≤ n
  pub few : n ≤ desk.boundary
  pub low : (k : ℕ) → k < 2 * n → get_or ns k 0 < desk.vertices

pub record FanReady (ps : List Float) (ns : List ℕ) (n : ℕ) (room : List ℕ) (at : ℕ) : Type 0 where
  pub points : PointsReady ps
  pub walk : WalkLow ns n
  pub fits : at + 50 * (n - 2) ≤ length room

-- a face that can be walked
pub record FaceWalks (es : List ℕ) (f : ℕ) : Type 0 where
  pub face : FaceFits es f
  pub walk : WalkLow (walk_in es f) (edges_in es f)

pub record FaceReady (ps : List Float) (es : List ℕ) (f : ℕ) (room : List ℕ) (at : ℕ) : Type 0 where
  pub points : PointsReady ps
  pub walks : FaceWalks es f
  pub fits : at + 50 * (edges_in es f - 2) ≤ length room

-- and all faces of a piece
pub record FacesReady (es : List ℕ) (root : ℕ) : Type 0 where
  pub bounds : BoundaryFits es root
  pub faces : AllOf (FaceWalks es) (row_boundary es root)

pub record SolidReady (ps : List Float) (es : List ℕ) (root : ℕ) : Type 0 where
  pub points : PointsReady ps
  pub faces : FacesReady es root

pub record PieceReady (ps : List Float) (es : List ℕ) (root : ℕ) (room : List ℕ) (at : ℕ) : Type 0 where
  pub solid : SolidReady ps es root
  pub fits : at + 50 * count_in es root ≤ length room
