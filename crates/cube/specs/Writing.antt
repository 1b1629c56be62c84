-- For contracts over the four slices of the primordial cube, as they are written. Definitions only.
use Rattle.std.specs.Prelude.{ℕ, ◌+◌, ◌^◌, ◌≤◌, ◌≡◌, List, map, length, Float}
use Rattle.rules.specs.Limits.{desk}
use Rattle.rules.specs.Lists.{pad, up_to}
use Rattle.rules.specs.Floats.{plus_zero}
use Rattle.rules.specs.Memory.{plane_row, encode}
use Rattle.rules.specs.Cube.{digits, is_vertex, is_facet, chosen, cube_element, cube_point, facet_plane, cube}
use Rattle.rules.specs.Held.{laid, element_words, memory_of}
use Rattle.cube.specs.Cubes.{InCube}

-- ---- the slices of the cube's first n elements

abbrev pub cube_elements : ℕ → ℕ → List ℕ
cube_elements d n = laid 0 18432 (element_words desk) (map (cube_element d) (up_to n))

abbrev pub cube_points : ℕ → Float → ℕ → List Float
cube_points d radius n = laid plus_zero 1024 (pad plus_zero 4) (map (λ e. cube_point radius (digits d e)) (chosen is_vertex d n))

abbrev pub cube_planes : ℕ → Float → ℕ → List Float
cube_planes d radius n = laid plus_zero 320 (plane_row desk) (map (λ e. facet_plane radius (digits d e)) (chosen is_facet d n))

-- ---- what is there before

-- element e comes next, and v and h are how many vertices and hyperplanes come before
pub record RowReady (d e v h : ℕ) : Type 0 where
  pub in_cube : InCube d e
  pub vertices : v ≡ length (chosen is_vertex d e)
  pub hyperplanes : h ≡ length (chosen is_facet d e)

pub record CornerReady (d e : ℕ) (ps : List Float) (v : ℕ) : Type 0 where
  pub in_cube : InCube d e
  pub long : length ps ≡ 1024
  pub count : v ≡ length (chosen is_vertex d e)

pub record FacetReady (d e : ℕ) (hs : List Float) (h : ℕ) : Type 0 where
  pub in_cube : InCube d e
  pub long : length hs ≡ 320
  pub count : h ≡ length (chosen is_facet d e)

-- a slice has its length
pub record PointsRoom (d : ℕ) (ps : List Float) : Type 0 where
  pub axes : d ≤ 4
  pub long : length ps ≡ 1024

pub record PlanesRoom (d : ℕ) (hs : List Float) : Type 0 where
  pub axes : d ≤ 4
  pub long : length hs ≡ 320

pub record ElementsRoom (d : ℕ) (es : List ℕ) : Type 0 where
  pub axes : d ≤ 4
  pub long : length es ≡ 18432

-- and is cleared
pub record PointsReady (d : ℕ) (radius : Float) (ps : List Float) : Type 0 where
  pub room : PointsRoom d ps
  pub clear : ps ≡ cube_points d radius 0

pub record PlanesReady (d : ℕ) (radius : Float) (hs : List Float) : Type 0 where
  pub room : PlanesRoom d hs
  pub clear : hs ≡ cube_planes d radius 0

pub record ElementsReady (d : ℕ) (es : List ℕ) : Type 0 where
  pub room : ElementsRoom d es
  pub clear : es ≡ cube_elements d 0

-- the four slices have their lengths
pub record RoomReady (d : ℕ) (cs : List ℕ) (ps hs : List Float) (es : List ℕ) : Type 0 where
  pub axes : d ≤ 4
  pub counts : length cs ≡ 4
  pub points : length ps ≡ 1024
  pub planes : length hs ≡ 320
  pub elements : length es ≡ 18432

-- ---- what is there after

-- one element more: its point behind the others if it is a corner, and how many there are now
pub record CornerPut (d : ℕ) (radius : Float) (e : ℕ) (ps : List Float) (r : ℕ) (ps' : List Float) : Type 0 where
  pub count : r ≡ length (chosen is_vertex d (e + 1))
  pub points : ps ≡ cube_points d radius e → ps' ≡ cube_points d radius (e + 1)

-- the same of a facet's hyperplane
pub record FacetPut (d : ℕ) (radius : Float) (e : ℕ) (hs : List Float) (r : ℕ) (hs' : List Float) : Type 0 where
  pub count : r ≡ length (chosen is_facet d (e + 1))
  pub planes : hs ≡ cube_planes d radius e → hs' ≡ cube_planes d radius (e + 1)

-- all points are there, and r is how many
pub record PointsPut (d : ℕ) (radius : Float) (r : ℕ) (ps : List Float) : Type 0 where
  pub count : r ≡ length (chosen is_vertex d (3 ^ d))
  pub points : ps ≡ cube_points d radius (3 ^ d)

-- the same of the hyperplanes
pub record PlanesPut (d : ℕ) (radius : Float) (r : ℕ) (hs : List Float) : Type 0 where
  pub count : r ≡ length (chosen is_facet d (3 ^ d))
  pub planes : hs ≡ cube_planes d radius (3 ^ d)

-- the whole memory is the cube's
pub record CubePut (d : ℕ) (radius : Float) (cs : List ℕ) (ps hs : List Float) (es : List ℕ) : Type 0 where
  pub memory : memory_of cs ps hs es ≡ encode desk (cube d radius)
