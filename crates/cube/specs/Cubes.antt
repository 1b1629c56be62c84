-- For contracts over the elements of the primordial cube, their boundaries and their floats. Definitions only.
use Rattle.std.specs.Prelude.{ℕ, ◌-◌, ◌*◌, ◌^◌, ◌<◌, ◌≤◌, ◌≡◌, List, [], ◌∷◌, ◌++◌, eqb, length, Float, if◌then◌else◌}
use Rattle.std.specs.Float.Ieee.{neg}
use Rattle.rules.specs.Lists.{pad}
use Rattle.rules.specs.Floats.{plus_zero, one}
use Rattle.rules.specs.Cube.{digits, twos}
use Rattle.cube.specs.declared.Faces.{Faces}

-- ---- elements

-- how many there are
pub record CubeSize (d r : ℕ) : Type 0 where
  pub power : r ≡ 3 ^ d
  pub few : r < 82

-- e is one of them
pub record InCube (d e : ℕ) : Type 0 where
  pub axes : d ≤ 4
  pub used : e < 3 ^ d

-- its rank
pub record CubeRank (d e r : ℕ) : Type 0 where
  pub rank : r ≡ twos (digits d e)
  pub low : r < 5

-- ---- boundaries

-- some numbers stand in the front, and zeros after them
pub record FacesSoFar (f : Faces) (xs : List ℕ) : Type 0 where
  pub size : f.n ≡ length xs
  pub list : f.list ≡ pad 0 33 xs

-- across an axis with digit 2, the face at 0 and the face at 1
abbrev pub across : ℕ → ℕ → ℕ → List ℕ
across k e step = if eqb k 2 then (e - 2 * step) ∷ (e - step) ∷ [] else []

-- there is place for two more, and an element that spans the axis has a number of two steps or more
pub record AcrossReady (f : Faces) (k e step : ℕ) : Type 0 where
  pub place : f.n < 31
  pub near : step < 82
  pub spanned : k ≡ 2 → 2 * step ≤ e

pub record FacesMore (f : Faces) (k e step : ℕ) (r : Faces) : Type 0 where
  pub of : (xs : List ℕ) → FacesSoFar f xs → FacesSoFar r (xs ++ across k e step)

-- ---- floats

-- a coordinate, and a component of a normal, by its digit
abbrev pub coordinate_at : Float → ℕ → Float
coordinate_at radius k = if eqb k 0 then neg radius else radius

abbrev pub component_at : ℕ → Float
component_at k = if eqb k 2 then plus_zero else if eqb k 0 then neg one else one
