-- One record as its bytes have it: the floats or the numbers behind its mark. Definitions only.
use Rattle.std.specs.Prelude.{ℕ, zero, suc, ◌+◌, ◌*◌, ◌≤◌, List, [], ◌∷◌, length}
use Rattle.rules.specs.Limits.{desk}
use Rattle.rules.specs.Lists.{pad}
use Rattle.rules.specs.Floats.{plus_zero}
use Rattle.rules.specs.Bytes.{number_at, float_at, floats_at}
use Rattle.rules.specs.declared.Hyperplane.{Hyperplane}

-- ---- floats

-- a record of so many floats stands within the bytes, and a row has room for its axes
pub record PointReady (bs : List ℕ) (at d : ℕ) : Type 0 where
  pub axes : d ≤ desk.dimensions
  pub within : at + 2 + 8 * d ≤ length bs

pub record PlaneReady (bs : List ℕ) (at d : ℕ) : Type 0 where
  pub axes : d ≤ desk.dimensions
  pub within : at + 2 + (8 * d + 8) ≤ length bs

-- the normal, filled up with zeros, and the distance behind it
abbrev pub plane_at : ℕ → ℕ → List ℕ → Hyperplane
plane_at at d bs = record { normal = pad plus_zero desk.dimensions (floats_at d (at + 2) bs); distance = float_at (at + 2 + 8 * d) bs }

-- ---- an element

-- n numbers of two bytes
abbrev pub numbers_at : ℕ → ℕ → List ℕ → List ℕ
numbers_at zero at bs = []
numbers_at (suc n) at bs = number_at 2 at bs ∷ numbers_at n (2 + at) bs

-- how many numbers its boundary has
abbrev pub count_at : ℕ → List ℕ → ℕ
count_at at bs = number_at 2 (at + 6) bs

-- rank, mark, hyperplane, count, and so many numbers of its boundary
abbrev pub row_front : ℕ → ℕ → List ℕ → List ℕ
row_front n at bs = number_at 1 (at + 2) bs ∷ number_at 1 (at + 3) bs ∷ number_at 2 (at + 4) bs ∷ count_at at bs ∷ numbers_at n (at + 8) bs

abbrev pub row_at : ℕ → List ℕ → List ℕ
row_at at bs = row_front (count_at at bs) at bs

-- it stands within the bytes, and a row has room for its boundary
pub record RowReady (bs : List ℕ) (at : ℕ) : Type 0 where
  pub boundary : count_at at bs ≤ desk.boundary
  pub within : at + 8 + 2 * count_at at bs ≤ length bs
