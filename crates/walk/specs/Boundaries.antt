-- The boundary of an element, as the lent memory has it. Definitions only.
use Rattle.std.specs.Prelude.{ℕ, ◌+◌, ◌*◌, ◌≤◌, ◌<◌, ◌≡◌, List, length, get_or, take, drop}

-- the numbers that stand after the four words of element e's row, as many as its count says
unfoldable pub row_boundary : List ℕ → ℕ → List ℕ
row_boundary es e = take (get_or es (e * 36 + 3) 0) (drop (e * 36 + 4) es)

-- they are within their row, and are numbers within the room
pub record BoundaryFits (es : List ℕ) (e : ℕ) : Type 0 where
  pub long : length es ≡ 18432
  pub used : e < 512
  pub sized : get_or es (e * 36 + 3) 0 ≤ 32
  pub low : (i : ℕ) → i < get_or es (e * 36 + 3) 0 → get_or es (e * 36 + (4 + i)) 0 < 512
