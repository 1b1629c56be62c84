-- The records of the rows of the lent slices, and what they ask of the rows and of the room. Definitions only.
use Rattle.std.specs.Prelude.{ℕ, ◌+◌, ◌*◌, ◌≤◌, Bool, true, not, ◌&&◌, ◌≡◌, List, ◌∷◌, map, leb, length, get_or, take, drop, Float}
use Rattle.std.specs.Float.Ieee.{is_nan}
use Rattle.rules.specs.Limits.{desk}
use Rattle.rules.specs.Lists.{all, joined, rows}
use Rattle.rules.specs.Floats.{plus_zero}
use Rattle.rules.specs.Bytes.{number_bytes}
use Rattle.rules.specs.Memory.{read_plane}
use Rattle.rules.specs.Files.{point_record, plane_record, row_record}
use Rattle.space.specs.Numbers.{row_width, element_slice}
use Rattle.files.specs.Laid.{header_size}

-- ---- the record of a row

-- a header, of the four counts
unfoldable pub header_saved : List ℕ → List ℕ
header_saved cs = 0x48 ∷ 0x44 ∷ number_bytes 2 cs

unfoldable pub point_saved : ℕ → List Float → List ℕ
point_saved d row = point_record (take d row)

unfoldable pub plane_saved : ℕ → List Float → List ℕ
plane_saved d row = plane_record (read_plane desk d row)

-- of an element's row, as many words as its count says
unfoldable pub row_saved : List ℕ → List ℕ
row_saved row = row_record (take (4 + get_or row 3 0) row)

-- ---- rows that can be written

-- no NaN, whose bits are open
abbrev pub are_numbers : List Float → Bool
are_numbers xs = all (λ x. not (is_nan x)) xs

unfoldable pub point_clear : ℕ → List Float → Bool
point_clear d row = are_numbers (take d row)

unfoldable pub plane_clear : ℕ → List Float → Bool
plane_clear d row = are_numbers (take d row) && not (is_nan (get_or row desk.dimensions plus_zero))

-- a count that the row has room for
unfoldable pub count_fits : List ℕ → Bool
count_fits row = leb (get_or row 3 0) desk.boundary

-- ---- rows one after another

module _ {A : Type 0} where
  abbrev pub row_at : ℕ → ℕ → List A → List A
  row_at w i xs = take w (drop (i * w) xs)

  -- the records of the first n rows
  unfoldable pub saved : (List A → List ℕ) → ℕ → ℕ → List A → List ℕ
  saved f w n xs = joined (map f (rows n w xs))

  -- row i is there and can be written, and there is room for its record
  pub record RowReady (p : List A → Bool) (f : List A → List ℕ) (w i : ℕ) (xs : List A) (room : List ℕ) (at : ℕ) : Type 0 where
    pub stored : i * w + w ≤ length xs
    pub clear : p (row_at w i xs) ≡ true
    pub fits : at + length (f (row_at w i xs)) ≤ length room

  -- and so for the first n rows
  pub record RowsReady (p : List A → Bool) (f : List A → List ℕ) (w n : ℕ) (xs : List A) (room : List ℕ) (at : ℕ) : Type 0 where
    pub stored : n * w ≤ length xs
    pub clear : all p (rows n w xs) ≡ true
    pub fits : at + length (saved f w n xs) ≤ length room

pub record HeaderReady (cs : List ℕ) (room : List ℕ) (at : ℕ) : Type 0 where
  pub counts : length cs ≡ 4
  pub fits : at + header_size ≤ length room

-- ---- the size of a file

-- how many bytes a file has, by the counts and the rows of the elements
unfoldable pub file_size : List ℕ → List ℕ → ℕ
file_size cs es =
    let d = get_or cs 0 0 in
    header_size + get_or cs 2 0 * (2 + 8 * d) + get_or cs 3 0 * (10 + 8 * d) + length (saved row_saved row_width (get_or cs 1 0) es)

-- so many rows of elements are in use, and each count fits its row
pub record RowsUsed (es : List ℕ) (n : ℕ) : Type 0 where
  pub elements : length es ≡ element_slice
  pub room : n ≤ desk.elements
  pub clear : all count_fits (rows n row_width es) ≡ true

-- the counts and the elements of a table in the room
pub record SizeReady (cs es : List ℕ) : Type 0 where
  pub counts : length cs ≡ 4
  pub dimension : get_or cs 0 0 ≤ desk.dimensions
  pub vertices : get_or cs 2 0 ≤ desk.vertices
  pub hyperplanes : get_or cs 3 0 ≤ desk.hyperplanes
  pub elements : RowsUsed es (get_or cs 1 0)
