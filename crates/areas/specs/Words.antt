-- The area of a piece and the sheet, over the words of the lent memory: the rules' own for the table that it holds. Definitions only.
use Rattle.std.specs.Prelude.{◌≡◌, ℕ, ◌+◌, ◌*◌, ◌^◌, ◌<◌, ◌≤◌, Bool, true, not, ◌&&◌, List, [], ◌∷◌, ◌++◌, map, length, ℤ, pos, ◌+ℤ◌, ◌==◌, slice_index, slice_index_or, unsigned_abs, Float, if◌then◌else◌}
use Rattle.std.proofs.lemmas.List.Edits.{sets}
use Rattle.std.specs.Float.{nan}
use Rattle.rules.specs.Limits.{desk}
use Rattle.rules.specs.Lists.{all}
use Rattle.rules.specs.Floats.{within, farthest}
use Rattle.rules.specs.Questions.{Asked, no_answer, answer}
use Rattle.rules.specs.Areas.{most_pieces, on_grid, units, turn, sizes}
use Rattle.space.specs.Numbers.{point_slice, row_width}
use Rattle.walk.specs.Boundaries.{row_boundary}
use Rattle.walk.specs.Walks.{words_in_order, FaceFits}
use Rattle.rules.specs.declared.Refusal.TheVariants.{OffGrid}

-- ---- a vertex

-- its coordinates along axes 0 and 1
abbrev pub first_of : List Float → ℕ → Float
first_of ps v = slice_index_or ps (v * 4) nan

abbrev pub second_of : List Float → ℕ → Float
second_of ps v = slice_index_or ps (v * 4 + 1) nan

abbrev pub corner_on_grid : List Float → ℕ → Bool
corner_on_grid ps v = on_grid (first_of ps v) && on_grid (second_of ps v)

abbrev pub corner_turn : List Float → ℕ → ℕ → ℤ
corner_turn ps a b = turn (units (first_of ps a)) (units (second_of ps a)) (units (first_of ps b)) (units (second_of ps b))

-- ---- a walk, as two vertex numbers for each step

unfoldable pub turns_along : List Float → List ℕ → ℤ
turns_along ps [] = pos 0
turns_along ps (a ∷ []) = pos 0
turns_along ps (a ∷ b ∷ ns) = corner_turn ps a b +ℤ turns_along ps ns

abbrev pub walk_of : List ℕ → ℕ → List ℕ
walk_of es f = words_in_order es (row_boundary es f)

unfoldable pub word_area : List Float → List ℕ → ℕ → ℤ
word_area ps es f = turns_along ps (walk_of es f)

unfoldable pub words_on_grid : List Float → List ℕ → ℕ → Bool
words_on_grid ps es f = all (corner_on_grid ps) (walk_of es f)

unfoldable pub word_sheet : List Float → List ℕ → List ℕ → List ℤ
word_sheet ps es fs = let areas = map (word_area ps es) fs in areas ++ pos (length fs) ∷ pos (sizes areas) ∷ []

-- 25 where a piece is off the grid, and else the sheet
abbrev pub sheet_asked : List Float → List ℕ → List ℕ → Asked (List ℤ)
sheet_asked ps es fs = if not (all (words_on_grid ps es) fs) then no_answer OffGrid else answer (word_sheet ps es fs)

-- the row of element f has rank 2
abbrev pub row_is_face : List ℕ → ℕ → Bool
row_is_face es f = slice_index es (f * row_width) == 2

-- ---- what the functions ask

-- vertex v is within the room, and its coordinates are from -65,536 to 65,536
pub record CornerFits (ps : List Float) (v : ℕ) : Type 0 where
  pub points : length ps ≡ point_slice
  pub room : v < desk.vertices
  pub first : within farthest (first_of ps v) ≡ true
  pub second : within farthest (second_of ps v) ≡ true

-- so are the two of a step
pub record StepFits (ps : List Float) (a b : ℕ) : Type 0 where
  pub from : CornerFits ps a
  pub to : CornerFits ps b

-- so are the vertices of the first n numbers of a list
pub record CornersFit (ps : List Float) (ns : List ℕ) (n : ℕ) : Type 0 where
  pub long : n ≤ length ns
  pub each : (i : ℕ) → i < n → CornerFits ps (slice_index ns i)

-- and of n steps, at most 32
pub record StepsFit (ps : List Float) (ns : List ℕ) (n : ℕ) : Type 0 where
  pub few : n ≤ 32
  pub corners : CornersFit ps ns (2 * n)

-- a face that can be walked, with such vertices
pub record PieceFits (ps : List Float) (es : List ℕ) (f : ℕ) : Type 0 where
  pub face : FaceFits es f
  pub corners : (i : ℕ) → i < length (walk_of es f) → CornerFits ps (slice_index (walk_of es f) i)

-- some pieces that are so, no more than a sheet has
pub record PiecesFit (ps : List Float) (es : List ℕ) (fs : List ℕ) : Type 0 where
  pub few : length fs ≤ most_pieces
  pub each : (i : ℕ) → i < length fs → PieceFits ps es (slice_index fs i)

-- every piece's row is within the room
pub record PiecesUsed (es : List ℕ) (fs : List ℕ) : Type 0 where
  pub elements : length es ≡ desk.elements * row_width
  pub each : (i : ℕ) → i < length fs → slice_index fs i < desk.elements

-- and there is room for their sheet
pub record SheetFits (ps : List Float) (es : List ℕ) (fs : List ℕ) (room : List ℤ) : Type 0 where
  pub pieces : PiecesFit ps es fs
  pub enough : length fs + 2 ≤ length room

-- an area that has a size in 64 bits
pub record Sized (z : ℤ) : Type 0 where
  pub size : unsigned_abs z ≤ 2 ^ 58

-- ---- what was written

-- the areas at the front of the room, and the sum of their sizes
pub record AreasWritten (areas room written : List ℤ) (sum : ℤ) : Type 0 where
  pub front : written ≡ sets room 0 areas
  pub total : sum ≡ pos (sizes areas)
