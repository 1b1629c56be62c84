-- What is kept of the elements that were judged, so that the next row can be: four words for each. Definitions only.
use Rattle.std.specs.Prelude.{ℕ, ◌+◌, ◌*◌, ◌<◌, ◌≤◌, Bool, ◌≡◌, List, eqb, length, get_or, set, drop, Option}
use Rattle.rules.specs.Held.{elements_of}
use Rattle.rules.specs.Limits.{desk}
use Rattle.rules.specs.Lists.{alike, find, pad, rows}
use Rattle.rules.specs.Table.{Table}
use Rattle.rules.specs.Files.{element_in}
use Rattle.space.specs.Chains.{Indexed, stored_row}
use Rattle.space.specs.Closed.{first_end, second_end}
use Rattle.space.specs.Numbers.{row_width}
use Rattle.soundness.specs.Tests.{NewTested}
use Rattle.files.specs.Entries.{row_at, RowReady}
use Rattle.files.specs.Judged.{SaysFitting}
use Rattle.files.specs.Laid.{Whole}
use Rattle.files.specs.Runs.{Run}
use Rattle.files.specs.declared.layout.Laid.{Laid}

-- how many words are kept of an element: rank, first and second boundary number, and how far behind the first record its own stands
abbrev pub kept_width : ℕ
kept_width = 4

-- where the record of element x stands
abbrev pub place_of : Laid → List ℕ → ℕ → ℕ
place_of l kept x = l.elements_at + get_or kept (x * kept_width + 3) 0

-- its row
abbrev pub kept_row : List ℕ → Laid → List ℕ → ℕ → List ℕ
kept_row bs l kept x = pad 0 row_width (row_at (place_of l kept x) bs)

-- element n is kept too
unfoldable pub kept_with : List ℕ → ℕ → List ℕ → ℕ → List ℕ
kept_with kept n row place =
    let at = n * kept_width in set (set (set (set kept at (get_or row 0 0)) (at + 1) (get_or row 4 0)) (at + 2) (get_or row 5 0)) (at + 3) place

-- so much is kept of the first n elements of a table
pub record KeptTo (bs : List ℕ) (l : Laid) (t : Table) (n : ℕ) (kept : List ℕ) : Type 0 where
  pub long : length kept ≡ desk.elements * kept_width
  pub ranks : (x : ℕ) → x < n → get_or kept (x * kept_width) 0 ≡ get_or (elements_of desk t) (x * row_width) 0
  pub first : (x : ℕ) → x < n → get_or kept (x * kept_width + 1) 0 ≡ first_end (elements_of desk t) x
  pub second : (x : ℕ) → x < n → get_or kept (x * kept_width + 2) 0 ≡ second_end (elements_of desk t) x
  pub stands : (x : ℕ) → x < n → Run element_in bs (place_of l kept x) (drop x t.elements) (length bs)

-- ---- what the functions ask for and what they answer

-- the row of element x can be read again, and its first boundary number is kept
pub record RowKept (bs : List ℕ) (l : Laid) (kept : List ℕ) (x : ℕ) (row : List ℕ) : Type 0 where
  pub long : length row ≡ row_width
  pub room : x < desk.elements
  pub ready : RowReady bs (place_of l kept x)
  pub first : get_or kept (x * kept_width + 1) 0 ≡ get_or (kept_row bs l kept x) 4 0

-- the first n elements are kept, and their rows are in the index
pub record SearchKept (bs : List ℕ) (l : Laid) (kept : List ℕ) (n : ℕ) (row index : List ℕ) : Type 0 where
  pub says : SaysFitting bs l
  pub few : n ≤ l.elements
  pub long : length row ≡ row_width
  pub keeps : (t : Table) → Whole bs l t → KeptTo bs l t n kept
  pub earlier : (t : Table) → Whole bs l t → Indexed (elements_of desk t) n index

-- the lowest of them that has a row
pub record LastKept (bs : List ℕ) (l : Laid) (n : ℕ) (row : List ℕ) (reply : Option ℕ) : Type 0 where
  pub found : (t : Table) → Whole bs l t → reply ≡ find (alike eqb row) (rows n row_width (elements_of desk t))

-- and the row is that of element n
pub record RowReadyToKeep (bs : List ℕ) (l : Laid) (kept : List ℕ) (n : ℕ) (row index : List ℕ) : Type 0 where
  pub search : SearchKept bs l kept n row index
  pub more : n < l.elements
  pub own : (t : Table) → Whole bs l t → row ≡ stored_row (elements_of desk t) n

-- whether it is new
pub record NewJudged (bs : List ℕ) (l : Laid) (n : ℕ) (index : List ℕ) (reply : Bool) (index' : List ℕ) : Type 0 where
  pub told : (t : Table) → Whole bs l t → NewTested (elements_of desk t) n index reply index'

pub record KeepReady (n place : ℕ) : Type 0 where
  pub room : n < desk.elements
  pub low : place < 65536
