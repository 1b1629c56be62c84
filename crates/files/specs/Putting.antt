-- The rows of a file's records in the lent slices, and the memory of the table that the file says. Definitions only.
use Rattle.std.specs.Prelude.{ℕ, ◌*◌, ◌≤◌, ◌≡◌, List, [], map, length, Float}
use Rattle.rules.specs.Limits.{desk}
use Rattle.rules.specs.Table.{Table}
use Rattle.rules.specs.Held.{laid, Wide, Fits, Holds}
use Rattle.rules.specs.Files.{Reading, got, layout}
use Rattle.space.specs.Numbers.{point_slice, plane_slice, element_slice}
use Rattle.files.specs.Passed.{Together}
use Rattle.files.specs.Laid.{Whole}
use Rattle.files.specs.declared.layout.Laid.{Laid}

module _ {A B : Type 0} where
  -- n records stand there, their rows have one width, and the slice has place for them
  pub record RecordsReady (f : List ℕ → Reading A) (g : A → List B) (w room : ℕ) (bs : List ℕ) (at n : ℕ) (xs : List B) : Type 0 where
    pub end : ℕ
    pub records : Together f bs at n end
    pub wide : Wide w (map g records.list)
    pub place : n * w ≤ room
    pub long : length xs ≡ room

  -- whatever records stand there, the slice is their rows, filled up with z
  pub record RecordsPut (f : List ℕ → Reading A) (g : A → List B) (z : B) (room : ℕ) (bs : List ℕ) (at n : ℕ) (xs : List B) : Type 0 where
    pub rows : (end : ℕ) (t : Together f bs at n end) → xs ≡ laid z room g t.list

-- the counts of a file fit the room
pub record CountsReady (l : Laid) (cs : List ℕ) : Type 0 where
  pub dimension : l.dimension ≤ desk.dimensions
  pub elements : l.elements ≤ desk.elements
  pub vertices : l.vertices ≤ desk.vertices
  pub hyperplanes : l.hyperplanes ≤ desk.hyperplanes
  pub long : length cs ≡ 4

-- the bytes are the layout of a table that fits, and the four slices have their lengths
pub record PutReady (bs : List ℕ) (l : Laid) (cs : List ℕ) (ps hs : List Float) (es : List ℕ) : Type 0 where
  pub table : Table
  pub whole : Whole bs l table
  pub dimension : table.dimension ≤ desk.dimensions
  pub fits : Fits desk table
  pub counts : length cs ≡ 4
  pub points : length ps ≡ point_slice
  pub planes : length hs ≡ plane_slice
  pub elements : length es ≡ element_slice

-- whatever table the bytes say, the memory holds it
pub record TablePut (bs cs : List ℕ) (ps hs : List Float) (es : List ℕ) : Type 0 where
  pub of : (t : Table) → layout bs ≡ got t [] → Holds desk cs ps hs es t
