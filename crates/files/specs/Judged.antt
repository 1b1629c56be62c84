-- What a file's bytes tell of the soundness of the table that they say: a test for each part. Definitions only.
use Rattle.std.specs.Prelude.{ℕ, Bool, true, ◌&&◌, ◌≡◌, List, [], leb, length, get_or}
use Rattle.rules.specs.Limits.{desk}
use Rattle.rules.specs.Lists.{all}
use Rattle.rules.specs.Table.{Element, Plane, Table, boundary_of}
use Rattle.rules.specs.Floats.{plus_zero}
use Rattle.rules.specs.Sound.{sound_point, sound_plane}
use Rattle.rules.specs.Held.{elements_of}
use Rattle.soundness.specs.Words.{counts_fit, rows_in_use, rows_distinct}
use Rattle.files.specs.Laid.{Whole}
use Rattle.files.specs.declared.layout.Laid.{Laid}

-- ---- the parts of the test of a table

-- a row of the room has place for a boundary
abbrev pub width_fits : Element → Bool
width_fits e = leb (length (boundary_of e)) desk.boundary

abbrev pub widths_fit : Table → Bool
widths_fit t = all width_fits t.elements

abbrev pub vertices_sound : Table → Bool
vertices_sound t = all (sound_point t.dimension) t.points

abbrev pub hyperplanes_sound : Table → Bool
hyperplanes_sound t = all (sound_plane t.dimension) t.planes

-- the numbers of a header fit the room
abbrev pub laid_fits : Laid → Bool
laid_fits l = counts_fit desk l.dimension l.elements l.vertices l.hyperplanes

-- the rows that the elements have in the room are sound, and no two are equal
abbrev pub laid_rows : Laid → Table → Bool
laid_rows l t =
    rows_in_use desk l.dimension l.elements l.vertices l.hyperplanes (elements_of desk t) && rows_distinct desk l.elements (elements_of desk t)

-- ---- what is asked for

-- the bytes are the layout of a table
pub record Says (bs : List ℕ) (l : Laid) : Type 0 where
  pub table : Table
  pub whole : Whole bs l table

-- the bytes are the layout of a table that fits the room
pub record SaysFitting (bs : List ℕ) (l : Laid) : Type 0 where
  pub table : Table
  pub whole : Whole bs l table
  pub counts : laid_fits l ≡ true
  pub widths : widths_fit table ≡ true

-- ---- what is told

-- the answer of a test of the table that the bytes say
pub record Judged (bs : List ℕ) (l : Laid) (test : Table → Bool) (reply : Bool) : Type 0 where
  pub told : (t : Table) → Whole bs l t → reply ≡ test t

-- and of one vertex, and of one hyperplane; a hyperplane that is not there has no normal
pub record VertexJudged (bs : List ℕ) (l : Laid) (v : ℕ) (reply : Bool) : Type 0 where
  pub told : (t : Table) → Whole bs l t → reply ≡ sound_point t.dimension (get_or t.points v [])

abbrev pub no_plane_there : Plane
no_plane_there = record { normal = []; distance = plus_zero }

pub record PlaneJudged (bs : List ℕ) (l : Laid) (h : ℕ) (reply : Bool) : Type 0 where
  pub told : (t : Table) → Whole bs l t → reply ≡ sound_plane t.dimension (get_or t.planes h no_plane_there)
