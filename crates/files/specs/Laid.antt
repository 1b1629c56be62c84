-- What the layout of a file tells: that it is broken, or the table that it says and where its records stand. Definitions only.
use Rattle.std.specs.Prelude.{ℕ, ◌≡◌, List, [], length, Option, Some, None}
use Rattle.rules.specs.Limits.{Limits}
use Rattle.rules.specs.Table.{Table, element_count}
use Rattle.rules.specs.Questions.{no_answer}
use Rattle.rules.specs.Files.{got, layout, table_in, point_in, plane_in, element_in}
use Rattle.files.specs.Runs.{Run}
use Rattle.files.specs.declared.layout.Laid.{Laid}
use Rattle.rules.specs.declared.Refusal.TheVariants.{Layout}

-- how many bytes a header has
abbrev pub header_size : ℕ
header_size = 10

-- the bytes are the layout of a table: its numbers, and where its records stand
pub record Whole (bs : List ℕ) (l : Laid) (t : Table) : Type 0 where
  pub says : layout bs ≡ got t []
  pub dimension : t.dimension ≡ l.dimension
  pub element_counted : element_count t ≡ l.elements
  pub vertex_counted : length t.points ≡ l.vertices
  pub plane_counted : length t.planes ≡ l.hyperplanes
  pub points : Run (point_in l.dimension) bs header_size t.points l.planes_at
  pub planes : Run (plane_in l.dimension) bs l.planes_at t.planes l.elements_at
  pub elements : Run element_in bs l.elements_at t.elements (length bs)

-- what the test of the layout answers
pub data LayoutTold (bs : List ℕ) (reply : Option Laid) : Type 0 where
  breaks : ((L : Limits) → table_in L bs ≡ no_answer Layout) → reply ≡ None → LayoutTold bs reply
  stands : (l : Laid) (t : Table) → Whole bs l t → reply ≡ Some l → LayoutTold bs reply
