-- What a search over rows answers, and what appending a row does. Definitions only.
use Rattle.std.specs.Prelude.{ℕ, ◌+◌, ◌*◌, ◌≡◌, Bool, true, false, List, eqb, ltb, get_or, set, Float, Option, Some, None, Ok, Err}
use Rattle.std.proofs.lemmas.List.Edits.{sets}
use Rattle.rules.specs.Limits.{desk}
use Rattle.rules.specs.Lists.{alike, find, rows}
use Rattle.rules.specs.Table.{ElementNumber, Element, Table}
use Rattle.rules.specs.Held.{Holds, element_words, fitting, Came}
use Rattle.rules.specs.Cut.{add_element}
use Rattle.space.specs.Numbers.{row_width}
use Rattle.space.specs.Chains.{Indexed}
use Rattle.rules.specs.Refusals.{Reply}
use Rattle.rules.specs.declared.ElementId.{ElementId}
use Rattle.rules.specs.declared.Refusal.TheVariants.{ElementsFull}

-- the number that a search for a row gives
abbrev pub element_number : Option ElementId → Option ElementNumber
element_number None = None
element_number (Some e) = Some e.0

abbrev pub placed_at : ℕ → Reply ElementId
placed_at i = Ok (record { 0 = i })

-- what adding a row gives, of any words
pub record RowOutcome : Type 0 where
  pub reply : Reply ElementId
  pub counts : List ℕ
  pub elements : List ℕ

-- by the search for an equal row and the test for room: that row, the row behind the last, or 9
abbrev pub row_by : List ℕ → List ℕ → List ℕ → Option ℕ → Bool → RowOutcome
row_by cs es row (Some i) room = record { reply = placed_at i; counts = cs; elements = es }
row_by cs es row None true = record { reply = placed_at (get_or cs 1 0); counts = set cs 1 (get_or cs 1 0 + 1); elements = sets es (get_or cs 1 0 * row_width) row }
row_by cs es row None false = record { reply = Err ElementsFull; counts = cs; elements = es }

unfoldable pub row_outcome : List ℕ → List ℕ → List ℕ → RowOutcome
row_outcome cs es row = row_by cs es row (find (alike eqb row) (rows (get_or cs 1 0) row_width es)) (ltb (get_or cs 1 0) desk.elements)

-- `of`: whatever table the memory holds, and whatever element the row is written of, the element's step; and `words`, whatever the memory holds
pub record RowAdded (cs es row : List ℕ) (r : Reply ElementId) (cs' es' : List ℕ) : Type 0 where
  pub words : record { reply = r; counts = cs'; elements = es' } ≡ row_outcome cs es row
  pub of : (ps hs : List Float) (t : Table) (e : Element) → Holds desk cs ps hs es t → row ≡ element_words desk e → fitting desk e ≡ true
      → Came placed_at Err (Holds desk cs' ps hs es') t (add_element desk e t) r

-- and the rows in use are indexed then
pub record RowIndexed (cs es row : List ℕ) (r : Reply ElementId) (cs' es' ix' : List ℕ) : Type 0 where
  pub added : RowAdded cs es row r cs' es'
  pub index : Indexed es' (get_or cs' 1 0) ix'

-- the row stored behind n others, its count, and its chain
pub record RowAppended (cs es row : List ℕ) (n : ℕ) (cs' es' ix' : List ℕ) : Type 0 where
  pub count : cs' ≡ set cs 1 (n + 1)
  pub stored : es' ≡ sets es (n * row_width) row
  pub index : Indexed es' (n + 1) ix'
