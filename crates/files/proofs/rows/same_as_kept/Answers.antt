-- Rows that differ in the first number of a boundary are not equal; otherwise the record is read again, and its row compared.
use Prim.Native.Nat.{ℕ, ◌+◌}
use mathlib.Core.Path.{ap, ap₂, ◌∙◌}
use native.Mathlib.Nat.{le_of_eq}
use lib.Dec.{eqb}
use lib.ListN.{length}
use lib.Seq.{take_all}
use Rattle.rules.specs.Lists.{alike, pad}
use Rattle.files.specs.Entries.{row_at}
use Rattle.files.proofs.KeptRows.{read_long}
use Rattle.files.proofs.rows.same_as_kept.Goals as goal

pub returns : goal.returns
returns c = let read = c.row_at-old.ensures ∙ ap (λ (k : ℕ). pad 0 36 (row_at (c.args.laid.elements_at + k) c.args.bytes.now)) c.wide.ensures.value in
    c.same_row.ensures
    ∙ ap₂ (alike eqb) (take_all 36 c.args.row.now (le_of_eq c.requires.long)) (take_all 36 _ (le_of_eq (ap length read ∙ read_long c.requires.ready)) ∙ read)
