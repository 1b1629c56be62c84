-- A part is replaced, which is a run of stores.
use native.Mathlib.Omega.{arith}
use Rattle.space.proofs.RowWords.{part_stored}
use Rattle.space.proofs.rows.put_row.Goals as goal

pub returns : goal.returns
returns c = part_stored c.args.elements.now _ c.args.row.now c.args.at _ (omega (arith, c.requires.place, c.requires.row)) (omega (arith, c.requires.row)) c.copy_from_slice.ensures.after
