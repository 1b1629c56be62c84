-- 25 of all pieces, 12 by the room, and else the sheet is written.
use Rattle.std.proofs.Common.{sym, refl, ◌∙◌}
use Rattle.areas.proofs.Replied.{off_grid, no_room, sheet_done}
use Rattle.areas.proofs.sheet_of.Goals as goal

pub returns-then-not-are_on_grid : goal.returns-then-not-are_on_grid
returns-then-not-are_on_grid c = off_grid c.args.points.now c.args.elements.now c.args.pieces.now _ (sym c.are_on_grid.ensures ∙ c.if-not-are_on_grid.true)

pub returns-then-areas-n : goal.returns-then-areas-n
returns-then-areas-n c = no_room c.args.points.now c.args.elements.now c.args.pieces.now _ (sym c.are_on_grid.ensures ∙ c.if-not-are_on_grid.false) c.if-areas-n.true

pub returns : goal.returns
returns c = sheet_done c.args.points.now c.args.elements.now c.args.pieces.now _ (sym c.are_on_grid.ensures ∙ c.if-not-are_on_grid.false) _ _ refl c.if-areas-n.false c.write_sheet.ensures
