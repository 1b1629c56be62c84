-- The count and the sum stand behind the areas.
use Rattle.std.proofs.Common.{map, length, pos, refl, ap, ◌∙◌, le_trans, arith, lit≤, length-set}
use lib.ListN.{length-map}
use lib.Seq.{length-sets}
use Rattle.areas.specs.Words.{word_area, word_sheet}
use Rattle.areas.proofs.Loops.{sheet_end}
use Rattle.areas.proofs.Small.{told}
use Rattle.areas.proofs.Walked.{sheet_small}
use Rattle.areas.proofs.write_sheet.Goals as goal

pub bounds-areas-n-2 : goal.bounds-areas-n-2
bounds-areas-n-2 c = let l = ap length c.write_areas-sum.ensures.front ∙ length-sets c.args.areas.now 0 (map (word_area c.args.points.now c.args.elements.now) c.args.pieces.now) in
    simp length-set (omega (arith, l, c.requires.enough))

pub returns : goal.returns
unfolding word_sheet
returns c = let g = word_area c.args.points.now c.args.elements.now in
    sheet_end c.args.areas.now _ (map g c.args.pieces.now) _ _ _ _ _ c.write_areas-sum.ensures.front (length-map c.args.pieces.now g)
    (told (pos (length c.args.pieces.now)) _ refl (le_trans c.requires.pieces.few (lit≤ tt)))
    (told _ _ c.write_areas-sum.ensures.total (sheet_small c.args.points.now c.args.elements.now c.args.pieces.now c.requires.pieces))
