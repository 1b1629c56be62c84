-- 12, or the head and the faces put one behind another.
use Rattle.print.proofs.Solids.{too_short, faces_fit, file_done}
use Rattle.print.proofs.solid.Goals as goal

pub triangle_count-n-requires : goal.triangle_count-n-requires
triangle_count-n-requires c = c.requires.faces

pub returns-then-file-n : goal.returns-then-file-n
returns-then-file-n c = too_short _ _ _ c.requires _ c.triangle_count-n.ensures.value _ c.if-file-n.true

pub faces-end-requires : goal.faces-end-requires
faces-end-requires c = record { solid = c.requires; fits = faces_fit _ _ _ c.requires _ c.triangle_count-n.ensures.value _ c.if-file-n.false c.number-counted.ensures c.number-start.ensures }

pub returns : goal.returns
returns c = file_done _ _ _ c.requires _ c.triangle_count-n.ensures.value _ c.if-file-n.false c.number-counted.ensures c.number-start.ensures c.faces-end.ensures
