-- The invariant: the records that are left, put behind those that stand there, make all of them.
use borrow.Author.Rules.{rules}
use Rattle.files.specs.Saved.{point_clear, point_saved}
use Rattle.files.proofs.SavedRows.{none_saved, row_ready, one_saved, all_saved}
use Rattle.files.proofs.records.vertices.Goals as goal

pub loop-i-init : goal.loop-i-init
loop-i-init c = none_saved _ _ _ _ _ _

pub vertex_record-end-requires : goal.vertex_record-end-requires
vertex_record-end-requires c = record { d_le_dimensions = c.requires.d_le_dimensions; row_ready = row_ready (point_saved c.args.d) 4 c.args.n c.args.points.now c.loop-i.invariant (point_clear c.args.d) c.requires.rows_ready (search rules) }

pub loop-i-preserved : goal.loop-i-preserved
loop-i-preserved c = one_saved _ _ _ c.args.points.now c.loop-i.invariant (search rules) c.vertex_record-end.ensures

pub returns : goal.returns
returns c = all_saved _ _ _ c.args.points.now c.loop-i.invariant (search rules)
