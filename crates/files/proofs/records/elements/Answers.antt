-- The invariant: the records that are left, put behind those that stand there, make all of them.
use borrow.Author.Rules.{rules}
use Rattle.files.specs.Saved.{count_fits, row_saved}
use Rattle.files.proofs.SavedRows.{none_saved, row_ready, one_saved, all_saved}
use Rattle.files.proofs.records.elements.Goals as goal

pub loop-e-init : goal.loop-e-init
loop-e-init c = none_saved _ _ _ _ _ _

pub element_record-end-requires : goal.element_record-end-requires
element_record-end-requires c = row_ready row_saved 36 c.args.n c.args.elements.now c.loop-e.invariant count_fits c.requires (search rules)

pub loop-e-preserved : goal.loop-e-preserved
loop-e-preserved c = one_saved _ _ _ c.args.elements.now c.loop-e.invariant (search rules) c.element_record-end.ensures

pub returns : goal.returns
returns c = all_saved _ _ _ c.args.elements.now c.loop-e.invariant (search rules)
