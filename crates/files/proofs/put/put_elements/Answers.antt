-- The invariant: the rows so far, and the run goes on at the next record.
use native.Mathlib.Omega.{arith}
use borrow.Author.Rules.{rules}
use Rattle.files.specs.Entries.{RowReady}
use Rattle.files.proofs.PutRows.{none_put, all_put}
use Rattle.files.proofs.PutRecords.{element_ready, element_put}
use Rattle.files.proofs.put.put_elements.Goals as goal

pub loop-i-init : goal.loop-i-init
loop-i-init c = none_put _ _ _ _ _ _ _ c.requires

pub row_at-row-requires : goal.row_at-row-requires
row_at-row-requires c =
    let here : RowReady c.args.bytes.now c.loop-i.at =
    element_ready c.loop-i.invariant (search rules) in
    here

pub overflow_add-at : goal.overflow_add-at
overflow_add-at c =
    let here : RowReady c.args.bytes.now c.loop-i.at =
    element_ready c.loop-i.invariant (search rules) in
    let w = here.within in omega (arith, w)

pub overflow_add-at-in-loop-i : goal.overflow_add-at-in-loop-i
overflow_add-at-in-loop-i c =
    let here : RowReady c.args.bytes.now c.loop-i.at =
    element_ready c.loop-i.invariant (search rules) in
    let w = here.within in
    omega (arith, w, c.wide.ensures.value)

pub loop-i-preserved : goal.loop-i-preserved
loop-i-preserved c = element_put c.loop-i.invariant (search rules) c.row_at-row.ensures c.wide.ensures.value c.put_row.ensures

pub returns : goal.returns
returns c = all_put _ _ _ _ _ _ _ c.loop-i.invariant (search rules) 0 _ (c.fill.ensures.after (λ y q. q))
