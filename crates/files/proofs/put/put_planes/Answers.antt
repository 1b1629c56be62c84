-- The invariant: the rows so far, and the run goes on at the next record.
use lib.Ieee
use native.Mathlib.Omega.{arith}
use borrow.Author.Rules.{rules}
use Rattle.rules.specs.Floats.{plus_zero}
use Rattle.files.specs.Entries.{PlaneReady}
use Rattle.files.proofs.PutRows.{none_put, all_put}
use Rattle.files.proofs.PutRecords.{plane_ready, plane_put}
use Rattle.files.proofs.put.put_planes.Goals as goal

pub loop-i-init : goal.loop-i-init
loop-i-init c = none_put _ _ _ _ _ _ _ c.requires.records_ready

pub plane_at-h-requires : goal.plane_at-h-requires
plane_at-h-requires c =
    let here : PlaneReady c.args.bytes.now c.loop-i.at c.args.d =
    plane_ready c.loop-i.invariant c.requires.d_le_dimensions (search rules) in
    here

pub overflow_add-at : goal.overflow_add-at
overflow_add-at c =
    let here : PlaneReady c.args.bytes.now c.loop-i.at c.args.d =
    plane_ready c.loop-i.invariant c.requires.d_le_dimensions (search rules) in
    let w = here.within in omega (arith, w)

pub overflow_add-at-in-loop-i : goal.overflow_add-at-in-loop-i
overflow_add-at-in-loop-i c =
    let here : PlaneReady c.args.bytes.now c.loop-i.at c.args.d =
    plane_ready c.loop-i.invariant c.requires.d_le_dimensions (search rules) in
    let w = here.within in omega (arith, w)

pub loop-i-preserved : goal.loop-i-preserved
loop-i-preserved c = plane_put c.loop-i.invariant c.requires.d_le_dimensions (search rules) c.plane_at-h.ensures c.hyperplane_row-row.ensures c.put_hyperplane.ensures

pub returns : goal.returns
unfolding lib.Ieee.of_bits
returns c = all_put _ _ _ _ _ _ _ c.loop-i.invariant (search rules) plus_zero _ (c.fill.ensures.after (λ y q. q))
