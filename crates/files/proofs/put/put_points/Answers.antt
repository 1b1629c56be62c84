-- The invariant: the rows so far, and the run goes on at the next record.
use lib.Ieee
use native.Mathlib.Omega.{arith}
use borrow.Author.Rules.{rules}
use Rattle.rules.specs.Floats.{plus_zero}
use Rattle.files.specs.Entries.{PointReady}
use Rattle.files.proofs.PutRows.{none_put, all_put}
use Rattle.files.proofs.PutRecords.{point_ready, point_put}
use Rattle.files.proofs.put.put_points.Goals as goal

pub loop-i-init : goal.loop-i-init
loop-i-init c = none_put _ _ _ _ _ _ _ c.requires.records_ready

pub point_at-p-requires : goal.point_at-p-requires
point_at-p-requires c =
    let here : PointReady c.args.bytes.now c.loop-i.at c.args.d =
    point_ready c.loop-i.invariant c.requires.d_le_dimensions (search rules) in
    here

pub overflow_add-at : goal.overflow_add-at
overflow_add-at c =
    let here : PointReady c.args.bytes.now c.loop-i.at c.args.d =
    point_ready c.loop-i.invariant c.requires.d_le_dimensions (search rules) in
    let w = here.within in omega (arith, w)

pub overflow_add-at-in-loop-i : goal.overflow_add-at-in-loop-i
overflow_add-at-in-loop-i c =
    let here : PointReady c.args.bytes.now c.loop-i.at c.args.d =
    point_ready c.loop-i.invariant c.requires.d_le_dimensions (search rules) in
    let w = here.within in omega (arith, w)

pub loop-i-preserved : goal.loop-i-preserved
loop-i-preserved c = point_put c.loop-i.invariant c.requires.d_le_dimensions (search rules) c.point_at-p.ensures c.put_point.ensures

pub returns : goal.returns
unfolding lib.Ieee.of_bits
returns c = all_put _ _ _ _ _ _ _ c.loop-i.invariant (search rules) plus_zero _ (c.fill.ensures.after (λ y q. q))
