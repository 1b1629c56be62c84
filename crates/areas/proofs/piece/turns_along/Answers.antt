-- The turns of what is left, added to the sum, are those of the whole.
use Rattle.std.proofs.Common.{◌+◌, ◌*◌, take, sym, subst, zero-le, le_trans, lit≤, w64, to_z, rules}
use lib.IntN.{+ℤ_idl}
use Rattle.areas.specs.Words.{turns_along, CornerFits, StepFits}
use Rattle.areas.proofs.Loops.{in_front, front_long, front_end, turns_go, turns_end, corner_turn_few}
use Rattle.areas.proofs.Small.{turns_small, turns_few, sum_fits, sum_told}
use Rattle.areas.proofs.piece.turns_along.Goals as goal

pub loop-k-init : goal.loop-k-init
loop-k-init c = record { low = search rules; few = zero-le; same = sym (+ℤ_idl (turns_along c.args.points.now (take (2 * c.args.n) c.args.list.now))) }

pub corner_turn-sum-requires : goal.corner_turn-sum-requires
corner_turn-sum-requires c =
    let both : StepFits c.args.points.now c.wide.result c.wide-in-loop-k.result =
    record {
      from = subst (CornerFits _) (sym c.wide.ensures.value) (c.requires.corners.each (2 * c.loop-k.k) (search rules));
      to = subst (CornerFits _) (sym c.wide-in-loop-k.ensures.value) (c.requires.corners.each (2 * c.loop-k.k + 1) (search rules));
    } in
    both

pub overflow_add-sum : goal.overflow_add-sum
overflow_add-sum c =
    let both : StepFits c.args.points.now c.wide.result c.wide-in-loop-k.result =
    record {
      from = subst (CornerFits _) (sym c.wide.ensures.value) (c.requires.corners.each (2 * c.loop-k.k) (search rules));
      to = subst (CornerFits _) (sym c.wide-in-loop-k.ensures.value) (c.requires.corners.each (2 * c.loop-k.k + 1) (search rules));
    } in
    sum_fits (to_z w64 c.loop-k.sum-bits) _ _ c.corner_turn-sum.ensures (le_trans (corner_turn_few _ _ _ both) (lit≤ tt))
    (turns_small (to_z w64 c.loop-k.sum-bits) c.loop-k.k c.loop-k.invariant.few (le_trans c.loop-k.invariant.low c.requires.few))

pub loop-k-preserved : goal.loop-k-preserved
loop-k-preserved c =
    let both : StepFits c.args.points.now c.wide.result c.wide-in-loop-k.result =
    record {
      from = subst (CornerFits _) (sym c.wide.ensures.value) (c.requires.corners.each (2 * c.loop-k.k) (search rules));
      to = subst (CornerFits _) (sym c.wide-in-loop-k.ensures.value) (c.requires.corners.each (2 * c.loop-k.k + 1) (search rules));
    } in
    let few = corner_turn_few _ _ _ both in
    let short = le_trans c.loop-k.invariant.low c.requires.few in
    record {
      low = search rules;
      few = turns_few (to_z w64 c.loop-k.sum-bits) _ _ c.loop-k.k c.corner_turn-sum.ensures few c.loop-k.invariant.few short;
      same = turns_go c.args.points.now (take (2 * c.args.n) c.args.list.now) _ (to_z w64 c.loop-k.sum-bits) _ c.loop-k.k _ _
          (front_long (2 * c.args.n) c.args.list.now (2 * c.loop-k.k + 1) c.requires.corners.long (search rules))
          (in_front (2 * c.args.n) c.args.list.now (2 * c.loop-k.k) _ (search rules) c.wide.ensures.value)
          (in_front (2 * c.args.n) c.args.list.now (2 * c.loop-k.k + 1) _ (search rules) c.wide-in-loop-k.ensures.value)
          (sum_told (to_z w64 c.loop-k.sum-bits) _ _ c.corner_turn-sum.ensures (le_trans few (lit≤ tt)) (turns_small (to_z w64 c.loop-k.sum-bits) c.loop-k.k c.loop-k.invariant.few short)) c.loop-k.invariant.same;
    }

pub returns : goal.returns
returns c = turns_end c.args.points.now (take (2 * c.args.n) c.args.list.now) _ _ c.loop-k.k (front_end (2 * c.args.n) c.args.list.now (2 * c.loop-k.k) c.requires.corners.long (search rules)) c.loop-k.invariant.same
