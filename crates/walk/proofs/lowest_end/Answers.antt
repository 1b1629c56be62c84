-- The lowest so far and what is left give what the whole gives.
use mathlib.Core.Path.{refl}
use borrow.Author.Rules.{rules}
use Rattle.walk.proofs.Boundaries.{row_long, number_at, number_low}
use Rattle.walk.proofs.EdgeLoops as edge
use Rattle.walk.proofs.lowest_end.Goals as goal

pub loop-number-init : goal.loop-number-init
loop-number-init c = record { low = search rules; size = row_long c.args.elements.now c.args.f.0 c.requires _ c.boundary-number-items.ensures; same = refl }

pub end_at-requires : goal.end_at-requires
end_at-requires c = let x = number_low c.args.elements.now c.args.f.0 _ c.requires c.loop-number.invariant.size c.loop-number.number-index _ (search rules)
    (number_at c.args.elements.now c.args.f.0 c.requires _ c.boundary-number-items.ensures c.loop-number.number-index _ c.loop-number-test.true c.wide.ensures.value) in
    record { edge = record { elements = c.requires.long; room = x }; end = search rules }

pub loop-number-preserved : goal.loop-number-preserved
loop-number-preserved c = record {
  low = search rules;
  size = c.loop-number.invariant.size;
  same = edge.lowest_go c.args.elements.now c.args.f.0 _ c.requires c.loop-number.invariant.size c.loop-number.m.0 _ c.loop-number.number-index _ _ _
      (number_at c.args.elements.now c.args.f.0 c.requires _ c.boundary-number-items.ensures c.loop-number.number-index _ c.loop-number-test.true c.wide.ensures.value) (search rules) c.end_at.ensures
      (edge.min_lower c.loop-number.m c.end_at.result c.min-m.ensures) c.loop-number.invariant.same;
}

pub returns : goal.returns
returns c = edge.lowest_end_lem c.args.elements.now c.args.f.0 _ c.requires c.loop-number.invariant.size c.loop-number.m.0 _ c.loop-number.number-index (search rules) c.loop-number.invariant.same
