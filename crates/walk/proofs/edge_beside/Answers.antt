-- What is left to search gives what the whole gives.
use mathlib.Core.Path.{refl, sym, ◌∙◌}
use borrow.Author.Rules.{rules}
use Rattle.walk.proofs.Boundaries.{row_long, number_at, number_low}
use Rattle.walk.proofs.EdgeLoops.{beside_here, beside_go, beside_end}
use Rattle.walk.proofs.edge_beside.Goals as goal

pub loop-number-init : goal.loop-number-init
loop-number-init c = record { low = search rules; size = row_long c.args.elements.now c.args.f.0 c.requires _ c.boundary-number-items.ensures; same = refl }

pub is_beside-requires : goal.is_beside-requires
is_beside-requires c = record {
  elements = c.requires.long;
  room = number_low c.args.elements.now c.args.f.0 _ c.requires c.loop-number.invariant.size c.loop-number.number-index _ (search rules)
      (number_at c.args.elements.now c.args.f.0 c.requires _ c.boundary-number-items.ensures c.loop-number.number-index _ c.loop-number-test.true c.wide.ensures.value);
}

pub returns-then-is_beside : goal.returns-then-is_beside
returns-then-is_beside c = beside_here c.args.elements.now c.args.f.0 _ c.requires c.loop-number.invariant.size c.args.e.0 c.args.v.0 _ c.loop-number.number-index _
    (number_at c.args.elements.now c.args.f.0 c.requires _ c.boundary-number-items.ensures c.loop-number.number-index _ c.loop-number-test.true c.wide.ensures.value) (search rules) c.loop-number.invariant.same
    (sym c.is_beside.ensures ∙ c.if-is_beside.true)

pub loop-number-preserved : goal.loop-number-preserved
loop-number-preserved c = record {
  low = search rules;
  size = c.loop-number.invariant.size;
  same = beside_go c.args.elements.now c.args.f.0 _ c.requires c.loop-number.invariant.size c.args.e.0 c.args.v.0 _ c.loop-number.number-index _
      (number_at c.args.elements.now c.args.f.0 c.requires _ c.boundary-number-items.ensures c.loop-number.number-index _ c.loop-number-test.true c.wide.ensures.value) (search rules) c.loop-number.invariant.same
      (sym c.is_beside.ensures ∙ c.if-is_beside.false);
}

pub returns : goal.returns
returns c = beside_end c.args.elements.now c.args.f.0 _ c.requires c.loop-number.invariant.size c.args.e.0 c.args.v.0 _ c.loop-number.number-index (search rules) c.loop-number.invariant.same
