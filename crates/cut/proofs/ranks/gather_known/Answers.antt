-- The invariant: what is left to gather, from what the rules have gathered so far, is the whole of it.
use mathlib.Core.Path.{refl, ◌∙◌}
use native.Mathlib.Omega.{arith}
use Rattle.ends.proofs.EndsGathered.{sized_more}
use Rattle.cut.proofs.Higher.{gather_row, gather_most, filling_start, known_low, known_room, filling_on, filled}
use borrow.Author.Rules.{rules}
use Rattle.cut.proofs.ranks.gather_known.Goals as goal

pub size_of-n-requires : goal.size_of-n-requires
size_of-n-requires c = gather_row c.requires

pub loop-i-init : goal.loop-i-init
loop-i-init c = record { most = search rules; sized = c.clear.ensures.nothing.sized; filling = filling_start c.clear.ensures; warning = refl }

pub boundary_at-requires : goal.boundary_at-requires
boundary_at-requires c = let row = gather_row c.requires in
    record { elements = row.elements; room = row.room; place = omega (arith, gather_most c.requires _ c.size_of-n.ensures, c.loop-i-test.true) }

pub output_at-a-requires : goal.output_at-a-requires
output_at-a-requires c = known_low _ c.size_of-n.ensures c.loop-i-test.true _ (c.wide.ensures.value ∙ c.boundary_at.ensures) c.requires.fit

pub gather_in-requires : goal.gather_in-requires
gather_in-requires c = let read = c.wide.ensures.value ∙ c.boundary_at.ensures in
    record {
      sized = sized_more c.loop-i.i 31 (omega (arith, gather_most c.requires _ c.size_of-n.ensures, c.loop-i-test.true)) c.loop-i.invariant.sized;
      element = known_low _ c.size_of-n.ensures c.loop-i-test.true _ read c.requires.fit;
      answer = known_room _ c.size_of-n.ensures c.loop-i-test.true _ read c.requires.fit _ c.output_at-a.ensures;
    }

pub overflow_step-i : goal.overflow_step-i
overflow_step-i c = omega (arith, gather_most c.requires _ c.size_of-n.ensures, c.loop-i-test.true)

pub loop-i-smaller : goal.loop-i-smaller
loop-i-smaller c = omega (arith, c.loop-i-test.true)

pub loop-i-preserved : goal.loop-i-preserved
loop-i-preserved c = record {
  most = omega (arith, c.loop-i-test.true);
  sized = c.gather_in.ensures.sized c.loop-i.i c.loop-i.invariant.sized;
  filling = filling_on _ c.size_of-n.ensures c.loop-i-test.true _ (c.wide.ensures.value ∙ c.boundary_at.ensures) c.loop-i.invariant.filling _ c.output_at-a.ensures c.gather_in.ensures;
  warning = c.gather_in.ensures.warning ∙ c.loop-i.invariant.warning;
}

pub returns : goal.returns
returns c = record {
  of = filled _ c.size_of-n.ensures c.loop-i-test.false c.loop-i.invariant.most c.loop-i.invariant.filling _;
  sized = sized_more c.loop-i.i 32 (omega (arith, gather_most c.requires _ c.size_of-n.ensures, c.loop-i.invariant.most)) c.loop-i.invariant.sized;
  warning = c.loop-i.invariant.warning ∙ c.clear.ensures.warning;
}
