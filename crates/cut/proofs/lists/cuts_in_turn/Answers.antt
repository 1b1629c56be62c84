-- The invariant: what the cuts from here on give is what the whole list gives.
use mathlib.Core.Path.{refl, ◌∙◌}
use native.Mathlib.Omega.{arith}
use Rattle.cut.proofs.Listing.{few_cuts, running_start, running_ready, running_ended, running_stopped, running_again}
use Rattle.cut.proofs.lists.cuts_in_turn.Goals as goal

pub loop-i-init : goal.loop-i-init
loop-i-init c = record {
  run = running_start c.requires;
  counts_long = refl;
  points_long = refl;
  planes_long = refl;
  elements_long = refl;
  answers_long = refl;
}

pub cut_at-made-requires : goal.cut_at-made-requires
cut_at-made-requires c = running_ready c.loop-i.invariant.run c.loop-i-test.true

pub shape_of-counts-in-Err : goal.shape_of-counts-in-Err
shape_of-counts-in-Err c = c.cut_at-made.auto.counts ∙ c.loop-i.invariant.counts_long

pub shape_of-points-in-Err : goal.shape_of-points-in-Err
shape_of-points-in-Err c = c.cut_at-made.auto.points ∙ c.loop-i.invariant.points_long

pub shape_of-planes-in-Err : goal.shape_of-planes-in-Err
shape_of-planes-in-Err c = c.cut_at-made.auto.planes ∙ c.loop-i.invariant.planes_long

pub shape_of-elements-in-Err : goal.shape_of-elements-in-Err
shape_of-elements-in-Err c = c.cut_at-made.auto.elements ∙ c.loop-i.invariant.elements_long

pub shape_of-answers-in-Err : goal.shape_of-answers-in-Err
shape_of-answers-in-Err c = c.cut_at-made.auto.answers ∙ c.loop-i.invariant.answers_long

pub returns-in-Err : goal.returns-in-Err
returns-in-Err c = running_stopped c.loop-i.invariant.run c.loop-i-test.true c.cut_at-made.ensures _ c.in-Err.is

pub overflow_step-i : goal.overflow_step-i
overflow_step-i c = let few = few_cuts _ c.loop-i.invariant.run.ready.fits in
    omega (arith, c.loop-i-test.true, few)

pub loop-i-preserved : goal.loop-i-preserved
loop-i-preserved c = record {
  run = running_again c.loop-i.invariant.run c.loop-i-test.true c.cut_at-made.ensures c.in_default.is;
  counts_long = c.cut_at-made.auto.counts ∙ c.loop-i.invariant.counts_long;
  points_long = c.cut_at-made.auto.points ∙ c.loop-i.invariant.points_long;
  planes_long = c.cut_at-made.auto.planes ∙ c.loop-i.invariant.planes_long;
  elements_long = c.cut_at-made.auto.elements ∙ c.loop-i.invariant.elements_long;
  answers_long = c.cut_at-made.auto.answers ∙ c.loop-i.invariant.answers_long;
}

pub shape_of-counts : goal.shape_of-counts
shape_of-counts c = c.loop-i.invariant.counts_long

pub shape_of-points : goal.shape_of-points
shape_of-points c = c.loop-i.invariant.points_long

pub shape_of-planes : goal.shape_of-planes
shape_of-planes c = c.loop-i.invariant.planes_long

pub shape_of-elements : goal.shape_of-elements
shape_of-elements c = c.loop-i.invariant.elements_long

pub shape_of-answers : goal.shape_of-answers
shape_of-answers c = c.loop-i.invariant.answers_long

pub returns : goal.returns
returns c = running_ended c.loop-i.invariant.run c.loop-i-test.false
