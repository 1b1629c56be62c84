-- The numbers that are left of the word are to be tested; once both have been met, nothing more is told.
use Prim.Native.Nat.{◌+◌, ◌<◌}
use mathlib.Core.Path.{sym, ◌∙◌}
use Rattle.elements.proofs.WordLoops.{next_inside}
use Rattle.elements.proofs.TouchLoops.{testing_start, testing_stops, testing_corner, testing_next, testing_ends}
use borrow.Author.Rules.{rules}
use Rattle.elements.proofs.touch.test_word.Goals as goal

pub loop-left-init : goal.loop-left-init
loop-left-init c = testing_start _ _ _ _ _ _ _ c.ranges.word.fits c.requires

pub returns-then-both_met : goal.returns-then-both_met
returns-then-both_met c = testing_stops _ _ _ _ _ _ _ _ _ _ c.loop-left.invariant (sym c.both_met.ensures ∙ c.if-both_met.true)

pub overflow_add-x : goal.overflow_add-x
overflow_add-x c =
    let inside : c.loop-left.x + c.zeros_below-z.result < c.args.base + 64 =
    next_inside _ _ _ c.loop-left.invariant.leaving _ c.zeros_below-z.ensures.zeros c.loop-left-test.true in
    let h = inside in
    search (rules, h, c.loop-left.invariant.ready.low)

pub corner_side-side-requires : goal.corner_side-side-requires
corner_side-side-requires c = testing_corner _ _ _ _ _ _ _ _ _ _ c.loop-left.invariant _ c.zeros_below-z.ensures.zeros c.loop-left-test.true

pub with_side-s-requires : goal.with_side-s-requires
with_side-s-requires c =
    let inside : c.loop-left.x + c.zeros_below-z.result < c.args.base + 64 =
    next_inside _ _ _ c.loop-left.invariant.leaving _ c.zeros_below-z.ensures.zeros c.loop-left-test.true in
    let h = inside in
    search (rules, h, c.loop-left.invariant.few, c.loop-left.invariant.ready.low)

pub overflow_shr-left : goal.overflow_shr-left
overflow_shr-left c =
    let inside : c.loop-left.x + c.zeros_below-z.result < c.args.base + 64 =
    next_inside _ _ _ c.loop-left.invariant.leaving _ c.zeros_below-z.ensures.zeros c.loop-left-test.true in
    let h = inside in
    search (rules, h, c.loop-left.invariant.leaving.low)

pub overflow_add-x-in-loop-left : goal.overflow_add-x-in-loop-left
overflow_add-x-in-loop-left c =
    let inside : c.loop-left.x + c.zeros_below-z.result < c.args.base + 64 =
    next_inside _ _ _ c.loop-left.invariant.leaving _ c.zeros_below-z.ensures.zeros c.loop-left-test.true in
    let h = inside in
    search (rules, h, c.loop-left.invariant.ready.low)

pub overflow_add-x-in-loop-left-2 : goal.overflow_add-x-in-loop-left-2
overflow_add-x-in-loop-left-2 c =
    let inside : c.loop-left.x + c.zeros_below-z.result < c.args.base + 64 =
    next_inside _ _ _ c.loop-left.invariant.leaving _ c.zeros_below-z.ensures.zeros c.loop-left-test.true in
    let h = inside in
    search (rules, h, c.loop-left.invariant.ready.low)

pub loop-left-smaller : goal.loop-left-smaller
loop-left-smaller c =
    let inside : c.loop-left.x + c.zeros_below-z.result < c.args.base + 64 =
    next_inside _ _ _ c.loop-left.invariant.leaving _ c.zeros_below-z.ensures.zeros c.loop-left-test.true in
    let h = inside in
    search (rules, h)

pub loop-left-preserved : goal.loop-left-preserved
loop-left-preserved c = testing_next _ _ _ _ _ _ _ _ _ _ c.loop-left.invariant _ c.zeros_below-z.ensures.zeros c.loop-left-test.true
    (sym c.both_met.ensures ∙ c.if-both_met.false) _ _ c.corner_side-side.ensures c.with_side-s.ensures

pub returns : goal.returns
returns c = testing_ends _ _ _ _ _ _ _ _ _ _ c.loop-left.invariant c.loop-left-test.false
