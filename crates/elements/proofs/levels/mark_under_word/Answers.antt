-- The boundaries of the numbers that are left of the word are to come.
use Prim.Native.Nat.{◌+◌, ◌<◌}
use Rattle.elements.proofs.WordLoops.{next_inside}
use Rattle.elements.proofs.LevelLoops.{passing_start, passing_ready, passing_next, passing_end}
use borrow.Author.Rules.{rules}
use Rattle.elements.proofs.levels.mark_under_word.Goals as goal

pub loop-left-init : goal.loop-left-init
loop-left-init c = passing_start _ _ _ _ c.ranges.word.fits c.requires

pub overflow_add-x : goal.overflow_add-x
overflow_add-x c =
    let inside : c.loop-left.x + c.zeros_below-z.result < c.args.base + 64 =
    next_inside _ _ _ c.loop-left.invariant.leaving _ c.zeros_below-z.ensures.zeros c.loop-left-test.true in
    let h = inside in
    search (rules, h, c.loop-left.invariant.low)

pub mark_boundary-requires : goal.mark_boundary-requires
mark_boundary-requires c = passing_ready _ _ _ _ _ _ _ c.loop-left.invariant _ c.zeros_below-z.ensures.zeros c.loop-left-test.true

pub overflow_shr-left : goal.overflow_shr-left
overflow_shr-left c =
    let inside : c.loop-left.x + c.zeros_below-z.result < c.args.base + 64 =
    next_inside _ _ _ c.loop-left.invariant.leaving _ c.zeros_below-z.ensures.zeros c.loop-left-test.true in
    let h = inside in
    search (rules, h, c.loop-left.invariant.leaving.low)

pub overflow_add-x-in-loop-left : goal.overflow_add-x-in-loop-left
overflow_add-x-in-loop-left c =
    let inside : c.loop-left.x + c.zeros_below-z.result < c.args.base + 64 =
    next_inside _ _ _ c.loop-left.invariant.leaving _ c.zeros_below-z.ensures.zeros c.loop-left-test.true in
    let h = inside in
    search (rules, h, c.loop-left.invariant.low)

pub overflow_add-x-in-loop-left-2 : goal.overflow_add-x-in-loop-left-2
overflow_add-x-in-loop-left-2 c =
    let inside : c.loop-left.x + c.zeros_below-z.result < c.args.base + 64 =
    next_inside _ _ _ c.loop-left.invariant.leaving _ c.zeros_below-z.ensures.zeros c.loop-left-test.true in
    let h = inside in
    search (rules, h, c.loop-left.invariant.low)

pub loop-left-smaller : goal.loop-left-smaller
loop-left-smaller c =
    let inside : c.loop-left.x + c.zeros_below-z.result < c.args.base + 64 =
    next_inside _ _ _ c.loop-left.invariant.leaving _ c.zeros_below-z.ensures.zeros c.loop-left-test.true in
    let h = inside in
    search (rules, h)

pub loop-left-preserved : goal.loop-left-preserved
loop-left-preserved c = passing_next _ _ _ _ _ _ _ c.loop-left.invariant _ c.zeros_below-z.ensures.zeros c.loop-left-test.true _ c.mark_boundary.ensures

pub returns : goal.returns
returns c = passing_end _ _ _ _ _ _ _ c.loop-left.invariant c.loop-left-test.false
