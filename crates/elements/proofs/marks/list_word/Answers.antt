-- What is left of the word goes to the places from here on: the whole list stays what it will be.
use Prim.Native.Nat.{◌+◌, ◌<◌}
use Rattle.elements.proofs.WordLoops.{next_inside}
use Rattle.elements.proofs.ListLoops.{listing_start, listing_room, listing_next, listing_end}
use borrow.Author.Rules.{rules}
use Rattle.elements.proofs.marks.list_word.Goals as goal

pub loop-left-init : goal.loop-left-init
loop-left-init c = record { fits = c.requires; listing = listing_start _ _ _ _ c.ranges.word.fits }

pub overflow_add-list : goal.overflow_add-list
overflow_add-list c =
    let inside : c.loop-left.x + c.zeros_below-z.result < c.args.base + 64 =
    next_inside _ _ _ c.loop-left.invariant.listing.leaving _ c.zeros_below-z.ensures.zeros c.loop-left-test.true in
    let h = inside in
    search (rules, h)

pub overflow_cast-list : goal.overflow_cast-list
overflow_cast-list c =
    let inside : c.loop-left.x + c.zeros_below-z.result < c.args.base + 64 =
    next_inside _ _ _ c.loop-left.invariant.listing.leaving _ c.zeros_below-z.ensures.zeros c.loop-left-test.true in
    let h = inside in
    search (rules, h, c.loop-left.invariant.fits.low)

pub bounds-list-at : goal.bounds-list-at
bounds-list-at c = let h = listing_room _ _ _ _ _ _ _ _ c.loop-left.invariant.listing _ c.zeros_below-z.ensures.zeros c.loop-left-test.true c.loop-left.invariant.fits.room in
    search (rules, h)

pub overflow_add-at : goal.overflow_add-at
overflow_add-at c = let h = listing_room _ _ _ _ _ _ _ _ c.loop-left.invariant.listing _ c.zeros_below-z.ensures.zeros c.loop-left-test.true c.loop-left.invariant.fits.room in
    search (rules, h)

pub overflow_shr-left : goal.overflow_shr-left
overflow_shr-left c =
    let inside : c.loop-left.x + c.zeros_below-z.result < c.args.base + 64 =
    next_inside _ _ _ c.loop-left.invariant.listing.leaving _ c.zeros_below-z.ensures.zeros c.loop-left-test.true in
    let h = inside in
    search (rules, h, c.loop-left.invariant.listing.leaving.low)

pub overflow_add-x : goal.overflow_add-x
overflow_add-x c =
    let inside : c.loop-left.x + c.zeros_below-z.result < c.args.base + 64 =
    next_inside _ _ _ c.loop-left.invariant.listing.leaving _ c.zeros_below-z.ensures.zeros c.loop-left-test.true in
    let h = inside in
    search (rules, h)

pub overflow_add-x-in-loop-left : goal.overflow_add-x-in-loop-left
overflow_add-x-in-loop-left c =
    let inside : c.loop-left.x + c.zeros_below-z.result < c.args.base + 64 =
    next_inside _ _ _ c.loop-left.invariant.listing.leaving _ c.zeros_below-z.ensures.zeros c.loop-left-test.true in
    let h = inside in
    search (rules, h)

pub loop-left-smaller : goal.loop-left-smaller
loop-left-smaller c =
    let inside : c.loop-left.x + c.zeros_below-z.result < c.args.base + 64 =
    next_inside _ _ _ c.loop-left.invariant.listing.leaving _ c.zeros_below-z.ensures.zeros c.loop-left-test.true in
    let h = inside in
    search (rules, h)

pub loop-left-preserved : goal.loop-left-preserved
loop-left-preserved c = record { fits = c.loop-left.invariant.fits; listing = listing_next _ _ _ _ _ _ _ _ c.loop-left.invariant.listing _ c.zeros_below-z.ensures.zeros c.loop-left-test.true }

pub shape_of-list : goal.shape_of-list
shape_of-list c = c.loop-left.invariant.listing.long

pub returns : goal.returns
returns c = listing_end _ _ _ _ _ _ _ _ c.loop-left.invariant.listing c.loop-left-test.false
