-- A row that is read is the next row of the slice that the table would have; its laws say what is left.
use Prim.Native.Nat.{◌+◌, ◌-◌}
use mathlib.Core.Path.{◌≡◌, refl, ◌∙◌}
use native.Mathlib.Omega.{arith}
use borrow.Author.Rules.{rules}
use Rattle.files.specs.Entries.{RowReady}
use Rattle.files.proofs.RowsJudged.{judged_start, judged_here, in_room_lem, place_low, judged_count, judged_ready, judged_keep, judged_not_sound, judged_not_new, judged_on, judged_end}
use Rattle.files.proofs.rows.rows_judged.Goals as goal

pub loop-i-init : goal.loop-i-init
loop-i-init c = judged_start c.args.bytes.now c.args.laid c.past_mask-past.result _ c.past_mask-past.ensures refl refl

pub row_at-row-requires : goal.row_at-row-requires
row_at-row-requires c = (judged_here c.requires c.loop-i.invariant c.loop-i-test.true).ready

pub row_sound-requires : goal.row_sound-requires
row_sound-requires c = judged_ready c.requires c.loop-i.invariant c.loop-i-test.true c.row_at-row.result c.row_at-row.ensures

pub returns-then-not-row_sound : goal.returns-then-not-row_sound
returns-then-not-row_sound c = judged_not_sound c.requires c.loop-i.invariant c.loop-i-test.true c.row_at-row.result c.row_at-row.ensures c.row_sound.ensures.told c.if-not-row_sound.true

pub row_new-requires : goal.row_new-requires
row_new-requires c = judged_keep c.requires c.loop-i.invariant c.loop-i-test.true c.row_at-row.result c.row_at-row.ensures

pub returns-then-not-row_new : goal.returns-then-not-row_new
returns-then-not-row_new c = judged_not_new c.requires c.loop-i.invariant c.loop-i-test.true c.row_at-row.result c.row_at-row.ensures c.row_sound.ensures.told c.row_new.ensures.told
    c.if-not-row_new.true

pub keep-requires : goal.keep-requires
keep-requires c = let low = place_low c.requires c.loop-i.invariant c.loop-i-test.true in
    record { room = in_room_lem c.requires c.loop-i.invariant c.loop-i-test.true; low = omega (arith, low, c.loop-i.invariant.from) }

pub overflow_add-at : goal.overflow_add-at
overflow_add-at c =
    let ready : RowReady c.args.bytes.now c.loop-i.at =
    (judged_here c.requires c.loop-i.invariant c.loop-i-test.true).ready in
    let w = ready.within in
    search rules

pub overflow_add-at-in-loop-i : goal.overflow_add-at-in-loop-i
overflow_add-at-in-loop-i c =
    let ready : RowReady c.args.bytes.now c.loop-i.at =
    (judged_here c.requires c.loop-i.invariant c.loop-i-test.true).ready in
    let w = ready.within in
    let n = c.wide.ensures.value ∙ judged_count c.requires c.loop-i.invariant c.loop-i-test.true c.row_at-row.result c.row_at-row.ensures in
    search rules

pub loop-i-preserved : goal.loop-i-preserved
loop-i-preserved c = let yes = c.if-not-row_sound.false in
    let new = c.if-not-row_new.false in
    judged_on c.requires c.loop-i.invariant c.loop-i-test.true c.row_at-row.result c.row_at-row.ensures c.row_sound.ensures.told c.row_new.ensures.told yes new _ _ (c.row_sound.ensures.past yes) (c.row_sound.ensures.unmet yes)
    _ _ _ (let z : c.args.laid.elements_at + (c.loop-i.at - c.args.laid.elements_at) ≡ c.loop-i.at = omega (arith, c.loop-i.invariant.from) in z)
    c.one_if_corner-k.ensures.corner c.one_if_corner-k.ensures.most c.wide.ensures.value _ c.keep.ensures

pub returns : goal.returns
returns c = judged_end c.loop-i.invariant c.loop-i-test.false
