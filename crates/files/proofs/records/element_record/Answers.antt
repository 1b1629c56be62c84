-- The mark, the row's first two words in a byte each behind it, and its other words in two behind them.
use Prim.Native.Nat.{◌+◌, ◌*◌}
use native.Mathlib.Omega.{arith}
use Rattle.lent_bytes.proofs.Puts.{put_length}
use Rattle.files.proofs.SavedRecords.{numbers_part, front_part, count_low, element_room_lem, element_put}
use Rattle.files.proofs.records.element_record.Goals as goal

pub word-end-requires : goal.word-end-requires
word-end-requires c = let r = element_room_lem c.args.e c.args.elements.now c.requires in
    omega (arith, r)

pub numbers-middle-requires : goal.numbers-middle-requires
numbers-middle-requires c = let l = put_length c.word-end.ensures in
    let r = element_room_lem c.args.e c.args.elements.now c.requires in
    record { part = front_part 36 c.args.e c.args.elements.now c.requires.stored 2 (omega arith); fits_room = omega (arith, l, c.word-end.ensures.place, r) }

pub numbers-requires : goal.numbers-requires
numbers-requires c = let l = put_length c.word-end.ensures in
    let k = put_length c.numbers-middle.ensures in
    let w = numbers_part 1 c.args.elements.now (c.args.e * 36) (c.args.e * 36 + 2) (omega (arith, c.requires.stored)) in
    let low = count_low c.args.e c.args.elements.now c.requires.stored c.requires.clear in
    let r = element_room_lem c.args.e c.args.elements.now c.requires in
    record {
      part = record { rising = omega arith; within = omega (arith, c.wide-n.ensures.value, c.requires.stored, low) };
      fits_room = omega
          (arith, c.wide-n.ensures.value, l, c.word-end.ensures.place, k, c.numbers-middle.ensures.place, w, r);
    }

pub returns : goal.returns
returns c = element_put c.args.e c.args.elements.now c.requires _ c.wide-n.ensures.value c.word-end.ensures c.numbers-middle.ensures c.numbers.ensures
