-- The mark, and the coordinates behind it.
use native.Mathlib.Omega.{arith}
use Rattle.lent_bytes.proofs.Puts.{put_length}
use Rattle.files.proofs.SavedRecords.{front_part, point_room_lem, point_numbers, point_put}
use Rattle.files.proofs.records.vertex_record.Goals as goal

pub word-end-requires : goal.word-end-requires
word-end-requires c = let r = point_room_lem c.args.d c.args.i c.args.points.now c.requires.d_le_dimensions c.requires.row_ready in
    omega (arith, r)

pub floats-requires : goal.floats-requires
floats-requires c = let l = put_length c.word-end.ensures in
    let r = point_room_lem c.args.d c.args.i c.args.points.now c.requires.d_le_dimensions c.requires.row_ready in
    record {
      part = front_part 4 c.args.i c.args.points.now c.requires.row_ready.stored c.args.d c.requires.d_le_dimensions;
      are_numbers =
          point_numbers c.args.d c.args.i c.args.points.now c.requires.d_le_dimensions c.requires.row_ready;
      fits_room = omega (arith, l, c.word-end.ensures.place, r);
    }

pub returns : goal.returns
returns c = point_put c.args.d c.args.i c.args.points.now c.requires.d_le_dimensions c.requires.row_ready c.word-end.ensures c.floats.ensures
