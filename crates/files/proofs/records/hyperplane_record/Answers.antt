-- The mark, the components behind it, and the distance behind them.
use Prim.Native.Nat.{◌+◌, ◌*◌}
use native.Mathlib.Omega.{arith}
use Rattle.lent_bytes.proofs.Puts.{put_length}
use Rattle.files.proofs.SavedRecords.{floats_part, plane_room_lem, plane_part, plane_numbers, distance_number, plane_put}
use Rattle.files.proofs.records.hyperplane_record.Goals as goal

pub word-end-requires : goal.word-end-requires
word-end-requires c = let r = plane_room_lem c.args.d c.args.i c.args.planes.now c.requires.d_le_dimensions c.requires.row_ready in
    omega (arith, r)

pub floats-last-requires : goal.floats-last-requires
floats-last-requires c = let l = put_length c.word-end.ensures in
    let r = plane_room_lem c.args.d c.args.i c.args.planes.now c.requires.d_le_dimensions c.requires.row_ready in
    record {
      part = plane_part c.args.d c.args.i c.args.planes.now c.requires.d_le_dimensions c.requires.row_ready;
      are_numbers =
          plane_numbers c.args.d c.args.i c.args.planes.now c.requires.d_le_dimensions c.requires.row_ready;
      fits_room = omega (arith, l, c.word-end.ensures.place, r);
    }

pub float-requires : goal.float-requires
float-requires c = let l = put_length c.word-end.ensures in
    let k = put_length c.floats-last.ensures in
    let w = floats_part c.args.planes.now (c.args.i * 5) (c.args.i * 5 + c.args.d) (plane_part c.args.d c.args.i c.args.planes.now c.requires.d_le_dimensions c.requires.row_ready).within in
    let r = plane_room_lem c.args.d c.args.i c.args.planes.now c.requires.d_le_dimensions c.requires.row_ready in
    record { is_number = distance_number c.args.d c.args.i c.args.planes.now c.requires.d_le_dimensions c.requires.row_ready; fits_room = omega (arith, l, c.word-end.ensures.place, k, c.floats-last.ensures.place, w, r) }

pub returns : goal.returns
returns c = plane_put c.args.d c.args.i c.args.planes.now c.requires.d_le_dimensions c.requires.row_ready c.word-end.ensures c.floats-last.ensures c.float.ensures
