-- The part is the bytes.
use mathlib.Core.Path.{refl}
use native.Mathlib.Omega.{arith}
use Rattle.lent_bytes.proofs.Puts.{put_part}
use Rattle.lent_bytes.proofs.write.word.Goals as goal

pub returns : goal.returns
returns c = put_part c.args.room.now c.copy_from_slice.new.self c.args.bytes.now c.args.at _ _ c.requires refl (omega arith) c.copy_from_slice.ensures.after
