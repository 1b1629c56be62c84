-- The bytes of what is left, put behind those that stand in the part, make the number.
use native.Mathlib.Omega.{arith}
use lib.ListN.{length-set}
use borrow.Author.Rules.{rules}
use Rattle.rules.proofs.ByteLaws.{bytes_long}
use Rattle.lent_bytes.proofs.Puts.{put_part, whole_part}
use Rattle.lent_bytes.proofs.Rests.{next_low, no_low}
use Rattle.lent_bytes.proofs.write.number.Goals as goal

pub loop-byte-preserved : goal.loop-byte-preserved
loop-byte-preserved c = record {
  within = search rules;
  long = simp length-set (omega arith);
  rest = next_low c.args.k c.loop-byte.byte-index c.loop-byte.left c.loop-byte.invariant.rest (search rules);
}

pub returns : goal.returns
returns c =
    let long = bytes_long c.args.k c.args.n in
    put_part c.args.room.now c.loop-byte.byte-items _ c.args.at c.args.k _ (search rules) long (omega arith)
    (whole_part (omega (arith, long)) (no_low c.args.k c.loop-byte.byte-index c.loop-byte.left c.loop-byte.invariant.rest (omega arith)))
