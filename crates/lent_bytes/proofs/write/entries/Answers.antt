-- The entries that are left, put behind those that stand there, make all of them.
use Rattle.std.proofs.Common.{ap, ◌∙◌, arith, rules}
use Rattle.std.proofs.Math.Nat.{suc-mul}
use Rattle.rules.proofs.ByteLaws.{bytes_long}
use Rattle.lent_bytes.proofs.Puts.{put_length}
use Rattle.lent_bytes.proofs.Rests.{next_entry}
use Rattle.lent_bytes.proofs.write.entries.Goals as goal

pub loop-x-preserved : goal.loop-x-preserved
loop-x-preserved g c = record {
  within = search rules;
  place = (let b = bytes_long c.args.k c.bits.result in let p = c.number-end.ensures.place in let s = suc-mul c.loop-x.x-index c.args.k in omega (arith, b, p, s));
  long = put_length c.number-end.ensures ∙ c.loop-x.invariant.long;
  rest = λ f h. next_entry f c.args.list.now c.loop-x.x-index (c.loop-x.invariant.rest f h) c.x-item.result (search rules)
      (h _ _ c.bits.ensures ∙ ap f c.x-item.is) c.number-end.ensures;
}
