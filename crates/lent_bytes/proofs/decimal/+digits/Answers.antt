-- The digits of a tenth, then the last one.
use mathlib.Core.Path.{sym, ap}
use native.Mathlib.Omega.{arith}
use lib.ListN.{length}
use borrow.Author.Rules.{rules}
use Rattle.lent_bytes.proofs.Decimals.{below_ten, from_ten, one_more_lem}
use Rattle.lent_bytes.proofs.Puts.{put_one, put_as, put_length, then}
use Rattle.lent_bytes.proofs.decimal.+digits.Goals as goal

pub bounds-room-at : goal.bounds-room-at
bounds-room-at t c = let q = ap length (below_ten c.args.n (omega arith)) in omega (arith, q)

pub returns-then-n-lt10 : goal.returns-then-n-lt10
returns-then-n-lt10 t c = put_as (sym (below_ten c.args.n (omega arith))) (put_one _ _ _)

pub digits-end-requires : goal.digits-end-requires
digits-end-requires t c = let q = one_more_lem c.args.n (omega arith) in (omega arith, omega (arith, q))

pub bounds-room-end : goal.bounds-room-end
bounds-room-end t c =
    let q = one_more_lem c.args.n (omega arith) in
    let l = put_length c.digits-end.ensures in
    let e = c.digits-end.ensures.place in omega (arith, q, l, e)

pub overflow_add-result-2 : goal.overflow_add-result-2
overflow_add-result-2 t c = let h = bounds-room-end t c in search (rules, h)

pub returns : goal.returns
returns t c = put_as (sym (from_ten c.args.n (omega arith))) (then c.digits-end.ensures (put_one _ _ _))
