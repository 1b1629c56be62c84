-- Four ways: more than one flush answer, exactly one, and without one the intersection refused or known.
use Rattle.std.proofs.lemmas.Result.{err_from_is_err_and}
use mathlib.Core.Path.{refl}
use Rattle.gathered.proofs.Answering.{rule6_flush, flush_ready, rule6_one, intersection_ready, intersection_refused, intersection_known, rule6_none}
use Rattle.gathered.proofs.answer.rule6.Goals as goal

pub returns-then-flushes-gt1 : goal.returns-then-flushes-gt1
returns-then-flushes-gt1 c = rule6_flush c.if-flushes-gt1.true c.requires

pub rule7-requires : goal.rule7-requires
rule7-requires c = flush_ready c.if-flushes-eq1.true _ refl c.requires

pub returns-then-flushes-eq1 : goal.returns-then-flushes-eq1
returns-then-flushes-eq1 c = rule6_one c.if-flushes-eq1.true _ refl c.rule7.ensures

pub new_intersection-requires : goal.new_intersection-requires
new_intersection-requires c = intersection_ready c.requires

pub returns-in_err-x : goal.returns-in_err-x
returns-in_err-x c = let x = err_from_is_err_and c.from_residual.result c.from_residual.ensures.1 in
    rw (x.1, x.2) (intersection_refused c.if-flushes-gt1.false c.if-flushes-eq1.false c.new_intersection.ensures c.requires _ c.in_err-x.was)

pub rule7-requires-2 : goal.rule7-requires-2
rule7-requires-2 c = intersection_known c.if-flushes-gt1.false c.if-flushes-eq1.false c.new_intersection.ensures _ c.in_ok-x.was c.requires

pub returns : goal.returns
returns c = rule6_none c.if-flushes-gt1.false c.if-flushes-eq1.false c.new_intersection.ensures _ c.in_ok-x.was c.rule7-2.ensures
