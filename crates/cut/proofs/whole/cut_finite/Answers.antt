-- What was tried is the reply, or is taken back.
use native.Mathlib.Omega.{arith}
use Rattle.cut.proofs.WholeCuts.{counts_ready, whole_asks, whole_refused, whole_done}
use Rattle.cut.proofs.whole.cut_finite.Goals as goal

pub bounds-counts-1 : goal.bounds-counts-1
bounds-counts-1 c = omega (arith, counts_ready c.requires)

pub bounds-counts-2 : goal.bounds-counts-2
bounds-counts-2 c = omega (arith, counts_ready c.requires)

pub bounds-counts-3 : goal.bounds-counts-3
bounds-counts-3 c = omega (arith, counts_ready c.requires)

pub cut_named-requires : goal.cut_named-requires
cut_named-requires c = c.requires

pub restore-requires : goal.restore-requires
restore-requires c = whole_asks c.cut_named.ensures _ c.in-Err.is c.requires

pub returns-in-Err : goal.returns-in-Err
returns-in-Err c = whole_refused c.cut_named.ensures _ c.in-Err.is c.restore.ensures

pub returns-in-Ok : goal.returns-in-Ok
returns-in-Ok c = whole_done c.cut_named.ensures _ c.in-Ok.is
