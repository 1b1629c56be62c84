-- A list with nothing in it has 0 everywhere.
use mathlib.Core.Path.{sym}
use native.Mathlib.Omega.{arith}
use lib.ListN.{get_or-eq_default}
use lib.Dec.{lit≤}
use Rattle.session.proofs.record.dimension_of.Goals as goal

pub returns-then-counts-eq0 : goal.returns-then-counts-eq0
returns-then-counts-eq0 c = record { value = sym (get_or-eq_default c.args.counts.now 0 {n = 0} (omega arith)); bound = lit≤ tt }
