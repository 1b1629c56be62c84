-- Two digits of a corner, two ends.
use Rattle.std.specs.Prelude.{if◌then◌else◌}
use mathlib.Core.Path.{sym, ap}
use mathlib.Core.Bool.{Bool}
use lib.Ieee.{neg}
use Rattle.rules.proofs.Laws.{not_eq, test_eq}
use Rattle.cube.proofs.coordinate_at.Goals as goal

pub returns-then-k-eq0 : goal.returns-then-k-eq0
returns-then-k-eq0 c = ap (λ (b : Bool). if b then neg c.args.radius else c.args.radius) (sym (test_eq _ 0 c.if-k-eq0.true))

pub returns : goal.returns
returns c = ap (λ (b : Bool). if b then neg c.args.radius else c.args.radius) (sym (not_eq _ 0 c.if-k-eq0.false))
