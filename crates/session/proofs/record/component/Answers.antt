-- Within the dimension the float is read, past it zero is zero bits.
use Prim.Native.Nat.{suc}
use mathlib.Core.Path.{sym, ◌∙◌}
use native.Mathlib.Omega.{arith}
use Rattle.rules.proofs.Laws.{if_true, if_false, test_le, test_above}
use Rattle.session.proofs.Records.{zero_is}
use Rattle.session.proofs.record.component.Goals as goal

pub returns-then-axis-d : goal.returns-then-axis-d
returns-then-axis-d c = c.float.ensures ∙ sym (if_true _ _ _ (test_le (suc c.args.axis) c.args.d (omega arith)))

pub returns : goal.returns
returns c = zero_is ∙ sym (if_false _ _ _ (test_above (suc c.args.axis) c.args.d (omega arith)))
