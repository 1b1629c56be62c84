-- The machine's shift of 1 is the mark's digit.
use Prim.Native.Nat.{◌%◌}
use native.Mathlib.Nat.{mod-lt}
use native.Mathlib.Omega.{arith}
use Rattle.elements.specs.Marks.{marking}
use Rattle.elements.proofs.MarkLaws.{shifted}
use Rattle.elements.proofs.marks.Marks.mark.Goals as goal

pub returns : goal.returns
unfolding marking
returns c = rw (shifted (c.args.e.0 % 64) (mod-lt c.args.e.0 (omega arith)))
