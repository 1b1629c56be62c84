-- By which way twice what is left over compares with the unit.
use native.Mathlib.Nat.{mod-le, div-le_self}
use borrow.Author.Rules.{rules}
use Rattle.hypermath.proofs.narrow.rounded.Goals as goal

pub overflow_mul-twice : goal.overflow_mul-twice
overflow_mul-twice c = let h = mod-le c.args.q c.args.unit in search rules

pub overflow_add-result : goal.overflow_add-result
overflow_add-result c = let h = div-le_self c.args.q c.args.unit in search rules

pub overflow_add-result-2 : goal.overflow_add-result-2
overflow_add-result-2 c = let h = div-le_self c.args.q c.args.unit in search rules
