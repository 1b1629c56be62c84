-- The tests taken are those of the definition, and the code's constants are T and 16 T.
use mathlib.Core.Path.{sym, ◌∙◌}
use lib.Ieee
use Rattle.hypermath.proofs.Tests.{on_it, inside_it, outside_it}
use Rattle.hypermath.proofs.side_of.Goals as goal

pub returns-then-is_within : goal.returns-then-is_within
unfolding lib.Ieee.of_bits
returns-then-is_within c = on_it c.args.s (sym c.is_within.ensures ∙ c.if-is_within.true)

pub returns-then-s : goal.returns-then-s
unfolding lib.Ieee.of_bits
returns-then-s c = inside_it c.args.s _ (sym c.is_within.ensures ∙ c.if-is_within.false) c.is_within-warning.ensures c.if-s.true

pub returns : goal.returns
unfolding lib.Ieee.of_bits
returns c = outside_it c.args.s _ (sym c.is_within.ensures ∙ c.if-is_within.false) c.is_within-warning.ensures c.if-s.false
