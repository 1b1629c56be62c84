-- The tests of a lent normal, in their order; the code's constants are 1 - T and 1 + T.
use mathlib.Core.Path.{sym, ◌∙◌}
use lib.Ieee
use Rattle.hypermath.proofs.Tests.{unit_not, unit_then, unit_else, joined_then, joined_else}
use Rattle.hypermath.proofs.is_unit.Goals as goal
use Rattle.hypermath.proofs.is_unit.Goals.{then-squares, else-squares}

pub returns-then-not-components_fit : goal.returns-then-not-components_fit
returns-then-not-components_fit c = unit_not c.args.d c.args.normal (sym c.components_fit.ensures ∙ c.if-not-components_fit.true)

pub returns-then-squares-2 : goal.returns-then-squares-2
unfolding lib.Ieee.of_bits lib.Ieee.sub lib.Ieee.add
returns-then-squares-2 c =
    unit_then c.args.d c.args.normal c.dot-squares.result c.if-squares.value _ (sym c.components_fit.ensures ∙ c.if-not-components_fit.false) c.dot-squares.ensures
    (elim c.if-squares.branch [ then-squares w ↦ joined_then _ _ _ w.if-squares.true w.value-is | else-squares w ↦ joined_else _ _ _ w.if-squares.false w.value-is ]) c.if-squares-2.true c.zero_past.ensures

pub returns-else-squares-2 : goal.returns-else-squares-2
unfolding lib.Ieee.of_bits lib.Ieee.sub lib.Ieee.add
returns-else-squares-2 c =
    unit_else c.args.d c.args.normal c.dot-squares.result c.if-squares.value (sym c.components_fit.ensures ∙ c.if-not-components_fit.false) c.dot-squares.ensures
    (elim c.if-squares.branch [ then-squares w ↦ joined_then _ _ _ w.if-squares.true w.value-is | else-squares w ↦ joined_else _ _ _ w.if-squares.false w.value-is ]) c.if-squares-2.false
