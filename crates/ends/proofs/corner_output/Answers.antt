-- The three sides are the three clauses of the rule.
use mathlib.Core.Path.{sym, ap}
use Rattle.rules.specs.Cut.{corner_output}
use Rattle.ends.proofs.corner_output.Goals as goal

pub returns-in-Inside : goal.returns-in-Inside
returns-in-Inside c = ap (corner_output c.args.e.0) (sym c.in-Inside.is)

pub returns-in-On : goal.returns-in-On
returns-in-On c = ap (corner_output c.args.e.0) (sym c.in-On.is)

pub returns-in-Outside : goal.returns-in-Outside
returns-in-Outside c = ap (corner_output c.args.e.0) (sym c.in-Outside.is)
