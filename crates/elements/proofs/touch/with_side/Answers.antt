-- One case for each side.
use mathlib.Core.Path.{sym, ap}
use Rattle.elements.specs.Touches.{with_side}
use Rattle.elements.proofs.touch.with_side.Goals as goal

pub returns-in-Inside : goal.returns-in-Inside
returns-in-Inside c = ap (with_side c.args.s) (sym c.in-Inside.is)

pub returns-in-On : goal.returns-in-On
returns-in-On c = ap (with_side c.args.s) (sym c.in-On.is)

pub returns-in-Outside : goal.returns-in-Outside
returns-in-Outside c = ap (with_side c.args.s) (sym c.in-Outside.is)
