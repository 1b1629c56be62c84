-- The sides are those of the signed distances, and with them it is known whether they are opposite.
use mathlib.Core.Path.{sym, ap₂, ◌∙◌}
use Rattle.rules.specs.Floats.{opposite}
use Rattle.hypermath.proofs.Crossings.{crossed, not_crossed}
use Rattle.hypermath.proofs.crossing_of.Goals as goal

pub returns-then-opposed : goal.returns-then-opposed
returns-then-opposed c = crossed _ _ (sym (ap₂ opposite c.requires.first c.requires.second) ∙ sym c.opposed.ensures ∙ c.if-opposed.true)

pub returns : goal.returns
returns c = not_crossed _ _ (sym (ap₂ opposite c.requires.first c.requires.second) ∙ sym c.opposed.ensures ∙ c.if-opposed.false)
