-- The output is by the side of the test.
use mathlib.Core.Path.{ap, ◌∙◌}
use Rattle.rules.specs.Cut.{corner_output}
use Rattle.rules.specs.declared.SideTest.{SideTest}
use Rattle.ends.proofs.end_output.Goals as goal

pub returns : goal.returns
returns c = c.corner_output.ensures ∙ ap (λ (x : SideTest). corner_output c.args.e.0 x.side) c.side_of-test.ensures
