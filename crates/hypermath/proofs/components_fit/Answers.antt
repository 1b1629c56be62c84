-- The chain asks all of the components of the dimension.
use mathlib.Core.Path.{ap, ◌∙◌}
use Rattle.std.proofs.Common.{rules, tests}
use Rattle.std.proofs.lemmas.Iterator.{YieldsList-from_slice}
use Rattle.std.proofs.lemmas.Iterator.Search.{all_from_yields_List}
use lib.Ieee
use Rattle.rules.specs.Lists.{all}
use Rattle.rules.specs.Floats.{within, one}
use Rattle.hypermath.proofs.Chains.{all_is}
use Rattle.hypermath.proofs.components_fit.Goals as goal

pub returns : goal.returns
unfolding lib.Ieee.of_bits
returns c = let whole = all_from_yields_List (within one) _ _ c.all.result c.all.ensures.ran (YieldsList-from_slice _ c.iter.ensures.rest) (λ x b q k. search (rules, tests)) in
    whole ∙ all_is (within one) _ ∙ ap (all (within one)) (c.axes_of-n.ensures.front _ (search rules))
