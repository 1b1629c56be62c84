-- Each test is the rule's own.
use Rattle.std.proofs.Common.{ap, ◌∙◌, rules, tests}
use Rattle.std.specs.List.{between}
use Rattle.std.proofs.lemmas.Iterator.{YieldsList-from_slice}
use Rattle.std.proofs.lemmas.Iterator.Search.{all_from_yields_List}
use Rattle.std.proofs.lemmas.Slice.{between_is}
use lib.Ieee.{of_bits}
use Rattle.rules.specs.Floats.{within, farthest}
use Rattle.rules.specs.Lists.{all}
use Rattle.soundness.proofs.Every.{every}
use Rattle.soundness.proofs.floats.coordinates_fit.Goals as goal

pub returns : goal.returns
unfolding of_bits
returns c =
    all_from_yields_List (within farthest) _ _ _ c.all.ensures.ran (YieldsList-from_slice (between c.args.from c.args.to c.args.list.now) cc) (λ x b q k. search (rules, tests))
    ∙ every (within farthest) (between c.args.from c.args.to c.args.list.now)
    ∙ ap (all (within farthest)) (between_is c.args.list.now c.args.from c.args.to)
