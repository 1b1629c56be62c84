-- Each test is the rule's own.
use Rattle.std.proofs.Common.{◌∙◌, ltb, rules, tests}
use Rattle.std.proofs.lemmas.Iterator.{YieldsList-from_slice}
use Rattle.std.proofs.lemmas.Iterator.Search.{all_from_yields_List}
use Rattle.soundness.proofs.Every.{every}
use Rattle.soundness.proofs.asked.all_used.Goals as goal

pub returns : goal.returns
returns c =
    all_from_yields_List (λ e. ltb e c.args.n) _ _ _ c.all.ensures.ran (YieldsList-from_slice c.args.roots.now cc) (λ x b q k. search (rules, tests))
    ∙ every (λ e. ltb e c.args.n) c.args.roots.now
