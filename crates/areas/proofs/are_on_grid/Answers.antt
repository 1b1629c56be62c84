-- Each test is the rule's own.
use Rattle.std.proofs.Common.{sym, ◌∙◌, subst, rules, tests}
use Rattle.std.proofs.lemmas.Iterator.{YieldsList-from_slice}
use Rattle.std.proofs.lemmas.Iterator.Search.{all_from_yields_List}
use Rattle.std.proofs.lemmas.Iterator.Adapters.{serves_from_places}
use Rattle.std.proofs.lemmas.Grind.{get_or_default_zero}
use Rattle.soundness.proofs.Every.{every}
use Rattle.areas.specs.Words.{words_on_grid, PieceFits}
use Rattle.areas.proofs.are_on_grid.Goals as goal

pub all-requires-clause-callable : goal.all-requires-clause-callable
all-requires-clause-callable c = serves_from_places (YieldsList-from_slice c.args.pieces.now cc) (λ x q k. search rules)
    (λ x k l e. let h : PieceFits c.args.points.now c.args.elements.now x.now = subst (PieceFits _ _) (sym (e ∙ get_or_default_zero _ _ _ l)) (c.requires.each k l) in
    search (rules, h))

pub returns : goal.returns
returns c =
    all_from_yields_List (words_on_grid c.args.points.now c.args.elements.now) _ _ _ c.all.ensures.ran (YieldsList-from_slice c.args.pieces.now cc) (λ x b q k. search (rules, tests))
    ∙ every (words_on_grid c.args.points.now c.args.elements.now) c.args.pieces.now
