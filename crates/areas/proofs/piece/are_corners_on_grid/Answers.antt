-- Each test is the rule's own.
use Rattle.std.proofs.Common.{◌<◌, take, sym, ◌∙◌, subst, le_trans, le_of_eq, length-take-le, get_or-take, rules, tests}
use Rattle.std.proofs.lemmas.Iterator.{YieldsList-from_slice}
use Rattle.std.proofs.lemmas.Iterator.Search.{all_from_yields_List}
use Rattle.std.proofs.lemmas.Iterator.Adapters.{serves_from_places}
use Rattle.std.proofs.lemmas.Grind.{get_or_default_zero}
use Rattle.soundness.proofs.Every.{every}
use Rattle.areas.specs.Words.{corner_on_grid, CornerFits}
use Rattle.areas.proofs.piece.are_corners_on_grid.Goals as goal

pub all-requires-clause-callable : goal.all-requires-clause-callable
all-requires-clause-callable c = serves_from_places (YieldsList-from_slice (take c.args.n c.args.list.now) cc) (λ x q k. search rules) (λ x k l e.
    let few : k < c.args.n = le_trans l (le_of_eq (length-take-le c.args.n c.args.list.now c.requires.long)) in
    let h : CornerFits c.args.points.now x.now = subst (CornerFits _) (sym (e ∙ get_or_default_zero _ _ _ l ∙ get_or-take c.args.n c.args.list.now k 0 few)) (c.requires.each k few) in
    search (rules, h))

pub returns : goal.returns
returns c =
    all_from_yields_List (corner_on_grid c.args.points.now) _ _ _ c.all.ensures.ran (YieldsList-from_slice (take c.args.n c.args.list.now) cc) (λ x b q k. search (rules, tests))
    ∙ every (corner_on_grid c.args.points.now) (take c.args.n c.args.list.now)
