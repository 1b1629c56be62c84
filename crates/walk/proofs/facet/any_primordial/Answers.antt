-- Each test is the rule's own.
use Rattle.std.proofs.Common.{◌<◌, ◌≡◌, ap, ◌∙◌, length, rules, tests}
use Rattle.std.proofs.lemmas.Iterator.{YieldsList-from_slice}
use Rattle.std.proofs.lemmas.Iterator.Search.{any_from_yields_List}
use Rattle.std.proofs.lemmas.Iterator.Adapters.{serves_from_places}
use Rattle.std.proofs.lemmas.Grind.{get_or_default_zero}
use Rattle.rules.specs.Lists.{any}
use Rattle.soundness.proofs.Every.{some}
use Rattle.walk.specs.Facets.{row_primordial}
use Rattle.walk.proofs.Boundaries.{row_long, number_at, number_low}
use Rattle.walk.proofs.facet.any_primordial.Goals as goal

pub any-requires-clause-callable : goal.any-requires-clause-callable
any-requires-clause-callable c = serves_from_places (YieldsList-from_slice c.boundary.result.now cc) (λ x q k. search rules) (λ x k l e.
    let low : x.now < 512 =
    number_low c.args.elements.now c.args.e.0 (length c.boundary.result.now) c.requires (row_long c.args.elements.now c.args.e.0 c.requires _ c.boundary.ensures) k _ l
    (number_at c.args.elements.now c.args.e.0 c.requires _ c.boundary.ensures k _ l (e ∙ get_or_default_zero _ _ _ l)) in
    let long : length c.args.elements.now ≡ 18432 = c.requires.long in
    search (rules, low, long))

pub returns : goal.returns
returns c =
    any_from_yields_List (row_primordial c.args.elements.now) _ _ _ c.any.ensures.ran (YieldsList-from_slice c.boundary.result.now cc) (λ x b q k. search (rules, tests))
    ∙ some (row_primordial c.args.elements.now) c.boundary.result.now
    ∙ ap (any (row_primordial c.args.elements.now)) c.boundary.ensures
