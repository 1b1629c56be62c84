-- Each test is the rule's own.
use Prim.Native.Nat.{◌*◌, ◌<◌}
use Rattle.std.proofs.Common.{ℕ, ◌≡◌, ◌∙◌, length, rules, tests}
use Rattle.std.proofs.lemmas.Iterator.{YieldsList-from_slice}
use Rattle.std.proofs.lemmas.Iterator.Search.{all_from_yields_List}
use Rattle.std.proofs.lemmas.Iterator.Adapters.{serves_from_places}
use Rattle.std.proofs.lemmas.Grind.{get_or_default_zero}
use lib.Dec.{eqb}
use lib.ListN.{get_or}
use Rattle.soundness.proofs.Every.{every}
use Rattle.elements.proofs.BelowLoops.{lent_long}
use Rattle.elements.proofs.CommonLoops.{roots_used_at, used_in_room}
use Rattle.elements.proofs.common.all_of_rank.Goals as goal

pub all-requires-clause-callable : goal.all-requires-clause-callable
all-requires-clause-callable c = serves_from_places (YieldsList-from_slice c.args.roots.now cc) (λ x q k. search rules) (λ x k l e.
    let low : x.now < 512 = used_in_room _ _ (roots_used_at _ _ k _ c.requires l (e ∙ get_or_default_zero _ _ _ l)) in
    let long : length c.args.elements.now ≡ 18432 = lent_long _ _ c.requires.lent in
    search (rules, low, long))

pub returns : goal.returns
returns c =
    all_from_yields_List (λ (e : ℕ). eqb (get_or c.args.elements.now (e * 36) 0) c.args.rank) _ _ _ c.all.ensures.ran (YieldsList-from_slice c.args.roots.now cc) (λ x b q k. search (rules, tests))
    ∙ every (λ (e : ℕ). eqb (get_or c.args.elements.now (e * 36) 0) c.args.rank) c.args.roots.now
