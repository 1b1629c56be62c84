-- By the two tests.
use mathlib.Core.Path.{sym, ◌∙◌}
use Rattle.elements.proofs.RankLoops.{not_marked, other_rank, this_rank}
use Rattle.elements.proofs.ranks.add_ranked.Goals as goal

pub returns-then-not-has : goal.returns-then-not-has
returns-then-not-has c = not_marked _ _ _ _ _ (sym c.has.ensures ∙ c.if-not-has.true)

pub returns-then-rank_of-rank : goal.returns-then-rank_of-rank
returns-then-rank_of-rank c = other_rank _ _ _ _ _ (sym c.has.ensures ∙ c.if-not-has.false) (λ q. c.if-rank_of-rank.true (c.rank_of.ensures ∙ q))

pub returns : goal.returns
returns c = let m = sym c.has.ensures ∙ c.if-not-has.false in
    c.mark.ensures ∙ this_rank _ _ _ _ _ m (sym c.rank_of.ensures ∙ c.if-rank_of-rank.false)
