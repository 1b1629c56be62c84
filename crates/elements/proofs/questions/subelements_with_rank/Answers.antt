-- The refusals in their order; then the numbers of the marks are the sub-elements of the rank.
use Rattle.std.proofs.lemmas.Result.{err_from_is_err_and}
use Rattle.elements.specs.Marks.{marked_numbers}
use Rattle.elements.proofs.RankLoops.{with_rank_marked}
use Rattle.elements.proofs.QuestionReplies.{with_rank_lem, root_refused, root_used, root_answered}
use Rattle.elements.proofs.questions.subelements_with_rank.Goals as goal

pub returns-in_err-root_asked : goal.returns-in_err-root_asked
returns-in_err-root_asked c = let x = err_from_is_err_and c.from_residual.result c.from_residual.ensures.1 in
    rw (x.1, x.2) (root_refused _ _ _ _ _ _ c.root_asked.ensures (with_rank_lem c.args.rank) _ _ c.in_err-root_asked.was)

pub level-some-requires : goal.level-some-requires
level-some-requires c = root_used _ _ _ _ _ _ c.root_asked.ensures c.in_ok-root_asked.was

pub returns : goal.returns
returns c = root_answered _ _ _ _ _ _ c.root_asked.ensures c.in_ok-root_asked.was (with_rank_lem c.args.rank) _ (marked_numbers c.level-some.result.words) _ c.list_marks.ensures
    (λ t l u. with_rank_marked _ t l _ u _ _ c.level-some.ensures)
