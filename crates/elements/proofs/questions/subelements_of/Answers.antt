-- The refusals in their order; then the numbers of the marks are the sub_elements.
use Rattle.std.proofs.lemmas.Result.{err_from_is_err_and}
use Rattle.elements.specs.Marks.{marked_numbers}
use Rattle.elements.proofs.BelowLoops.{sub_elements_marked}
use Rattle.elements.proofs.QuestionReplies.{sub_elements_lem, root_refused, root_used, root_answered}
use Rattle.elements.proofs.questions.subelements_of.Goals as goal

pub returns-in_err-root_asked : goal.returns-in_err-root_asked
returns-in_err-root_asked c = let x = err_from_is_err_and c.from_residual.result c.from_residual.ensures.1 in
    rw (x.1, x.2) (root_refused _ _ _ _ _ _ c.root_asked.ensures sub_elements_lem _ _ c.in_err-root_asked.was)

pub below-s-requires : goal.below-s-requires
below-s-requires c = root_used _ _ _ _ _ _ c.root_asked.ensures c.in_ok-root_asked.was

pub returns : goal.returns
returns c = root_answered _ _ _ _ _ _ c.root_asked.ensures c.in_ok-root_asked.was sub_elements_lem _ (marked_numbers c.below-s.result.words) _ c.list_marks.ensures
    (λ t l u. sub_elements_marked _ t _ _ l u c.below-s.ensures)
