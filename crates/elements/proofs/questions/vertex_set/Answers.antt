-- The refusals in their order; then what the vertex elements name is the vertex set.
use Rattle.std.proofs.lemmas.Result.{err_from_is_err_and}
use mathlib.Core.List.{map}
use Rattle.elements.specs.Marks.{marked_numbers}
use Rattle.elements.specs.Ranks.{vertex_word}
use Rattle.elements.proofs.BelowLoops.{lent_long}
use Rattle.elements.proofs.RankLoops.{vertices_named}
use Rattle.elements.proofs.QuestionReplies.{vertices, root_refused, root_used, root_answered}
use Rattle.elements.proofs.questions.vertex_set.Goals as goal

pub returns-in_err-root_asked : goal.returns-in_err-root_asked
returns-in_err-root_asked c = let x = err_from_is_err_and c.from_residual.result c.from_residual.ensures.1 in
    rw (x.1, x.2) (root_refused _ _ _ _ _ _ c.root_asked.ensures vertices _ _ c.in_err-root_asked.was)

pub level-corners-requires : goal.level-corners-requires
level-corners-requires c = root_used _ _ _ _ _ _ c.root_asked.ensures c.in_ok-root_asked.was

pub list_vertices-requires : goal.list_vertices-requires
list_vertices-requires c = lent_long _ _ (root_used _ _ _ _ _ _ c.root_asked.ensures c.in_ok-root_asked.was).lent

pub returns : goal.returns
returns c = let names = map (vertex_word c.args.memory.elements.now) (marked_numbers c.level-corners.result.words) in
    root_answered _ _ _ _ _ _ c.root_asked.ensures c.in_ok-root_asked.was vertices _ names _ c.list_vertices.ensures
    (λ t l u. vertices_named _ t l _ u _ c.level-corners.ensures)
