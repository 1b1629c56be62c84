-- The question's own reply, in one number.
use Rattle.desk.proofs.ListWords.{vertices_fit, fits_as, list_said}
use Rattle.desk.proofs.desk_vertex_set.Goals as goal

pub list_word-requires : goal.list_word-requires
list_word-requires c = fits_as c.vertex_set-reply.ensures (vertices_fit _ _ _)

pub returns : goal.returns
returns c = list_said _ c.vertex_set-reply.ensures c.list_word.ensures
