-- The question's own reply, in one number.
use Rattle.desk.proofs.ListWords.{edges_fit, fits_as, list_said}
use Rattle.desk.proofs.desk_edges_in_order.Goals as goal

pub list_word-requires : goal.list_word-requires
list_word-requires c = fits_as c.edges_in_order-reply.ensures (edges_fit _ _ _)

pub returns : goal.returns
returns c = list_said _ c.edges_in_order-reply.ensures c.list_word.ensures
