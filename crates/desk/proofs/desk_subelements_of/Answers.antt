-- The question's own reply, in one number.
use Rattle.desk.proofs.ListWords.{sub_fits, fits_as, list_said}
use Rattle.desk.proofs.desk_subelements_of.Goals as goal

pub list_word-requires : goal.list_word-requires
list_word-requires c = fits_as c.subelements_of-reply.ensures (sub_fits _ _ _)

pub returns : goal.returns
returns c = list_said _ c.subelements_of-reply.ensures c.list_word.ensures
