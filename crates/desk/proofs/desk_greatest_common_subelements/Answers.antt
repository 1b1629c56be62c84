-- The question's own reply, in one number.
use Rattle.desk.proofs.ListWords.{common_fits, fits_as, list_said}
use Rattle.desk.proofs.desk_greatest_common_subelements.Goals as goal

pub list_word-requires : goal.list_word-requires
list_word-requires c = fits_as c.greatest_common_subelements-reply.ensures (common_fits _ _ _)

pub returns : goal.returns
returns c = list_said _ c.greatest_common_subelements-reply.ensures c.list_word.ensures
