-- The sheet's own reply, in one number.
use Rattle.desk.proofs.AreaWords.{sheet_fits}
use Rattle.desk.proofs.ListWords.{fits_as, list_said}
use Rattle.desk.proofs.desk_areas.Goals as goal

pub list_word-requires : goal.list_word-requires
list_word-requires c = fits_as c.areas-reply.ensures (sheet_fits _ _ _)

pub returns : goal.returns
returns c = list_said _ c.areas-reply.ensures c.list_word.ensures
