-- The reply of saving, in one number.
use Rattle.desk.proofs.FileWords.{file_fits}
use Rattle.desk.proofs.ListWords.{fits_as, list_said}
use Rattle.desk.proofs.desk_save.Goals as goal

pub list_word-requires : goal.list_word-requires
list_word-requires c = fits_as c.save-reply.ensures (file_fits _ _)

pub returns : goal.returns
returns c = list_said _ c.save-reply.ensures c.list_word.ensures
