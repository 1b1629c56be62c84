-- The reply of printing, in one number.
use Rattle.desk.proofs.PrintWords.{print_fits}
use Rattle.desk.proofs.ListWords.{fits_as, list_said}
use Rattle.desk.proofs.desk_stl.Goals as goal

pub list_word-requires : goal.list_word-requires
list_word-requires c = fits_as c.stl-reply.ensures (print_fits _ _ _)

pub returns : goal.returns
returns c = list_said _ c.stl-reply.ensures c.list_word.ensures
