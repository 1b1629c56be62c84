-- The question's own reply, in one number; a rank that no byte holds is asked as 255, which nobody has either.
use Rattle.desk.proofs.ListWords.{rank_fits, fits_as, list_said}
use Rattle.desk.proofs.RankWords.{byte_asked}
use Rattle.desk.proofs.desk_subelements_with_rank.Goals as goal

pub list_word-requires : goal.list_word-requires
list_word-requires c = fits_as c.subelements_with_rank-reply.ensures (rank_fits _ _ _ _)

pub returns : goal.returns
returns c = list_said _ (byte_asked _ _ _ _ _ c.rank_byte-rank.ensures c.subelements_with_rank-reply.ensures) c.list_word.ensures
