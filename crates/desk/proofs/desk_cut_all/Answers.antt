-- The list's own reply, in one number.
use Rattle.desk.proofs.CutListWords.{written_low, list_said}
use Rattle.desk.proofs.desk_cut_all.Goals as goal

pub written_word-requires : goal.written_word-requires
written_word-requires c = written_low _ _ _ c.cut_all-reply.ensures

pub returns : goal.returns
returns c = list_said _ _ _ c.cut_all-reply.ensures c.written_word.ensures
