-- The reply, in one number; what is named fits, since it is in use.
use Rattle.rules.specs.Replies.{cut_by}
use Rattle.rules.specs.declared.CutParams.{CutParams}
use Rattle.cut.proofs.Names.{names_low}
use Rattle.desk.specs.Words.{divider_with}
use Rattle.desk.proofs.CutWords.{word_refused, word_answered}
use Rattle.desk.proofs.desk_cut.Goals as goal

pub output_word-requires : goal.output_word-requires
output_word-requires c =
    let asked : CutParams =
    cut_by (divider_with c.args.n0 c.args.n1 c.args.n2 c.args.n3 c.args.distance) c.fate-inside.result c.fate-outside.result in
    names_low asked _ _ _ c.cut-reply.ensures _ c.in-Ok.is

pub returns-in-Err : goal.returns-in-Err
returns-in-Err c = word_refused _ _ _ _ _ _ c.cut-reply.ensures c.fate-inside.ensures c.fate-outside.ensures _ _ c.in-Err.is c.refused.ensures.value

pub returns-in-Ok : goal.returns-in-Ok
returns-in-Ok c = word_answered _ _ _ _ _ _ c.cut-reply.ensures c.fate-inside.ensures c.fate-outside.ensures _ _ c.in-Ok.is c.output_word.ensures
