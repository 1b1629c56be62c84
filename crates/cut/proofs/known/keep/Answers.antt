-- A refusal leaves the words; an answer is written.
use Rattle.std.proofs.lemmas.Result.{err_from_is_err_and}
use Rattle.cut.proofs.Words.{reply_refused, reply_answered, asked_refused, asked_done, reply_room}
use Rattle.cut.proofs.known.keep.Goals as goal

pub keep_answer-requires : goal.keep_answer-requires
keep_answer-requires c = record { low = c.requires.low; room = reply_room _ _ c.in_ok-reply.was c.requires.room }

pub returns-in_err-reply : goal.returns-in_err-reply
returns-in_err-reply c = let x = err_from_is_err_and c.from_residual.result c.from_residual.ensures.1 in
    rw (x.1, x.2) record { asked = asked_refused _ _ c.in_err-reply.was; words = reply_refused _ _ _ _ c.in_err-reply.was }

pub returns : goal.returns
returns c = record { asked = asked_done _ _ c.in_ok-reply.was; words = reply_answered _ _ _ _ _ c.in_ok-reply.was c.keep_answer.ensures }
