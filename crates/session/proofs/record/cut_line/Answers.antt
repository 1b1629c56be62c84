-- The two cases of a reply.
use mathlib.Core.Path.{sym, ap, subst}
use lib.ListN.{drop}
use Rattle.rules.specs.Session.{text, cut_text}
use Rattle.session.specs.Written.{LineFits}
use Rattle.lent_bytes.proofs.Puts.{put_as}
use Rattle.session.proofs.record.cut_line.Goals as goal
use Rattle.rules.specs.Refusals.{Reply}
use Rattle.rules.specs.declared.ElementAnswer.{ElementAnswer}

pub answer_line-requires : goal.answer_line-requires
answer_line-requires c = let fits = subst (λ (r : Reply ElementAnswer). LineFits r c.args.counts.now) c.in-Ok.is c.requires.fits in
    record { names = fits.names; counts = fits.counts; room = c.requires.room }

pub returns-in-Err : goal.returns-in-Err
returns-in-Err c = put_as (sym (ap (λ (r : Reply ElementAnswer). text (cut_text r (drop 1 c.args.counts.now))) c.in-Err.is)) c.refused.ensures

pub returns-in-Ok : goal.returns-in-Ok
returns-in-Ok c = put_as (sym (ap (λ (r : Reply ElementAnswer). text (cut_text r (drop 1 c.args.counts.now))) c.in-Ok.is)) c.answer_line.ensures

pub refused-requires : goal.refused-requires
refused-requires c = c.requires.room
