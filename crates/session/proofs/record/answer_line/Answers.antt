-- The two cases of an answer.
use Prim.Native.Nat.{ℕ}
use mathlib.Core.List.{List}
use mathlib.Core.Path.{sym, ap, subst}
use lib.ListN.{drop}
use Rattle.rules.specs.Limits.{desk}
use Rattle.rules.specs.declared.ElementCutOutput.{ElementCutOutput}
use Rattle.rules.specs.Session.{text, output_text}
use Rattle.rules.specs.Promises.{NamesBelow}
use Rattle.lent_bytes.proofs.Puts.{put_as}
use Rattle.session.proofs.record.answer_line.Goals as goal

abbrev line : ElementCutOutput → List ℕ → List ℕ
line a counts = text (output_text a (drop 1 counts))

pub cut-requires : goal.cut-requires
cut-requires c = let names = subst (NamesBelow desk.elements) c.in-NonFlush.is c.requires.names in
    record { inside = names.0; outside = names.1; intersection = names.2; counts = c.requires.counts; room = c.requires.room }

pub returns-in-Flush : goal.returns-in-Flush
returns-in-Flush c = put_as (sym (ap (λ (a : ElementCutOutput). line a c.args.counts.now) c.in-Flush.is)) c.counted.ensures

pub returns-in-NonFlush : goal.returns-in-NonFlush
returns-in-NonFlush c = put_as (sym (ap (λ (a : ElementCutOutput). line a c.args.counts.now) c.in-NonFlush.is)) c.cut.ensures
