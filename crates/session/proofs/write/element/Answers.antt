-- The two cases of an element or none.
use mathlib.Core.Path.{sym, ap}
use Rattle.rules.specs.Session.{place}
use Rattle.lent_bytes.proofs.Puts.{put_as}
use Rattle.session.proofs.write.element.Goals as goal

pub returns-in-None : goal.returns-in-None
returns-in-None c = put_as (sym (ap place c.in-None.is)) c.word.ensures

pub returns-in-Some : goal.returns-in-Some
returns-in-Some c = put_as (sym (ap place c.in-Some.is)) c.spaced_number.ensures
