-- The words before w are of both, those from w on as they came.
use native.Mathlib.Omega.{arith}
use Rattle.elements.proofs.CommonLoops.{meeting_start, meeting_next, meeting_end}
use borrow.Author.Rules.{rules}
use Rattle.elements.proofs.marks.Marks.both.Goals as goal

pub loop-w-init : goal.loop-w-init
loop-w-init c = record { so_far = search rules; old_long = search rules; long = search rules; other_long = search rules; meeting = meeting_start _ _ (search rules) }

pub loop-w-preserved : goal.loop-w-preserved
loop-w-preserved c = record {
  so_far = search rules;
  old_long = search rules;
  long = search rules;
  other_long = search rules;
  meeting = meeting_next _ _ _ _ (search rules) c.loop-w.invariant.meeting;
}

pub returns : goal.returns
returns c = meeting_end _ _ _ _ (omega arith) c.loop-w.invariant.old_long c.loop-w.invariant.meeting
