-- The rows that are left are sound exactly when all are, until one is not.
use Prim.Native.Nat.{◌*◌}
use mathlib.Core.Path.{sym, ◌∙◌}
use lib.ListN.{drop}
use Rattle.rules.specs.Limits.{desk}
use Rattle.soundness.specs.Words.{plane_words, blank_floats}
use Rattle.soundness.proofs.PlaneLoops.{planes_start}
use Rattle.soundness.proofs.RowLoops.{row_no, row_go, whole_room, row_end}
use borrow.Author.Rules.{rules}
use Rattle.soundness.proofs.floats.planes_sound.Goals as goal

pub loop-i-init : goal.loop-i-init
loop-i-init c = record { bound = search rules; rest = planes_start c.args.d c.args.h c.args.planes.now }

pub returns-then-not-plane_sound : goal.returns-then-not-plane_sound
returns-then-not-plane_sound c = row_no (plane_words desk c.args.d) 5 c.args.h c.args.planes.now (blank_floats (drop (c.args.h * 5) c.args.planes.now)) c.loop-i.i c.loop-i.invariant.rest (search rules)
    (sym c.plane_sound.ensures ∙ c.if-not-plane_sound.true)

pub loop-i-preserved : goal.loop-i-preserved
loop-i-preserved c = record {
  bound = search rules;
  rest = row_go (plane_words desk c.args.d) 5 c.args.h c.args.planes.now (blank_floats (drop (c.args.h * 5) c.args.planes.now)) c.loop-i.i c.loop-i.invariant.rest (search rules)
      (sym c.plane_sound.ensures ∙ c.if-not-plane_sound.false);
}

pub returns : goal.returns
returns c = c.blank_floats.ensures ∙ whole_room blank_floats (c.args.h * 5) 320 c.args.planes.now c.requires.long ∙ row_end (plane_words desk c.args.d) 5
    c.args.h c.args.planes.now (blank_floats (drop (c.args.h * 5) c.args.planes.now)) c.loop-i.i c.loop-i.invariant.rest (search rules)
