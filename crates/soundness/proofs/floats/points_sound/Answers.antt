-- The rows that are left are sound exactly when all are, until one is not.
use Prim.Native.Nat.{◌*◌}
use mathlib.Core.Path.{sym, ◌∙◌}
use lib.ListN.{drop}
use Rattle.soundness.specs.Words.{point_words, blank_floats}
use Rattle.soundness.proofs.RowLoops.{points_start, row_no, row_go, whole_room, row_end}
use borrow.Author.Rules.{rules}
use Rattle.soundness.proofs.floats.points_sound.Goals as goal

pub loop-i-init : goal.loop-i-init
loop-i-init c = record { bound = search rules; rest = points_start c.args.d c.args.v c.args.points.now }

pub returns-then-not-point_sound : goal.returns-then-not-point_sound
returns-then-not-point_sound c = row_no (point_words c.args.d) 4 c.args.v c.args.points.now (blank_floats (drop (c.args.v * 4) c.args.points.now)) c.loop-i.i c.loop-i.invariant.rest (search rules)
    (sym c.point_sound.ensures ∙ c.if-not-point_sound.true)

pub loop-i-preserved : goal.loop-i-preserved
loop-i-preserved c = record {
  bound = search rules;
  rest = row_go (point_words c.args.d) 4 c.args.v c.args.points.now (blank_floats (drop (c.args.v * 4) c.args.points.now)) c.loop-i.i c.loop-i.invariant.rest (search rules)
      (sym c.point_sound.ensures ∙ c.if-not-point_sound.false);
}

pub returns : goal.returns
returns c = c.blank_floats.ensures ∙ whole_room blank_floats (c.args.v * 4) 1024 c.args.points.now c.requires.long ∙ row_end (point_words c.args.d) 4 c.args.v
    c.args.points.now (blank_floats (drop (c.args.v * 4) c.args.points.now)) c.loop-i.i c.loop-i.invariant.rest (search rules)
