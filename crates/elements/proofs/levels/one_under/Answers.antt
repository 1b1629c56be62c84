-- The boundaries of the words that are left are to come.
use native.Mathlib.Omega.{arith}
use Rattle.elements.proofs.LevelLoops.{passed_start, word_ready, passed_next, passed_end}
use borrow.Author.Rules.{rules}
use Rattle.elements.proofs.levels.one_under.Goals as goal

pub loop-w-init : goal.loop-w-init
loop-w-init c = record { so_far = search rules; long = search rules; words = search rules; none_yet = c.none-marks.ensures; ready = c.requires; passed = passed_start _ _ _ }

pub mark_under_word-requires : goal.mark_under_word-requires
mark_under_word-requires c = word_ready _ _ _ (search rules) c.loop-w.invariant.ready

pub loop-w-preserved : goal.loop-w-preserved
loop-w-preserved c = record {
  so_far = search rules;
  long = c.loop-w.invariant.long;
  words = c.loop-w.invariant.words;
  none_yet = c.loop-w.invariant.none_yet;
  ready = c.loop-w.invariant.ready;
  passed = passed_next _ _ _ _ _ c.loop-w.invariant.passed _ (search rules) c.mark_under_word.ensures;
}

pub returns : goal.returns
returns c = passed_end _ _ _ _ _ c.loop-w.invariant.passed (omega arith) c.loop-w.invariant.words c.loop-w.invariant.none_yet c.loop-w.invariant.ready
