-- All words are blank exactly when no bit of them has been seen and the words that are left are.
use mathlib.Core.Path.{refl, ap, ◌∙◌}
use lib.Dec.{eqb}
use Rattle.soundness.proofs.Unseen.{eq_turned, unseen_go, unseen_end}
use borrow.Author.Rules.{rules}
use Rattle.std.proofs.lemmas.Slice.{between_is}
use Rattle.soundness.specs.Words.{blank_words}
use Rattle.soundness.proofs.sound.blank_words.Goals as goal

pub loop-word-init : goal.loop-word-init
loop-word-init c = record { within = search rules; same = refl }

pub loop-word-preserved : goal.loop-word-preserved
loop-word-preserved c = record {
  within = search rules;
  same = unseen_go (eqb 0) 0 _ c.loop-word.seen _ c.loop-word.word-index c.loop-word.invariant.same (search rules) (eq_turned 0 _);
}

pub returns : goal.returns
returns c = unseen_end (eqb 0) 0 _ c.loop-word.seen c.loop-word.word-index c.loop-word.invariant.same (search rules)
    ∙ ap blank_words (between_is c.args.list.now c.args.from c.args.to)
