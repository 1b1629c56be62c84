-- The answer is read off the tests that were taken.
use Prim.Native.Nat.{◌*◌}
use mathlib.Core.Path.{sym, ◌∙◌, refl}
use mathlib.Core.Bool.{false, true, false≢true}
use Rattle.soundness.proofs.ElementLoops.{rows_both}
use Rattle.soundness.proofs.RowLoops.{whole_room}
use Rattle.soundness.specs.Words.{blank_words}
use Rattle.soundness.proofs.sound.rows_along.Goals as goal

pub returns-then-not-rows_in_use : goal.returns-then-not-rows_in_use
returns-then-not-rows_in_use c = record {
  told = rows_both c.args.d c.args.n c.args.v c.args.h c.args.elements.now false _ (sym c.rows_in_use.ensures.told ∙ c.if-not-rows_in_use.true) refl;
  indexed = λ t. absurd (false≢true t);
  read = c.rows_in_use.ensures.read;
}

pub returns : goal.returns
returns c = let yes = c.if-not-rows_in_use.false in
    record {
      told = rows_both c.args.d c.args.n c.args.v c.args.h c.args.elements.now true _ (sym c.rows_in_use.ensures.told ∙ yes)
          (sym (c.blank_words.ensures ∙ whole_room blank_words (c.args.n * 36) 18432 c.args.elements.now c.requires.long));
      indexed = λ t. c.rows_in_use.ensures.indexed yes;
      read = c.rows_in_use.ensures.read;
    }
