-- The answer is read off the tests that were taken.
use Prim.Native.Nat.{ℕ}
use mathlib.Core.Bool.{true, false, false≢true}
use mathlib.Core.Path.{refl, sym, ap}
use lib.Dec.{eqb}
use Rattle.rules.proofs.Laws.{test_eq, not_eq}
use Rattle.soundness.proofs.RowKinds.{corner_is}
use borrow.Author.Rules.{rules}
use Rattle.soundness.proofs.row.corner_sound.Goals as goal

pub returns-then-words-at-ne0 : goal.returns-then-words-at-ne0
returns-then-words-at-ne0 c = record {
  told = corner_is c.args.words.now c.args.at c.args.k.0 false _ _ _ c.requires.corner (not_eq 0 _ (λ q. c.if-words-at-ne0.true (sym q))) refl refl refl;
  past = λ t. absurd (false≢true t);
}

pub returns-then-words-at : goal.returns-then-words-at
returns-then-words-at c = record {
  told = corner_is c.args.words.now c.args.at c.args.k.0 true false _ _ c.requires.corner (test_eq 0 _ (sym c.if-words-at-ne0.false)) (not_eq 65535 _ (λ q. c.if-words-at.true (sym q))) refl refl;
  past = λ t. absurd (false≢true t);
}

pub returns-then-words-at-ne1 : goal.returns-then-words-at-ne1
returns-then-words-at-ne1 c = record {
  told = corner_is c.args.words.now c.args.at c.args.k.0 true true false _ c.requires.corner (test_eq 0 _ (sym c.if-words-at-ne0.false)) (test_eq 65535 _ (sym c.if-words-at.false))
      (not_eq 1 _ (λ q. c.if-words-at-ne1.true (sym q))) refl;
  past = λ t. absurd (false≢true t);
}

pub gather_past-requires : goal.gather_past-requires
gather_past-requires c = record { row = c.requires.row; count = sym c.if-words-at-ne1.false; fits = search rules; mask = c.requires.mask; places = c.requires.places }

pub returns : goal.returns
returns c = record {
  told = corner_is c.args.words.now c.args.at c.args.k.0 true true true _ c.requires.corner (test_eq 0 _ (sym c.if-words-at-ne0.false)) (test_eq 65535 _ (sym c.if-words-at.false))
      (test_eq 1 _ (sym c.if-words-at-ne1.false)) (ap (λ (x : ℕ). eqb x c.args.k.0) (sym c.wide.ensures.value));
  past = λ t. c.gather_past.ensures;
}
