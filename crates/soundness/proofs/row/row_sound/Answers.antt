-- The answer is read off the tests that were taken, those of a vertex or those of a polytope.
use mathlib.Core.Bool.{true, false, false≢true}
use mathlib.Core.Path.{refl, sym, ◌∙◌}
use Rattle.rules.proofs.Laws.{test_le}
use Rattle.soundness.proofs.FaceLoops.{unmet_next}
use Rattle.soundness.specs.Known.{known_rows}
use Rattle.soundness.proofs.RowKinds.{row_corner, row_polytope}
use borrow.Author.Tests.{lt-leb}
use Rattle.soundness.proofs.row.row_sound.Goals as goal

pub corner_sound-requires : goal.corner_sound-requires
corner_sound-requires c = record { row = c.requires.there.row; corner = sym c.wide-rank.ensures.value ∙ c.if-rank-eq0.true; mask = c.requires.there.mask; places = c.requires.there.places }

pub returns-then-rank-eq0 : goal.returns-then-rank-eq0
returns-then-rank-eq0 c = record {
  told = row_corner (known_rows c.args.earlier.now c.args.spacing) c.args.words.now c.args.at c.args.d c.args.h c.args.k.0 c.args.e.0 _ c.wide-rank.ensures.value c.if-rank-eq0.true c.corner_sound.ensures.told;
  unmet = λ t. unmet_next c.args.e.0 c.args.met.now c.requires.unmet;
  past = c.corner_sound.ensures.past;
}

pub returns-then-words-at-gt1 : goal.returns-then-words-at-gt1
returns-then-words-at-gt1 c = record {
  told = row_polytope (known_rows c.args.earlier.now c.args.spacing) c.args.words.now c.args.at c.args.d c.args.h c.args.k.0 c.args.e.0 _ c.wide-rank.ensures.value _ _ false _ _ _ c.if-rank-eq0.false refl refl
      (lt-leb _ 1 c.if-words-at-gt1.true) refl refl refl;
  unmet = λ t. absurd (false≢true t);
  past = λ t. absurd (false≢true t);
}

pub returns-then-d-rank : goal.returns-then-d-rank
returns-then-d-rank c = record {
  told = row_polytope (known_rows c.args.earlier.now c.args.spacing) c.args.words.now c.args.at c.args.d c.args.h c.args.k.0 c.args.e.0 _ c.wide-rank.ensures.value _ _ true false _ _ c.if-rank-eq0.false refl refl
      (test_le _ 1 c.if-words-at-gt1.false) (lt-leb _ c.args.d c.if-d-rank.true) refl refl;
  unmet = λ t. absurd (false≢true t);
  past = λ t. absurd (false≢true t);
}

pub polytope_sound-requires : goal.polytope_sound-requires
polytope_sound-requires c = c.requires

pub returns-then-not-polytope_sound : goal.returns-then-not-polytope_sound
returns-then-not-polytope_sound c = record {
  told = row_polytope (known_rows c.args.earlier.now c.args.spacing) c.args.words.now c.args.at c.args.d c.args.h c.args.k.0 c.args.e.0 _ c.wide-rank.ensures.value _ _ true true false _ c.if-rank-eq0.false refl refl
      (test_le _ 1 c.if-words-at-gt1.false) (test_le _ c.args.d c.if-d-rank.false) (sym c.polytope_sound.ensures.told ∙ c.if-not-polytope_sound.true) refl;
  unmet = λ t. absurd (false≢true t);
  past = λ t. absurd (false≢true t);
}

pub facet_sound-requires : goal.facet_sound-requires
facet_sound-requires c = c.if-d-rank.false

pub returns : goal.returns
returns c = let yes = c.if-not-polytope_sound.false in
    record {
      told = row_polytope (known_rows c.args.earlier.now c.args.spacing) c.args.words.now c.args.at c.args.d c.args.h c.args.k.0 c.args.e.0 _ c.wide-rank.ensures.value _ _ true true true _ c.if-rank-eq0.false
          c.wide-plane.ensures.value c.wide-mark.ensures.value (test_le _ 1 c.if-words-at-gt1.false) (test_le _ c.args.d c.if-d-rank.false)
          (sym c.polytope_sound.ensures.told ∙ yes) (sym c.facet_sound.ensures);
      unmet = λ t. c.polytope_sound.ensures.unmet yes;
      past = λ t. c.polytope_sound.ensures.past yes;
    }
