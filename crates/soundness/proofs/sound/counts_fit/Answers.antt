-- The answer is read off the tests that were taken.
use mathlib.Core.Bool.{false, true}
use mathlib.Core.Logic.{inl, inr}
use mathlib.Core.Path.{refl, ◌∙◌}
use Rattle.rules.proofs.Laws.{test_le, test_eq}
use Rattle.soundness.proofs.RowLoops.{counts_are, own_one, own_more}
use borrow.Author.Tests.{lt-leb}
use Rattle.soundness.proofs.sound.counts_fit.Goals as goal

pub returns-then-d-lt1 : goal.returns-then-d-lt1
returns-then-d-lt1 c =
    let by = counts_are c.args.d c.args.n c.args.v c.args.h in
    elim c.then-d-lt1.either [
      | inl p ↦ by false _ _ _ _ _ (lt-leb 1 c.args.d p) refl refl refl refl refl
      | inr (inl p) ↦ by true false _ _ _ _ (test_le 1 c.args.d p.0) (lt-leb c.args.d 4 p.1) refl refl refl refl
      | inr (inr (inl p)) ↦ by true true false _ _ _ (test_le 1 c.args.d p.0) (test_le c.args.d 4 p.1) (lt-leb c.args.v 256 p.2) refl refl refl
      | inr (inr (inr (inl p))) ↦ by true true true false _ _ (test_le 1 c.args.d p.0) (test_le c.args.d 4 p.1) (test_le c.args.v 256 p.2) (lt-leb c.args.n 512 p.3) refl refl
      | inr (inr (inr (inr p))) ↦ by true true true true false _ (test_le 1 c.args.d p.0) (test_le c.args.d 4 p.1) (test_le c.args.v 256 p.2) (test_le c.args.n 512 p.3) (lt-leb c.args.h 64 p.4) refl
    ]

pub returns-then-d-eq1 : goal.returns-then-d-eq1
returns-then-d-eq1 c = test_eq c.args.d 1 c.if-d-eq1.true ∙ counts_are c.args.d c.args.n c.args.v c.args.h true true true true true true
    (test_le 1 c.args.d c.if-d-lt1.false) (test_le c.args.d 4 c.if-d-gt-AXES.false) (test_le c.args.v 256 c.if-v-gt-VERTICES.false) (test_le c.args.n 512 c.if-n-gt-ELEMENTS.false)
    (test_le c.args.h 64 c.if-h-gt-HYPERPLANES.false) (own_one c.args.d c.args.h c.if-d-eq1.true)

pub returns-else-d-eq1 : goal.returns-else-d-eq1
returns-else-d-eq1 c = counts_are c.args.d c.args.n c.args.v c.args.h true true true true true _ (test_le 1 c.args.d c.if-d-lt1.false)
    (test_le c.args.d 4 c.if-d-gt-AXES.false) (test_le c.args.v 256 c.if-v-gt-VERTICES.false) (test_le c.args.n 512 c.if-n-gt-ELEMENTS.false) (test_le c.args.h 64 c.if-h-gt-HYPERPLANES.false)
    (own_more c.args.d c.args.h c.if-d-lt1.false c.if-d-eq1.false)
