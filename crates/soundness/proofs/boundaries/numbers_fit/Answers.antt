-- The numbers that are left fit, from the least that the next may be, exactly when all do, until one does not.
use Rattle.soundness.proofs.BoundaryFits.{fits_start, fits_go, fits_no, fits_end}
use Rattle.soundness.specs.Known.{known_rows}
use Rattle.soundness.specs.Words.{numbers_fit}
use Rattle.rules.specs.Limits.{desk}
use Rattle.std.specs.List.{between}
use Rattle.std.proofs.lemmas.Slice.{between_is}
use mathlib.Core.Path.{sym, ap, ◌∙◌}
use borrow.Author.Rules.{rules}
use Rattle.soundness.proofs.boundaries.numbers_fit.Goals as goal

pub loop-word-init : goal.loop-word-init
loop-word-init c = record { bound = search rules; rest = fits_start (known_rows c.args.earlier.now c.args.spacing) (between c.args.from c.args.to c.args.words.now) c.args.e.0 c.args.rank }

pub returns-then-not-number_fits : goal.returns-then-not-number_fits
returns-then-not-number_fits c =
    fits_no (known_rows c.args.earlier.now c.args.spacing) _ c.args.e.0 c.args.rank c.loop-word.low c.loop-word.word-index _ c.loop-word.invariant.rest
    c.wide-x.ensures.value c.loop-word-test.true (sym c.number_fits.ensures ∙ c.if-not-number_fits.true)
    ∙ ap (numbers_fit desk (known_rows c.args.earlier.now c.args.spacing) c.args.e.0 c.args.rank) (between_is c.args.words.now c.args.from c.args.to)

pub loop-word-preserved : goal.loop-word-preserved
loop-word-preserved c = record {
  bound = search rules;
  rest = fits_go (known_rows c.args.earlier.now c.args.spacing) _ c.args.e.0 c.args.rank c.loop-word.low c.loop-word.word-index _ c.loop-word.invariant.rest
      c.wide-x.ensures.value c.loop-word-test.true (sym c.number_fits.ensures ∙ c.if-not-number_fits.false);
}

pub returns : goal.returns
returns c =
    fits_end (known_rows c.args.earlier.now c.args.spacing) _ c.args.e.0 c.args.rank c.loop-word.low c.loop-word.word-index c.loop-word.invariant.rest c.loop-word-test.false
    ∙ ap (numbers_fit desk (known_rows c.args.earlier.now c.args.spacing) c.args.e.0 c.args.rank) (between_is c.args.words.now c.args.from c.args.to)
