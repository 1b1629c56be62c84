-- The answer is read off the tests that were taken.
use Rattle.soundness.proofs.BoundaryFits.{number_is}
use Rattle.soundness.specs.Known.{known_rows}
use borrow.Author.Tests.{le-leb, lt-leb, le-ltb, lt-ltb}
use lib.Dec.{eqb}
use native.Mathlib.Omega.{arith}
use native.Mathlib.Numerals.{add-one}
use mathlib.Core.Bool.{true, false}
use mathlib.Core.Path.{sym, ap, refl, ◌∙◌}
use Prim.Native.Nat.{ℕ, ◌+◌}
use Rattle.soundness.proofs.boundaries.number_fits.Goals as goal

pub returns-then-x-low : goal.returns-then-x-low
returns-then-x-low c = number_is (known_rows c.args.earlier.now c.args.spacing) c.args.e.0 c.args.rank c.args.low c.args.x false _ _ (lt-leb _ _ c.if-x-low.true) refl refl

pub returns-then-e-x : goal.returns-then-e-x
returns-then-e-x c = number_is (known_rows c.args.earlier.now c.args.spacing) c.args.e.0 c.args.rank c.args.low c.args.x true false _ (le-leb _ _ c.if-x-low.false) (le-ltb _ _ c.if-e-x.true) refl

pub rank_known-requires : goal.rank_known-requires
rank_known-requires c = record { spaced = c.requires.spaced; room = omega (arith, c.if-e-x.false, c.requires.room) }

pub returns : goal.returns
returns c = number_is (known_rows c.args.earlier.now c.args.spacing) c.args.e.0 c.args.rank c.args.low c.args.x true true _ (le-leb _ _ c.if-x-low.false) (lt-ltb _ _ c.if-e-x.false)
    (ap (λ (y : ℕ). eqb y c.args.rank) (sym (ap (λ (y : ℕ). y + 1) c.rank_known.ensures.value ∙ add-one _)))
