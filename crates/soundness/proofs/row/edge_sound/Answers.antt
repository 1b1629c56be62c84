-- The answer is read off the test of the count.
use mathlib.Core.Bool.{false≢true}
use mathlib.Core.Path.{refl, sym}
use native.Mathlib.Omega.{arith}
use Rattle.soundness.specs.Known.{known_rows}
use Rattle.soundness.proofs.RowKinds.{edge_open, edge_two}
use borrow.Author.Rules.{rules}
use Rattle.soundness.proofs.row.edge_sound.Goals as goal

pub returns-then-words-at-ne2 : goal.returns-then-words-at-ne2
returns-then-words-at-ne2 c = record {
  told = λ d. edge_open (known_rows c.args.earlier.now c.args.spacing) c.args.words.now c.args.at d c.args.e.0 _ refl c.requires.row c.if-words-at-ne2.true;
  past = λ t. absurd (false≢true t);
}

pub gather_past-requires : goal.gather_past-requires
gather_past-requires c = record { row = c.requires.row; count = sym c.if-words-at-ne2.false; fits = search rules; mask = c.requires.mask; places = c.requires.places }

pub numbers_fit-requires : goal.numbers_fit-requires
numbers_fit-requires c = record { part = record { order = omega arith; end = omega (arith, c.requires.row) }; spaced = c.requires.spaced; room = omega (arith, c.requires.in_room) }

pub returns : goal.returns
returns c = record {
  told = λ d. edge_two (known_rows c.args.earlier.now c.args.spacing) c.args.words.now c.args.at d c.args.e.0 _ refl c.requires.row c.if-words-at-ne2.false c.numbers_fit.ensures;
  past = λ t. c.gather_past.ensures;
}
