-- The answer is read off the test of the count.
use mathlib.Core.Bool.{false≢true}
use native.Mathlib.Omega.{arith}
use Rattle.soundness.specs.Known.{known_rows}
use Rattle.soundness.proofs.RowKinds.{polytope_many, polytope_few}
use Rattle.soundness.proofs.row.higher_sound.Goals as goal

pub returns-then-n-gt-BOUNDARY : goal.returns-then-n-gt-BOUNDARY
returns-then-n-gt-BOUNDARY c = record {
  told = polytope_many (known_rows c.args.earlier.now c.args.spacing) c.args.words.now c.args.at c.args.d c.args.e.0 _ c.wide-n.ensures.value c.args.rank c.if-n-gt-BOUNDARY.true;
  unmet = λ t. absurd (false≢true t);
  past = λ t. absurd (false≢true t);
}

pub gather_past-requires : goal.gather_past-requires
gather_past-requires c = record { row = c.requires.ready.there.row; count = c.wide-n.ensures.value; fits = c.if-n-gt-BOUNDARY.false; mask = c.requires.ready.there.mask; places = c.requires.ready.there.places }

pub boundary_sound-requires : goal.boundary_sound-requires
boundary_sound-requires c = record {
  end = omega (arith, c.requires.ready.there.row, c.if-n-gt-BOUNDARY.false);
  spaced = c.requires.ready.there.spaced;
  size = c.if-n-gt-BOUNDARY.false;
  in_room = c.requires.ready.there.in_room;
  no_edge = c.requires.no_edge;
  edges = c.requires.ready.edges;
  unmet = c.requires.ready.unmet;
}

pub returns : goal.returns
returns c = record {
  told = polytope_few (known_rows c.args.earlier.now c.args.spacing) c.args.words.now c.args.at c.args.d c.args.e.0 _ c.wide-n.ensures.value c.args.rank c.if-n-gt-BOUNDARY.false c.boundary_sound.ensures.told;
  unmet = c.boundary_sound.ensures.unmet;
  past = λ t. c.gather_past.ensures;
}
