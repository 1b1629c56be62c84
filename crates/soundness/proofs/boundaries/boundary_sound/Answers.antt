-- The answer is read off the tests that were taken: of the count, and of the numbers and the whole as the rank asks.
use Prim.Native.Nat.{ℕ, ◌+◌, ◌≤◌, ◌<◌}
use mathlib.Core.Bool.{false, false≢true}
use mathlib.Core.List.{List}
use mathlib.Core.Path.{refl, ap, ◌∙◌}
use native.Mathlib.Omega.{arith}
use borrow.Author.Tests.{le-ltb, lt-ltb}
use Rattle.std.proofs.lemmas.Slice.{between_is}
use Rattle.std.proofs.lemmas.List.Edits.{length-between}
use Rattle.rules.specs.Limits.{desk}
use Rattle.space.specs.Closed.{few}
use Rattle.soundness.specs.Words.{few_words, face_words}
use Rattle.soundness.specs.Known.{known_rows}
use Rattle.soundness.proofs.BoundaryLoops.{boundary_by, boundary_few, boundary_face, boundary_body}
use Rattle.soundness.proofs.FaceLoops.{unmet_next}
use Rattle.soundness.proofs.boundaries.boundary_sound.Goals as goal

pub returns-then-n-rank : goal.returns-then-n-rank
returns-then-n-rank c =
    let known : List ℕ =
    known_rows c.args.earlier.now c.args.spacing in
    record {
      told = boundary_by known c.args.words.now c.args.at c.args.n c.args.d c.args.e.0 c.args.rank c.requires.end false _ _ (le-ltb _ _ c.if-n-rank.true) refl refl;
      unmet = λ t. absurd (false≢true t);
    }

pub numbers_fit-requires : goal.numbers_fit-requires
numbers_fit-requires c = record { part = record { order = omega arith; end = c.requires.end }; spaced = c.requires.spaced; room = omega (arith, c.requires.in_room) }

pub returns-then-rank-ne2 : goal.returns-then-rank-ne2
returns-then-rank-ne2 c =
    let known : List ℕ =
    known_rows c.args.earlier.now c.args.spacing in
    record {
      told = boundary_body known c.args.words.now c.args.at c.args.n c.args.d c.args.e.0 c.args.rank c.requires.end c.requires.no_edge c.if-rank-ne2.true (lt-ltb _ _ c.if-n-rank.false) c.numbers_fit.ensures;
      unmet = λ t. unmet_next c.args.e.0 c.args.met.now c.requires.unmet;
    }

pub few_fits-requires : goal.few_fits-requires
few_fits-requires c = record {
  size = let l = length-between c.args.words.now c.args.at (c.args.at + c.args.n) c.requires.end in omega (arith, l, c.requires.size);
  spaced = c.requires.spaced;
  in_room = c.requires.in_room;
  edges = c.requires.edges;
  unmet = c.requires.unmet;
}

pub returns-then-n-few_edges : goal.returns-then-n-few_edges
returns-then-n-few_edges c =
    let known : List ℕ =
    known_rows c.args.earlier.now c.args.spacing in
    record {
      told = boundary_few known c.args.words.now c.args.at c.args.n c.args.d c.args.e.0 c.args.rank c.requires.end c.if-rank-ne2.false (lt-ltb _ _ c.if-n-rank.false)
          (let z : c.args.n ≤ few c.args.d = omega (arith, c.if-n-few_edges.true, c.few_edges.ensures) in z)
          (c.few_fits.ensures.told ∙ ap (few_words desk known c.args.e.0) (between_is c.args.words.now c.args.at (c.args.at + c.args.n)));
      unmet = c.few_fits.ensures.unmet;
    }

pub face_fits-requires : goal.face_fits-requires
face_fits-requires c = record {
  size = let l = length-between c.args.words.now c.args.at (c.args.at + c.args.n) c.requires.end in omega (arith, l, c.requires.size);
  spaced = c.requires.spaced;
  in_room = c.requires.in_room;
  edges = c.requires.edges;
  unmet = c.requires.unmet;
}

pub returns : goal.returns
returns c =
    let known : List ℕ =
    known_rows c.args.earlier.now c.args.spacing in
    record {
      told = boundary_face known c.args.words.now c.args.at c.args.n c.args.d c.args.e.0 c.args.rank c.requires.end c.if-rank-ne2.false (lt-ltb _ _ c.if-n-rank.false)
          (let z : few c.args.d < c.args.n = omega (arith, c.if-n-few_edges.false, c.few_edges.ensures) in z)
          (c.face_fits.ensures.told ∙ ap (face_words desk known c.args.e.0) (between_is c.args.words.now c.args.at (c.args.at + c.args.n)));
      unmet = c.face_fits.ensures.unmet;
    }
