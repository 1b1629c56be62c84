-- The numbers that are left fit exactly when all do, until one does not; the ends of those before are met.
use Prim.Native.Nat.{◌+◌}
use mathlib.Core.Bool.{true, false≢true}
use mathlib.Core.Path.{◌≡◌, sym, ◌∙◌}
use native.Mathlib.Omega.{arith}
use lib.ListN.{length}
use Rattle.rules.specs.Limits.{desk}
use Rattle.space.proofs.EndsCounted.{round_start, round_few, round_out}
use Rattle.soundness.specs.Known.{known_rows}
use Rattle.soundness.specs.Words.{number_fits, stamp_of}
use Rattle.soundness.proofs.EdgesRead.{NumberRead, numbers_start, numbers_end, read_no, read_ends, read_edge, read_on}
use Rattle.soundness.proofs.FaceLoops.{few_go, few_end, unmet_above}
use Rattle.soundness.proofs.boundaries.few_fits.Goals as goal

pub stamp_of-stamp-requires : goal.stamp_of-stamp-requires
stamp_of-stamp-requires c = c.requires.in_room

pub loop-word-init : goal.loop-word-init
loop-word-init c = record {
  numbers = numbers_start c.stamp_of-stamp.ensures.value;
  round = round_start (known_rows c.args.earlier.now c.args.spacing) c.args.edges.now (stamp_of c.args.e.0) c.args.met.now c.requires.unmet;
}

pub number_fits-requires : goal.number_fits-requires
number_fits-requires c = record { spaced = c.requires.spaced; room = omega (arith, c.requires.in_room) }

pub returns-then-not-number_fits : goal.returns-then-not-number_fits
returns-then-not-number_fits c =
    let number : NumberRead c.args.edges.now c.args.earlier.now c.args.spacing c.args.e.0 c.args.met.now c.stamp_of-stamp.result c.loop-word.low c.loop-word.word-index c.wide-x.result =
    record { ready = c.requires; numbers = c.loop-word.invariant.numbers; room = c.stamp_of-stamp.ensures.bound; more = c.loop-word-test.true; read = c.wide-x.ensures.value } in
    record { told = read_no number _ (sym c.number_fits.ensures ∙ c.if-not-number_fits.true); unmet = λ t. absurd (false≢true t) }

pub meet_ends-twice-requires : goal.meet_ends-twice-requires
meet_ends-twice-requires c =
    let number : NumberRead c.args.edges.now c.args.earlier.now c.args.spacing c.args.e.0 c.args.met.now c.stamp_of-stamp.result c.loop-word.low c.loop-word.word-index c.wide-x.result =
    record { ready = c.requires; numbers = c.loop-word.invariant.numbers; room = c.stamp_of-stamp.ensures.bound; more = c.loop-word-test.true; read = c.wide-x.ensures.value } in
    let fits : number_fits desk (known_rows c.args.earlier.now c.args.spacing) c.args.e.0 2 c.loop-word.low c.wide-x.result ≡ true =
    sym c.number_fits.ensures ∙ c.if-not-number_fits.false in
    read_edge number fits

pub overflow_add-twice : goal.overflow_add-twice
overflow_add-twice c =
    let number : NumberRead c.args.edges.now c.args.earlier.now c.args.spacing c.args.e.0 c.args.met.now c.stamp_of-stamp.result c.loop-word.low c.loop-word.word-index c.wide-x.result =
    record { ready = c.requires; numbers = c.loop-word.invariant.numbers; room = c.stamp_of-stamp.ensures.bound; more = c.loop-word-test.true; read = c.wide-x.ensures.value } in
    let R = number in
    let few = round_few _ _ _ _ _ _ c.loop-word.invariant.round in
    omega (arith, few, c.meet_ends-twice.ensures.most, R.ready.size, R.numbers.bound)

pub loop-word-preserved : goal.loop-word-preserved
loop-word-preserved c =
    let number : NumberRead c.args.edges.now c.args.earlier.now c.args.spacing c.args.e.0 c.args.met.now c.stamp_of-stamp.result c.loop-word.low c.loop-word.word-index c.wide-x.result =
    record { ready = c.requires; numbers = c.loop-word.invariant.numbers; room = c.stamp_of-stamp.ensures.bound; more = c.loop-word-test.true; read = c.wide-x.ensures.value } in
    let fits : number_fits desk (known_rows c.args.earlier.now c.args.spacing) c.args.e.0 2 c.loop-word.low c.wide-x.result ≡ true =
    sym c.number_fits.ensures ∙ c.if-not-number_fits.false in
    let R = number in
    record {
      numbers = read_on R fits;
      round = few_go (known_rows c.args.earlier.now c.args.spacing) c.args.edges.now c.args.e.0 c.loop-word.met _ c.loop-word.twice c.loop-word.word-index _ _ (stamp_of c.args.e.0) _
          c.loop-word.invariant.round R.more R.read (read_ends R fits) R.numbers.same c.meet_ends-twice.ensures.count c.meet_ends-twice.ensures.words;
    }

pub returns : goal.returns
returns c = let e : c.loop-word.word-index ≡ length c.args.edges.now = omega (arith, c.loop-word.invariant.numbers.bound, c.loop-word-test.false) in
    record {
      told = few_end (known_rows c.args.earlier.now c.args.spacing) c.args.edges.now c.args.e.0 c.loop-word.met c.loop-word.twice c.loop-word.word-index
          (stamp_of c.args.e.0) c.loop-word.invariant.round e c.requires.edges
          (numbers_end c.loop-word.invariant.numbers c.loop-word-test.false);
      unmet = λ t. unmet_above (stamp_of c.args.e.0 + 2) (stamp_of (c.args.e.0 + 1)) c.loop-word.met (omega arith) (round_out _ _ (stamp_of c.args.e.0) c.loop-word.met _ _ c.loop-word.invariant.round);
    }
