-- The numbers that are left fit exactly when all do, until one does not; the edges before have joined paths, and none closed one.
use Prim.Native.Nat.{ℕ, ◌+◌, ◌<◌, ◌≤◌}
use mathlib.Core.Bool.{true, false, false≢true}
use mathlib.Core.List.{List}
use mathlib.Core.Path.{◌≡◌, sym, ap, subst, ◌∙◌}
use native.Mathlib.Omega.{arith}
use lib.Dec.{eqb}
use lib.ListN.{length}
use Rattle.rules.specs.Limits.{desk}
use Rattle.space.specs.declared.closed.Joined.{Joined}
use Rattle.space.specs.declared.closed.Joined.TheVariants.{Met, Closes, Thrice}
use Rattle.space.specs.Closed.{Stamped, Unmet, joining, joined}
use Rattle.space.proofs.PathsJoined.{paths_start, paths_go, paths_few, paths_stamped}
use Rattle.soundness.specs.Known.{known_rows}
use Rattle.soundness.specs.declared.row.Spacing.{Spacing}
use Rattle.soundness.specs.Words.{number_fits, face_words, stamp_of}
use Rattle.soundness.proofs.EdgesRead.{NumberRead, numbers_start, numbers_end, read_no, read_ends, read_edge, read_on}
use Rattle.soundness.proofs.FaceLoops.{face_thrice, face_early, face_last, face_none, stamped_next}
use Rattle.soundness.proofs.boundaries.face_fits.Invariants.{SoFar}
use Rattle.soundness.proofs.boundaries.face_fits.Goals as goal

-- ---- what the edge that is taken up answers

module _ {edges fs : List ℕ} {sp : Spacing} {e : ℕ} {met₀ met : List ℕ} {stamp low twice i x : ℕ} (R : NumberRead edges fs sp e met₀ stamp low i x)
    (S : SoFar (known_rows fs sp) edges e met stamp low twice i) where
  abbrev es : List ℕ
  es = known_rows fs sp

  stamped : Stamped (stamp_of e) met
  stamped = paths_stamped es edges (stamp_of e) met twice i S.paths

  few : twice ≤ i
  few = paths_few es edges (stamp_of e) met twice i S.paths

  under : {r : Joined} → r ≡ joining stamp es met x → r ≡ joining (stamp_of e) es met x
  under c = c ∙ ap (λ (s : ℕ). joining s es met x) R.numbers.same

  thrice : Thrice ≡ joining stamp es met x → false ≡ face_words desk es e edges
  thrice c = face_thrice es edges e R.ready.in_room R.ready.edges met twice i (stamp_of e) S.paths R.more x R.read (under c)

  early : Closes ≡ joining stamp es met x → i + 1 < length edges → false ≡ face_words desk es e edges
  early c = face_early es edges e R.ready.in_room R.ready.edges met twice i (stamp_of e) S.paths R.more x R.read (under c)

  module _ (fits : number_fits desk es e 2 low x ≡ true) where
    last : Closes ≡ joining stamp es met x → length edges ≤ i + 1 → eqb (twice + 2) (length edges) ≡ face_words desk es e edges
    last c h = face_last es edges e R.ready.in_room R.ready.edges met twice i (stamp_of e) S.paths R.more x R.read (under c) h (numbers_end (read_on R fits) h)

    goes_on : (r : ℕ) → Met r ≡ joining stamp es met x → (met' : List ℕ) → met' ≡ joined stamp es met x → SoFar es edges e met' stamp (x + 1) (twice + r) (i + 1)
    goes_on r c met' q = record {
      numbers = read_on R fits;
      paths = paths_go es edges (stamp_of e) met twice i S.paths x R.more R.read (read_ends R fits) r met' (under c) (q ∙ ap (λ (s : ℕ). joined s es met x) R.numbers.same);
    }

-- ---- the places of the function

pub stamp_of-stamp-requires : goal.stamp_of-stamp-requires
stamp_of-stamp-requires c = c.requires.in_room

pub loop-i-init : goal.loop-i-init
loop-i-init c = record {
  numbers = numbers_start c.stamp_of-stamp.ensures.value;
  paths = paths_start (known_rows c.args.earlier.now c.args.spacing) c.args.edges.now (stamp_of c.args.e.0) c.args.met.now c.requires.unmet;
}

pub number_fits-requires : goal.number_fits-requires
number_fits-requires c = record { spaced = c.requires.spaced; room = omega (arith, c.requires.in_room) }

pub returns-then-not-number_fits : goal.returns-then-not-number_fits
returns-then-not-number_fits c =
    let number : NumberRead c.args.edges.now c.args.earlier.now c.args.spacing c.args.e.0 c.args.met.now c.stamp_of-stamp.result c.loop-i.low c.loop-i.i c.wide-x.result =
    record { ready = c.requires; numbers = c.loop-i.invariant.numbers; room = c.stamp_of-stamp.ensures.bound; more = c.loop-i-test.true; read = c.wide-x.ensures.value } in
    record { told = read_no number _ (sym c.number_fits.ensures ∙ c.if-not-number_fits.true); unmet = λ t. absurd (false≢true t) }

pub join_ends-requires : goal.join_ends-requires
join_ends-requires c =
    let number : NumberRead c.args.edges.now c.args.earlier.now c.args.spacing c.args.e.0 c.args.met.now c.stamp_of-stamp.result c.loop-i.low c.loop-i.i c.wide-x.result =
    record { ready = c.requires; numbers = c.loop-i.invariant.numbers; room = c.stamp_of-stamp.ensures.bound; more = c.loop-i-test.true; read = c.wide-x.ensures.value } in
    let fits : number_fits desk (known_rows c.args.earlier.now c.args.spacing) c.args.e.0 2 c.loop-i.low c.wide-x.result ≡ true =
    sym c.number_fits.ensures ∙ c.if-not-number_fits.false in
    let R = number in
    record { edge = read_edge R fits; stamped = subst (λ (s : ℕ). Stamped s c.loop-i.met) (sym R.numbers.same) (stamped R c.loop-i.invariant) }

pub returns-in-Thrice : goal.returns-in-Thrice
returns-in-Thrice c =
    let number : NumberRead c.args.edges.now c.args.earlier.now c.args.spacing c.args.e.0 c.args.met.now c.stamp_of-stamp.result c.loop-i.low c.loop-i.i c.wide-x.result =
    record { ready = c.requires; numbers = c.loop-i.invariant.numbers; room = c.stamp_of-stamp.ensures.bound; more = c.loop-i-test.true; read = c.wide-x.ensures.value } in
    record { told = thrice number c.loop-i.invariant c.in-Thrice.ensures.code; unmet = λ t. absurd (false≢true t) }

pub returns-then-i-edges : goal.returns-then-i-edges
returns-then-i-edges c =
    let number : NumberRead c.args.edges.now c.args.earlier.now c.args.spacing c.args.e.0 c.args.met.now c.stamp_of-stamp.result c.loop-i.low c.loop-i.i c.wide-x.result =
    record { ready = c.requires; numbers = c.loop-i.invariant.numbers; room = c.stamp_of-stamp.ensures.bound; more = c.loop-i-test.true; read = c.wide-x.ensures.value } in
    record {
      told = early number c.loop-i.invariant c.in-Closes.ensures.code c.if-i-edges.true;
      unmet = λ t. absurd (false≢true t);
    }

pub overflow_add-result : goal.overflow_add-result
overflow_add-result c =
    let number : NumberRead c.args.edges.now c.args.earlier.now c.args.spacing c.args.e.0 c.args.met.now c.stamp_of-stamp.result c.loop-i.low c.loop-i.i c.wide-x.result =
    record { ready = c.requires; numbers = c.loop-i.invariant.numbers; room = c.stamp_of-stamp.ensures.bound; more = c.loop-i-test.true; read = c.wide-x.ensures.value } in
    let R = number in
    let most = few R c.loop-i.invariant in
    omega (arith, most, R.ready.size, R.numbers.bound)

pub returns-in-Closes : goal.returns-in-Closes
returns-in-Closes c =
    let number : NumberRead c.args.edges.now c.args.earlier.now c.args.spacing c.args.e.0 c.args.met.now c.stamp_of-stamp.result c.loop-i.low c.loop-i.i c.wide-x.result =
    record { ready = c.requires; numbers = c.loop-i.invariant.numbers; room = c.stamp_of-stamp.ensures.bound; more = c.loop-i-test.true; read = c.wide-x.ensures.value } in
    let fits : number_fits desk (known_rows c.args.earlier.now c.args.spacing) c.args.e.0 2 c.loop-i.low c.wide-x.result ≡ true =
    sym c.number_fits.ensures ∙ c.if-not-number_fits.false in
    let R = number in
    record {
      told = last R c.loop-i.invariant fits c.in-Closes.ensures.code c.if-i-edges.false;
      unmet = λ t. subst (λ (ws : List ℕ). Unmet (stamp_of (c.args.e.0 + 1)) ws) (sym c.in-Closes.ensures.words) (stamped_next c.args.e.0 c.loop-i.met (stamped R c.loop-i.invariant));
    }

pub overflow_add-twice : goal.overflow_add-twice
overflow_add-twice c =
    let number : NumberRead c.args.edges.now c.args.earlier.now c.args.spacing c.args.e.0 c.args.met.now c.stamp_of-stamp.result c.loop-i.low c.loop-i.i c.wide-x.result =
    record { ready = c.requires; numbers = c.loop-i.invariant.numbers; room = c.stamp_of-stamp.ensures.bound; more = c.loop-i-test.true; read = c.wide-x.ensures.value } in
    let R = number in
    let most = few R c.loop-i.invariant in
    omega (arith, most, c.in-Met.ensures.most, R.ready.size, R.numbers.bound)

pub loop-i-preserved : goal.loop-i-preserved
loop-i-preserved c =
    let number : NumberRead c.args.edges.now c.args.earlier.now c.args.spacing c.args.e.0 c.args.met.now c.stamp_of-stamp.result c.loop-i.low c.loop-i.i c.wide-x.result =
    record { ready = c.requires; numbers = c.loop-i.invariant.numbers; room = c.stamp_of-stamp.ensures.bound; more = c.loop-i-test.true; read = c.wide-x.ensures.value } in
    let fits : number_fits desk (known_rows c.args.earlier.now c.args.spacing) c.args.e.0 2 c.loop-i.low c.wide-x.result ≡ true =
    sym c.number_fits.ensures ∙ c.if-not-number_fits.false in
    goes_on number c.loop-i.invariant fits _ c.in-Met.ensures.code _ c.in-Met.ensures.words

pub returns : goal.returns
returns c = let e : c.loop-i.i ≡ length c.args.edges.now = omega (arith, c.loop-i.invariant.numbers.bound, c.loop-i-test.false) in
    record {
      told = c.is_empty.ensures ∙ face_none (known_rows c.args.earlier.now c.args.spacing) c.args.edges.now c.args.e.0 c.requires.in_room c.requires.edges c.loop-i.met c.loop-i.twice c.loop-i.i
          (stamp_of c.args.e.0) c.loop-i.invariant.paths e (numbers_end c.loop-i.invariant.numbers c.loop-i-test.false);
      unmet = λ t. stamped_next c.args.e.0 c.loop-i.met (paths_stamped _ _ (stamp_of c.args.e.0) c.loop-i.met c.loop-i.twice c.loop-i.i c.loop-i.invariant.paths);
    }
