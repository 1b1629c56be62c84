-- The edges so far have joined paths, and none of them closed one; what the next edge answers tells the ring, or goes on.
use Prim.Native.Nat.{ℕ, ◌+◌, ◌<◌, ◌≤◌}
use mathlib.Core.Bool.{false}
use mathlib.Core.List.{List}
use mathlib.Core.Path.{◌≡◌, refl, sym}
use native.Mathlib.Omega.{arith}
use lib.Dec.{eqb}
use lib.ListN.{length, get_or, replicate}
use borrow.Author.Rules.{rules}
use Rattle.rules.specs.Limits.{desk}
use Rattle.space.specs.declared.closed.Joined.TheVariants.{Met, Closes, Thrice}
use Rattle.space.specs.Closed.{EndsLow, FaceReady, Stamped, joining, joined, ring_raw}
use Rattle.space.proofs.TwiceMet.{edges_up, edges_fine, TakenUp, taken_ends, taken_ready}
use Rattle.space.proofs.PathsJoined.{paths_start, paths_stamped, paths_few, paths_go}
use Rattle.space.proofs.Meetings.{unmet_new}
use Rattle.space.proofs.Rings.{no_edges, answers_thrice, answers_early, answers_last}
use Rattle.space.proofs.closed.is_ring.Invariants.{SoFar}
use Rattle.space.proofs.closed.is_ring.Goals as goal

-- ---- the edge that is taken up

-- the paths so far, and x as edge k of the face
record Taken (es list : List ℕ) (paths : List ℕ) (twice k x : ℕ) : Type 0 where
  edge : TakenUp es list k x
  so : SoFar es list paths twice k

taken : {es list : List ℕ} {paths : List ℕ} {twice k x : ℕ} → FaceReady es list → k < length list → x ≡ get_or list k 0 → SoFar es list paths twice k
    → Taken es list paths twice k x
taken ready more read so = record { edge = record { ready = ready; more = more; read = read }; so = so }

module _ {es list : List ℕ} {paths : List ℕ} {twice k x : ℕ} (T : Taken es list paths twice k x) where
  abbrev edges : List ℕ
  edges = list

  abbrev ready : FaceReady es list
  ready = T.edge.ready

  stamped : Stamped 1 paths
  stamped = paths_stamped es edges 1 paths twice k T.so.paths_so

  few : twice ≤ k
  few = paths_few es edges 1 paths twice k T.so.paths_so

  fine : (j : ℕ) → j < length edges → (get_or edges j 0 < desk.elements) × EndsLow es (get_or edges j 0)
  fine = edges_fine es list ready.low ready.ends

  thrice : Thrice ≡ joining 1 es paths x → false ≡ ring_raw es edges
  thrice c = sym (answers_thrice es edges (edges_up ready.ends) fine 1 paths twice k T.so.paths_so x T.edge.more T.edge.read c)

  early : Closes ≡ joining 1 es paths x → k + 1 < length list → false ≡ ring_raw es edges
  early c h =
      sym (answers_early es edges (edges_up ready.ends) fine 1 paths twice k T.so.paths_so x T.edge.more T.edge.read c
      h)

  last : Closes ≡ joining 1 es paths x → length list ≤ k + 1 → eqb (twice + 2) (length list) ≡ ring_raw es edges
  last c h =
      answers_last es edges (edges_up ready.ends) fine 1 paths twice k T.so.paths_so x T.edge.more T.edge.read c
      (let m = T.edge.more in omega (arith, h, m))

  goes_on : (r : ℕ) → Met r ≡ joining 1 es paths x → (paths' : List ℕ) → paths' ≡ joined 1 es paths x → SoFar es list paths' (twice + r) (k + 1)
  goes_on r c paths' q = record {
    bound = let m = T.edge.more in omega (arith, m);
    paths_so = paths_go es edges 1 paths twice k T.so.paths_so x T.edge.more T.edge.read (taken_ends T.edge) r paths' c q;
  }

-- ---- the places of the function

pub loop-k-init : goal.loop-k-init
loop-k-init c = record { bound = search rules; paths_so = paths_start c.args.elements.now c.args.list.now 1 (replicate desk.elements 0) unmet_new }

pub join_ends_in_face-requires : goal.join_ends_in_face-requires
join_ends_in_face-requires c = let T = taken c.requires c.loop-k-test.true c.wide.ensures.value c.loop-k.invariant in
    record { edge = taken_ready T.edge; stamped = stamped T }

pub returns-in-Thrice : goal.returns-in-Thrice
returns-in-Thrice c = let T = taken c.requires c.loop-k-test.true c.wide.ensures.value c.loop-k.invariant in
    thrice T c.in-Thrice.ensures.code

pub returns-then-k-n : goal.returns-then-k-n
returns-then-k-n c = let T = taken c.requires c.loop-k-test.true c.wide.ensures.value c.loop-k.invariant in
    early T c.in-Closes.ensures.code c.if-k-n.true

pub overflow_add-result : goal.overflow_add-result
overflow_add-result c = let T = taken c.requires c.loop-k-test.true c.wide.ensures.value c.loop-k.invariant in
    let most = few T in
    omega (arith, most, T.edge.ready.size, T.so.bound)

pub returns-in-Closes : goal.returns-in-Closes
returns-in-Closes c = let T = taken c.requires c.loop-k-test.true c.wide.ensures.value c.loop-k.invariant in
    last T c.in-Closes.ensures.code c.if-k-n.false

pub overflow_add-twice : goal.overflow_add-twice
overflow_add-twice c = let T = taken c.requires c.loop-k-test.true c.wide.ensures.value c.loop-k.invariant in
    let most = few T in
    omega (arith, most, c.in-Met.ensures.most, T.edge.ready.size, T.so.bound)

pub loop-k-preserved : goal.loop-k-preserved
loop-k-preserved c = let T = taken c.requires c.loop-k-test.true c.wide.ensures.value c.loop-k.invariant in
    goes_on T _ c.in-Met.ensures.code _ c.in-Met.ensures.words

pub returns : goal.returns
returns c = no_edges c.args.elements.now c.args.list.now (edges_up c.requires.ends) (edges_fine c.args.elements.now c.args.list.now c.requires.low c.requires.ends)
    1 c.loop-k.paths c.loop-k.twice c.loop-k.k c.loop-k.invariant.paths_so (length c.args.list.now) refl
    (let z : c.loop-k.k ≡ length c.args.list.now = omega (arith, c.loop-k.invariant.bound, c.loop-k-test.false) in z)
