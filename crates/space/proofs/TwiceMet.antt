-- Test 7 as the code makes it, and that it is the model's test over a table that the memory holds.
use Prim.Native.Nat.{ℕ, suc, zero, ◌<◌, ◌≤◌}
use mathlib.Core.Bool.{cond, Bool, true, false, false≢true}
use mathlib.Core.List.{List, ◌∷◌, [], ◌++◌}
use mathlib.Core.Path.{◌≡◌, sym, ap, ap₂, ◌∙◌, refl, subst}
use native.Mathlib.Nat.{zero-add, le_trans, le_of_eq}
use native.Mathlib.Omega.{arith}
use lib.Dec.{eqb, leb, lit≤}
use lib.ListN.{length, get_or}
use lib.Seq.{take_all}
use borrow.Author.Tests.{lt-leb}
use Rattle.rules.specs.Held.{Fits, elements_of}
use Rattle.rules.specs.Limits.{desk}
use Rattle.rules.specs.Lists.{occurrences, all, member, rises}
use Rattle.rules.specs.Sound.{closed}
use Rattle.rules.specs.Table.{Table, element, element_count, boundary, Element, boundary_of, corner, polytope}
use Rattle.rules.specs.Walk.{ends_of, each_twice}
use Rattle.rules.proofs.Counting.{getD_up}
use Rattle.rules.proofs.FaceEdges.{Two, two}
use Rattle.rules.proofs.Laws.{both_ways, eq_test, eqb_self, le_test, test_le, or_case, or_left, or_right}
use Rattle.rules.proofs.RingWalked.{rule_ring, ring_rule, ring_along}
use Rattle.space.specs.Closed.{Low, LowEnds, EndsLow, EdgeReady, FaceReady, first_end, second_end, raw_ends, as_edges, EachEdge, Edges, Untwinned, few, met_twice, ring_raw, closed_raw}
use Rattle.space.proofs.FewEdges.{few_ring}
use Rattle.space.proofs.Room.{list_of, list_word_lem}
use Rattle.std.specs.Prelude.{None}

-- ---- the edges of a boundary

pub edges_up : {es list : List ℕ} → LowEnds es list (length list) → rises list ≡ true
edges_up {es} {list} E = ap rises (sym (take_all (length list) list (le_of_eq refl))) ∙ E.rising

pub edges_fine : (es list : List ℕ) → Low list (length list) → LowEnds es list (length list) → (j : ℕ) → j < length list → (get_or list j 0 < 512) × EndsLow es (get_or list j 0)
edges_fine es list L E j h = (L.at j h, E.each j h)

-- ---- the edge of a face that is taken up

-- the face as it was asked for, and x as edge k of it
pub record TakenUp (es list : List ℕ) (k x : ℕ) : Type 0 where
  pub ready : FaceReady es list
  pub more : k < length list
  pub read : x ≡ get_or list k 0

module _ {es list : List ℕ} {k x : ℕ} (T : TakenUp es list k x) where
  fine : (get_or list k 0 < 512) × EndsLow es (get_or list k 0)
  fine = edges_fine es list T.ready.low T.ready.ends k T.more

  pub taken_ends : EndsLow es x
  taken_ends = subst (λ (y : ℕ). EndsLow es y) (sym T.read) fine.1

  pub taken_ready : EdgeReady es x 1
  taken_ready = record {
    elements = T.ready.elements;
    room = subst (λ (y : ℕ). y < 512) (sym T.read) fine.0;
    ends = taken_ends;
    stamp = omega arith;
  }

-- ---- the rows read as edges

pub boundary_as : (es : List ℕ) (x : ℕ) → x < 512 → boundary (as_edges es) x ≡ first_end es x ∷ second_end es x ∷ []
unfolding as_edges
boundary_as es x l =
    ap boundary_of (getD_up (λ y. polytope 1 (first_end es y ∷ second_end es y ∷ []) None false) (corner 0) 0 512 x l
    ∙ ap (λ (y : ℕ). polytope 1 (first_end es y ∷ second_end es y ∷ []) None false) (zero-add x))

-- ---- the model's test

-- edges that have the same ends in the memory and in a table
module _ (d : ℕ) (es : List ℕ) (t : Table) (b : List ℕ) (up : rises b ≡ true) (two_ends : (e : ℕ) → member e b ≡ true → Two (boundary t e)) (low : (e : ℕ) → member e b ≡ true → e < 512)
    (same : (e : ℕ) → member e b ≡ true → boundary t e ≡ first_end es e ∷ second_end es e ∷ []) (lone : 2 < d → Untwinned t b) where
  alike : (e : ℕ) → member e b ≡ true → boundary (as_edges es) e ≡ boundary t e
  alike e m = boundary_as es e (low e m) ∙ sym (same e m)

  two_memory : (e : ℕ) → member e b ≡ true → Two (boundary (as_edges es) e)
  two_memory e m = subst Two (sym (alike e m)) (two_ends e m)

  counted_same : met_twice es b ≡ each_twice t b
  unfolding raw_ends
  counted_same = ap (λ (E : List ℕ). all (λ v. eqb (occurrences v E) 2) E) (ends b same)
    where
      ends : (xs : List ℕ) → ((e : ℕ) → member e xs ≡ true → boundary t e ≡ first_end es e ∷ second_end es e ∷ []) → raw_ends es xs ≡ ends_of t xs
      ends [] h = refl
      ends (x ∷ xs) h =
          ap₂ (λ (p q : List ℕ). p ++ q) (sym (h x (or_left (eqb x x) (member x xs) (eqb_self x)))) (ends xs (λ e m. h e (or_right (eqb e x) (member e xs) m)))

  ring_same : ring_raw es b ≡ closed t 2 b
  ring_same =
      both_ways (ring_raw es b) (closed t 2 b)
      (λ k. ring_rule t b up two_ends (ring_along (as_edges es) t b (λ e m. sym (alike e m)) (rule_ring (as_edges es) b up two_memory k)))
      (λ k. ring_rule (as_edges es) b up two_memory (ring_along t (as_edges es) b alike (rule_ring t b up two_ends k)))

  pub face_same : closed_raw d es 2 b ≡ closed t 2 b
  face_same = go (leb (length b) (few d)) refl
    where
      go : (c : Bool) → leb (length b) (few d) ≡ c → cond c (met_twice es b) (ring_raw es b) ≡ closed t 2 b
      go true q = counted_same ∙ few_ring t b up two_ends d lone (le_test (length b) (few d) q)
      go false q = ring_same

-- a member of some edges
edge_member : (t : Table) (b : List ℕ) → EachEdge t b → (e : ℕ) → member e b ≡ true → (e < element_count t) × (length (boundary t e) ≡ 2) × (rises (boundary t e) ≡ true)
edge_member t [] g e m = absurd (false≢true m)
edge_member t (x ∷ xs) g e m =
    or_case (eqb e x) (member e xs) m ((e < element_count t) × (length (boundary t e) ≡ 2) × (rises (boundary t e) ≡ true))
    (λ q. subst (λ (y : ℕ). (y < element_count t) × (length (boundary t y) ≡ 2) × (rises (boundary t y) ≡ true)) (sym (eq_test e x q)) (g.0, g.1, g.2))
    (edge_member t xs g.3 e)

closed_raw_lem : (d : ℕ) (t : Table) → d ≡ t.dimension → Fits desk t → (r : ℕ) (b : List ℕ) → (r ≡ 2 → Edges t b) → closed_raw d (elements_of desk t) r b ≡ closed t r b
closed_raw_lem d t D F zero b h = refl
closed_raw_lem d t D F (suc zero) b h = refl
closed_raw_lem d t D F (suc (suc zero)) b h =
    face_same d es t b (h refl).0 (λ e m. let g = edge_member t b (h refl).1 e m in two (boundary t e) g.1 g.2) (λ e m. le_trans (edge_member t b (h refl).1 e m).0 F.element_room) same
    (λ l. (h refl).2 (subst (λ (k : ℕ). 2 < k) D l))
  where
    es : List ℕ
    es = elements_of desk t

    pair : (x : Element) (a c : ℕ) → length (boundary_of x) ≡ 2 → a ≡ get_or (list_of x) 0 0 → c ≡ get_or (list_of x) 1 0 → boundary_of x ≡ a ∷ c ∷ []
    pair (corner v) a c q e f = absurd (let z : ⊥ = omega (arith, q) in z)
    pair (polytope r [] k m) a c q e f = absurd (let z : ⊥ = omega (arith, q) in z)
    pair (polytope r (x ∷ []) k m) a c q e f = absurd (let z : ⊥ = omega (arith, q) in z)
    pair (polytope r (x ∷ y ∷ []) k m) a c q e f = sym (λ i. e i ∷ f i ∷ [])
    pair (polytope r (x ∷ y ∷ z ∷ zs) k m) a c q e f = absurd (let z : ⊥ = omega (arith, q) in z)

    long : (x : Element) → length (boundary_of x) ≡ 2 → length (list_of x) ≡ 2
    long (corner v) q = absurd (let z : ⊥ = omega (arith, q) in z)
    long (polytope r b k m) q = q

    same : (e : ℕ) → member e b ≡ true → boundary t e ≡ first_end es e ∷ second_end es e ∷ []
    same e m =
        let g = edge_member t b (h refl).1 e m in
        let l = long (element t e) g.1 in
        let w₀ = list_word_lem desk t F e g.0 0 (let q : 0 < length (list_of (element t e)) = omega (arith, l) in q) (lit≤ tt) in
        let w₁ = list_word_lem desk t F e g.0 1 (let q : 1 < length (list_of (element t e)) = omega (arith, l) in q) (lit≤ tt) in
        pair (element t e) (first_end es e) (second_end es e) g.1 w₀ w₁
closed_raw_lem d t D F (suc (suc (suc r))) b h = refl

pub closed_is : (d : ℕ) (es : List ℕ) (t : Table) → d ≡ t.dimension → es ≡ elements_of desk t → Fits desk t → (r : ℕ) (b : List ℕ) → (r ≡ 2 → Edges t b) → closed_raw d es r b ≡ closed t r b
closed_is d es t D e F r b h = ap (λ (l : List ℕ). closed_raw d l r b) e ∙ closed_raw_lem d t D F r b h

-- ---- test 7 by the rank

module _ (d : ℕ) (es b : List ℕ) (r : ℕ) where
  pub closed_one : (n : ℕ) → length b ≡ n → r ≡ 1 → eqb n 2 ≡ closed_raw d es r b
  closed_one n e h = ap (λ (k : ℕ). eqb k 2) (sym e) ∙ ap (λ (k : ℕ). closed_raw d es k b) (sym h)

  pub closed_few : {x : Bool} → x ≡ met_twice es b → length b ≤ few d → r ≡ 2 → x ≡ closed_raw d es r b
  closed_few e l h = e ∙ ap (λ (c : Bool). cond c (met_twice es b) (ring_raw es b)) (sym (test_le (length b) (few d) l)) ∙ ap (λ (k : ℕ). closed_raw d es k b) (sym h)

  pub closed_many : {x : Bool} → x ≡ ring_raw es b → few d < length b → r ≡ 2 → x ≡ closed_raw d es r b
  closed_many e l h = e ∙ ap (λ (c : Bool). cond c (met_twice es b) (ring_raw es b)) (sym (lt-leb (length b) (few d) l)) ∙ ap (λ (k : ℕ). closed_raw d es k b) (sym h)

  pub closed_other : (r ≡ 1 → ⊥) → (r ≡ 2 → ⊥) → true ≡ closed_raw d es r b
  closed_other h k = go r h k
    where
      go : (r : ℕ) → (r ≡ 1 → ⊥) → (r ≡ 2 → ⊥) → true ≡ closed_raw d es r b
      go zero h k = refl
      go (suc zero) h k = absurd (h refl)
      go (suc (suc zero)) h k = absurd (k refl)
      go (suc (suc (suc r))) h k = refl
