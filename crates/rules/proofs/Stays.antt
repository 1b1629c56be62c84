-- A step on a sound table that is not refused leaves a sound table that extends it: the record `Kept` says so, and is the hypothesis of every induction.
-- The three appends are such steps.
use Rattle.std.specs.Prelude.{if◌then◌else◌, Option, Some, None}
use Prim.Native.Nat.{ℕ, ◌<◌, zero, suc, suc-le-suc, zero-le, ◌+◌}
use mathlib.Core.Bool.{Bool, true, false≢true, false, ◌&&◌, beq, true≢false}
use mathlib.Core.List.{List, [], ◌∷◌}
use mathlib.Core.Path.{refl, ◌≡◌, sym, subst, ◌∙◌, ap}
use native.Mathlib.Nat.{zero-add, le_refl, suc-ne-zero, le_of_suc-le-suc}
use native.Mathlib.Omega.{arith}
use lib.Dec.{eqb, leb, ltb}
use lib.Ieee.{low, Float}
use lib.ListN.{length, drop, length-drop}
use lib.Seq.{get_or-append_seam}
use Rattle.rules.specs.Limits.{Limits}
use Rattle.rules.specs.Lists.{alike, find, find_from}
use Rattle.rules.specs.Floats.{point_matches}
use Rattle.rules.specs.Table.{Table, polytope, rank, Element, same_element, rank_of, corner, same_plane, Plane, element, element_count, primordials}
use Rattle.rules.specs.Sound.{sound_facet, closed, sound_point, sound_plane}
use Rattle.rules.specs.Cut.{Outcome, refused, done, next, Step, with_element, add_element, share_element, add_polytope, give, given, add_vertex, with_point, share_vertex, add_plane, plane_matches, with_plane, share_plane}
use Rattle.rules.specs.Held.{Extends, Ranked, SetOf, SomeOf}
use Rattle.rules.proofs.Corners.{corner_new, corner_there}
use Rattle.rules.proofs.Extends.{extends_refl, extends_trans, grown_element, with_vertex, grown_vertex, grown_plane}
use Rattle.rules.proofs.Good.{Good, Whole}
use Rattle.rules.proofs.GoodAppends.{good_polytope, good_vertex, good_plane}
use Rattle.rules.proofs.Growing.{find_holds, find_bound, length_snoc}
use Rattle.rules.proofs.LaterAppends.{polytope_by}
use Rattle.rules.proofs.Laws.{eq_test, and_left, test_le, not_le, is_found, le_test}
use Rattle.rules.proofs.Ranked.{set_under, set_ranks}
use Rattle.rules.specs.declared.Refusal.TheVariants.{ElementsFull, HyperplanesFull, VerticesFull}

pub record Kept {A : Type 0} (L : Limits) (Q : A → Table → Type 0) (before : Table) (a : A) (after : Table) : Type 0 where
  pub extends : Extends before after
  pub good : Good L after
  pub value : Q a after

abbrev pub Stays : {A : Type 0} → Limits → (A → Table → Type 0) → Table → Outcome A → Type 0
Stays L Q before (refused n) = Unit {0}
Stays L Q before (done a after) = Kept L Q before a after

module _ (L : Limits) where
  pub stays_here : {A : Type 0} (Q : A → Table → Type 0) (t : Table) (a : A) → Good L t → Q a t → Kept L Q t a t
  stays_here Q t a g q = record { extends = extends_refl t; good = g; value = q }

  pub stays_from : {A : Type 0} (Q : A → Table → Type 0) (t s : Table) (o : Outcome A) → Extends t s → Stays L Q s o → Stays L Q t o
  stays_from Q t s (refused n) e h = tt
  stays_from Q t s (done a u) e h = record { extends = extends_trans e h.extends; good = h.good; value = h.value }

  pub stays_next : {A B : Type 0} (Q : A → Table → Type 0) (R : B → Table → Type 0) (t : Table) (o : Outcome A) (f : A → Step B) → Stays L Q t o
      → ((a : A) (s : Table) → Extends t s → Good L s → Q a s → Stays L R s (f a s)) → Stays L R t (next o f)
  stays_next Q R t (refused n) f h k = tt
  stays_next Q R t (done a s) f h k = stays_from R t s (f a s) h.extends (k a s h.extends h.good h.value)

-- ---- a polytope

pub same_rank : (r : ℕ) (b : List ℕ) (h : Option ℕ) (m : Bool) (y : Element) → same_element (polytope r b h m) y ≡ true → rank_of y ≡ r
unfolding same_element
same_rank r b h m (corner v) k = absurd (false≢true k)
same_rank r b h m (polytope q c j n) k =
    sym (eq_test r q (and_left (eqb r q) (same_plane h j) (and_left (eqb r q && same_plane h j) (beq m n) (and_left (eqb r q && same_plane h j && beq m n) (alike eqb b c) k))))

pub same_corner : (v : ℕ) (y : Element) → same_element (corner v) y ≡ true → rank_of y ≡ 0
unfolding same_element
same_corner v (corner w) k = refl
same_corner v (polytope q c j n) k = absurd (false≢true k)

-- what a search among the elements finds is in use, and passes the test
pub found_element : (p : Element → Bool) (t : Table) (i : ℕ) → find p t.elements ≡ Some i → (i < element_count t) × (p (element t i) ≡ true)
found_element p t i h =
    let f = find_holds p 0 i t.elements (corner 0) h in (
      subst (λ (k : ℕ). i < k) (zero-add (element_count t)) (find_bound p 0 i t.elements h),
      subst (λ (k : ℕ). p (element t k) ≡ true) (sym (zero-add f.0) ∙ f.1) f.2,
    )

pub new_rank : (y : Element) (t : Table) → Ranked (with_element y t) (suc (rank_of y)) (element_count t)
new_rank y t = (
  subst (λ (k : ℕ). element_count t < k) (sym (length_snoc t.elements y)) (le_refl (suc (element_count t))),
  ap (λ (z : Element). suc (rank_of z)) (get_or-append_seam t.elements y [] (corner 0)),
)

module _ (L : Limits) (r : ℕ) (b : List ℕ) (h : Option ℕ) (m : Bool) (t : Table) (g : Good L t) where
  pub polytope_stays : Whole t (element_count t) r b h m → leb (length b) L.boundary ≡ true → Stays L (λ (i : ℕ) (s : Table). Ranked s (suc r) i) t (add_element L (polytope r b h m) t)
  unfolding add_element
  polytope_stays w short = go (find (same_element (polytope r b h m)) t.elements) refl
    where
      room : (c : Bool) → ltb (element_count t) L.elements ≡ c → find (same_element (polytope r b h m)) t.elements ≡ None
          → Stays L (λ (i : ℕ) (s : Table). Ranked s (suc r) i) t (if c then done (element_count t) (with_element (polytope r b h m) t) else refused ElementsFull)
      room true e n = record {
        extends = grown_element (polytope r b h m) t;
        good = good_polytope L t r b h m g w e short n;
        value = new_rank (polytope r b h m) t;
      }
      room false e n = tt

      go : (o : Option ℕ) → find (same_element (polytope r b h m)) t.elements ≡ o → Stays L (λ (i : ℕ) (s : Table). Ranked s (suc r) i) t (share_element L (polytope r b h m) o t)
      go (Some i) e =
          let f = found_element (same_element (polytope r b h m)) t i e in
          stays_here L (λ (k : ℕ) (s : Table). Ranked s (suc r) k) t i g (f.0, ap suc (same_rank r b h m (element t i) f.1))
      go None e = room (ltb (element_count t) L.elements) refl e

-- where a boundary has more than its rank, the rank is not 0
pub rank_above : (t : Table) (r : ℕ) (b : List ℕ) → SetOf t r b → leb (length b) r ≡ false → leb 1 r ≡ true
rank_above t zero [] s h = absurd (true≢false h)
rank_above t zero (x ∷ xs) s h = absurd (suc-ne-zero (rank t x) s.ranked.0.1)
rank_above t (suc r) b s h = test_le 1 (suc r) (suc-le-suc zero-le)

pub add_stays : (L : Limits) (r : ℕ) (b : List ℕ) (h : Option ℕ) (m : Bool) (t : Table) → Good L t → SetOf t r b → leb r t.dimension ≡ true → sound_facet t r h m ≡ true
    → Stays L (SomeOf (suc r)) t (add_polytope L r b h m t)
unfolding add_polytope
add_stays L r b h m t g s low facet = go (leb (length b) r) (ltb L.boundary (length b)) (closed t r b) refl refl refl
  where
    go : (few many good : Bool) → leb (length b) r ≡ few → ltb L.boundary (length b) ≡ many → closed t r b ≡ good
        → Stays L (SomeOf (suc r)) t (polytope_by L r b h m few many good t)
    go true many good e₁ e₂ e₃ = stays_here L (SomeOf (suc r)) t None g tt
    go false true good e₁ e₂ e₃ = tt
    go false false false e₁ e₂ e₃ = tt
    go false false true e₁ e₂ e₃ =
        stays_next L (λ (i : ℕ) (u : Table). Ranked u (suc r) i) (SomeOf (suc r)) t (add_element L (polytope r b h m) t) (λ i. give (given i))
        (polytope_stays L r b h m t g (record {
          some_rank = rank_above t r b s e₁;
          low_rank = low;
          bound = record {
            rising = s.rising;
            under = set_under t r b s.ranked;
            ranks = set_ranks t r b s.ranked;
            enough = test_le (suc r) (length b) (not_le (length b) r e₁);
            tight = e₃;
          };
          facet = facet;
        }) (test_le (length b) L.boundary (le_of_suc-le-suc (not_le (suc L.boundary) (length b) e₂))))
        (λ i u x k v. stays_here L (SomeOf (suc r)) u (given i) k v)

-- ---- a vertex with its element, and a hyperplane

module _ (L : Limits) (t : Table) (g : Good L t) where
  pub vertex_stays : (p : List Float) → sound_point t.dimension p ≡ true → Stays L (λ (i : ℕ) (s : Table). Ranked s 1 i) t (add_vertex L p t)
  unfolding add_vertex add_element
  vertex_stays p sp = go (find (λ q. point_matches q p) t.points) refl
    where
      n : ℕ
      n = length t.points

      matched : (v : ℕ) (o : Option ℕ) → find (same_element (corner v)) t.elements ≡ o → is_found o ≡ true → Stays L (λ (i : ℕ) (s : Table). Ranked s 1 i) t (share_element L (corner v) o t)
      matched v (Some i) e f =
          let q = found_element (same_element (corner v)) t i e in
          stays_here L (λ (k : ℕ) (s : Table). Ranked s 1 k) t i g (q.0, ap suc (same_corner v (element t i) q.1))
      matched v None e f = absurd (false≢true f)

      room : (c : Bool) → ltb (element_count t) L.elements ≡ c → ltb n L.vertices ≡ true → find (same_element (corner n)) t.elements ≡ None
          → Stays L (λ (i : ℕ) (s : Table). Ranked s 1 i) t (if c then done (element_count t) (with_vertex p t) else refused ElementsFull)
      room true e v f = record { extends = grown_vertex p t; good = good_vertex L t p g sp v e f; value = new_rank (corner n) (with_point p t) }
      room false e v f = tt

      fresh : (o : Option ℕ) → find (same_element (corner n)) t.elements ≡ o → is_found o ≡ false → ltb n L.vertices ≡ true
          → Stays L (λ (i : ℕ) (s : Table). Ranked s 1 i) t (share_element L (corner n) o (with_point p t))
      fresh (Some i) e f v = absurd (true≢false f)
      fresh None e f v = room (ltb (element_count t) L.elements) refl v e

      new : (c : Bool) → ltb n L.vertices ≡ c
          → Stays L (λ (i : ℕ) (s : Table). Ranked s 1 i) t (if c then share_element L (corner n) (find (same_element (corner n)) t.elements) (with_point p t) else refused VerticesFull)
      new true v = fresh (find (same_element (corner n)) t.elements) refl (corner_new L t g) v
      new false v = tt

      go : (o : Option ℕ) → find (λ q. point_matches q p) t.points ≡ o → Stays L (λ (i : ℕ) (s : Table). Ranked s 1 i) t (share_vertex L p o t)
      go (Some v) e =
          matched v (find (same_element (corner v)) t.elements) refl
          (corner_there L t g v (subst (λ (k : ℕ). v < k) (zero-add n) (find_bound (λ q. point_matches q p) 0 v t.points e)))
      go None e = new (ltb n L.vertices) refl

  pub plane_stays : (h : Plane) → sound_plane t.dimension h ≡ true → Stays L (λ (i : ℕ) (s : Table). i < length s.planes) t (add_plane L h t)
  unfolding add_plane
  plane_stays h sp = go (find_from P (λ q. plane_matches q h) (drop P t.planes)) refl
    where
      P : ℕ
      P = primordials t.dimension

      last : P + length (drop P t.planes) ≡ length t.planes
      last = let e = length-drop P t.planes in let k = le_test P (length t.planes) g.primordial in omega (arith, e, k)

      room : (c : Bool) → ltb (length t.planes) L.hyperplanes ≡ c
          → Stays L (λ (i : ℕ) (s : Table). i < length s.planes) t (if c then done (length t.planes) (with_plane h t) else refused HyperplanesFull)
      room true e = record {
        extends = grown_plane h t;
        good = good_plane L t h g sp e;
        value = subst (λ (k : ℕ). length t.planes < k) (sym (length_snoc t.planes h)) (le_refl (suc (length t.planes)));
      }
      room false e = tt

      go : (o : Option ℕ) → find_from P (λ q. plane_matches q h) (drop P t.planes) ≡ o → Stays L (λ (i : ℕ) (s : Table). i < length s.planes) t (share_plane L h o t)
      go (Some i) e =
          stays_here L (λ (k : ℕ) (s : Table). k < length s.planes) t i g
          (subst (λ (k : ℕ). i < k) last (find_bound (λ q. plane_matches q h) P i (drop P t.planes) e))
      go None e = room (ltb (length t.planes) L.hyperplanes) refl
