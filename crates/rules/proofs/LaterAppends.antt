-- The three appends replay: what was found is found again, and what was appended is found where it stands.
use Rattle.std.specs.Prelude.{if◌then◌else◌, Option, Some, None}
use Prim.Native.Nat.{ℕ, ◌<◌, suc, ◌+◌}
use mathlib.Core.Bool.{Bool, not, true, false}
use mathlib.Core.List.{append_assoc, ◌∷◌, [], List, ◌++◌}
use mathlib.Core.Path.{refl, ◌≡◌, ap, ◌∙◌, subst, sym}
use native.Mathlib.Nat.{zero-add, le_refl}
use native.Mathlib.Omega.{arith}
use lib.Dec.{ltb, leb}
use lib.Ieee.{Float}
use lib.ListN.{length, drop, length-drop}
use lib.Seq.{drop-append-le}
use Rattle.rules.specs.Limits.{Limits}
use Rattle.rules.specs.Lists.{find, find_from}
use Rattle.rules.specs.Floats.{point_matches}
use Rattle.rules.specs.Table.{Element, Table, element_count, same_element, polytope, corner, Plane, primordials}
use Rattle.rules.specs.Sound.{closed}
use Rattle.rules.specs.Cut.{add_element, with_element, share_element, done, refused, add_polytope, Step, next, give, given, add_vertex, with_point, share_vertex, add_plane, plane_matches, share_plane, with_plane}
use Rattle.rules.specs.Held.{Extends}
use Rattle.rules.proofs.Extends.{extends_refl, grown_element, Below, closed_same, grown_point, grown_plane}
use Rattle.rules.proofs.Fine.{Fine, Names, fine_element, SomeIn, fine_point, fine_plane}
use Rattle.rules.proofs.Growing.{find_new, find_bound, find_found, length_snoc}
use Rattle.rules.proofs.Later.{Later, same, InUse, later_if, later_give, later_next, later_same, later_from, Anything}
use Rattle.rules.proofs.Selves.{element_self, point_self, plane_matches_self}
use Rattle.rules.specs.declared.ElementId.{ElementId}
use Rattle.rules.specs.declared.Refusal.TheVariants.{BoundaryFull, ElementsFull, HyperplanesFull, NotClosed, VerticesFull}

pub add_element_lem : (L : Limits) (e : Element) (t : Table) → Fine t → Names (length t.points) (element_count t) e → Later same InUse t (add_element L e) (add_element L e t)
unfolding add_element
add_element_lem L e t f n = go (find (same_element e) t.elements) refl
  where
    fresh : find (same_element e) t.elements ≡ None → (l : Table) → Extends (with_element e t) l → find (same_element e) l.elements ≡ Some (element_count t)
    fresh h l x =
        ap (find (same_element e)) (x.elements.1 ∙ append_assoc t.elements (e ∷ []) x.elements.0)
        ∙ find_new (same_element e) 0 e t.elements x.elements.0 (element_self e) h ∙ ap {B = Option ℕ} Some (zero-add (element_count t))

    go : (o : Option ℕ) → find (same_element e) t.elements ≡ o → Later same InUse t (add_element L e) (share_element L e o t)
    go (Some i) h = record {
      extends = extends_refl t;
      fine = f;
      value = subst (λ (k : ℕ). i < k) (zero-add (element_count t)) (find_bound (same_element e) 0 i t.elements h);
      replay = λ l x. ap (λ (o : Option ℕ). share_element L e o l) (ap (find (same_element e)) x.elements.1 ∙ find_found (same_element e) 0 i t.elements x.elements.0 h);
    }
    go None h =
        later_if same InUse t (add_element L e) (ltb (element_count t) L.elements) (done (element_count t) (with_element e t)) (refused ElementsFull) (record {
          extends = grown_element e t;
          fine = fine_element e t f n;
          value = subst (λ (k : ℕ). element_count t < k) (sym (length_snoc t.elements e)) (le_refl (suc (element_count t)));
          replay = λ l x. ap (λ (o : Option ℕ). share_element L e o l) (fresh h l x);
        }) tt

-- `addPolytope`, with its tests as arguments
abbrev pub polytope_by : Limits → ℕ → List ℕ → Option ℕ → Bool → Bool → Bool → Bool → Step (Option ElementId)
polytope_by L r b h m few many good = λ t.
    if few then done None t
    else if many then refused BoundaryFull
    else if not good then refused NotClosed
    else next (add_element L (polytope r b h m) t) (λ i. give (given i))

pub polytope_by_lem : (L : Limits) (r : ℕ) (b : List ℕ) (h : Option ℕ) (m few many good : Bool) (t : Table) → Fine t → Below (element_count t) b
    → Later same SomeIn t (polytope_by L r b h m few many good) (polytope_by L r b h m few many good t)
polytope_by_lem L r b h m true many good t f n = later_give same SomeIn t None f tt
polytope_by_lem L r b h m false true good t f n = tt
polytope_by_lem L r b h m false false false t f n = tt
polytope_by_lem L r b h m false false true t f n =
    later_next same InUse same SomeIn t (add_element L (polytope r b h m)) (λ i. give (given i)) (add_element L (polytope r b h m) t) (λ i. give (given i))
    (add_element_lem L (polytope r b h m) t f n) (λ i s x g v. later_give same SomeIn s (given i) g v)

pub add_polytope_lem : (L : Limits) (r : ℕ) (b : List ℕ) (h : Option ℕ) (m : Bool) (t : Table) → Fine t → Below (element_count t) b
    → Later same SomeIn t (add_polytope L r b h m) (add_polytope L r b h m t)
unfolding add_polytope
add_polytope_lem L r b h m t f n =
    later_same same SomeIn t (add_polytope L r b h m) (polytope_by L r b h m (leb (length b) r) (ltb L.boundary (length b)) (closed t r b)) (add_polytope L r b h m t)
    (λ l x. ap (λ (good : Bool). polytope_by L r b h m (leb (length b) r) (ltb L.boundary (length b)) good l) (closed_same t l r b x n))
    (polytope_by_lem L r b h m (leb (length b) r) (ltb L.boundary (length b)) (closed t r b) t f n)

pub add_vertex_lem : (L : Limits) (p : List Float) (t : Table) → Fine t → Later same InUse t (add_vertex L p) (add_vertex L p t)
unfolding add_vertex
add_vertex_lem L p t f = go (find (λ q. point_matches q p) t.points) refl
  where
    n : ℕ
    n = length t.points

    fresh : find (λ q. point_matches q p) t.points ≡ None → (l : Table) → Extends (with_point p t) l → find (λ q. point_matches q p) l.points ≡ Some n
    fresh h l x =
        ap (find (λ q. point_matches q p)) (x.points.1 ∙ append_assoc t.points (p ∷ []) x.points.0)
        ∙ find_new (λ q. point_matches q p) 0 p t.points x.points.0 (point_self p) h ∙ ap {B = Option ℕ} Some (zero-add n)

    go : (o : Option ℕ) → find (λ q. point_matches q p) t.points ≡ o → Later same InUse t (add_vertex L p) (share_vertex L p o t)
    go (Some v) h =
        later_same same InUse t (add_vertex L p) (add_element L (corner v)) (add_element L (corner v) t)
        (λ l x. ap (λ (o : Option ℕ). share_vertex L p o l) (ap (find (λ q. point_matches q p)) x.points.1 ∙ find_found (λ q. point_matches q p) 0 v t.points x.points.0 h))
        (add_element_lem L (corner v) t f (subst (λ (k : ℕ). v < k) (zero-add n) (find_bound (λ q. point_matches q p) 0 v t.points h)))
    go None h =
        later_if same InUse t (add_vertex L p) (ltb n L.vertices) (add_element L (corner n) (with_point p t)) (refused VerticesFull)
        (later_from same InUse t (with_point p t) (add_vertex L p) (add_element L (corner n) (with_point p t)) (grown_point p t)
        (later_same same InUse (with_point p t) (add_vertex L p) (add_element L (corner n)) (add_element L (corner n) (with_point p t))
        (λ l x. ap (λ (o : Option ℕ). share_vertex L p o l) (fresh h l x))
        (add_element_lem L (corner n) (with_point p t) (fine_point p t f) (subst (λ (k : ℕ). n < k) (sym (length_snoc t.points p)) (le_refl (suc n)))))) tt

pub add_plane_lem : (L : Limits) (h : Plane) (t : Table) → Fine t → Later same Anything t (add_plane L h) (add_plane L h t)
unfolding add_plane
add_plane_lem L h t f = go (find_from P test (drop P t.planes)) refl
  where
    P : ℕ
    P = primordials t.dimension

    test : Plane → Bool
    test g = plane_matches g h

    -- the search on a later table
    search_later : (l : Table) (zs : List Plane) → l.dimension ≡ t.dimension → l.planes ≡ t.planes ++ zs
        → add_plane L h l ≡ share_plane L h (find_from P test (drop P t.planes ++ zs)) l
    search_later l zs d e =
        ap (λ (k : ℕ). share_plane L h (find_from (primordials k) test (drop (primordials k) l.planes)) l) d
        ∙ ap (λ (xs : List Plane). share_plane L h (find_from P test xs) l) (ap (drop P) e ∙ drop-append-le P t.planes zs f.planes)

    last : P + length (drop P t.planes) ≡ length t.planes
    last = let e = length-drop P t.planes in let k = f.planes in omega (arith, e, k)

    go : (o : Option ℕ) → find_from P test (drop P t.planes) ≡ o → Later same Anything t (add_plane L h) (share_plane L h o t)
    go (Some n) e = record {
      extends = extends_refl t;
      fine = f;
      value = tt;
      replay = λ l x. search_later l x.planes.0 x.dimension x.planes.1
          ∙ ap (λ (o : Option ℕ). share_plane L h o l) (find_found test P n (drop P t.planes) x.planes.0 e);
    }
    go None e =
        later_if same Anything t (add_plane L h) (ltb (length t.planes) L.hyperplanes) (done (length t.planes) (with_plane h t)) (refused HyperplanesFull) (record {
          extends = grown_plane h t;
          fine = fine_plane h t f;
          value = tt;
          replay = λ l x. search_later l (h ∷ x.planes.0) x.dimension (x.planes.1 ∙ append_assoc t.planes (h ∷ []) x.planes.0)
              ∙ ap (λ (o : Option ℕ). share_plane L h o l)
              (find_new test P h (drop P t.planes) x.planes.0 (plane_matches_self h) e ∙ ap {B = Option ℕ} Some last);
        }) tt
