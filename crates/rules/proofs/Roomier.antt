-- What a room does not refuse, a roomier one answers alike: each step compares a count with a limit, and the limit only grows.
-- And what is sound in the one is sound in the other.
use Rattle.std.specs.Prelude.{if◌then◌else◌, Option, Some, None, T}
use Prim.Native.Nat.{◌-◌, ℕ, ◌≤◌, suc, zero}
use mathlib.Core.Bool.{Bool, true, false, not}
use mathlib.Core.List.{List, [], ◌∷◌}
use mathlib.Core.Path.{◌≡◌, subst, sym, refl, ap}
use native.Mathlib.Nat.{le_trans, le_of_suc-le-suc}
use native.Mathlib.Omega.{arith}
use lib.Dec.{ltb, leb, eqb}
use lib.Ieee.{fin, Float, inf, nan}
use lib.ListN.{length, drop, get_or}
use Rattle.rules.specs.Limits.{Limits, Roomier}
use Rattle.rules.specs.Lists.{find, find_from, all}
use Rattle.rules.specs.Floats.{point_matches, crossing_point, crossing_of}
use Rattle.rules.specs.Table.{Table, element, Element, element_count, same_element, polytope, corner, Plane, primordials, rank, rank_of, plane_of, is_primordial, boundary_of, point_at}
use Rattle.rules.specs.Sound.{closed, sound}
use Rattle.rules.specs.Cut.{Outcome, refused, done, next, Step, share_element, add_element, add_polytope, share_vertex, with_point, add_vertex, share_plane, add_plane, plane_matches}
use Rattle.rules.specs.Cut.{side_of_cut, including, rule7, Cutting, Params, Gathered, rule6, new_intersection, plane_of_intersection, given, cross_edge, cut_edge, cut, cut_ends, distance_of}
use Rattle.rules.specs.Cut.{cut_boundary, gathering, cut_element, cut_corner, cut_higher, nothing_yet, cut_finite, cut_at_distance}
use Rattle.rules.specs.declared.ElementAnswer.{ElementAnswer}
use Rattle.rules.proofs.Good.{sound_good, good_sound}
use Rattle.rules.proofs.Laws.{test_le, le_test, not_le, and_true, and_left, and_right}
use Rattle.rules.specs.declared.ElementId.{ElementId}
use Rattle.rules.specs.declared.Refusal.TheVariants.{NotClosed, VerticesFull, ElementsFull, HyperplanesFull, BoundaryFull}
use Rattle.rules.specs.Refusals.{refusal_number}
use Rattle.rules.specs.declared.Refusal.{Refusal}

-- another number than 7's
not_seven : (r : Refusal) → r ≡ NotClosed → T (not (eqb (refusal_number r) 7)) → ⊥
not_seven r q s = subst (λ (x : Refusal). T (not (eqb (refusal_number x) 7))) q s

-- the second outcome is the first, unless that is a refusal of the room's own: 7 is none
abbrev pub Alike : {A : Type 0} → Outcome A → Outcome A → Type 0
Alike (refused n) p = n ≡ NotClosed → p ≡ refused n
Alike (done a t) p = p ≡ done a t

next_alike : {A B : Type 0} (o p : Outcome A) (f g : A → Step B) → Alike o p → ((a : A) (t : Table) → Alike (f a t) (g a t)) → Alike (next o f) (next p g)
next_alike {A} (refused n) p f g h k = λ e. ap (λ (q : Outcome A). next q g) (h e)
next_alike {A} (done a t) p f g h k = subst (λ (q : Outcome A). Alike (f a t) (next q g)) (sym h) (k a t)

if_alike : {A : Type 0} (b : Bool) (o p o' p' : Outcome A) → Alike o p → Alike o' p' → Alike (if b then o else o') (if b then p else p')
if_alike true o p o' p' h k = h
if_alike false o p o' p' h k = k

-- room for one more
room_alike : {A : Type 0} (n a b : ℕ) (r : Refusal) (o p : Outcome A) → (r ≡ NotClosed → ⊥) → a ≤ b → Alike o p → Alike (if ltb n a then o else refused r) (if ltb n b then p else refused r)
room_alike {A} n a b r o p z l h = go (ltb n a) refl
  where
    go : (c : Bool) → ltb n a ≡ c → Alike (if c then o else refused r) (if ltb n b then p else refused r)
    go true e = subst (λ (c : Bool). Alike o (if c then p else refused r)) (sym (test_le (suc n) b (le_trans (le_test (suc n) a e) l))) h
    go false e = λ q. absurd (z q)

-- no more than there is room for
fits_alike : {A : Type 0} (n a b : ℕ) (r : Refusal) (o p : Outcome A) → (r ≡ NotClosed → ⊥) → a ≤ b → Alike o p → Alike (if ltb a n then refused r else o) (if ltb b n then refused r else p)
fits_alike {A} n a b r o p z l h = go (ltb a n) (ltb b n) refl refl
  where
    go : (c d : Bool) → ltb a n ≡ c → ltb b n ≡ d → Alike (if c then refused r else o) (if d then refused r else p)
    go true d e f = λ q. absurd (z q)
    go false true e f =
        let x = le_of_suc-le-suc (not_le (suc a) n e) in
        let y = le_test (suc b) n f in
        absurd (let z : ⊥ = omega (arith, x, y, l) in z)
    go false false e f = h

module _ (L M : Limits) (R : Roomier L M) where
  share_element_lem : (e : Element) (o : Option ℕ) (t : Table) → Alike (share_element L e o t) (share_element M e o t)
  share_element_lem e (Some i) t = refl
  share_element_lem e None t = room_alike (element_count t) L.elements M.elements ElementsFull _ _ (λ q. not_seven ElementsFull q tt) R.elements refl

  add_element_lem : (e : Element) (t : Table) → Alike (add_element L e t) (add_element M e t)
  unfolding add_element
  add_element_lem e t = share_element_lem e (find (same_element e) t.elements) t

  add_polytope_lem : (r : ℕ) (b : List ℕ) (h : Option ℕ) (m : Bool) (t : Table) → Alike (add_polytope L r b h m t) (add_polytope M r b h m t)
  unfolding add_polytope
  add_polytope_lem r b h m t =
      if_alike (leb (length b) r) _ _ _ _ refl
      (fits_alike (length b) L.boundary M.boundary BoundaryFull _ _ (λ q. not_seven BoundaryFull q tt) R.boundary
      (if_alike (not (closed t r b)) _ _ _ _ (λ q. refl)
      (next_alike (add_element L (polytope r b h m) t) (add_element M (polytope r b h m) t) _ _ (add_element_lem (polytope r b h m) t) (λ i s. refl))))

  share_vertex_lem : (p : List Float) (o : Option ℕ) (t : Table) → Alike (share_vertex L p o t) (share_vertex M p o t)
  share_vertex_lem p (Some v) t = add_element_lem (corner v) t
  share_vertex_lem p None t = room_alike (length t.points) L.vertices M.vertices VerticesFull _ _ (λ q. not_seven VerticesFull q tt) R.vertices (add_element_lem (corner (length t.points)) (with_point p t))

  add_vertex_lem : (p : List Float) (t : Table) → Alike (add_vertex L p t) (add_vertex M p t)
  unfolding add_vertex
  add_vertex_lem p t = share_vertex_lem p (find (λ q. point_matches q p) t.points) t

  share_plane_lem : (h : Plane) (o : Option ℕ) (t : Table) → Alike (share_plane L h o t) (share_plane M h o t)
  share_plane_lem h (Some n) t = refl
  share_plane_lem h None t = room_alike (length t.planes) L.hyperplanes M.hyperplanes HyperplanesFull _ _ (λ q. not_seven HyperplanesFull q tt) R.hyperplanes refl

  add_plane_lem : (h : Plane) (t : Table) → Alike (add_plane L h t) (add_plane M h t)
  unfolding add_plane
  add_plane_lem h t = share_plane_lem h (find_from (primordials t.dimension) (λ g. plane_matches g h) (drop (primordials t.dimension) t.planes)) t

  side_alike : (kept : Bool) (e : Element) (x : Option ElementId) (s : List ℕ) (t : Table) → Alike (side_of_cut L kept e x s t) (side_of_cut M kept e x s t)
  side_alike false e x s t = refl
  side_alike true e x s t = add_polytope_lem (rank_of e) (including x s) (plane_of e) (is_primordial e) t

  rule7_alike : (c : Cutting) (e : Element) (g : Gathered) (x : Option ElementId) (t : Table) → Alike (rule7 L c e g x t) (rule7 M c e g x t)
  unfolding rule7
  rule7_alike c e g x t =
      next_alike (side_of_cut L c.params.keep_inside e x g.inside t) (side_of_cut M c.params.keep_inside e x g.inside t) _ _ (side_alike c.params.keep_inside e x g.inside t) (λ i t₁.
      next_alike (side_of_cut L c.params.keep_outside e x g.outside t₁) (side_of_cut M c.params.keep_outside e x g.outside t₁) _ _ (side_alike c.params.keep_outside e x g.outside t₁) (λ o t₂. refl))

  rule6_alike : (c : Cutting) (e : Element) (g : Gathered) (fs : List ℕ) (t : Table) → Alike (rule6 L c e g fs t) (rule6 M c e g fs t)
  unfolding rule6
  rule6_alike c e g [] t =
      next_alike (new_intersection L c (rank_of e) g.intersections t) (new_intersection M c (rank_of e) g.intersections t) _ _
      (add_polytope_lem (rank_of e - 1) g.intersections (plane_of_intersection t c (rank_of e)) false t) (λ x u. rule7_alike c e g x u)
  rule6_alike c e g (f ∷ []) t = rule7_alike c e g (given f) t
  rule6_alike c e g (f ∷ f' ∷ fs) t = refl

  cross_alike : (p q : List Float) (x : Option Float) (g : Gathered) (t : Table) → Alike (cross_edge L p q x g t) (cross_edge M p q x g t)
  cross_alike p q None g t = refl
  cross_alike p q (Some s) g t = next_alike (add_vertex L (crossing_point s p q) t) (add_vertex M (crossing_point s p q) t) _ _ (add_vertex_lem (crossing_point s p q) t) (λ v u. refl)

  edge_alike : (c : Cutting) (e : Element) (t : Table) → Alike (cut_edge L c e t) (cut_edge M c e t)
  unfolding cut_edge cut_ends
  edge_alike c e t =
      let a = get_or (boundary_of e) 0 0 in
      let b = get_or (boundary_of e) 1 0 in
      next_alike (cut_ends L c a b (point_at t a) (point_at t b) t) (cut_ends M c a b (point_at t a) (point_at t b) t) _ _
      (cross_alike (point_at t a) (point_at t b) (crossing_of (distance_of c (point_at t a)) (distance_of c (point_at t b))) _ t) (λ g u. rule6_alike c e g g.flush u)

  boundary_alike : (ask again : ℕ → Step ElementAnswer) → ((b : ℕ) (t : Table) → Alike (ask b t) (again b t)) → (bs : List ℕ) (g : Gathered) (t : Table) → Alike (cut_boundary ask bs g t) (cut_boundary again bs g t)
  boundary_alike ask again h [] g t = refl
  boundary_alike ask again h (b ∷ bs) g t = next_alike (ask b t) (again b t) _ _ (h b t) (λ a u. boundary_alike ask again h bs (gathering b a g) u)

  element_alike : (c : Cutting) (r e : ℕ) (t : Table) → Alike (cut_element L c r e t) (cut_element M c r e t)
  unfolding cut_element cut_corner cut_higher
  element_alike c zero e t = refl
  element_alike c (suc zero) e t = edge_alike c (element t e) t
  element_alike c (suc (suc r)) e t =
      next_alike (cut_boundary (cut_element L c (suc r)) (boundary_of (element t e)) nothing_yet t) (cut_boundary (cut_element M c (suc r)) (boundary_of (element t e)) nothing_yet t) _ _
      (boundary_alike (cut_element L c (suc r)) (cut_element M c (suc r)) (element_alike c (suc r)) (boundary_of (element t e)) nothing_yet t) (λ g u. rule6_alike c (element t e) g g.flush u)

  finite_alike : (p : Params) (root : ℕ) (t : Table) → Alike (cut_finite L p root t) (cut_finite M p root t)
  finite_alike p root t = next_alike (add_plane L p.divider t) (add_plane M p.divider t) _ _ (add_plane_lem p.divider t) (λ n u. element_alike (record { params = p; number = n }) (rank u root) root u)

  distance_alike : (p : Params) (d : Float) (root : ℕ) (t : Table) → Alike (cut_at_distance L p d root t) (cut_at_distance M p d root t)
  distance_alike p (inf false) root t = refl
  distance_alike p (inf true) root t = refl
  distance_alike p nan root t = finite_alike p root t
  distance_alike p (fin s m e) root t = finite_alike p root t

  pub cut_alike : (p : Params) (root : ℕ) (t : Table) → Alike (cut L p root t) (cut M p root t)
  unfolding cut
  cut_alike p root t = distance_alike p p.divider.distance root t

  -- a table sound in the one room is sound in the other
  pub sound_alike : (t : Table) → sound L t ≡ true → sound M t ≡ true
  sound_alike t s =
      let g = sound_good L t s in
      good_sound M t (record {
        low = g.low;
        high = more t.dimension R.dimensions g.high;
        vertex_room = more (length t.points) R.vertices g.vertex_room;
        element_room = more (element_count t) R.elements g.element_room;
        plane_room = more (length t.planes) R.hyperplanes g.plane_room;
        boundary_room = each t.elements g.boundary_room;
        points = g.points;
        planes = g.planes;
        primordial = g.primordial;
        corners = g.corners;
        elements = g.elements;
        apart = g.apart;
      })
    where
      more : {a b : ℕ} (n : ℕ) → a ≤ b → leb n a ≡ true → leb n b ≡ true
      more {a} {b} n l h = test_le n b (le_trans (le_test n a h) l)

      each : (es : List Element) → all (λ e. leb (length (boundary_of e)) L.boundary) es ≡ true → all (λ e. leb (length (boundary_of e)) M.boundary) es ≡ true
      each [] h = refl
      each (e ∷ es) h =
          and_true (leb (length (boundary_of e)) M.boundary) (all (λ x. leb (length (boundary_of x)) M.boundary) es)
          (more (length (boundary_of e)) R.boundary (and_left (leb (length (boundary_of e)) L.boundary) _ h))
          (each es (and_right (leb (length (boundary_of e)) L.boundary) _ h))
