-- Every table that a step leaves is built from the old one by appends, and a point is appended only where no earlier one matches it.
-- One walk through the rules shows it; that old entries stay, and that no two vertices come to match, are read off.
use Prim.Native.Nat.{◌-◌, ℕ, zero, suc}
use mathlib.Core.Bool.{Bool, not, false, true}
use mathlib.Core.List.{List, ◌∷◌, []}
use mathlib.Core.Path.{◌≡◌, refl, subst}
use lib.Dec.{T, ltb, leb}
use lib.Ieee.{Float, fin, inf, nan}
use lib.ListN.{length, drop, get_or}
use Rattle.rules.specs.Limits.{Limits}
use Rattle.rules.specs.Lists.{find, member, find_from}
use Rattle.rules.specs.Floats.{point_matches, crossing_point, crossing_of}
use Rattle.rules.specs.Table.{Table, element, Element, Plane, element_count, same_element, polytope, boundary, corner, primordials, rank, rank_of, plane_of, is_primordial, boundary_of, point_at}
use Rattle.rules.specs.Sound.{closed}
use Rattle.rules.specs.Cut.{with_element, with_point, with_plane, cut, Outcome, refused, done, Step, next, share_element, add_element, add_polytope, add_vertex, share_vertex, share_plane}
use Rattle.rules.specs.Cut.{add_plane, plane_matches, Cutting, Params, side_of_cut, including, rule7, Gathered, rule6, new_intersection, plane_of_intersection, given, cross_edge, cut_edge, cut_ends}
use Rattle.rules.specs.Cut.{distance_of, cut_boundary, gathering, cut_element, cut_corner, cut_higher, nothing_yet, cut_finite, cut_at_distance}
use Rattle.rules.specs.Held.{Extends}
use Rattle.rules.specs.declared.ElementAnswer.{ElementAnswer}
use Rattle.rules.proofs.Extends.{extends_refl, extends_trans, grown_element, grown_point, grown_plane}
use Rattle.rules.proofs.Laws.{either}
use Rattle.rules.specs.declared.ElementId.{ElementId}
use Rattle.std.specs.Prelude.{Option, Some, None}
use Rattle.rules.specs.Refusals.{refusal_number}
use Rattle.rules.specs.declared.Refusal.{Refusal}

-- ---- built by appends

pub data Built (old : Table) : Table → Type 0 where
  unchanged : Built old old
  element_more : (t : Table) (e : Element) → Built old t → Built old (with_element e t)
  point_more : (t : Table) (p : List Float) → find (λ q. point_matches q p) t.points ≡ None → Built old t → Built old (with_point p t)
  plane_more : (t : Table) (h : Plane) → Built old t → Built old (with_plane h t)

pub built_trans : {a b c : Table} → Built a b → Built b c → Built a c
built_trans p unchanged = p
built_trans p (element_more t e q) = element_more t e (built_trans p q)
built_trans p (point_more t x n q) = point_more t x n (built_trans p q)
built_trans p (plane_more t h q) = plane_more t h (built_trans p q)

-- old entries keep number and content
pub built_extends : {a b : Table} → Built a b → Extends a b
built_extends {a} unchanged = extends_refl a
built_extends (element_more t e q) = extends_trans (built_extends q) (grown_element e t)
built_extends (point_more t p n q) = extends_trans (built_extends q) (grown_point p t)
built_extends (plane_more t h q) = extends_trans (built_extends q) (grown_plane h t)

-- ---- an outcome, seen from an old table

-- the numbers that the rules of the cut refuse with
abbrev pub RuleNumber : Refusal → Type 0
RuleNumber n = T (member (refusal_number n) (7 ∷ 8 ∷ 9 ∷ 10 ∷ 11 ∷ []))

abbrev pub After : {A : Type 0} → Table → Outcome A → Type 0
After old (refused n) = RuleNumber n
After old (done a t) = Built old t

abbrev pub Builds : {A : Type 0} → Step A → Type 0
Builds m = (t : Table) → After t (m t)

after_trans : {A : Type 0} {a b : Table} (o : Outcome A) → Built a b → After b o → After a o
after_trans (refused n) p q = q
after_trans (done x t) p q = built_trans p q

pub after_next : {A B : Type 0} (t : Table) (o : Outcome A) (f : A → Step B) → After t o → ((a : A) → Builds (f a)) → After t (next o f)
after_next t (refused n) f h g = h
after_next t (done a t') f h g = after_trans (f a t') h (g a t')

-- ---- the appends

share_element_lem : (L : Limits) (e : Element) (o : Option ℕ) → Builds (share_element L e o)
share_element_lem L e (Some i) t = unchanged
share_element_lem L e None t = either (After t) (ltb (element_count t) L.elements) _ _ (element_more t e unchanged) tt

pub add_element_lem : (L : Limits) (e : Element) → Builds (add_element L e)
unfolding add_element
add_element_lem L e t = share_element_lem L e (find (same_element e) t.elements) t

pub add_polytope_lem : (L : Limits) (r : ℕ) (b : List ℕ) (h : Option ℕ) (m : Bool) → Builds (add_polytope L r b h m)
unfolding add_polytope
add_polytope_lem L r b h m t =
    either (After t) (leb (length b) r) _ _ unchanged
    (either (After t) (ltb L.boundary (length b)) _ _ tt
    (either (After t) (not (closed t r b)) _ _ tt
    (after_next t (add_element L (polytope r b h m) t) _ (add_element_lem L (polytope r b h m) t) (λ i t'. unchanged))))

pub add_vertex_lem : (L : Limits) (p : List Float) → Builds (add_vertex L p)
unfolding add_vertex
add_vertex_lem L p t = go (find (λ q. point_matches q p) t.points) refl
  where
    go : (o : Option ℕ) → find (λ q. point_matches q p) t.points ≡ o → After t (share_vertex L p o t)
    go (Some v) h = add_element_lem L (corner v) t
    go None h =
        either (After t) (ltb (length t.points) L.vertices) _ _
        (after_trans (add_element L (corner (length t.points)) (with_point p t)) (point_more t p h unchanged)
        (add_element_lem L (corner (length t.points)) (with_point p t))) tt

share_plane_lem : (L : Limits) (h : Plane) (o : Option ℕ) → Builds (share_plane L h o)
share_plane_lem L h (Some n) t = unchanged
share_plane_lem L h None t = either (After t) (ltb (length t.planes) L.hyperplanes) _ _ (plane_more t h unchanged) tt

pub add_plane_lem : (L : Limits) (h : Plane) → Builds (add_plane L h)
unfolding add_plane
add_plane_lem L h t =
    let P = primordials t.dimension in share_plane_lem L h (find_from P (λ g. plane_matches g h) (drop P t.planes)) t

-- ---- rules 4 to 7

module _ (L : Limits) (c : Cutting) where
  pub side_builds : (kept : Bool) (e : Element) (x : Option ElementId) (s : List ℕ) → Builds (side_of_cut L kept e x s)
  side_builds false e x s t = unchanged
  side_builds true e x s t = add_polytope_lem L (rank_of e) (including x s) (plane_of e) (is_primordial e) t

  pub rule7_builds : (e : Element) (g : Gathered) (x : Option ElementId) → Builds (rule7 L c e g x)
  unfolding rule7
  rule7_builds e g x t =
      after_next t (side_of_cut L c.params.keep_inside e x g.inside t) _ (side_builds c.params.keep_inside e x g.inside t) (λ i t₁.
      after_next t₁ (side_of_cut L c.params.keep_outside e x g.outside t₁) _ (side_builds c.params.keep_outside e x g.outside t₁) (λ o t₂. unchanged))

  pub rule6_builds : (e : Element) (g : Gathered) (fs : List ℕ) → Builds (rule6 L c e g fs)
  unfolding rule6
  rule6_builds e g [] t =
      after_next t (new_intersection L c (rank_of e) g.intersections t) _
      (add_polytope_lem L (rank_of e - 1) g.intersections (plane_of_intersection t c (rank_of e)) false t) (λ x. rule7_builds e g x)
  rule6_builds e g (f ∷ []) t = rule7_builds e g (given f) t
  rule6_builds e g (f ∷ f' ∷ fs) t = unchanged

  pub cross_edge_lem : (p q : List Float) (x : Option Float) (g : Gathered) → Builds (cross_edge L p q x g)
  cross_edge_lem p q None g t = unchanged
  cross_edge_lem p q (Some s) g t =
      after_next t (add_vertex L (crossing_point s p q) t) _ (add_vertex_lem L (crossing_point s p q) t) (λ v t'. unchanged)

  pub cut_edge_lem : (e : Element) → Builds (cut_edge L c e)
  unfolding cut_edge cut_ends
  cut_edge_lem e t =
      let a = get_or (boundary_of e) 0 0 in
      let b = get_or (boundary_of e) 1 0 in
      after_next t (cut_ends L c a b (point_at t a) (point_at t b) t) _
      (cross_edge_lem (point_at t a) (point_at t b) (crossing_of (distance_of c (point_at t a)) (distance_of c (point_at t b))) _ t)
      (λ g. rule6_builds e g g.flush)

  pub cut_boundary_lem : (ask : ℕ → Step ElementAnswer) → ((b : ℕ) → Builds (ask b)) → (bs : List ℕ) (g : Gathered) → Builds (cut_boundary ask bs g)
  cut_boundary_lem ask h [] g t = unchanged
  cut_boundary_lem ask h (b ∷ bs) g t = after_next t (ask b t) _ (h b t) (λ a. cut_boundary_lem ask h bs (gathering b a g))

  pub cut_element_lem : (r e : ℕ) → Builds (cut_element L c r e)
  unfolding cut_element cut_corner cut_higher
  cut_element_lem zero e t = unchanged
  cut_element_lem (suc zero) e t = cut_edge_lem (element t e) t
  cut_element_lem (suc (suc r)) e t =
      after_next t (cut_boundary (cut_element L c (suc r)) (boundary t e) nothing_yet t) _
      (cut_boundary_lem (cut_element L c (suc r)) (cut_element_lem (suc r)) (boundary t e) nothing_yet t) (λ g. rule6_builds (element t e) g g.flush)

-- ---- the whole cut

cut_finite_lem : (L : Limits) (p : Params) (root : ℕ) → Builds (cut_finite L p root)
cut_finite_lem L p root t =
    after_next t (add_plane L p.divider t) _ (add_plane_lem L p.divider t)
    (λ n t'. cut_element_lem L (record { params = p; number = n }) (rank t' root) root t')

cut_at_distance_lem : (L : Limits) (p : Params) (d : Float) (root : ℕ) → Builds (cut_at_distance L p d root)
cut_at_distance_lem L p (inf false) root t = unchanged
cut_at_distance_lem L p (inf true) root t = unchanged
cut_at_distance_lem L p nan root t = cut_finite_lem L p root t
cut_at_distance_lem L p (fin s m e) root t = cut_finite_lem L p root t

pub cut_builds : (L : Limits) (p : Params) (root : ℕ) → Builds (cut L p root)
unfolding cut
cut_builds L p root t = cut_at_distance_lem L p p.divider.distance root t

-- an unrefused cut's table is built on the table that it was made on
pub done_built : (L : Limits) (p : Params) (root : ℕ) (t t' : Table) (a : ElementAnswer) → cut L p root t ≡ done a t' → Built t t'
done_built L p root t t' a e = subst (After t) e (cut_builds L p root t)

-- a cut that is refused is refused with one of the numbers of the rules
pub refused_number : (L : Limits) (p : Params) (root : ℕ) (t : Table) (n : Refusal) → cut L p root t ≡ refused n → RuleNumber n
refused_number L p root t n e = subst (After t) e (cut_builds L p root t)
