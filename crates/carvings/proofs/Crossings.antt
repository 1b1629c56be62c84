-- The vertices that a cut appends, and their order, depend on the old elements and the divider only, not on the sides that are kept: rule 4 alone appends them.
-- So the points after a cut are a function of the points before it. And no rule after rule 2 appends a hyperplane.
use Prim.Native.Nat.{◌-◌, ℕ, suc, zero, ◌<◌, suc-le-suc, zero-le}
use mathlib.Core.Bool.{Bool, true, false, not}
use mathlib.Core.List.{List, [], ◌∷◌, ◌++◌}
use mathlib.Core.Path.{◌≡◌, refl, ap, ap₂, sym, ◌∙◌, subst}
use native.Mathlib.Nat.{le_trans}
use lib.Dec.{ltb, leb}
use lib.Ieee.{Float}
use lib.ListN.{length, get_or}
use Rattle.rules.specs.Limits.{Limits}
use Rattle.rules.specs.Lists.{find}
use Rattle.rules.specs.Floats.{point_matches, crossing_point, crossing_of, signed_distance}
use Rattle.rules.specs.Table.{Element, corner, polytope, Plane, Table, element, element_count, boundary_of, point_at, rank_of, plane_of, is_primordial, same_element}
use Rattle.rules.specs.Sound.{closed}
use Rattle.rules.specs.Cut.{Outcome, done, refused, Step, next, with_point, share_element, add_element, add_polytope, share_vertex, add_vertex, Cutting, Gathered, gathering, nothing_yet, including}
use Rattle.rules.specs.Cut.{side_of_cut, rule7, rule6, new_intersection, plane_of_intersection, given, cross_edge, cut_ends, cut_edge, cut_boundary, cut_higher, cut_element, cut_corner, distance_of}
use Rattle.rules.specs.Held.{Begins, Extends}
use Rattle.rules.specs.declared.ElementAnswer.{ElementAnswer}
use Rattle.rules.proofs.Extends.{Below, begins_refl, begins_trans, below_get, extends_refl, extends_trans, grown_element, grown_point, element_same}
use Rattle.rules.proofs.Fine.{Fine, point_at_same, boundary_below}
use Rattle.rules.proofs.Laws.{either}
use Rattle.rules.specs.declared.ElementId.{ElementId}
use Rattle.std.specs.Prelude.{Option, Some, None}

abbrev pub Points : Type 0
Points = List (List Float)

-- ---- the points after each step

-- a match that was found, or the point appended
abbrev pub shared : List Float → Points → Option ℕ → Points
shared p ps (Some v) = ps
shared p ps None = ps ++ p ∷ []

abbrev pub points_with : List Float → Points → Points
points_with p ps = shared p ps (find (λ q. point_matches q p) ps)

abbrev pub points_crossed : List Float → List Float → Option Float → Points → Points
points_crossed p q None ps = ps
points_crossed p q (Some s) ps = points_with (crossing_point s p q) ps

abbrev pub points_of_ends : Plane → List Float → List Float → Points → Points
points_of_ends h p q ps = points_crossed p q (crossing_of (signed_distance h.normal h.distance p) (signed_distance h.normal h.distance q)) ps

abbrev pub points_of_boundary : (ℕ → Points → Points) → List ℕ → Points → Points
points_of_boundary F [] ps = ps
points_of_boundary F (b ∷ bs) ps = points_of_boundary F bs (F b ps)

unfoldable pub points_of_element : Table → Plane → ℕ → ℕ → Points → Points
points_of_element T h zero e ps = ps
points_of_element T h (suc zero) e ps = points_of_ends h (point_at T (get_or (boundary_of (element T e)) 0 0)) (point_at T (get_or (boundary_of (element T e)) 1 0)) ps
points_of_element T h (suc (suc r)) e ps = points_of_boundary (points_of_element T h (suc r)) (boundary_of (element T e)) ps

-- points are only appended

shared_more : (p : List Float) (ps : Points) (o : Option ℕ) → Begins ps (shared p ps o)
shared_more p ps (Some v) = begins_refl ps
shared_more p ps None = (p ∷ [], refl)

crossed_more : (p q : List Float) (x : Option Float) (ps : Points) → Begins ps (points_crossed p q x ps)
crossed_more p q None ps = begins_refl ps
crossed_more p q (Some s) ps = shared_more (crossing_point s p q) ps (find (λ r. point_matches r (crossing_point s p q)) ps)

ends_more : (h : Plane) (p q : List Float) (ps : Points) → Begins ps (points_of_ends h p q ps)
ends_more h p q ps = crossed_more p q (crossing_of (signed_distance h.normal h.distance p) (signed_distance h.normal h.distance q)) ps

pub boundary_more : (F : ℕ → Points → Points) → ((b : ℕ) (ps : Points) → Begins ps (F b ps)) → (bs : List ℕ) (ps : Points) → Begins ps (points_of_boundary F bs ps)
boundary_more F h [] ps = begins_refl ps
boundary_more F h (b ∷ bs) ps = begins_trans ps (F b ps) (points_of_boundary F bs (F b ps)) (h b ps) (boundary_more F h bs (F b ps))

pub element_more : (T : Table) (h : Plane) (r e : ℕ) (ps : Points) → Begins ps (points_of_element T h r e ps)
unfolding points_of_element
element_more T h zero e ps = begins_refl ps
element_more T h (suc zero) e ps = ends_more h (point_at T (get_or (boundary_of (element T e)) 0 0)) (point_at T (get_or (boundary_of (element T e)) 1 0)) ps
element_more T h (suc (suc r)) e ps = boundary_more (points_of_element T h (suc r)) (element_more T h (suc r)) (boundary_of (element T e)) ps

-- ---- a step's table has them

pub record Moves (F : Points → Points) (t u : Table) : Type 0 where
  pub extends : Extends t u
  pub points : u.points ≡ F t.points
  pub planes : u.planes ≡ t.planes

abbrev pub Moved : {A : Type 0} → (Points → Points) → Table → Outcome A → Type 0
Moved F t (refused n) = Unit {0}
Moved F t (done a u) = Moves F t u

abbrev pub stay : Points → Points
stay ps = ps

moves_none : (t : Table) → Moves stay t t
moves_none t = record { extends = extends_refl t; points = refl; planes = refl }

moved_after : {A : Type 0} (F G : Points → Points) (t s : Table) (o : Outcome A) → Moves F t s → Moved G s o → Moved (λ ps. G (F ps)) t o
moved_after F G t s (refused n) h k = tt
moved_after F G t s (done a u) h k = record {
  extends = extends_trans h.extends k.extends;
  points = k.points ∙ ap G h.points;
  planes = k.planes ∙ h.planes;
}

moved_next : {A B : Type 0} (F G : Points → Points) (t : Table) (o : Outcome A) (k : A → Step B) → Moved F t o → ((a : A) (s : Table) → Extends t s → Moved G s (k a s)) → Moved (λ ps. G (F ps)) t (next o k)
moved_next F G t (refused n) k h g = tt
moved_next F G t (done a s) k h g = moved_after F G t s (k a s) h (g a s h.extends)

moved_as : {A : Type 0} (F G : Points → Points) (t : Table) (o : Outcome A) → F t.points ≡ G t.points → Moved F t o → Moved G t o
moved_as F G t (refused n) e h = tt
moved_as F G t (done a u) e h = record { extends = h.extends; points = h.points ∙ e; planes = h.planes }

module _ (L : Limits) where
  share_element_lem : (y : Element) (o : Option ℕ) (t : Table) → Moved stay t (share_element L y o t)
  share_element_lem y (Some i) t = moves_none t
  share_element_lem y None t = either (Moved stay t) (ltb (element_count t) L.elements) _ _ (record { extends = grown_element y t; points = refl; planes = refl }) tt

  pub add_element_lem : (y : Element) (t : Table) → Moved stay t (add_element L y t)
  unfolding add_element
  add_element_lem y t = share_element_lem y (find (same_element y) t.elements) t

  add_polytope_lem : (r : ℕ) (b : List ℕ) (h : Option ℕ) (m : Bool) (t : Table) → Moved stay t (add_polytope L r b h m t)
  unfolding add_polytope
  add_polytope_lem r b h m t =
      either (Moved stay t) (leb (length b) r) _ _ (moves_none t)
      (either (Moved stay t) (ltb L.boundary (length b)) _ _ tt
      (either (Moved stay t) (not (closed t r b)) _ _ tt
      (moved_next stay stay t (add_element L (polytope r b h m) t) _ (add_element_lem (polytope r b h m) t) (λ i s x. moves_none s))))

  share_vertex_lem : (p : List Float) (o : Option ℕ) (t : Table) → Moved (λ ps. shared p ps o) t (share_vertex L p o t)
  share_vertex_lem p (Some v) t = add_element_lem (corner v) t
  share_vertex_lem p None t =
      either (Moved (λ ps. ps ++ p ∷ []) t) (ltb (length t.points) L.vertices) _ _
      (moved_after (λ ps. ps ++ p ∷ []) stay t (with_point p t) (add_element L (corner (length t.points)) (with_point p t))
      (record { extends = grown_point p t; points = refl; planes = refl }) (add_element_lem (corner (length t.points)) (with_point p t))) tt

  add_vertex_lem : (p : List Float) (t : Table) → Moved (points_with p) t (add_vertex L p t)
  unfolding add_vertex
  add_vertex_lem p t =
      let o = find (λ q. point_matches q p) t.points in
      moved_as (λ ps. shared p ps o) (points_with p) t (share_vertex L p o t) refl (share_vertex_lem p o t)

  module _ (c : Cutting) where
    side_moved : (kept : Bool) (e : Element) (x : Option ElementId) (s : List ℕ) (t : Table) → Moved stay t (side_of_cut L kept e x s t)
    side_moved false e x s t = moves_none t
    side_moved true e x s t = add_polytope_lem (rank_of e) (including x s) (plane_of e) (is_primordial e) t

    rule7_moved : (e : Element) (g : Gathered) (x : Option ElementId) (t : Table) → Moved stay t (rule7 L c e g x t)
    unfolding rule7
    rule7_moved e g x t =
        moved_next stay stay t (side_of_cut L c.params.keep_inside e x g.inside t) _ (side_moved c.params.keep_inside e x g.inside t) (λ i t₁ x₁.
        moved_next stay stay t₁ (side_of_cut L c.params.keep_outside e x g.outside t₁) _ (side_moved c.params.keep_outside e x g.outside t₁) (λ o t₂ x₂. moves_none t₂))

    rule6_moved : (e : Element) (g : Gathered) (fs : List ℕ) (t : Table) → Moved stay t (rule6 L c e g fs t)
    unfolding rule6
    rule6_moved e g [] t =
        moved_next stay stay t (new_intersection L c (rank_of e) g.intersections t) _
        (add_polytope_lem (rank_of e - 1) g.intersections (plane_of_intersection t c (rank_of e)) false t) (λ x s y. rule7_moved e g x s)
    rule6_moved e g (f ∷ []) t = rule7_moved e g (given f) t
    rule6_moved e g (f ∷ f' ∷ fs) t = moves_none t

    cross_moved : (p q : List Float) (x : Option Float) (g : Gathered) (t : Table) → Moved (points_crossed p q x) t (cross_edge L p q x g t)
    cross_moved p q None g t = moves_none t
    cross_moved p q (Some s) g t =
        moved_next (points_with (crossing_point s p q)) stay t (add_vertex L (crossing_point s p q) t) _ (add_vertex_lem (crossing_point s p q) t) (λ v u y. moves_none u)

    -- ---- old elements

    module _ (T : Table) (fine : Fine T) where
      edge_moved : (y : Element) → zero < element_count T → Below (element_count T) (boundary_of y) → (t : Table) → Extends T t
          → Moved (points_of_ends c.params.divider (point_at T (get_or (boundary_of y) 0 0)) (point_at T (get_or (boundary_of y) 1 0))) t (cut_edge L c y t)
      unfolding cut_edge cut_ends
      edge_moved y z h t x =
          let a = get_or (boundary_of y) 0 0 in
          let b = get_or (boundary_of y) 1 0 in
          let pa : point_at t a ≡ point_at T a = point_at_same T t a fine x (below_get (element_count T) (boundary_of y) 0 z h) in
          let pb : point_at t b ≡ point_at T b = point_at_same T t b fine x (below_get (element_count T) (boundary_of y) 1 z h) in
          moved_as (points_of_ends c.params.divider (point_at t a) (point_at t b)) (points_of_ends c.params.divider (point_at T a) (point_at T b)) t (cut_edge L c y t)
          (ap₂ (λ (p q : List Float). points_of_ends c.params.divider p q t.points) pa pb)
          (moved_next (points_of_ends c.params.divider (point_at t a) (point_at t b)) stay t (cut_ends L c a b (point_at t a) (point_at t b) t) _
          (cross_moved (point_at t a) (point_at t b) (crossing_of (distance_of c (point_at t a)) (distance_of c (point_at t b))) _ t) (λ g s w. rule6_moved y g g.flush s))

      boundary_moved : (ask : ℕ → Step ElementAnswer) (F : ℕ → Points → Points) → ((b : ℕ) → b < element_count T → (t : Table) → Extends T t → Moved (F b) t (ask b t))
          → (bs : List ℕ) → Below (element_count T) bs → (g : Gathered) (t : Table) → Extends T t → Moved (points_of_boundary F bs) t (cut_boundary ask bs g t)
      boundary_moved ask F h [] l g t x = moves_none t
      boundary_moved ask F h (b ∷ bs) l g t x =
          moved_next (F b) (points_of_boundary F bs) t (ask b t) _ (h b l.0 t x) (λ a s y. boundary_moved ask F h bs l.1 (gathering b a g) s (extends_trans x y))

      pub element_moved : (r e : ℕ) → e < element_count T → (t : Table) → Extends T t → Moved (points_of_element T c.params.divider r e) t (cut_element L c r e t)
      unfolding cut_element cut_corner cut_higher points_of_element
      element_moved zero e l t x = moves_none t
      element_moved (suc zero) e l t x =
          subst (λ (y : Element). Moved (points_of_element T c.params.divider 1 e) t (cut_edge L c y t)) (sym (element_same T t e x l))
          (edge_moved (element T e) (le_trans (suc-le-suc zero-le) l) (boundary_below T e fine l) t x)
      element_moved (suc (suc r)) e l t x =
          subst (λ (y : Element). Moved (points_of_element T c.params.divider (suc (suc r)) e) t (cut_higher L c (cut_element L c (suc r)) y t)) (sym (element_same T t e x l))
          (moved_next (points_of_element T c.params.divider (suc (suc r)) e) stay t (cut_boundary (cut_element L c (suc r)) (boundary_of (element T e)) nothing_yet t) _
          (boundary_moved (cut_element L c (suc r)) (points_of_element T c.params.divider (suc r)) (element_moved (suc r)) (boundary_of (element T e)) (boundary_below T e fine l) nothing_yet t x)
          (λ g s w. rule6_moved (element T e) g g.flush s))
