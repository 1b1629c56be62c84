-- Demand 3, the repeat and one-side parts: a cut made again, on any later table, gives the same answer and adds nothing;
-- and so does a cut for fewer sides, with the places of the dropped sides left out. One induction over the rank for both.
use Rattle.std.specs.Prelude.{if◌then◌else◌, Option, Some, None}
use Prim.Native.Nat.{◌-◌, ℕ, ◌<◌, zero, suc, suc-le-suc, zero-le}
use mathlib.Core.Bool.{Bool, false, true}
use mathlib.Core.List.{List, [], ◌∷◌}
use mathlib.Core.Path.{ap, ap₂, sym, ◌≡◌, refl, ◌∙◌, subst}
use native.Mathlib.Nat.{le_trans}
use lib.Dec.{eqb}
use lib.Ieee.{Float, fin, inf, nan}
use lib.ListN.{get_or}
use Rattle.rules.specs.Limits.{Limits}
use Rattle.rules.specs.Floats.{side_of, side_test, crossing_point, crossing_of}
use Rattle.rules.specs.Table.{Element, Table, element_count, element, rank, rank_of, plane_of, is_primordial, boundary_of, point_at}
use Rattle.rules.specs.Cut.{side_of_cut, including, Cutting, Params, new_intersection, add_polytope, plane_of_intersection, Gathered, rule7, next, rule6, given, cut, cross_edge, add_vertex, cut_ends, distance_of}
use Rattle.rules.specs.Cut.{gathering, corner_answer, nothing_yet, cut_edge, ◌>>=◌, Step, cut_boundary, cut_higher, cut_element, cut_corner, done, cut_finite, add_plane, cut_at_distance}
use Rattle.rules.specs.declared.ElementCutOutput.TheVariants.{NonFlush, Flush}
use Rattle.rules.specs.declared.ElementAnswer.{ElementAnswer}
use Rattle.rules.proofs.Extends.{Below, count_more, below_more, extends_trans, below_get, element_same, extends_refl, rank_same}
use Rattle.rules.proofs.Fewer.{Agrees, less, less_kept, less_params, Dropped, less_cutting, less_answer, agrees_self, less_gathered, less_gathering, less_set, agrees_less, none_dropped, less_nothing}
use Rattle.rules.proofs.Fine.{Fine, SomeIn, below_including, GatheredIn, AnswerIn, some_more, gathered_more, gathering_in, corner_in, point_at_same, boundary_below}
use Rattle.rules.proofs.Later.{Later, later_give, later_drop, same, later_same, later_next, InUse, later_as, Anything}
use Rattle.rules.proofs.LaterAppends.{add_polytope_lem, add_vertex_lem, add_plane_lem}
use Rattle.rules.specs.declared.ElementId.{ElementId}

pub side_later : (L : Limits) (k b : Bool) (e : Element) (x : Option ElementId) (s u : List ℕ) (t : Table) → Fine t → SomeIn x (element_count t) → Below (element_count t) s → Agrees b s u
    → Later (less b) SomeIn t (side_of_cut L (less_kept b k) e x u) (side_of_cut L k e x s t)
side_later L false true e x s u t f hx hs a = later_give (less true) SomeIn t None f tt
side_later L false false e x s u t f hx hs a = later_give (less false) SomeIn t None f tt
side_later L true true e x s u t f hx hs a =
    later_drop same SomeIn None t (side_of_cut L true e x s) (side_of_cut L true e x s t)
    (add_polytope_lem L (rank_of e) (including x s) (plane_of e) (is_primordial e) t f (below_including (element_count t) x s hx hs))
side_later L true false e x s u t f hx hs a =
    later_same same SomeIn t (side_of_cut L true e x u) (side_of_cut L true e x s) (side_of_cut L true e x s t) (λ l z. ap (λ (v : List ℕ). side_of_cut L true e x v l) a)
    (add_polytope_lem L (rank_of e) (including x s) (plane_of e) (is_primordial e) t f (below_including (element_count t) x s hx hs))

pub new_intersection_later : (L : Limits) (c : Cutting) (d : Dropped) (r : ℕ) (s : List ℕ) (t : Table) → Fine t → Below (element_count t) s
    → Later same SomeIn t (new_intersection L (less_cutting d c) r s) (new_intersection L c r s t)
new_intersection_later L c d r s t f hs =
    later_same same SomeIn t (new_intersection L (less_cutting d c) r s) (add_polytope L (r - 1) s (plane_of_intersection t c r) false) (new_intersection L c r s t)
    (λ l x. ap (λ (k : ℕ). add_polytope L (r - 1) s (if eqb r k then Some c.number else None) false l) x.dimension)
    (add_polytope_lem L (r - 1) s (plane_of_intersection t c r) false t f hs)

-- rules 6 and 7, on sets that agree where their side is still kept
module _ (L : Limits) (c : Cutting) (d : Dropped) (e : Element) (g : Gathered) (si so : List ℕ) (ai : Agrees d.inside g.inside si) (ao : Agrees d.outside g.outside so) where
  abbrev g' : Gathered
  g' = record { flush = g.flush; inside = si; outside = so; intersections = g.intersections; warning = g.warning }

  pub rule7_later : (x : Option ElementId) (t : Table) → Fine t → SomeIn x (element_count t) → GatheredIn g (element_count t)
      → Later (less_answer d) AnswerIn t (rule7 L (less_cutting d c) e g' x) (rule7 L c e g x t)
  unfolding rule7
  rule7_later x t f hx h =
      later_next (less d.inside) SomeIn (less_answer d) AnswerIn t _ _ (side_of_cut L c.params.keep_inside e x g.inside t) _
      (side_later L c.params.keep_inside d.inside e x g.inside si t f hx h.inside ai) (λ i t₁ e₁ f₁ hi.
      later_next (less d.outside) SomeIn (less_answer d) AnswerIn t₁ _ _ (side_of_cut L c.params.keep_outside e x g.outside t₁) _
      (side_later L c.params.keep_outside d.outside e x g.outside so t₁ f₁ (some_more x (count_more e₁) hx) (below_more g.outside (count_more e₁) h.outside) ao) (λ o t₂ e₂ f₂ ho.
      later_give (less_answer d) AnswerIn t₂ (record { output = NonFlush i o x; warning = g.warning }) f₂ (some_more i (count_more e₂) hi, ho, some_more x (count_more (extends_trans e₁ e₂)) hx)))

  pub rule6_later : (fs : List ℕ) (t : Table) → Fine t → Below (element_count t) fs → GatheredIn g (element_count t)
      → Later (less_answer d) AnswerIn t (rule6 L (less_cutting d c) e g' fs) (rule6 L c e g fs t)
  unfolding rule6
  rule6_later [] t f hf h =
      later_next same SomeIn (less_answer d) AnswerIn t _ _ (new_intersection L c (rank_of e) g.intersections t) _
      (new_intersection_later L c d (rank_of e) g.intersections t f h.intersections)
      (λ x t₁ e₁ f₁ hx. rule7_later x t₁ f₁ hx (gathered_more g (count_more e₁) h))
  rule6_later (y ∷ []) t f hf h = rule7_later (given y) t f hf.0 h
  rule6_later (y ∷ z ∷ ys) t f hf h = later_give (less_answer d) AnswerIn t (record { output = Flush; warning = g.warning }) f tt

-- ---- the cut of an element

pub cross_edge_lem : (L : Limits) (p q : List Float) (x : Option Float) (g : Gathered) (t : Table) → Fine t → GatheredIn g (element_count t)
    → Later same GatheredIn t (cross_edge L p q x g) (cross_edge L p q x g t)
cross_edge_lem L p q None g t f h = later_give same GatheredIn t g f h
cross_edge_lem L p q (Some s) g t f h =
    later_next same InUse same GatheredIn t (add_vertex L (crossing_point s p q)) _ (add_vertex L (crossing_point s p q) t) _ (add_vertex_lem L (crossing_point s p q) t f)
    (λ v t₁ e₁ f₁ hv. later_give same GatheredIn t₁ _ f₁ (record {
      flush = (hv, tt);
      inside = below_more g.inside (count_more e₁) h.inside;
      outside = below_more g.outside (count_more e₁) h.outside;
      intersections = below_more g.intersections (count_more e₁) h.intersections;
    }))

pub cut_ends_lem : (L : Limits) (c : Cutting) (d : Dropped) (a b : ℕ) (p q : List Float) (t : Table) → Fine t → a < element_count t → b < element_count t
    → Later same GatheredIn t (cut_ends L (less_cutting d c) a b p q) (cut_ends L c a b p q t)
unfolding cut_ends
cut_ends_lem L c d a b p q t f ha hb =
    cross_edge_lem L p q (crossing_of (distance_of c p) (distance_of c q)) _ t f
    (gathering_in (element_count t) b (corner_answer b (side_test (distance_of c q))) _ hb (corner_in (element_count t) b (side_of (distance_of c q)) hb)
    (gathering_in (element_count t) a (corner_answer a (side_test (distance_of c p))) nothing_yet ha (corner_in (element_count t) a (side_of (distance_of c p)) ha)
    (record { flush = tt; inside = tt; outside = tt; intersections = tt })))

pub cut_edge_lem : (L : Limits) (c : Cutting) (d : Dropped) (e : Element) (t : Table) → Fine t → zero < element_count t → Below (element_count t) (boundary_of e)
    → Later (less_answer d) AnswerIn t (cut_edge L (less_cutting d c) e) (cut_edge L c e t)
unfolding cut_edge
cut_edge_lem L c d e t f z h =
    let a = get_or (boundary_of e) 0 0 in
    let b = get_or (boundary_of e) 1 0 in
    let ha = below_get (element_count t) (boundary_of e) 0 z h in
    let hb = below_get (element_count t) (boundary_of e) 1 z h in
    later_same (less_answer d) AnswerIn t (cut_edge L (less_cutting d c) e) (cut_ends L (less_cutting d c) a b (point_at t a) (point_at t b) >>= (λ g. rule6 L (less_cutting d c) e g g.flush)) (cut_edge L c e t)
    (λ l x. ap₂ (λ (p q : List Float). next (cut_ends L (less_cutting d c) a b p q l) (λ g. rule6 L (less_cutting d c) e g g.flush)) (point_at_same t l a f x ha) (point_at_same t l b f x hb))
    (later_next same GatheredIn (less_answer d) AnswerIn t _ _ (cut_ends L c a b (point_at t a) (point_at t b) t) _ (cut_ends_lem L c d a b (point_at t a) (point_at t b) t f ha hb)
    (λ g t₁ e₁ f₁ hg. rule6_later L c d e g g.inside g.outside (agrees_self d.inside g.inside) (agrees_self d.outside g.outside) g.flush t₁ f₁ hg.flush hg))

module _ (d : Dropped) (ask again : ℕ → Step ElementAnswer)
    (h : (b : ℕ) (t : Table) → Fine t → b < element_count t → Later (less_answer d) AnswerIn t (again b) (ask b t)) where
  pub cut_boundary_lem : (bs : List ℕ) (g : Gathered) (t : Table) → Fine t → Below (element_count t) bs → GatheredIn g (element_count t)
      → Later (less_gathered d) GatheredIn t (cut_boundary again bs (less_gathered d g)) (cut_boundary ask bs g t)
  cut_boundary_lem [] g t f hb hg = later_give (less_gathered d) GatheredIn t g f hg
  cut_boundary_lem (b ∷ bs) g t f hb hg =
      later_next (less_answer d) AnswerIn (less_gathered d) GatheredIn t (again b) (λ a. cut_boundary again bs (gathering b a (less_gathered d g))) (ask b t) (λ a. cut_boundary ask bs (gathering b a g))
      (h b t f hb.0) (λ a t₁ e₁ f₁ ha.
      later_same (less_gathered d) GatheredIn t₁ _ (cut_boundary again bs (less_gathered d (gathering b a g))) (cut_boundary ask bs (gathering b a g) t₁)
      (λ l x. ap (λ (u : Gathered). cut_boundary again bs u l) (less_gathering d b a g))
      (cut_boundary_lem bs (gathering b a g) t₁ f₁ (below_more bs (count_more e₁) hb.1)
      (gathering_in (element_count t₁) b a g (le_trans hb.0 (count_more e₁)) ha (gathered_more g (count_more e₁) hg))))

  pub cut_higher_lem : (L : Limits) (c : Cutting) (e : Element) (t : Table) → Fine t → Below (element_count t) (boundary_of e)
      → Later (less_answer d) AnswerIn t (cut_higher L (less_cutting d c) again e) (cut_higher L c ask e t)
  unfolding cut_higher
  cut_higher_lem L c e t f hb =
      later_next (less_gathered d) GatheredIn (less_answer d) AnswerIn t (cut_boundary again (boundary_of e) nothing_yet) _ (cut_boundary ask (boundary_of e) nothing_yet t) _
      (later_same (less_gathered d) GatheredIn t (cut_boundary again (boundary_of e) nothing_yet) (cut_boundary again (boundary_of e) (less_gathered d nothing_yet)) (cut_boundary ask (boundary_of e) nothing_yet t)
      (λ l x. ap (λ (u : Gathered). cut_boundary again (boundary_of e) u l) (sym empty))
      (cut_boundary_lem (boundary_of e) nothing_yet t f hb (record { flush = tt; inside = tt; outside = tt; intersections = tt })))
      (λ g t₁ e₁ f₁ hg. rule6_later L c d e g (less_set d.inside g.inside) (less_set d.outside g.outside) (agrees_less d.inside g.inside) (agrees_less d.outside g.outside) g.flush t₁ f₁ hg.flush hg)
    where
      less_none : (b : Bool) → less_set b [] ≡ []
      less_none true = refl
      less_none false = refl

      empty : less_gathered d nothing_yet ≡ nothing_yet
      empty = λ k. record { flush = []; inside = less_none d.inside k; outside = less_none d.outside k; intersections = []; warning = false }

-- an element of rank 1 or more
pub cut_element_lem : (L : Limits) (c : Cutting) (d : Dropped) (r e : ℕ) (t : Table) → Fine t → e < element_count t → Later (less_answer d) AnswerIn t (cut_element L (less_cutting d c) (suc r) e) (cut_element L c (suc r) e t)
unfolding cut_element
cut_element_lem L c d zero e t f h =
    later_same (less_answer d) AnswerIn t (cut_element L (less_cutting d c) 1 e) (cut_edge L (less_cutting d c) (element t e)) (cut_element L c 1 e t)
    (λ l x. ap (λ (y : Element). cut_edge L (less_cutting d c) y l) (element_same t l e x h))
    (cut_edge_lem L c d (element t e) t f (le_trans (suc-le-suc zero-le) h) (boundary_below t e f h))
cut_element_lem L c d (suc r) e t f h =
    later_same (less_answer d) AnswerIn t (cut_element L (less_cutting d c) (suc (suc r)) e) (cut_higher L (less_cutting d c) (cut_element L (less_cutting d c) (suc r)) (element t e)) (cut_element L c (suc (suc r)) e t)
    (λ l x. ap (λ (y : Element). cut_higher L (less_cutting d c) (cut_element L (less_cutting d c) (suc r)) y l) (element_same t l e x h))
    (cut_higher_lem d (cut_element L c (suc r)) (cut_element L (less_cutting d c) (suc r)) (λ b s g k. cut_element_lem L c d r b s g k) L c (element t e) t f (boundary_below t e f h))

-- a corner: no side is dropped
pub cut_corner_lem : (L : Limits) (c : Cutting) (e : ℕ) (t : Table) → Fine t → e < element_count t → Later same AnswerIn t (cut_element L c 0 e) (cut_element L c 0 e t)
unfolding cut_element cut_corner
cut_corner_lem L c e t f h = record {
  extends = extends_refl t;
  fine = f;
  value = corner_in (element_count t) e (side_of (distance_of c (point_at t e))) h;
  replay = λ l x. ap (λ (p : List Float). done (corner_answer e (side_test (distance_of c p))) l) (point_at_same t l e f x h);
}

pub cut_any : (L : Limits) (c : Cutting) (r e : ℕ) (t : Table) → Fine t → e < element_count t → Later same AnswerIn t (cut_element L c r e) (cut_element L c r e t)
cut_any L c zero e t f h = cut_corner_lem L c e t f h
cut_any L c (suc r) e t f h =
    later_as (less_answer none_dropped) same AnswerIn t (cut_element L c (suc r) e) (cut_element L c (suc r) e t) less_nothing (cut_element_lem L c none_dropped r e t f h)

-- ---- the whole cut

abbrev pub NotInfinite : Float → Type 0
NotInfinite (inf b) = ⊥
NotInfinite nan = Unit {0}
NotInfinite (fin s m e) = Unit {0}

module _ (L : Limits) (p : Params) (root : ℕ) (t : Table) (f : Fine t) (u : root < element_count t) where
  pub finite_again : Later same AnswerIn t (cut_finite L p root) (cut_finite L p root t)
  finite_again =
      later_next same Anything same AnswerIn t (add_plane L p.divider) _ (add_plane L p.divider t) _ (add_plane_lem L p.divider t f) (λ n t₁ e₁ f₁ v.
      let c : Cutting = record { params = p; number = n } in
      let u₁ = le_trans u (count_more e₁) in
      later_same same AnswerIn t₁ _ (cut_element L c (rank t₁ root) root) (cut_element L c (rank t₁ root) root t₁)
      (λ l x. ap (λ (r : ℕ). cut_element L c r root l) (rank_same t₁ l root x u₁)) (cut_any L c (rank t₁ root) root t₁ f₁ u₁))

  pub distance_again : (s : Float) → Later same AnswerIn t (cut_at_distance L p s root) (cut_at_distance L p s root t)
  distance_again (inf false) = later_give same AnswerIn t (record { output = NonFlush (given root) None None; warning = false }) f (u, tt, tt)
  distance_again (inf true) = later_give same AnswerIn t (record { output = NonFlush None (given root) None; warning = false }) f (tt, u, tt)
  distance_again nan = finite_again
  distance_again (fin s m e) = finite_again

  -- the same cut again, on the result or on any later table that extends it
  pub cut_again : Later same AnswerIn t (cut L p root) (cut L p root t)
  unfolding cut
  cut_again = distance_again p.divider.distance

  -- a finite divider and a root that is no corner: the cut for fewer sides
  module _ (d : Dropped) (r : ℕ) (k : rank t root ≡ suc r) where
    finite_fewer : Later (less_answer d) AnswerIn t (cut_finite L (less_params d p) root) (cut_finite L p root t)
    finite_fewer =
        later_next same Anything (less_answer d) AnswerIn t (add_plane L p.divider) _ (add_plane L p.divider t) _ (add_plane_lem L p.divider t f) (λ n t₁ e₁ f₁ v.
        let c : Cutting = record { params = p; number = n } in
        let u₁ = le_trans u (count_more e₁) in
        let k₁ : rank t₁ root ≡ suc r = rank_same t t₁ root e₁ u ∙ k in
        subst (λ (q : ℕ). Later (less_answer d) AnswerIn t₁ (λ l. cut_element L (less_cutting d c) (rank l root) root l) (cut_element L c q root t₁)) (sym k₁)
        (later_same (less_answer d) AnswerIn t₁ _ (cut_element L (less_cutting d c) (suc r) root) (cut_element L c (suc r) root t₁)
        (λ l x. ap (λ (q : ℕ). cut_element L (less_cutting d c) q root l) (rank_same t₁ l root x u₁ ∙ k₁)) (cut_element_lem L c d r root t₁ f₁ u₁)))

    distance_fewer : (s : Float) → NotInfinite s → Later (less_answer d) AnswerIn t (cut_at_distance L (less_params d p) s root) (cut_at_distance L p s root t)
    distance_fewer (inf false) z = absurd z
    distance_fewer (inf true) z = absurd z
    distance_fewer nan z = finite_fewer
    distance_fewer (fin s m e) z = finite_fewer

    pub cut_fewer : NotInfinite p.divider.distance → Later (less_answer d) AnswerIn t (cut L (less_params d p) root) (cut L p root t)
    unfolding cut
    cut_fewer z = distance_fewer p.divider.distance z
