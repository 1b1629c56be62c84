-- Rules 4 to 7 on a table inside B: the cut of an element adds only what B has, and is not refused. By induction over the rank.
use Rattle.std.specs.Prelude.{if◌then◌else◌, Option, Some, None}
use Prim.Native.Nat.{◌-◌, ℕ, suc, zero, ◌<◌, suc-le-suc, zero-le}
use mathlib.Core.Bool.{Bool, true, false}
use mathlib.Core.List.{List, [], ◌∷◌, map}
use mathlib.Core.Path.{◌≡◌, refl, ap, sym, ◌∙◌, subst}
use native.Mathlib.Nat.{le_trans}
use lib.Dec.{eqb}
use lib.Ieee.{Float}
use lib.ListN.{get_or}
use Rattle.rules.specs.Limits.{Limits}
use Rattle.rules.specs.Floats.{crossing_point, crossing_of, side_of, side_test}
use Rattle.rules.specs.Table.{Element, Plane, Table, element, element_count, boundary_of, point_at, rank_of, plane_of, is_primordial}
use Rattle.rules.specs.Cut.{done, give, keeping, Step, next, add_polytope, add_vertex, Cutting, Gathered, gathering, nothing_yet, including, side_of_cut, rule7, rule6, new_intersection}
use Rattle.rules.specs.Cut.{plane_of_intersection, given, cross_edge, cut_ends, cut_edge, cut_boundary, cut_higher, cut_element, corner_answer, distance_of}
use Rattle.rules.specs.Held.{Begins, Extends}
use Rattle.rules.specs.declared.ElementAnswer.{ElementAnswer}
use Rattle.rules.specs.declared.ElementCutOutput.TheVariants.{NonFlush}
use Rattle.rules.proofs.Built.{after_next, Builds, unchanged, side_builds, rule7_builds, rule6_builds, cut_boundary_lem, cut_element_lem, cross_edge_lem, add_vertex_lem, add_polytope_lem}
use Rattle.carvings.proofs.Contains.{Sim, grown_here, went_as, sim_give, sim_next, poly_went, vertex_went}
use Rattle.carvings.proofs.Crossings.{Points, stay, points_with, points_crossed, points_of_ends, points_of_boundary, points_of_element, boundary_more, element_more}
use Rattle.carvings.proofs.Embeds.{done_value, Embeds}
use Rattle.rules.proofs.Extends.{Below, below_get, element_same, count_more, begins_refl}
use Rattle.rules.proofs.Fine.{Fine, point_at_same, boundary_below}
use Rattle.rules.proofs.Good.{Good}
use Rattle.carvings.proofs.SideBySide.{SetIs, OneIs, IfKept, if_kept, set_more, one_more_lem, set_including, GatheredIs, AnswerIs, gathered_start, gathered_more, corner_is, gathered_later}
use Rattle.rules.specs.declared.ElementId.{ElementId}

module _ (L : Limits) (T B : Table) (fine : Fine T) (good : Good L B) (on : Extends T B) where
  module _ (h : Plane) (num : ℕ) (kI kO : Bool) where
    abbrev pub keep : Bool → Bool → Cutting
    keep i o = record { params = keeping h i o; number = num }

    abbrev InsideIs : (ℕ → ℕ) → ℕ → Option ElementId → Option ElementId → Option ElementId → Type 0
    InsideIs f n i i₁ i₂ = IfKept kI (OneIs f n i i₁) × (i₂ ≡ None)

    abbrev OutsideIs : (ℕ → ℕ) → ℕ → Option ElementId → Option ElementId → Option ElementId → Type 0
    OutsideIs f n o o₁ o₂ = IfKept kO (OneIs f n o o₂) × (o₁ ≡ None)

    side_inside : (k : Bool) (y : Element) (x x₁ x₂ : Option ElementId) (s s₁ s₂ : List ℕ) (t : Table) (f : ℕ → ℕ) → Embeds T B t f → OneIs f (element_count t) x x₁
        → IfKept k (SetIs f (element_count t) s s₁) → Sim L T B fine good on stay (λ g n i i₁ i₂. IfKept k (OneIs g n i i₁) × (i₂ ≡ None)) t f (side_of_cut L k y x s t) (side_of_cut L true y x₁ s₁ B) (side_of_cut L false y x₂ s₂ B)
    side_inside true y x x₁ x₂ s s₁ s₂ t f em hx hs b₁ b₂ e₁ e₂ p =
        went_as L T B fine good on t.points t f (side_of_cut L true y x s t) (λ a u g. OneIs g (element_count u) a b₁) (λ a u g. OneIs g (element_count u) a b₁ × (b₂ ≡ None)) (λ a u g z. (z, sym (done_value e₂)))
        (poly_went L T B fine good on t f em (rank_of y) (including x s) (including x₁ s₁) (plane_of y) (is_primordial y) (set_including f (element_count t) x x₁ s s₁ hx hs) b₁ e₁)
    side_inside false y x x₁ x₂ s s₁ s₂ t f em hx hs b₁ b₂ e₁ e₂ p =
        record { value = None; after = t; runs = refl; points = refl; grown = grown_here L T B fine good on t f em (λ g. Unit {0} × (b₂ ≡ None)) (tt, sym (done_value e₂)) }

    side_outside : (k : Bool) (y : Element) (x x₁ x₂ : Option ElementId) (s s₁ s₂ : List ℕ) (t : Table) (f : ℕ → ℕ) → Embeds T B t f → OneIs f (element_count t) x x₂
        → IfKept k (SetIs f (element_count t) s s₂) → Sim L T B fine good on stay (λ g n o o₁ o₂. IfKept k (OneIs g n o o₂) × (o₁ ≡ None)) t f (side_of_cut L k y x s t) (side_of_cut L false y x₁ s₁ B) (side_of_cut L true y x₂ s₂ B)
    side_outside true y x x₁ x₂ s s₁ s₂ t f em hx hs b₁ b₂ e₁ e₂ p =
        went_as L T B fine good on t.points t f (side_of_cut L true y x s t) (λ a u g. OneIs g (element_count u) a b₂) (λ a u g. OneIs g (element_count u) a b₂ × (b₁ ≡ None)) (λ a u g z. (z, sym (done_value e₁)))
        (poly_went L T B fine good on t f em (rank_of y) (including x s) (including x₂ s₂) (plane_of y) (is_primordial y) (set_including f (element_count t) x x₂ s s₂ hx hs) b₂ e₂)
    side_outside false y x x₁ x₂ s s₁ s₂ t f em hx hs b₁ b₂ e₁ e₂ p =
        record { value = None; after = t; runs = refl; points = refl; grown = grown_here L T B fine good on t f em (λ g. Unit {0} × (b₁ ≡ None)) (tt, sym (done_value e₁)) }

    -- rule 7 after the inside
    abbrev lastly : Cutting → Element → Gathered → Option ElementId → Option ElementId → Step ElementAnswer
    lastly c y w x i = λ t. next (side_of_cut L c.params.keep_outside y x w.outside t) (λ o. give (record { output = NonFlush i o x; warning = w.warning }))

    lastly_builds : (c : Cutting) (y : Element) (w : Gathered) (x i : Option ElementId) → Builds (lastly c y w x i)
    lastly_builds c y w x i t =
        after_next t (side_of_cut L c.params.keep_outside y x w.outside t) (λ o. give (record { output = NonFlush i o x; warning = w.warning })) (side_builds L c c.params.keep_outside y x w.outside t) (λ o v. unchanged)

    rule7_sim : (y : Element) (w w₁ w₂ : Gathered) (x x₁ x₂ : Option ElementId) (t : Table) (f : ℕ → ℕ) → Embeds T B t f → OneIs f (element_count t) x x₁ → OneIs f (element_count t) x x₂
        → GatheredIs kI kO f (element_count t) w w₁ w₂
        → Sim L T B fine good on stay (AnswerIs kI kO) t f (rule7 L (keep kI kO) y w x t) (rule7 L (keep true false) y w₁ x₁ B) (rule7 L (keep false true) y w₂ x₂ B)
    unfolding rule7
    rule7_sim y w w₁ w₂ x x₁ x₂ t f em hx₁ hx₂ hw =
        sim_next L T B fine good on InsideIs stay stay (AnswerIs kI kO) t f (side_of_cut L kI y x w.inside t) (side_of_cut L true y x₁ w₁.inside B) (side_of_cut L false y x₂ w₂.inside B)
        (lastly (keep kI kO) y w x) (lastly (keep true false) y w₁ x₁) (lastly (keep false true) y w₂ x₂)
        begins_refl (side_builds L (keep true false) true y x₁ w₁.inside B) unchanged (lastly_builds (keep true false) y w₁ x₁) (lastly_builds (keep false true) y w₂ x₂)
        (side_inside kI y x x₁ x₂ w.inside w₁.inside w₂.inside t f em hx₁ hw.inside) (λ i i₁ i₂ t₁ f₁ em₁ ag₁ mo₁ hi.
        sim_next L T B fine good on OutsideIs stay stay (AnswerIs kI kO) t₁ f₁ (side_of_cut L kO y x w.outside t₁) (side_of_cut L false y x₁ w₁.outside B) (side_of_cut L true y x₂ w₂.outside B)
        (λ o. give (record { output = NonFlush i o x; warning = w.warning })) (λ o. give (record { output = NonFlush i₁ o x₁; warning = w₁.warning })) (λ o. give (record { output = NonFlush i₂ o x₂; warning = w₂.warning }))
        begins_refl unchanged (side_builds L (keep false true) true y x₂ w₂.outside B) (λ o s. unchanged) (λ o s. unchanged)
        (side_outside kO y x x₁ x₂ w.outside w₁.outside w₂.outside t₁ f₁ em₁ (one_more_lem f f₁ (element_count t) (element_count t₁) ag₁ mo₁ x x₂ hx₂)
        (if_kept kO (set_more f f₁ (element_count t) (element_count t₁) ag₁ mo₁ w.outside w₂.outside) hw.outside)) (λ o o₁ o₂ t₂ f₂ em₂ ag₂ mo₂ ho.
        let ag : (e : ℕ) → e < element_count t → f₂ e ≡ f e = λ e l. ag₂ e (le_trans l mo₁) ∙ ag₁ e l in
        let mo = le_trans mo₁ mo₂ in
        sim_give L T B fine good on (AnswerIs kI kO) t₂ f₂ em₂ _ _ _ (
          (
            if_kept kI (one_more_lem f₁ f₂ (element_count t₁) (element_count t₂) ag₂ mo₂ i i₁) hi.0,
            ho.0,
            one_more_lem f f₂ (element_count t) (element_count t₂) ag mo x x₁ hx₁,
            one_more_lem f f₂ (element_count t) (element_count t₂) ag mo x x₂ hx₂,
          ),
          ho.1,
          hi.1,
        )))

    abbrev AcrossIs : (ℕ → ℕ) → ℕ → Option ElementId → Option ElementId → Option ElementId → Type 0
    AcrossIs f n x x₁ x₂ = OneIs f n x x₁ × OneIs f n x x₂

    intersection_sim : (r : ℕ) (s s₁ s₂ : List ℕ) (t : Table) (f : ℕ → ℕ) → Embeds T B t f → SetIs f (element_count t) s s₁ → SetIs f (element_count t) s s₂
        → Sim L T B fine good on stay AcrossIs t f (new_intersection L (keep kI kO) r s t) (new_intersection L (keep true false) r s₁ B) (new_intersection L (keep false true) r s₂ B)
    intersection_sim r s s₁ s₂ t f em h₁ h₂ b₁ b₂ e₁ e₂ p =
        let d : B.dimension ≡ t.dimension = on.dimension ∙ sym em.grown.dimension in
        let plane : Table → Option ℕ = λ v. plane_of_intersection v (keep kI kO) r in
        let same : plane B ≡ plane t = ap (λ (k : ℕ). if eqb r k then Some num else None) d in
        let again : b₁ ≡ b₂ = done_value (sym e₁ ∙ ap (λ (l : List ℕ). add_polytope L (r - 1) l (plane B) false B) (h₁.is ∙ sym h₂.is) ∙ e₂) in
        went_as L T B fine good on t.points t f (new_intersection L (keep kI kO) r s t) (λ a u g. OneIs g (element_count u) a b₁) (λ a u g. AcrossIs g (element_count u) a b₁ b₂) (λ a u g z. (z, (z.0, sym again ∙ z.1)))
        (poly_went L T B fine good on t f em (r - 1) s s₁ (plane t) false h₁ b₁ (subst (λ (k : Option ℕ). add_polytope L (r - 1) s₁ k false B ≡ done b₁ B) same e₁))

    rule6_sim : (y : Element) (w w₁ w₂ : Gathered) (fs : List ℕ) (t : Table) (f : ℕ → ℕ) → Embeds T B t f → Below (element_count t) fs → GatheredIs kI kO f (element_count t) w w₁ w₂
        → Sim L T B fine good on stay (AnswerIs kI kO) t f (rule6 L (keep kI kO) y w fs t) (rule6 L (keep true false) y w₁ (map f fs) B) (rule6 L (keep false true) y w₂ (map f fs) B)
    unfolding rule6
    rule6_sim y w w₁ w₂ [] t f em hb hw =
        sim_next L T B fine good on AcrossIs stay stay (AnswerIs kI kO) t f (new_intersection L (keep kI kO) (rank_of y) w.intersections t) (new_intersection L (keep true false) (rank_of y) w₁.intersections B)
        (new_intersection L (keep false true) (rank_of y) w₂.intersections B)
        (rule7 L (keep kI kO) y w) (rule7 L (keep true false) y w₁) (rule7 L (keep false true) y w₂)
        begins_refl (add_polytope_lem L (rank_of y - 1) w₁.intersections (plane_of_intersection B (keep true false) (rank_of y)) false B)
        (add_polytope_lem L (rank_of y - 1) w₂.intersections (plane_of_intersection B (keep false true) (rank_of y)) false B)
        (rule7_builds L (keep true false) y w₁) (rule7_builds L (keep false true) y w₂)
        (intersection_sim (rank_of y) w.intersections w₁.intersections w₂.intersections t f em hw.across₁ hw.across₂) (λ x x₁ x₂ s g em' ag mo hx.
        rule7_sim y w w₁ w₂ x x₁ x₂ s g em' hx.0 hx.1 (gathered_later kI kO f g (element_count t) (element_count s) ag mo w w₁ w₂ hw))
    rule6_sim y w w₁ w₂ (z ∷ []) t f em hb hw = rule7_sim y w w₁ w₂ (given z) (given (f z)) (given (f z)) t f em (hb.0, refl) (hb.0, refl) hw
    rule6_sim y w w₁ w₂ (z ∷ z' ∷ zs) t f em hb hw = sim_give L T B fine good on (AnswerIs kI kO) t f em _ _ _ (tt, tt, tt)

    -- with the flush answers that were gathered
    abbrev sixth : Cutting → Element → Gathered → Step ElementAnswer
    sixth c y w = rule6 L c y w w.flush

    sixth_sim : (y : Element) (w w₁ w₂ : Gathered) (t : Table) (f : ℕ → ℕ) → Embeds T B t f → GatheredIs kI kO f (element_count t) w w₁ w₂
        → Sim L T B fine good on stay (AnswerIs kI kO) t f (sixth (keep kI kO) y w t) (sixth (keep true false) y w₁ B) (sixth (keep false true) y w₂ B)
    sixth_sim y w w₁ w₂ t f em hw =
        subst (λ (l : List ℕ). Sim L T B fine good on stay (AnswerIs kI kO) t f (sixth (keep kI kO) y w t) (rule6 L (keep true false) y w₁ l B) (sixth (keep false true) y w₂ B)) (sym hw.flush₁)
        (subst (λ (l : List ℕ). Sim L T B fine good on stay (AnswerIs kI kO) t f (sixth (keep kI kO) y w t) (rule6 L (keep true false) y w₁ (map f w.flush) B) (rule6 L (keep false true) y w₂ l B)) (sym hw.flush₂)
        (rule6_sim y w w₁ w₂ w.flush t f em hw.under hw))

    sixth_builds : (c : Cutting) (y : Element) (w : Gathered) → Builds (sixth c y w)
    sixth_builds c y w = rule6_builds L c y w w.flush

    -- ---- rule 4

    abbrev VertexIs : (ℕ → ℕ) → ℕ → ℕ → ℕ → ℕ → Type 0
    VertexIs f n v v₁ v₂ = (v < n) × (v₁ ≡ f v) × (v₂ ≡ f v)

    abbrev crossed_at : Gathered → ℕ → Step Gathered
    crossed_at w v = give (record { flush = v ∷ []; inside = w.inside; outside = w.outside; intersections = w.intersections; warning = w.warning })

    cross_sim : (p q : List Float) (x : Option Float) (w : Gathered) (t : Table) (f : ℕ → ℕ) → Embeds T B t f → GatheredIs kI kO f (element_count t) w w w
        → Sim L T B fine good on (points_crossed p q x) (GatheredIs kI kO) t f (cross_edge L p q x w t) (cross_edge L p q x w B) (cross_edge L p q x w B)
    cross_sim p q None w t f em hw = sim_give L T B fine good on (GatheredIs kI kO) t f em w w w hw
    cross_sim p q (Some s) w t f em hw =
        let pt = crossing_point s p q in
        sim_next L T B fine good on VertexIs (points_with pt) stay (GatheredIs kI kO) t f (add_vertex L pt t) (add_vertex L pt B) (add_vertex L pt B) (crossed_at w) (crossed_at w) (crossed_at w)
        begins_refl (add_vertex_lem L pt B) (add_vertex_lem L pt B) (λ v u. unchanged) (λ v u. unchanged)
        (λ b₁ b₂ e₁ e₂ pts.
        went_as L T B fine good on (points_with pt t.points) t f (add_vertex L pt t) (λ a u g. (b₁ ≡ g a) × (a < element_count u)) (λ a u g. VertexIs g (element_count u) a b₁ b₂)
        (λ a u g z. (z.1, z.0, sym (done_value (sym e₁ ∙ e₂)) ∙ z.0)) (vertex_went L T B fine good on t f em pt b₁ e₁ pts))
        (λ v v₁ v₂ u g em' ag mo hv.
        let hw' = gathered_later kI kO f g (element_count t) (element_count u) ag mo w w w hw in
        sim_give L T B fine good on (GatheredIs kI kO) u g em' _ _ _ (record {
          under = (hv.0, tt);
          flush₁ = ap (λ (z : ℕ). z ∷ []) hv.1;
          flush₂ = ap (λ (z : ℕ). z ∷ []) hv.2;
          inside = hw'.inside;
          outside = hw'.outside;
          across₁ = hw'.across₁;
          across₂ = hw'.across₂;
        }))

    ends_sim : (a b : ℕ) → a < element_count T → b < element_count T → (p q : List Float) (t : Table) (f : ℕ → ℕ) → Embeds T B t f
        → Sim L T B fine good on (points_of_ends h p q) (GatheredIs kI kO) t f (cut_ends L (keep kI kO) a b p q t) (cut_ends L (keep true false) a b p q B) (cut_ends L (keep false true) a b p q B)
    unfolding cut_ends
    ends_sim a b la lb p q t f em =
        let n = element_count t in
        let c = keep kI kO in
        let more = count_more em.grown in
        let ca = corner_answer a (side_test (distance_of c p)) in
        let cb = corner_answer b (side_test (distance_of c q)) in
        cross_sim p q (crossing_of (distance_of c p) (distance_of c q)) (gathering b cb (gathering a ca nothing_yet)) t f em
        (gathered_more kI kO f n b (le_trans lb more) (em.old b lb) cb cb cb (corner_is kI kO f n b (le_trans lb more) (em.old b lb) (side_of (distance_of c q)))
        (gathering a ca nothing_yet) (gathering a ca nothing_yet) (gathering a ca nothing_yet)
        (gathered_more kI kO f n a (le_trans la more) (em.old a la) ca ca ca (corner_is kI kO f n a (le_trans la more) (em.old a la) (side_of (distance_of c p)))
        nothing_yet nothing_yet nothing_yet (gathered_start kI kO f n)))

    ends_builds : (c : Cutting) (a b : ℕ) (p q : List Float) → Builds (cut_ends L c a b p q)
    unfolding cut_ends
    ends_builds c a b p q t = cross_edge_lem L c p q (crossing_of (distance_of c p) (distance_of c q)) _ t

    edge_sim : (y : Element) → zero < element_count T → Below (element_count T) (boundary_of y) → (t : Table) (f : ℕ → ℕ) → Embeds T B t f
        → Sim L T B fine good on (points_of_ends h (point_at T (get_or (boundary_of y) 0 0)) (point_at T (get_or (boundary_of y) 1 0))) (AnswerIs kI kO) t f
        (cut_edge L (keep kI kO) y t) (cut_edge L (keep true false) y B) (cut_edge L (keep false true) y B)
    unfolding cut_edge
    edge_sim y z hb t f em =
        let a = get_or (boundary_of y) 0 0 in
        let b = get_or (boundary_of y) 1 0 in
        let la = below_get (element_count T) (boundary_of y) 0 z hb in
        let lb = below_get (element_count T) (boundary_of y) 1 z hb in
        let p : List Float = point_at T a in
        let q : List Float = point_at T b in
        let F : Points → Points = points_of_ends h p q in
        let run : Cutting → List Float → List Float → Step ElementAnswer = λ c x y' v. next (cut_ends L c a b x y' v) (sixth c y) in
        let All : List Float → List Float → List Float → List Float → Type 0 =
        (λ x y' x₁ y₁. Sim L T B fine good on F (AnswerIs kI kO) t f (run (keep kI kO) x y' t) (run (keep true false) x₁ y₁ B) (run (keep false true) x₁ y₁ B)) in
        subst (λ (x : List Float). All x (point_at t b) (point_at B a) (point_at B b)) (sym (point_at_same T t a fine em.grown la))
        (subst (λ (x : List Float). All p x (point_at B a) (point_at B b)) (sym (point_at_same T t b fine em.grown lb))
        (subst (λ (x : List Float). All p q x (point_at B b)) (sym (point_at_same T B a fine on la))
        (subst (λ (x : List Float). All p q p x) (sym (point_at_same T B b fine on lb))
        (sim_next L T B fine good on (GatheredIs kI kO) F stay (AnswerIs kI kO) t f (cut_ends L (keep kI kO) a b p q t) (cut_ends L (keep true false) a b p q B) (cut_ends L (keep false true) a b p q B)
        (sixth (keep kI kO) y) (sixth (keep true false) y) (sixth (keep false true) y)
        begins_refl (ends_builds (keep true false) a b p q B) (ends_builds (keep false true) a b p q B)
        (sixth_builds (keep true false) y) (sixth_builds (keep false true) y)
        (ends_sim a b la lb p q t f em) (λ w w₁ w₂ s g em' ag mo hw. sixth_sim y w w₁ w₂ s g em' hw)))))

    -- ---- rule 5

    module _ (ask ask₁ ask₂ : ℕ → Step ElementAnswer) (F : ℕ → Points → Points) (more : (b : ℕ) (ps : Points) → Begins ps (F b ps))
        (builds₁ : (b : ℕ) → Builds (ask₁ b)) (builds₂ : (b : ℕ) → Builds (ask₂ b))
        (h' : (b : ℕ) → b < element_count T → (t : Table) (f : ℕ → ℕ) → Embeds T B t f → Sim L T B fine good on (F b) (AnswerIs kI kO) t f (ask b t) (ask₁ b B) (ask₂ b B)) where
      boundary_sim : (bs : List ℕ) → Below (element_count T) bs → (w w₁ w₂ : Gathered) (t : Table) (f : ℕ → ℕ) → Embeds T B t f → GatheredIs kI kO f (element_count t) w w₁ w₂
          → Sim L T B fine good on (points_of_boundary F bs) (GatheredIs kI kO) t f (cut_boundary ask bs w t) (cut_boundary ask₁ bs w₁ B) (cut_boundary ask₂ bs w₂ B)
      boundary_sim [] hb w w₁ w₂ t f em hw = sim_give L T B fine good on (GatheredIs kI kO) t f em w w₁ w₂ hw
      boundary_sim (b ∷ bs) hb w w₁ w₂ t f em hw =
          sim_next L T B fine good on (AnswerIs kI kO) (F b) (points_of_boundary F bs) (GatheredIs kI kO) t f (ask b t) (ask₁ b B) (ask₂ b B)
          (λ a. cut_boundary ask bs (gathering b a w)) (λ a. cut_boundary ask₁ bs (gathering b a w₁)) (λ a. cut_boundary ask₂ bs (gathering b a w₂))
          (boundary_more F more bs) (builds₁ b B) (builds₂ b B)
          (λ a. cut_boundary_lem L (keep kI kO) ask₁ builds₁ bs (gathering b a w₁)) (λ a. cut_boundary_lem L (keep kI kO) ask₂ builds₂ bs (gathering b a w₂))
          (h' b hb.0 t f em) (λ a b₁ b₂ s g em' ag mo ha.
          boundary_sim bs hb.1 (gathering b a w) (gathering b b₁ w₁) (gathering b b₂ w₂) s g em'
          (gathered_more kI kO g (element_count s) b (le_trans hb.0 (count_more em'.grown)) (em'.old b hb.0) a b₁ b₂ ha.0 w w₁ w₂
          (gathered_later kI kO f g (element_count t) (element_count s) ag mo w w₁ w₂ hw)))

      higher_sim : (y : Element) → Below (element_count T) (boundary_of y) → (t : Table) (f : ℕ → ℕ) → Embeds T B t f
          → Sim L T B fine good on (points_of_boundary F (boundary_of y)) (AnswerIs kI kO) t f (cut_higher L (keep kI kO) ask y t) (cut_higher L (keep true false) ask₁ y B) (cut_higher L (keep false true) ask₂ y B)
      unfolding cut_higher
      higher_sim y hb t f em =
          sim_next L T B fine good on (GatheredIs kI kO) (points_of_boundary F (boundary_of y)) stay (AnswerIs kI kO) t f
          (cut_boundary ask (boundary_of y) nothing_yet t) (cut_boundary ask₁ (boundary_of y) nothing_yet B) (cut_boundary ask₂ (boundary_of y) nothing_yet B)
          (sixth (keep kI kO) y) (sixth (keep true false) y) (sixth (keep false true) y)
          begins_refl (cut_boundary_lem L (keep kI kO) ask₁ builds₁ (boundary_of y) nothing_yet B) (cut_boundary_lem L (keep kI kO) ask₂ builds₂ (boundary_of y) nothing_yet B)
          (sixth_builds (keep true false) y) (sixth_builds (keep false true) y)
          (boundary_sim (boundary_of y) hb nothing_yet nothing_yet nothing_yet t f em (gathered_start kI kO f (element_count t)))
          (λ w w₁ w₂ s g em' ag mo hw. sixth_sim y w w₁ w₂ s g em' hw)

    -- an old element of rank 1 or more
    pub element_sim : (r e : ℕ) → e < element_count T → (t : Table) (f : ℕ → ℕ) → Embeds T B t f → Sim L T B fine good on (points_of_element T h (suc r) e) (AnswerIs kI kO) t f
        (cut_element L (keep kI kO) (suc r) e t) (cut_element L (keep true false) (suc r) e B) (cut_element L (keep false true) (suc r) e B)
    unfolding cut_element points_of_element
    element_sim zero e l t f em =
        let y = element T e in
        let F : Points → Points = points_of_element T h 1 e in
        subst (λ (z : Element). Sim L T B fine good on F (AnswerIs kI kO) t f (cut_edge L (keep kI kO) z t)
        (cut_edge L (keep true false) (element B e) B) (cut_edge L (keep false true) (element B e) B)) (sym (element_same T t e em.grown l))
        (subst (λ (z : Element). Sim L T B fine good on F (AnswerIs kI kO) t f (cut_edge L (keep kI kO) y t) (cut_edge L (keep true false) z B) (cut_edge L (keep false true) z B)) (sym (element_same T B e on l))
        (edge_sim y (le_trans (suc-le-suc zero-le) l) (boundary_below T e fine l) t f em))
    element_sim (suc r) e l t f em =
        let y = element T e in
        let F : Points → Points = points_of_element T h (suc (suc r)) e in
        let ask : Bool → Bool → ℕ → Step ElementAnswer = λ i o. cut_element L (keep i o) (suc r) in
        subst (λ (z : Element). Sim L T B fine good on F (AnswerIs kI kO) t f (cut_higher L (keep kI kO) (ask kI kO) z t) (cut_higher L (keep true false) (ask true false) (element B e) B)
        (cut_higher L (keep false true) (ask false true) (element B e) B)) (sym (element_same T t e em.grown l))
        (subst (λ (z : Element). Sim L T B fine good on F (AnswerIs kI kO) t f (cut_higher L (keep kI kO) (ask kI kO) y t) (cut_higher L (keep true false) (ask true false) z B)
        (cut_higher L (keep false true) (ask false true) z B)) (sym (element_same T B e on l))
        (higher_sim (ask kI kO) (ask true false) (ask false true) (points_of_element T h (suc r)) (element_more T h (suc r))
        (cut_element_lem L (keep true false) (suc r)) (cut_element_lem L (keep false true) (suc r)) (element_sim r) y (boundary_below T e fine l) t f em))
