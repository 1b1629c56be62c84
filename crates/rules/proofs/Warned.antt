-- The warning of a cut is on exactly where a corner below the root is a close call. By induction over the rank, in every table that goes on from the one before:
-- each boundary element is asked, and what is gathered has a warning as soon as one answer has.
use Prim.Native.Nat.{ℕ, zero, suc, ◌<◌}
use mathlib.Core.Bool.{Bool, true, false, ◌||◌}
use mathlib.Core.List.{List, [], ◌∷◌}
use mathlib.Core.Path.{◌≡◌, refl, sym, ap, ap₂, subst, ◌∙◌}
use native.Mathlib.Nat.{suc_inj, suc-ne-zero, le_of_lt}
use native.Mathlib.Omega.{arith}
use lib.Ieee.{Float, nan, inf, fin}
use lib.ListN.{length}
use Rattle.rules.specs.Limits.{Limits}
use Rattle.rules.specs.Lists.{any}
use Rattle.rules.specs.Floats.{side_test, crossing_point, crossing_of}
use Rattle.rules.specs.Table.{Table, Element, corner, polytope, element, rank, rank_of, boundary_of, element_count, point_at}
use Rattle.rules.specs.Sound.{closed}
use Rattle.rules.specs.Memory.{decode}
use Rattle.rules.specs.Cut.{Outcome, refused, done, next, Step, Cutting, Params, Gathered, nothing_yet, gathering, gathering_output, corner_answer, distance_of, side_of_cut, new_intersection, given}
use Rattle.rules.specs.Cut.{rule7, rule6, cross_edge, add_vertex, cut_ends, cut_edge, cut_boundary, cut_higher, cut_element, cut_corner, add_plane, cut_finite, cut_at_distance, cut}
use Rattle.rules.specs.Replies.{cut_reply, cut_warning, params_of}
use Rattle.rules.specs.Held.{Extends, AllOf, Ranked}
use Rattle.rules.specs.Promises.{WarnsOfCloseCalls}
use Rattle.rules.specs.declared.ElementCutOutput.{ElementCutOutput}
use Rattle.rules.specs.declared.ElementCutOutput.TheVariants.{Flush, NonFlush}
use Rattle.rules.specs.declared.ElementAnswer.{ElementAnswer}
use Rattle.rules.proofs.Built.{After, built_extends, cut_element_lem, add_plane_lem}
use Rattle.rules.proofs.Calls.{not_infinite}
use Rattle.rules.proofs.CloseBelow.{close_to, close_below, close_vertices}
use Rattle.rules.proofs.Corners.{good_fine}
use Rattle.rules.proofs.Extends.{extends_trans, element_same, rank_same}
use Rattle.rules.proofs.Fine.{point_at_same}
use Rattle.rules.proofs.Good.{Good, whole_at, sound_good}
use Rattle.rules.proofs.Laws.{eq_test, or_none, or_shift}
use Rattle.rules.proofs.OneCall.{did, sound_table}
use Rattle.rules.proofs.Ranked.{ranked_all}
use Rattle.rules.proofs.Refusals.{cut_numbers}
use Rattle.rules.proofs.Repeat.{NotInfinite}
use Rattle.rules.specs.declared.ElementId.{ElementId}
use Rattle.std.specs.Prelude.{Option, Some, None}

-- ---- what holds of the value of a step that is done

abbrev pub Done : {A : Type 0} → (A → Type 0) → Outcome A → Type 0
Done Q (refused n) = Unit {0}
Done Q (done a t) = Q a

-- whatever the first step gives
any_next : {A B : Type 0} (R : B → Type 0) (o : Outcome A) (f : A → Step B) → ((a : A) (s : Table) → Done R (f a s)) → Done R (next o f)
any_next R (refused n) f k = tt
any_next R (done a s) f k = k a s

done_next : {A B : Type 0} (Q : A → Type 0) (R : B → Type 0) (t : Table) (o : Outcome A) (f : A → Step B) → After t o → Done Q o
    → ((a : A) (s : Table) → Extends t s → Q a → Done R (f a s)) → Done R (next o f)
done_next Q R t (refused n) f b h k = tt
done_next Q R t (done a s) f b h k = k a s (built_extends b) h

-- an answer's warning, and that of what is gathered
abbrev pub Warns : Bool → ElementAnswer → Type 0
Warns w a = a.warning ≡ w

abbrev Gathers : Bool → Gathered → Type 0
Gathers w g = g.warning ≡ w

-- the same warning, said otherwise
warns_as : {v w : Bool} (o : Outcome ElementAnswer) → v ≡ w → Done (Warns v) o → Done (Warns w) o
warns_as (refused n) e h = tt
warns_as (done a t) e h = h ∙ e

-- ---- rules 4 to 7

pub gathering_warns : (b : ℕ) (a : ElementAnswer) (g : Gathered) → (gathering b a g).warning ≡ (g.warning || a.warning)
gathering_warns b a g = go a.output
  where
    go : (out : ElementCutOutput) → (gathering_output b out (g.warning || a.warning) g).warning ≡ (g.warning || a.warning)
    go Flush = refl
    go (NonFlush i o x) = refl

module _ (L : Limits) (c : Cutting) where
  rule7_warns : (e : Element) (g : Gathered) (x : Option ElementId) (t : Table) → Done (Warns g.warning) (rule7 L c e g x t)
  unfolding rule7
  rule7_warns e g x t =
      any_next (Warns g.warning) (side_of_cut L c.params.keep_inside e x g.inside t) _ (λ i t₁.
      any_next (Warns g.warning) (side_of_cut L c.params.keep_outside e x g.outside t₁) _ (λ o t₂. refl))

  pub rule6_warns : (e : Element) (g : Gathered) (fs : List ℕ) (t : Table) → Done (Warns g.warning) (rule6 L c e g fs t)
  unfolding rule6
  rule6_warns e g [] t = any_next (Warns g.warning) (new_intersection L c (rank_of e) g.intersections t) _ (λ x s. rule7_warns e g x s)
  rule6_warns e g (f ∷ []) t = rule7_warns e g (given f) t
  rule6_warns e g (f ∷ f' ∷ fs) t = refl

  -- rule 6 after what is gathered
  pub after_gathered : (w : Bool) (e : Element) (o : Outcome Gathered) → Done (Gathers w) o → Done (Warns w) (next o (λ g. rule6 L c e g g.flush))
  after_gathered w e (refused n) h = tt
  after_gathered w e (done g t) h = warns_as (rule6 L c e g g.flush t) h (rule6_warns e g g.flush t)

  pub crossed_warns : (p q : List Float) (x : Option Float) (g : Gathered) (t : Table) → Done (Gathers g.warning) (cross_edge L p q x g t)
  crossed_warns p q None g t = refl
  crossed_warns p q (Some s) g t = any_next (Gathers g.warning) (add_vertex L (crossing_point s p q) t) _ (λ v u. refl)

  -- ---- an element, in every table that goes on from t

  module _ (t : Table) (good : Good L t) where
    abbrev close : ℕ → ℕ → Bool
    close r e = close_below c.params.divider t r e

    abbrev WarnsLater : ℕ → ℕ → Type 0
    WarnsLater r e = (u : Table) → Extends t u → Done (Warns (close r e)) (cut_element L c r e u)

    corner_warns : (u : Table) → Extends t u → (e : ℕ) → e < element_count t → close_to c.params.divider (point_at u e) ≡ close 0 e
    unfolding close_below
    corner_warns u x e l = ap (close_to c.params.divider) (point_at_same t u e (good_fine L t good) x l)

    ends_warn : (a b : ℕ) (u : Table) → Extends t u → a < element_count t → b < element_count t
        → Done (Gathers (any (close 0) (a ∷ b ∷ []))) (cut_ends L c a b (point_at u a) (point_at u b) u)
    unfolding cut_ends
    ends_warn a b u x la lb = go (cross_edge L (point_at u a) (point_at u b) (crossing_of (distance_of c (point_at u a)) (distance_of c (point_at u b))) both u)
        (crossed_warns (point_at u a) (point_at u b) (crossing_of (distance_of c (point_at u a)) (distance_of c (point_at u b))) both u)
      where
        first : Gathered
        first = gathering a (corner_answer a (side_test (distance_of c (point_at u a)))) nothing_yet

        both : Gathered
        both = gathering b (corner_answer b (side_test (distance_of c (point_at u b)))) first

        same : both.warning ≡ any (close 0) (a ∷ b ∷ [])
        same =
            gathering_warns b (corner_answer b (side_test (distance_of c (point_at u b)))) first
            ∙ ap₂ ◌||◌ (gathering_warns a (corner_answer a (side_test (distance_of c (point_at u a)))) nothing_yet ∙ corner_warns u x a la)
            (corner_warns u x b lb ∙ sym (or_none (close 0 b)))

        go : (o : Outcome Gathered) → Done (Gathers both.warning) o → Done (Gathers (any (close 0) (a ∷ b ∷ []))) o
        go (refused n) h = tt
        go (done g s) h = h ∙ same

    boundary_warns : (r : ℕ) (bs : List ℕ) → AllOf (WarnsLater r) bs → (g : Gathered) (u : Table) → Extends t u
        → Done (Gathers (g.warning || any (close r) bs)) (cut_boundary (cut_element L c r) bs g u)
    boundary_warns r [] h g u x = sym (or_none g.warning)
    boundary_warns r (b ∷ bs) h g u x =
        done_next (Warns (close r b)) (Gathers (g.warning || any (close r) (b ∷ bs))) u (cut_element L c r b u) _ (cut_element_lem L c r b u) (h.0 u x) (λ a s e w.
        go a w (cut_boundary (cut_element L c r) bs (gathering b a g) s) (boundary_warns r bs h.1 (gathering b a g) s (extends_trans x e)))
      where
        go : (a : ElementAnswer) → a.warning ≡ close r b → (o : Outcome Gathered) → Done (Gathers ((gathering b a g).warning || any (close r) bs)) o
            → Done (Gathers (g.warning || any (close r) (b ∷ bs))) o
        go a w (refused n) k = tt
        go a w (done g' s) k =
            k ∙ ap (λ (v : Bool). v || any (close r) bs) (gathering_warns b a g ∙ ap (λ (v : Bool). g.warning || v) w)
            ∙ or_shift g.warning (close r b) (any (close r) bs)

    all_warn : (r : ℕ) → ((e : ℕ) → e < element_count t → rank t e ≡ r → WarnsLater r e) → (bs : List ℕ) → AllOf (Ranked t (suc r)) bs → AllOf (WarnsLater r) bs
    all_warn r h [] k = tt
    all_warn r h (b ∷ bs) k = (h b k.0.0 (suc_inj k.0.1), all_warn r h bs k.1)

    edge_warns : (r : ℕ) (b : List ℕ) (h : Option ℕ) (m : Bool) → length b ≡ 2 → AllOf (Ranked t 1) b → (u : Table) → Extends t u
        → Done (Warns (any (close 0) b)) (cut_edge L c (polytope r b h m) u)
    unfolding cut_edge
    edge_warns r [] h m two k u x = absurd (let n : ⊥ = omega arith in n)
    edge_warns r (a ∷ []) h m two k u x = absurd (let n : ⊥ = omega arith in n)
    edge_warns r (a ∷ b ∷ []) h m two k u x =
        after_gathered (any (close 0) (a ∷ b ∷ [])) (polytope r (a ∷ b ∷ []) h m) (cut_ends L c a b (point_at u a) (point_at u b) u) (ends_warn a b u x k.0.0 k.1.0.0)
    edge_warns r (a ∷ b ∷ d ∷ ds) h m two k u x = absurd (let n : ⊥ = omega arith in n)

    -- from the boundary to the element
    up : (r : ℕ) (b : List ℕ) (h : Option ℕ) (m : Bool) → closed t (suc r) b ≡ true → AllOf (Ranked t (suc r)) b → AllOf (WarnsLater r) b → (e : ℕ) (u : Table) → Extends t u
        → element u e ≡ polytope (suc r) b h m → Done (Warns (any (close r) b)) (cut_element L c (suc r) e u)
    unfolding cut_element cut_higher
    up zero b h m z k w e u x q = subst (λ (y : Element). Done (Warns (any (close 0) b)) (cut_edge L c y u)) (sym q) (edge_warns 1 b h m (eq_test (length b) 2 z) k u x)
    up (suc r) b h m z k w e u x q =
        subst (λ (y : Element). Done (Warns (any (close (suc r)) b)) (cut_higher L c (cut_element L c (suc r)) y u)) (sym q)
        (after_gathered (any (close (suc r)) b) (polytope (suc (suc r)) b h m) (cut_boundary (cut_element L c (suc r)) b nothing_yet u) (boundary_warns (suc r) b w nothing_yet u x))

    warned_up : (r e : ℕ) → ((b : ℕ) → b < element_count t → rank t b ≡ r → WarnsLater r b) → e < element_count t → rank t e ≡ suc r → WarnsLater (suc r) e
    unfolding close_below
    warned_up r e below l k u x = go (element t e) refl k
      where
        go : (y : Element) → element t e ≡ y → rank_of y ≡ suc r → Done (Warns (any (close r) (boundary_of (element t e)))) (cut_element L c (suc r) e u)
        go (corner v) q z = absurd (suc-ne-zero r (sym z))
        go (polytope s b h m) q z =
            let own : element t e ≡ polytope (suc r) b h m = q ∙ ap (λ (n : ℕ). polytope n b h m) z in
            let w = (whole_at L t e (suc r) b h m good l own).bound in
            let ranked = ranked_all t e (suc r) b (le_of_lt l) w.under w.ranks in
            warns_as (cut_element L c (suc r) e u) (sym (ap (λ (y : Element). any (close r) (boundary_of y)) q))
            (up r b h m w.tight ranked (all_warn r below b ranked) e u x (element_same t u e x l ∙ own))

    pub warned : (r e : ℕ) → e < element_count t → rank t e ≡ r → WarnsLater r e
    unfolding cut_element cut_corner
    warned zero e l k u x = corner_warns u x e l
    warned (suc r) e l k u x = warned_up r e (warned r) l k u x

-- ---- the whole cut

module _ (L : Limits) (p : Params) (root : ℕ) (t : Table) (good : Good L t) (used : root < element_count t) where
  abbrev CutWarns : Outcome ElementAnswer → Type 0
  CutWarns o = Done (Warns (close_below p.divider t (rank t root) root)) o

  finite_warns : CutWarns (cut_finite L p root t)
  finite_warns = go (add_plane L p.divider t) (add_plane_lem L p.divider t)
    where
      go : (o : Outcome ℕ) → After t o → CutWarns (next o (λ n s. cut_element L (record { params = p; number = n }) (rank s root) root s))
      go (refused n) b = tt
      go (done n s) b =
          let x = built_extends b in
          subst (λ (r : ℕ). CutWarns (cut_element L (record { params = p; number = n }) r root s)) (sym (rank_same t s root x used))
          (warned L (record { params = p; number = n }) t good (rank t root) root used refl s x)

  pub cut_warns : NotInfinite p.divider.distance → CutWarns (cut L p root t)
  unfolding cut
  cut_warns z = at p.divider.distance z
    where
      at : (d : Float) → NotInfinite d → CutWarns (cut_at_distance L p d root t)
      at (inf false) y = absurd y
      at (inf true) y = absurd y
      at nan y = finite_warns
      at (fin s m e) y = finite_warns

-- at the public reply
pub warns_of_close_calls : (L : Limits) → WarnsOfCloseCalls L
warns_of_close_calls L p root m finite z =
    let a = (cut_numbers L p root m).answered z in
    let d = did L p root m a.0 (cut_reply L p root m).1 (λ j. (a.1 j, (cut_reply L p root m).1)) in
    let s = sound_table L m d.passes.sound in
    ap cut_warning a.1
    ∙ subst (CutWarns L (params_of (decode L m).dimension p) root (decode L m) (sound_good L (decode L m) s) d.passes.used) d.cuts
    (cut_warns L (params_of (decode L m).dimension p) root (decode L m) (sound_good L (decode L m) s) d.passes.used (not_infinite p.divider.distance finite))
    ∙ close_vertices L (decode L m) s (params_of (decode L m).dimension p).divider root d.passes.used
