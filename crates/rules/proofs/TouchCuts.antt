-- What a touch tells of the cut of the same root by the same plane: all on is flush, one side alone is missed, without both no vertex is added, and an edge with both is crossed.
-- All on goes by induction over the rank, as for a missed piece.
use Rattle.std.specs.Prelude.{if◌then◌else◌, Option, Some, Ok}
use Prim.Native.Nat.{ℕ, zero, suc, ◌<◌}
use mathlib.Core.Bool.{Bool, true, false, false≢true, not, ◌&&◌, ◌||◌}
use mathlib.Core.List.{List, [], ◌∷◌}
use mathlib.Core.Path.{◌≡◌, refl, sym, ap, ap₂, subst, ◌∙◌}
use native.Mathlib.Nat.{suc-ne-zero, le_of_lt}
use native.Mathlib.Omega.{arith}
use lib.Dec.{eqb}
use lib.Ieee.{Float, nan, inf, fin, lt, neg}
use lib.ListN.{length}
use Rattle.rules.specs.Limits.{Limits}
use Rattle.rules.specs.Lists.{any}
use Rattle.rules.specs.Floats.{side_of, close_call, side_test, signed_distance, opposite, crossing_of, crossing_point, within, close_bound, tolerance}
use Rattle.rules.specs.Table.{Table, Plane, Element, corner, polytope, rank_of, boundary_of, element, rank, element_count, point_at}
use Rattle.rules.specs.Cut.{Outcome, refused, done, Step, next, give, given, keeping, Cutting, Gathered, nothing_yet, gathering, corner_output, corner_answer, distance_of}
use Rattle.rules.specs.Cut.{add_vertex, add_plane, side_of_cut, rule7, rule6, cross_edge, cut_ends, cut_edge, cut_boundary}
use Rattle.rules.specs.Cut.{cut_higher, cut_corner, cut_element, cut_at_distance, cut}
use Rattle.rules.specs.Questions.{reaches}
use Rattle.rules.specs.Held.{AllOf, Ranked}
use Rattle.rules.specs.Touch.{touch, some_close_call, says_inside, says_outside, SomeCorner, Touches, only_plane, AllOnIsFlush, OneSideIsMissed, OneSideAddsNoVertex, BothCutsAnEdge}
use Rattle.rules.specs.declared.ElementCutOutput.TheVariants.{Flush, NonFlush}
use Rattle.rules.specs.declared.ElementAnswer.{ElementAnswer}
use Rattle.rules.specs.declared.Side.{Side}
use Rattle.rules.specs.declared.Side.TheVariants.{Inside, On, Outside}
use Rattle.rules.specs.declared.Touch.{Touch}
use Rattle.rules.specs.declared.Touch.TheVariants.{AllOn, InsideOrOn, OutsideOrOn, Both}
use Rattle.rules.proofs.Built.{After, add_plane_lem, built_extends}
use Rattle.rules.proofs.CloseBelow.{close_below, close_vertices}
use Rattle.rules.proofs.Corners.{good_fine}
use Rattle.rules.proofs.Extends.{element_same, rank_same}
use Rattle.rules.proofs.Fine.{point_at_same}
use Rattle.rules.proofs.Good.{Good, sound_good, whole_at}
use Rattle.rules.proofs.Laws.{eq_test, eqb_self, if_true, le_test, or_case, or_none}
use Rattle.rules.proofs.Missed.{Clear, CornersOn, Lies, all_of_map, clear_boundary, asks, numbered, only_plane_lem, missed_cut, plane_unmoved, Unmoved}
use Rattle.rules.proofs.Ranked.{ranked_all}
use Rattle.rules.proofs.Repeat.{NotInfinite}
use Rattle.rules.proofs.Touching.{near_finite, touch_read}
use Rattle.rules.proofs.Uncrossed.{Points, points_after, points_kept}
use Rattle.rules.specs.declared.ElementId.{ElementId}
use Rattle.rules.specs.Touch.{touch_with}

-- ---- all on: everything is flush

-- flush, and no close call
abbrev flush_answer : ElementAnswer
flush_answer = record { output = Flush; warning = false }

-- a corner on the plane is no close call
on_not_close : (s : Float) → side_of s ≡ On → close_call s ≡ false
unfolding side_of close_call
on_not_close s = go (within close_bound s) (within tolerance s) (lt s (neg tolerance))
  where
    go : (c w b : Bool) → (if w then On else if b then Inside else Outside) ≡ On → (c && not w) ≡ false
    go true true b q = refl
    go false true b q = refl
    go c false true q = let z : ◌≡◌ {A = ℕ} 0 1 = cc in absurd (suc-ne-zero 0 (sym z))
    go c false false q = let z : ◌≡◌ {A = ℕ} 0 1 = cc in absurd (suc-ne-zero 0 (sym z))

-- the flush answers of a boundary, one after another
flushing : List ℕ → Gathered → Gathered
flushing [] g = g
flushing (b ∷ bs) g = flushing bs (gathering b flush_answer g)

boundary_flushes : (ask : ℕ → Step ElementAnswer) (t : Table) (bs : List ℕ) (g : Gathered) → AllOf (λ b. ask b t ≡ done flush_answer t) bs
    → cut_boundary ask bs g t ≡ done (flushing bs g) t
unfolding flushing
boundary_flushes ask t [] g h = refl
boundary_flushes ask t (b ∷ bs) g h =
    ap (λ (o : Outcome ElementAnswer). next o (λ a. cut_boundary ask bs (gathering b a g))) h.0 ∙ boundary_flushes ask t bs (gathering b flush_answer g) h.1

all_on_apart : (a b : Side) → a ≡ On → b ≡ On → opposite a b ≡ false
all_on_apart a b p q = ap₂ opposite p q

module _ (L : Limits) (c : Cutting) (y : Element) where
  -- two flush answers or more
  many_flush : (ws : List ℕ) (g : Gathered) (f f' : ℕ) (fs : List ℕ) (t : Table) → g.flush ≡ f ∷ f' ∷ fs → g.warning ≡ false
      → rule6 L c y (flushing ws g) (flushing ws g).flush t ≡ done flush_answer t
  unfolding flushing rule6
  many_flush [] g f f' fs t q n = ap (λ (l : List ℕ). rule6 L c y g l t) q ∙ ap (λ (b : Bool). done (record { output = Flush; warning = b }) t) n
  many_flush (w ∷ ws) g f f' fs t q n = many_flush ws (gathering w flush_answer g) w f (f' ∷ fs) t (ap (λ (l : List ℕ). w ∷ l) q) (or_none g.warning ∙ n)

  flush_rule : (b : List ℕ) (t : Table) → 1 < length b → rule6 L c y (flushing b nothing_yet) (flushing b nothing_yet).flush t ≡ done flush_answer t
  unfolding flushing
  flush_rule [] t l = absurd (let n : ⊥ = omega arith in n)
  flush_rule (x ∷ []) t l = absurd (let n : ⊥ = omega arith in n)
  flush_rule (x ∷ z ∷ ws) t l = many_flush ws (gathering z flush_answer (gathering x flush_answer nothing_yet)) z x [] t refl refl

module _ (L : Limits) (t : Table) (good : Good L t) (c : Cutting) where
  abbrev OnPlane : ℕ → ℕ → Type 0
  OnPlane r e = Clear t c.params.divider (Lies On) r e

  abbrev Flushes : ℕ → ℕ → Type 0
  Flushes r e = cut_element L c r e t ≡ done flush_answer t

  flush_up : (r e : ℕ) → ((x : ℕ) → OnPlane r x → Flushes r x) → OnPlane (suc r) e → Flushes (suc r) e
  unfolding cut_higher
  flush_up r e below k = go (element t e) refl k.ranked
    where
      go : (y : Element) → element t e ≡ y → rank_of y ≡ suc r → Flushes (suc r) e
      go (corner v) q z = absurd (suc-ne-zero r (sym z))
      go (polytope s b j m) q z =
          let own : element t e ≡ polytope (suc r) b j m = q ∙ ap (λ (n : ℕ). polytope n b j m) z in
          let w = (whole_at L t e (suc r) b j m good k.used own).bound in
          let clear = clear_boundary L t good c.params.divider (Lies On) r e b j m own k in
          let many = le_test (suc (suc r)) (length b) w.enough in
          asks L t c (Lies On) all_on_apart r e b j m own w.tight clear
          ∙ ap (λ (o : Outcome Gathered). next o (λ g. rule6 L c (polytope (suc r) b j m) g g.flush))
          (boundary_flushes (cut_element L c r) t b nothing_yet (all_of_map (OnPlane r) (Flushes r) below b clear))
          ∙ flush_rule L c (polytope (suc r) b j m) b t (omega arith)

  flushes : (r e : ℕ) → OnPlane r e → Flushes r e
  unfolding cut_element cut_corner reaches
  flushes zero e k =
      let on = k.on e (eqb_self e) k.ranked in
      ap₂ (λ (s : Side) (w : Bool). done (record { output = corner_output e s; warning = w }) t) on (on_not_close (distance_of c (point_at t e)) on)
  flushes (suc r) e k = flush_up r e (flushes r) k

-- ---- an edge with both: it is crossed

abbrev Crossed : Outcome ElementAnswer → Type 0
Crossed (refused n) = Unit {0}
Crossed (done b u) = (x : ℕ) × (p q : Option ElementId) × (b.output ≡ NonFlush p q (given x))

crossed_next : {A : Type 0} (o : Outcome A) (f : A → Step ElementAnswer) → ((a : A) (s : Table) → Crossed (f a s)) → Crossed (next o f)
crossed_next (refused n) f k = tt
crossed_next (done a s) f k = k a s

module _ (L : Limits) (c : Cutting) where
  rule7_crossed : (y : Element) (g : Gathered) (v : ℕ) (t : Table) → Crossed (rule7 L c y g (given v) t)
  unfolding rule7
  rule7_crossed y g v t =
      crossed_next (side_of_cut L c.params.keep_inside y (given v) g.inside t) _ (λ i s.
      crossed_next (side_of_cut L c.params.keep_outside y (given v) g.outside s) _ (λ o u. (v, i, o, refl)))

  -- the crossing counts as the flush one
  cross_crossed : (y : Element) (p q : List Float) (x : Float) (g : Gathered) (t : Table) → Crossed (next (cross_edge L p q (Some x) g t) (λ f. rule6 L c y f f.flush))
  unfolding rule6
  cross_crossed y p q x g t = go (add_vertex L (crossing_point x p q) t)
    where
      flushed : ℕ → Gathered
      flushed v = record { flush = v ∷ []; inside = g.inside; outside = g.outside; intersections = g.intersections; warning = g.warning }

      go : (o : Outcome ℕ) → Crossed (next (next o (λ v. give (flushed v))) (λ f. rule6 L c y f f.flush))
      go (refused n) = tt
      go (done v s) = rule7_crossed y (flushed v) v s

  edge_crossed : (a b : ℕ) (j : Option ℕ) (m : Bool) (t : Table) → opposite (side_of (distance_of c (point_at t a))) (side_of (distance_of c (point_at t b))) ≡ true
      → Crossed (cut_edge L c (polytope 1 (a ∷ b ∷ []) j m) t)
  unfolding cut_edge cut_ends crossing_of
  edge_crossed a b j m t q =
      let sa = distance_of c (point_at t a) in
      let sb = distance_of c (point_at t b) in
      let ends = gathering b (corner_answer b (side_test sb)) (gathering a (corner_answer a (side_test sa)) nothing_yet) in
      subst (λ (x : Option Float). Crossed (next (cross_edge L (point_at t a) (point_at t b) x ends t) (λ g. rule6 L c (polytope 1 (a ∷ b ∷ []) j m) g g.flush)))
      (sym (if_true (opposite (side_of sa) (side_of sb)) (Some _) _ q)) (cross_crossed (polytope 1 (a ∷ b ∷ []) j m) (point_at t a) (point_at t b) _ ends t)

-- ---- the promises

abbrev NotOn : Side → Side → Type 0
NotOn side s = s ≡ side → ⊥

outside_free : (a b : Side) → NotOn Outside a → NotOn Outside b → opposite a b ≡ false
outside_free Inside Inside p q = refl
outside_free Inside On p q = refl
outside_free Inside Outside p q = absurd (q refl)
outside_free On b p q = refl
outside_free Outside b p q = absurd (p refl)

inside_free : (a b : Side) → NotOn Inside a → NotOn Inside b → opposite a b ≡ false
inside_free Inside b p q = absurd (p refl)
inside_free On b p q = refl
inside_free Outside Inside p q = absurd (q refl)
inside_free Outside On p q = refl
inside_free Outside Outside p q = refl

-- the side that is left
left_on : (s : Side) → NotOn Inside s → NotOn Outside s → s ≡ On
left_on Inside p q = absurd (p refl)
left_on On p q = refl
left_on Outside p q = absurd (q refl)

left_inside : (s : Side) → NotOn On s → NotOn Outside s → s ≡ Inside
left_inside Inside p q = refl
left_inside On p q = absurd (p refl)
left_inside Outside p q = absurd (q refl)

left_outside : (s : Side) → NotOn On s → NotOn Inside s → s ≡ Outside
left_outside Inside p q = absurd (q refl)
left_outside On p q = absurd (p refl)
left_outside Outside p q = refl

inside_not_outside : (s : Side) → s ≡ Inside → s ≡ Outside → ⊥
inside_not_outside s p q = let z : ◌≡◌ {A = ℕ} 0 1 = cc in suc-ne-zero 0 (sym z)

module _ (L : Limits) (h : Plane) (root : ℕ) (t : Table) (on : Touches L h root t) where
  good : Good L t
  good = sound_good L t on.sound

  finite : NotInfinite h.distance
  finite = near_finite t.dimension h on.fits

  -- no corner lies there, so each lies elsewhere
  none_there : (side : Side) → (SomeCorner side h t root → ⊥) → CornersOn t h (NotOn side) (rank t root) root
  none_there side f x b z q = f (x, record { below = b; corner = z; lies = q })

  no_outside : (a : Touch) (k : ℕ) → touch h root t ≡ Ok (touch_with a k) → says_outside a ≡ false → SomeCorner Outside h t root → ⊥
  no_outside a k e z s = false≢true (sym z ∙ (touch_read L h root t a k on e).outside_told s)

  no_inside : (a : Touch) (k : ℕ) → touch h root t ≡ Ok (touch_with a k) → says_inside a ≡ false → SomeCorner Inside h t root → ⊥
  no_inside a k e z s = false≢true (sym z ∙ (touch_read L h root t a k on e).inside_told s)

  flush_cut : (k : ℕ) → touch h root t ≡ Ok (touch_with AllOn k) → (i o : Bool) → cut L (keeping h i o) root t ≡ only_plane L h Flush false t
  flush_cut k e i o =
      only_plane_lem L t good (keeping h i o) on.fits finite root on.used (Lies On) flush_answer
      (λ x b z. left_on _ (none_there Inside (no_inside AllOn k e refl) x b z) (none_there Outside (no_outside AllOn k e refl) x b z))
      (λ n s g x clear. flushes L s g (numbered (keeping h i o) n) (rank t root) root clear)

  -- the warning of a missed piece
  told : close_below h t (rank t root) root ≡ some_close_call h t root
  told = close_vertices L t on.sound h root on.used

  module _ (off : SomeCorner On h t root → ⊥) where
    missed_inside : (k : ℕ) → touch h root t ≡ Ok (touch_with InsideOrOn k) → (o : Bool) → cut L (keeping h true o) root t ≡ only_plane L h (corner_output root Inside) (some_close_call h t root) t
    missed_inside k e o =
        missed_cut L t good (keeping h true o) on.fits finite root on.used true refl
        (λ x b z. left_inside _ (none_there On off x b z) (none_there Outside (no_outside InsideOrOn k e refl) x b z))
        ∙ ap (λ (w : Bool). only_plane L h (corner_output root Inside) w t) told

    missed_outside : (k : ℕ) → touch h root t ≡ Ok (touch_with OutsideOrOn k) → (i : Bool) → cut L (keeping h i true) root t ≡ only_plane L h (corner_output root Outside) (some_close_call h t root) t
    missed_outside k e i =
        missed_cut L t good (keeping h i true) on.fits finite root on.used false refl
        (λ x b z. left_outside _ (none_there On off x b z) (none_there Inside (no_inside OutsideOrOn k e refl) x b z))
        ∙ ap (λ (w : Bool). only_plane L h (corner_output root Outside) w t) told

  plane_points : (o : Outcome ℕ) → Unmoved t o → Points t.points o
  plane_points (refused n) m = tt
  plane_points (done n s) m = m.1

  module _ (i o : Bool) where
    with_plane_lem : ℕ → Cutting
    with_plane_lem n = numbered (keeping h i o) n

    points_cut : (P : Side → Type 0) → ((a b : Side) → P a → P b → opposite a b ≡ false) → CornersOn t h P (rank t root) root → Points t.points (cut L (keeping h i o) root t)
    unfolding cut with_plane_lem
    points_cut P apart off = at h.distance
      where
        go : Points t.points (next (add_plane L h t) (λ n s. cut_element L (with_plane_lem n) (rank s root) root s))
        go =
            points_after t.points t (add_plane L h t) _ (add_plane_lem L h t) (plane_points (add_plane L h t) (plane_unmoved L h t)) (λ n s x q.
            subst (λ (r : ℕ). Points t.points (cut_element L (with_plane_lem n) r root s)) (sym (rank_same t s root x on.used))
            (points_kept L t good (with_plane_lem n) P apart (rank t root) root (record { used = on.used; ranked = refl; on = off }) s x q))

        at : (d : Float) → Points t.points (cut_at_distance L (keeping h i o) d root t)
        at (inf false) = refl
        at (inf true) = refl
        at nan = go
        at (fin s m e) = go

    crossed_cut : (a b : ℕ) (j : Option ℕ) (m : Bool) → element t root ≡ polytope 1 (a ∷ b ∷ []) j m → a < element_count t → b < element_count t
        → opposite (side_of (signed_distance h.normal h.distance (point_at t a))) (side_of (signed_distance h.normal h.distance (point_at t b))) ≡ true
        → Crossed (cut L (keeping h i o) root t)
    unfolding cut with_plane_lem cut_element
    crossed_cut a b j m own ua ub q = at h.distance finite
      where
        side : List Float → Side
        side p = side_of (signed_distance h.normal h.distance p)

        go : (x : Outcome ℕ) → After t x → Crossed (next x (λ n s. cut_element L (with_plane_lem n) (rank s root) root s))
        go (refused n) w = tt
        go (done n s) w =
            let x = built_extends w in
            let same : element s root ≡ polytope 1 (a ∷ b ∷ []) j m = element_same t s root x on.used ∙ own in
            subst (λ (y : Element). Crossed (cut_element L (with_plane_lem n) (rank_of y) root s)) (sym same)
            (subst (λ (y : Element). Crossed (cut_edge L (with_plane_lem n) y s)) (sym same)
            (edge_crossed L (with_plane_lem n) a b j m s
            (ap₂ (λ (p r : List Float). opposite (side p) (side r)) (point_at_same t s a (good_fine L t good) x ua) (point_at_same t s b (good_fine L t good) x ub) ∙ q)))

        at : (d : Float) → NotInfinite d → Crossed (cut_at_distance L (keeping h i o) d root t)
        at (inf false) z = absurd z
        at (inf true) z = absurd z
        at nan z = go (add_plane L h t) (add_plane_lem L h t)
        at (fin s k e) z = go (add_plane L h t) (add_plane_lem L h t)

  -- a corner of an edge is one of its two ends
  end_of : (a b : ℕ) (j : Option ℕ) (m : Bool) → element t root ≡ polytope 1 (a ∷ b ∷ []) j m → (x : ℕ) → reaches t (rank t root) root x ≡ true → rank t x ≡ 0
      → (A : Type 0) → (a ≡ x → A) → (b ≡ x → A) → A
  unfolding reaches
  end_of a b j m own x r z A f g =
      or_case (eqb root x) (eqb a x || (eqb b x || false)) (subst (λ (y : Element). (eqb root x || any (λ d. eqb d x) (boundary_of y)) ≡ true) own below) A
      (λ q. absurd (suc-ne-zero 0 (sym (ap rank_of own) ∙ ap (rank t) (eq_test root x q) ∙ z)))
      (λ k. or_case (eqb a x) (eqb b x || false) k A (λ q. f (eq_test a x q)) (λ k₂. or_case (eqb b x) false k₂ A (λ q. g (eq_test b x q)) (λ q. absurd (false≢true q))))
    where
      below : reaches t 1 root x ≡ true
      below = subst (λ (n : ℕ). reaches t n root x ≡ true) (ap rank_of own) r

  both_opposite : (k : ℕ) → touch h root t ≡ Ok (touch_with Both k) → (a b : ℕ) (j : Option ℕ) (m : Bool) → element t root ≡ polytope 1 (a ∷ b ∷ []) j m
      → opposite (side_of (signed_distance h.normal h.distance (point_at t a))) (side_of (signed_distance h.normal h.distance (point_at t b))) ≡ true
  both_opposite k e a b j m own =
      let r = touch_read L h root t Both k on e in
      let x = r.inside refl in
      let y = r.outside refl in
      end_of a b j m own x.0 x.1.below x.1.corner Goal
      (λ p. end_of a b j m own y.0 y.1.below y.1.corner Goal
      (λ q. absurd (inside_not_outside (side a) (ap side p ∙ x.1.lies) (ap side q ∙ y.1.lies))) (λ q. ap₂ opposite (ap side p ∙ x.1.lies) (ap side q ∙ y.1.lies)))
      (λ p. end_of a b j m own y.0 y.1.below y.1.corner Goal
      (λ q. ap₂ opposite (ap side q ∙ y.1.lies) (ap side p ∙ x.1.lies)) (λ q. absurd (inside_not_outside (side b) (ap side p ∙ x.1.lies) (ap side q ∙ y.1.lies))))
    where
      side : ℕ → Side
      side z = side_of (signed_distance h.normal h.distance (point_at t z))

      Goal : Type 0
      Goal = opposite (side a) (side b) ≡ true

  edge_cut : (k : ℕ) → touch h root t ≡ Ok (touch_with Both k) → rank t root ≡ 1 → (i o : Bool) → Crossed (cut L (keeping h i o) root t)
  edge_cut k e z i o = go (element t root) refl z
    where
      ends : (b : List ℕ) (j : Option ℕ) (m : Bool) → element t root ≡ polytope 1 b j m → length b ≡ 2 → AllOf (Ranked t 1) b → Crossed (cut L (keeping h i o) root t)
      ends [] j m own l u = absurd (let n : ⊥ = omega arith in n)
      ends (a ∷ []) j m own l u = absurd (let n : ⊥ = omega arith in n)
      ends (a ∷ b ∷ []) j m own l u = crossed_cut i o a b j m own u.0.0 u.1.0.0 (both_opposite k e a b j m own)
      ends (a ∷ b ∷ x ∷ xs) j m own l u = absurd (let n : ⊥ = omega arith in n)

      go : (y : Element) → element t root ≡ y → rank_of y ≡ 1 → Crossed (cut L (keeping h i o) root t)
      go (corner v) q r = absurd (suc-ne-zero 0 (sym r))
      go (polytope d b j m) q r =
          let own : element t root ≡ polytope 1 b j m = q ∙ ap (λ (n : ℕ). polytope n b j m) r in
          let w = (whole_at L t root 1 b j m good on.used own).bound in
          ends b j m own (eq_test (length b) 2 w.tight) (ranked_all t root 1 b (le_of_lt on.used) w.under w.ranks)

  one_side_points : (a : Touch) (k : ℕ) → touch h root t ≡ Ok (touch_with a k) → (a ≡ Both → ⊥) → (i o : Bool) → Points t.points (cut L (keeping h i o) root t)
  one_side_points AllOn k e n i o = points_cut i o (NotOn Outside) outside_free (none_there Outside (no_outside AllOn k e refl))
  one_side_points InsideOrOn k e n i o = points_cut i o (NotOn Outside) outside_free (none_there Outside (no_outside InsideOrOn k e refl))
  one_side_points OutsideOrOn k e n i o = points_cut i o (NotOn Inside) inside_free (none_there Inside (no_inside OutsideOrOn k e refl))
  one_side_points Both k e n i o = absurd (n refl)

pub all_on_is_flush : (L : Limits) → AllOnIsFlush L
all_on_is_flush L h root t k c e i o = flush_cut L h root t c k e i o

pub one_side_is_missed : (L : Limits) → OneSideIsMissed L
one_side_is_missed L h root t k c off = (missed_inside L h root t c off k, missed_outside L h root t c off k)

pub one_side_adds_no_vertex : (L : Limits) → OneSideAddsNoVertex L
one_side_adds_no_vertex L h root t a k c e n i o b u q = subst (Points t.points) q (one_side_points L h root t c a k e n i o)

pub both_cuts_an_edge : (L : Limits) → BothCutsAnEdge L
both_cuts_an_edge L h root t k c e z i o b u q = subst Crossed q (edge_cut L h root t c k e z i o)
