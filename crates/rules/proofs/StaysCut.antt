-- Demand 3, the middle part: the table after an unrefused cut of a sound table, by a divider that fits, is sound. By induction over the rank.
use Rattle.std.specs.Prelude.{if◌then◌else◌, Option, Some, None}
use Prim.Native.Nat.{◌-◌, ℕ, suc, zero, ◌<◌}
use mathlib.Core.Bool.{true, false, Bool, ◌&&◌, not}
use mathlib.Core.List.{List, [], ◌∷◌}
use mathlib.Core.Path.{◌≡◌, ◌∙◌, sym, refl, ap, subst}
use native.Mathlib.Nat.{suc-ne-zero, suc_inj, le_of_lt, le_trans, not-suc-le-zero, le_of_suc-le-suc}
use native.Mathlib.Omega.{arith}
use lib.Dec.{eqb, leb}
use lib.Ieee.{Float, fin, inf, nan}
use lib.IntN.{pos}
use lib.ListN.{length, get_or}
use Rattle.rules.specs.Limits.{Limits}
use Rattle.rules.specs.Lists.{all}
use Rattle.rules.specs.Floats.{crossing_point, within, farthest, side_of, side_test, crossing_of}
use Rattle.rules.specs.Table.{element, rank, Table, Element, rank_of, plane_of, is_primordial, corner, point_at, point_of, polytope, boundary_of, element_count}
use Rattle.rules.specs.Sound.{sound_point, sound_facet, names_plane, names_none, sound_element, sound_plane}
use Rattle.rules.specs.Cut.{Cutting, Params, cut, plane_of_intersection, new_intersection, add_polytope, side_of_cut, including, Gathered, rule7, rule6, given, cross_edge, add_vertex, cut_ends, distance_of}
use Rattle.rules.specs.Cut.{gathering, corner_output, corner_answer, nothing_yet, cut_edge, Step, cut_boundary, cut_higher, cut_element, Outcome, refused, done, cut_corner, cut_finite, add_plane, cut_at_distance}
use Rattle.rules.specs.Promises.{OneBelow, NamesBelow}
use Rattle.rules.specs.Held.{Extends, SetOf, SomeOf, Sets, OutputOf, AnswerOf, AllOf, Ranked}
use Rattle.rules.specs.declared.ElementCutOutput.{ElementCutOutput}
use Rattle.rules.specs.declared.ElementCutOutput.TheVariants.{NonFlush, Flush}
use Rattle.rules.specs.declared.ElementAnswer.{ElementAnswer}
use Rattle.rules.proofs.Clamp.{clamp_within}
use Rattle.rules.proofs.Corners.{corner_named_lem}
use Rattle.rules.proofs.Extends.{begins_length, extends_trans, count_more}
use Rattle.rules.proofs.Good.{facet_later, Good, above_zero, sound_at, whole}
use Rattle.rules.proofs.Growing.{all_get}
use Rattle.rules.proofs.Laws.{and_true, test_eq, eq_test, and_left, and_right, test_le, le_test}
use Rattle.rules.proofs.Ranked.{set_including, some_later, set_later, sets_later, sets_gathering, corner_answer_lem, sets_none, all_later, ranked_later, ranked_all}
use Rattle.rules.proofs.Repeat.{NotInfinite}
use Rattle.rules.proofs.Stays.{Stays, add_stays, stays_here, stays_next, vertex_stays, plane_stays}
use Rattle.rules.specs.declared.ElementId.{ElementId}

-- ---- a crossing lies in the box of its edge

pub crossing_sound : (s : Float) (d : ℕ) (p q : List Float) → sound_point d p ≡ true → sound_point d q ≡ true → sound_point d (crossing_point s p q) ≡ true
unfolding sound_point crossing_point
crossing_sound s d p q hp hq =
    and_true (eqb (length (crossing_point s p q)) d) (all (within farthest) (crossing_point s p q))
    (test_eq (length (crossing_point s p q)) d
    (long p q (eq_test (length p) d (and_left (eqb (length p) d) (all (within farthest) p) hp) ∙ sym (eq_test (length q) d (and_left (eqb (length q) d) (all (within farthest) q) hq)))
    ∙ eq_test (length p) d (and_left (eqb (length p) d) (all (within farthest) p) hp)))
    (box p q (and_right (eqb (length p) d) (all (within farthest) p) hp) (and_right (eqb (length q) d) (all (within farthest) q) hq))
  where
    long : (p q : List Float) → length p ≡ length q → length (crossing_point s p q) ≡ length p
    long [] q e = refl
    long (a ∷ as') [] e = absurd (suc-ne-zero (length as') e)
    long (a ∷ as') (b ∷ bs) e = ap suc (long as' bs (suc_inj e))

    box : (p q : List Float) → all (within farthest) p ≡ true → all (within farthest) q ≡ true → all (within farthest) (crossing_point s p q) ≡ true
    box [] q h k = refl
    box (a ∷ as') [] h k = refl
    box (a ∷ as') (b ∷ bs) h k =
        and_true _ (all (within farthest) (crossing_point s as' bs))
        (clamp_within 1 (pos 16) a b _ (and_left (within farthest a) (all (within farthest) as') h) (and_left (within farthest b) (all (within farthest) bs) k))
        (box as' bs (and_right (within farthest a) (all (within farthest) as') h) (and_right (within farthest b) (all (within farthest) bs) k))

-- ---- rules 6 and 7 on an element of rank r + 1

pub record Owner (t : Table) (r : ℕ) (e : Element) : Type 0 where
  pub ranked : rank_of e ≡ suc r
  pub low : leb (rank_of e) t.dimension ≡ true
  pub facet : sound_facet t (rank_of e) (plane_of e) (is_primordial e) ≡ true

pub owner_later : {t l : Table} (r : ℕ) (e : Element) → Extends t l → Owner t r e → Owner l r e
owner_later {t} {l} r e x o = record {
  ranked = o.ranked;
  low = subst (λ (d : ℕ). leb (rank_of e) d ≡ true) (sym x.dimension) o.low;
  facet = facet_later t l (rank_of e) (plane_of e) (is_primordial e) x o.facet;
}

-- a corner's point is sound
pub point_at_sound : (L : Limits) (t : Table) (e : ℕ) → Good L t → Ranked t 1 e → sound_point t.dimension (point_at t e) ≡ true
point_at_sound L t e k h = go (element t e) refl
  where
    go : (y : Element) → element t e ≡ y → sound_point t.dimension (point_of t.points y) ≡ true
    go (corner v) q = all_get (sound_point t.dimension) t.points v [] (corner_named_lem L t k e v h.0 q) k.points
    go (polytope r b j m) q = absurd (above_zero L t e r b j m k h.0 q (suc_inj h.1))

module _ (L : Limits) (c : Cutting) where
  pub cut_facet : (t : Table) (r : ℕ) → c.number < length t.planes → sound_facet t r (plane_of_intersection t c (suc r)) false ≡ true
  unfolding sound_facet
  cut_facet t r n = go (eqb (suc r) t.dimension)
    where
      go : (b : Bool) → (if b then names_plane t (if b then Some c.number else None) else (names_none (if b then Some c.number else None) && not false)) ≡ true
      go true = test_le (suc c.number) (length t.planes) n
      go false = refl

  pub new_intersection_stays : (t : Table) (r : ℕ) (s : List ℕ) → Good L t → c.number < length t.planes → leb (suc r) t.dimension ≡ true
      → SetOf t r s → Stays L (SomeOf (suc r)) t (new_intersection L c (suc r) s t)
  new_intersection_stays t r s g n low hs =
      let e : suc r - 1 ≡ r = omega arith in
      subst (λ (q : ℕ). Stays L (SomeOf (suc r)) t (add_polytope L q s (plane_of_intersection t c (suc r)) false t)) (sym e)
      (add_stays L r s (plane_of_intersection t c (suc r)) false t g hs
      (test_le r t.dimension (le_of_lt (le_test (suc r) t.dimension low))) (cut_facet t r n))

  pub side_stays : (t : Table) (r : ℕ) (k : Bool) (e : Element) (x : Option ElementId) (s : List ℕ) → Good L t → Owner t r e → SomeOf (suc r) x t → SetOf t (suc r) s
      → Stays L (SomeOf (suc (suc r))) t (side_of_cut L k e x s t)
  side_stays t r false e x s g o hx hs = stays_here L (SomeOf (suc (suc r))) t None g tt
  side_stays t r true e x s g o hx hs =
      subst (λ (q : ℕ). Stays L (SomeOf (suc q)) t (add_polytope L (rank_of e) (including x s) (plane_of e) (is_primordial e) t)) o.ranked
      (add_stays L (rank_of e) (including x s) (plane_of e) (is_primordial e) t g
      (subst (λ (q : ℕ). SetOf t q (including x s)) (sym o.ranked) (set_including t (suc r) x s hx hs)) o.low o.facet)

  module _ (r : ℕ) (e : Element) (g : Gathered) where
    planes_more : {t l : Table} → Extends t l → c.number < length t.planes → c.number < length l.planes
    planes_more {t} {l} x n = le_trans n (begins_length t.planes l.planes x.planes)

    rule7_stays : (x : Option ElementId) (t : Table) → Good L t → Owner t r e → SomeOf (suc r) x t → Sets r g t → Stays L (AnswerOf (suc r)) t (rule7 L c e g x t)
    unfolding rule7
    rule7_stays x t k o hx h =
        stays_next L (SomeOf (suc (suc r))) (AnswerOf (suc r)) t (side_of_cut L c.params.keep_inside e x g.inside t) _
        (side_stays t r c.params.keep_inside e x g.inside k o hx h.inside) (λ i t₁ e₁ k₁ hi.
        stays_next L (SomeOf (suc (suc r))) (AnswerOf (suc r)) t₁ (side_of_cut L c.params.keep_outside e x g.outside t₁) _
        (side_stays t₁ r c.params.keep_outside e x g.outside k₁ (owner_later r e e₁ o) (some_later (suc r) x e₁ hx) (set_later g.outside e₁ h.outside)) (λ y t₂ e₂ k₂ hy.
        stays_here L (AnswerOf (suc r)) t₂ (record { output = NonFlush i y x; warning = g.warning }) k₂ (some_later (suc (suc r)) i e₂ hi, hy, some_later (suc r) x (extends_trans e₁ e₂) hx)))

    rule6_stays : (fs : List ℕ) (t : Table) → Good L t → c.number < length t.planes → Owner t r e → AllOf (Ranked t (suc r)) fs → Sets r g t
        → Stays L (AnswerOf (suc r)) t (rule6 L c e g fs t)
    unfolding rule6
    rule6_stays [] t k n o hf h =
        stays_next L (SomeOf (suc r)) (AnswerOf (suc r)) t (new_intersection L c (rank_of e) g.intersections t) _
        (subst (λ (q : ℕ). Stays L (SomeOf (suc r)) t (new_intersection L c q g.intersections t)) (sym o.ranked)
        (new_intersection_stays t r g.intersections k n (subst (λ (q : ℕ). leb q t.dimension ≡ true) o.ranked o.low) h.intersections))
        (λ x t₁ e₁ k₁ hx. rule7_stays x t₁ k₁ (owner_later r e e₁ o) hx (sets_later r g e₁ h))
    rule6_stays (f ∷ []) t k n o hf h = rule7_stays (given f) t k o hf.0 h
    rule6_stays (f ∷ f' ∷ fs) t k n o hf h = stays_here L (AnswerOf (suc r)) t (record { output = Flush; warning = g.warning }) k tt

  -- ---- an edge

  pub cross_stays : (p q : List Float) (x : Option Float) (g : Gathered) (t : Table) → Good L t → sound_point t.dimension p ≡ true → sound_point t.dimension q ≡ true → Sets 0 g t
      → Stays L (Sets 0) t (cross_edge L p q x g t)
  cross_stays p q None g t k hp hq h = stays_here L (Sets 0) t g k h
  cross_stays p q (Some s) g t k hp hq h =
      stays_next L (λ (i : ℕ) (u : Table). Ranked u 1 i) (Sets 0) t (add_vertex L (crossing_point s p q) t) _
      (vertex_stays L t k (crossing_point s p q) (crossing_sound s t.dimension p q hp hq)) (λ v t₁ e₁ k₁ hv.
      stays_here L (Sets 0) t₁ _ k₁ (record {
        flush = (hv, tt);
        inside = set_later g.inside e₁ h.inside;
        outside = set_later g.outside e₁ h.outside;
        intersections = set_later g.intersections e₁ h.intersections;
      }))

  pub ends_stays : (a b : ℕ) (t : Table) → Good L t → Ranked t 1 a → Ranked t 1 b → Stays L (Sets 0) t (cut_ends L c a b (point_at t a) (point_at t b) t)
  unfolding cut_ends
  ends_stays a b t k ha hb =
      cross_stays (point_at t a) (point_at t b) (crossing_of (distance_of c (point_at t a)) (distance_of c (point_at t b))) _ t k (point_at_sound L t a k ha) (point_at_sound L t b k hb)
      (sets_gathering 0 b (corner_answer b (side_test (distance_of c (point_at t b)))) _ t hb (corner_answer_lem t b (side_of (distance_of c (point_at t b))) hb)
      (sets_gathering 0 a (corner_answer a (side_test (distance_of c (point_at t a)))) nothing_yet t ha (corner_answer_lem t a (side_of (distance_of c (point_at t a))) ha) (sets_none 0 t)))

  pub ranked_get : (t : Table) (q : ℕ) (b : List ℕ) (i : ℕ) → i < length b → AllOf (Ranked t q) b → Ranked t q (get_or b i 0)
  ranked_get t q [] i l h = absurd (not-suc-le-zero l)
  ranked_get t q (x ∷ xs) zero l h = h.0
  ranked_get t q (x ∷ xs) (suc i) l h = ranked_get t q xs i (le_of_suc-le-suc l) h.1

  pub edge_stays : (e : Element) (t : Table) → Good L t → c.number < length t.planes → Owner t 0 e → AllOf (Ranked t 1) (boundary_of e) → 1 < length (boundary_of e)
      → Stays L (AnswerOf 1) t (cut_edge L c e t)
  unfolding cut_edge
  edge_stays e t k n o h two =
      let a = get_or (boundary_of e) 0 0 in
      let b = get_or (boundary_of e) 1 0 in
      stays_next L (Sets 0) (AnswerOf 1) t (cut_ends L c a b (point_at t a) (point_at t b) t) _
      (ends_stays a b t k (ranked_get t 1 (boundary_of e) 0 (le_of_lt two) h) (ranked_get t 1 (boundary_of e) 1 two h)) (λ g t₁ e₁ k₁ hg.
      rule6_stays 0 e g g.flush t₁ k₁ (planes_more 0 e g e₁ n) (owner_later 0 e e₁ o) hg.flush hg)

  -- ---- higher ranks

  module _ (r : ℕ) (ask : ℕ → Step ElementAnswer)
      (h : (b : ℕ) (t : Table) → Good L t → c.number < length t.planes → b < element_count t → rank t b ≡ r → Stays L (AnswerOf r) t (ask b t)) where
    pub boundary_stays : (bs : List ℕ) (g : Gathered) (t : Table) → Good L t → c.number < length t.planes → AllOf (Ranked t (suc r)) bs → Sets r g t → Stays L (Sets r) t (cut_boundary ask bs g t)
    boundary_stays [] g t k n hb hg = stays_here L (Sets r) t g k hg
    boundary_stays (b ∷ bs) g t k n hb hg =
        stays_next L (AnswerOf r) (Sets r) t (ask b t) _ (h b t k n hb.0.0 (suc_inj hb.0.1)) (λ a t₁ e₁ k₁ ha.
        boundary_stays bs (gathering b a g) t₁ k₁ (planes_more r (corner 0) g e₁ n) (all_later (suc r) bs e₁ hb.1)
        (sets_gathering r b a g t₁ (ranked_later b e₁ hb.0) ha (sets_later r g e₁ hg)))

    higher_stays : (e : Element) (t : Table) → Good L t → c.number < length t.planes → Owner t r e → AllOf (Ranked t (suc r)) (boundary_of e)
        → Stays L (AnswerOf (suc r)) t (cut_higher L c ask e t)
    unfolding cut_higher
    higher_stays e t k n o hb =
        stays_next L (Sets r) (AnswerOf (suc r)) t (cut_boundary ask (boundary_of e) nothing_yet t) _ (boundary_stays (boundary_of e) nothing_yet t k n hb (sets_none r t)) (λ g t₁ e₁ k₁ hg.
        rule6_stays r e g g.flush t₁ k₁ (planes_more r e g e₁ n) (owner_later r e e₁ o) hg.flush hg)

-- ---- an element of any rank

-- what soundness says of an element in use, of rank r + 1
pub record Facts (t : Table) (r : ℕ) (y : Element) : Type 0 where
  pub owner : Owner t r y
  pub bounds : AllOf (Ranked t (suc r)) (boundary_of y)
  pub two : 1 < length (boundary_of y)

pub facts : (L : Limits) (t : Table) (e r : ℕ) → Good L t → e < element_count t → rank t e ≡ suc r → Facts t r (element t e)
facts L t e r k l q = go (element t e) q (sound_at L t e k l)
  where
    go : (y : Element) → rank_of y ≡ suc r → sound_element t e y ≡ true → Facts t r y
    go (corner v) z h = absurd (suc-ne-zero r (sym z))
    go (polytope s b j m) z h =
        let w = whole t e s b j m h in
        let long = le_test (suc s) (length b) w.bound.enough in
        record {
          owner = record { ranked = z; low = w.low_rank; facet = w.facet };
          bounds = subst (λ (n : ℕ). AllOf (Ranked t n) b) z (ranked_all t e s b (le_of_lt l) w.bound.under w.bound.ranks);
          two = omega (arith, long, z);
        }

pub element_stays : (L : Limits) (c : Cutting) (r e : ℕ) (t : Table) → Good L t → c.number < length t.planes → e < element_count t → rank t e ≡ suc r → Stays L (AnswerOf (suc r)) t (cut_element L c (suc r) e t)
unfolding cut_element
element_stays L c zero e t k n l q = let f = facts L t e 0 k l q in edge_stays L c (element t e) t k n f.owner f.bounds f.two
element_stays L c (suc r) e t k n l q =
    let f = facts L t e (suc r) k l q in
    higher_stays L c (suc r) (cut_element L c (suc r)) (λ b s g m u z. element_stays L c r b s g m u z) (element t e) t k n f.owner f.bounds

-- what an answer names is in use
abbrev pub NamesInUse : ElementAnswer → Table → Type 0
NamesInUse a t = NamesBelow (element_count t) a.output

some_in_use : (q : ℕ) (t : Table) (x : Option ElementId) → SomeOf q x t → OneBelow (element_count t) x
some_in_use q t None h = tt
some_in_use q t (Some e) h = h.0

output_in_use : (r : ℕ) (t : Table) (a : ElementCutOutput) → OutputOf r a t → NamesBelow (element_count t) a
output_in_use r t Flush h = tt
output_in_use r t (NonFlush i o x) h = (some_in_use (suc r) t i h.0, some_in_use (suc r) t o h.1, some_in_use r t x h.2)

stays_in_use : (L : Limits) (r : ℕ) (t : Table) (o : Outcome ElementAnswer) → Stays L (AnswerOf r) t o → Stays L NamesInUse t o
stays_in_use L r t (refused n) h = tt
stays_in_use L r t (done a s) h = record { extends = h.extends; good = h.good; value = output_in_use r s a.output h.value }

pub any_stays : (L : Limits) (c : Cutting) (r e : ℕ) (t : Table) → Good L t → c.number < length t.planes → e < element_count t → rank t e ≡ r → Stays L NamesInUse t (cut_element L c r e t)
unfolding cut_element cut_corner
any_stays L c zero e t k n l q = stays_here L NamesInUse t _ k (output_in_use 0 t (corner_output e (side_of (distance_of c (point_at t e)))) (corner_answer_lem t e (side_of (distance_of c (point_at t e))) (l, ap suc q)))
any_stays L c (suc r) e t k n l q = stays_in_use L (suc r) t (cut_element L c (suc r) e t) (element_stays L c r e t k n l q)

-- ---- the whole cut

module _ (L : Limits) (p : Params) (root : ℕ) (t : Table) (k : Good L t) (u : root < element_count t) where
  pub finite_stays : sound_plane t.dimension p.divider ≡ true → Stays L NamesInUse t (cut_finite L p root t)
  finite_stays s =
      stays_next L (λ (n : ℕ) (v : Table). n < length v.planes) NamesInUse t (add_plane L p.divider t) _ (plane_stays L t k p.divider s) (λ n t₁ e₁ k₁ hn.
      any_stays L (record { params = p; number = n }) (rank t₁ root) root t₁ k₁ hn (le_trans u (count_more e₁)) refl)

  pub distance_stays : (d : Float) → (NotInfinite d → sound_plane t.dimension p.divider ≡ true) → Stays L NamesInUse t (cut_at_distance L p d root t)
  distance_stays (inf false) s = stays_here L NamesInUse t _ k (u, tt, tt)
  distance_stays (inf true) s = stays_here L NamesInUse t _ k (tt, u, tt)
  distance_stays nan s = finite_stays (s tt)
  distance_stays (fin b m e) s = finite_stays (s tt)

  -- the table after an unrefused cut is sound
  pub cut_stays : (NotInfinite p.divider.distance → sound_plane t.dimension p.divider ≡ true) → Stays L NamesInUse t (cut L p root t)
  unfolding cut
  cut_stays s = distance_stays p.divider.distance s
