-- Where no two corners of an element lie on opposite sides, no edge is crossed, so the cut adds no vertex, whatever table it is made on that goes on from this one.
-- By induction over the rank; old corners lie where they lay.
use Prim.Native.Nat.{ℕ, zero, suc}
use mathlib.Core.Bool.{Bool, true, false, not}
use mathlib.Core.List.{List, [], ◌∷◌}
use mathlib.Core.Path.{◌≡◌, refl, sym, ap, subst, ◌∙◌}
use native.Mathlib.Nat.{suc-ne-zero, le_trans}
use lib.Dec.{leb, ltb}
use lib.Ieee.{Float}
use lib.ListN.{length}
use Rattle.rules.specs.Limits.{Limits}
use Rattle.rules.specs.Lists.{find}
use Rattle.rules.specs.Floats.{side_of, opposite}
use Rattle.rules.specs.Table.{Table, Element, corner, polytope, rank_of, boundary_of, plane_of, is_primordial, same_element, element, element_count, point_at}
use Rattle.rules.specs.Sound.{closed}
use Rattle.rules.specs.Cut.{Outcome, refused, done, Step, next, given, Cutting, Gathered, nothing_yet, gathering, distance_of}
use Rattle.rules.specs.Cut.{add_element, share_element, add_polytope, including, side_of_cut, rule7, rule6, new_intersection, plane_of_intersection, cut_boundary}
use Rattle.rules.specs.Cut.{cut_higher, cut_corner, cut_element}
use Rattle.rules.specs.Questions.{reaches}
use Rattle.rules.specs.Held.{Extends, AllOf}
use Rattle.rules.specs.declared.Side.{Side}
use Rattle.rules.proofs.Built.{After, built_extends, cut_element_lem}
use Rattle.rules.proofs.Corners.{good_fine}
use Rattle.rules.proofs.Extends.{element_same, extends_trans, rank_same, count_more}
use Rattle.rules.proofs.Fine.{point_at_same}
use Rattle.rules.proofs.Good.{Good, whole_at}
use Rattle.rules.proofs.Laws.{either, eq_test, eqb_self}
use Rattle.rules.proofs.Missed.{Clear, all_of_map, clear_boundary, asks}
use Rattle.rules.specs.declared.ElementId.{ElementId}
use Rattle.std.specs.Prelude.{Option, Some, None}

-- the points are these, unless the step is refused
abbrev pub Points : {A : Type 0} → List (List Float) → Outcome A → Type 0
Points ps (refused n) = Unit {0}
Points ps (done a t) = t.points ≡ ps

module _ (ps : List (List Float)) where
  points_next : {A B : Type 0} (o : Outcome A) (f : A → Step B) → Points ps o → ((a : A) (s : Table) → s.points ≡ ps → Points ps (f a s)) → Points ps (next o f)
  points_next (refused n) f h k = tt
  points_next (done a s) f h k = k a s h

  -- the same, where the table after it goes on from the one before
  pub points_after : {A B : Type 0} (t : Table) (o : Outcome A) (f : A → Step B) → After t o → Points ps o
      → ((a : A) (s : Table) → Extends t s → s.points ≡ ps → Points ps (f a s)) → Points ps (next o f)
  points_after t (refused n) f b h k = tt
  points_after t (done a s) f b h k = k a s (built_extends b) h

  module _ (L : Limits) where
    element_points : (y : Element) (t : Table) → t.points ≡ ps → Points ps (add_element L y t)
    unfolding add_element
    element_points y t h = go (find (same_element y) t.elements)
      where
        go : (o : Option ℕ) → Points ps (share_element L y o t)
        go (Some i) = h
        go None = either (Points ps) (ltb (element_count t) L.elements) _ _ h tt

    polytope_points : (r : ℕ) (b : List ℕ) (j : Option ℕ) (m : Bool) (t : Table) → t.points ≡ ps → Points ps (add_polytope L r b j m t)
    unfolding add_polytope
    polytope_points r b j m t h =
        either (Points ps) (leb (length b) r) _ _ h
        (either (Points ps) (ltb L.boundary (length b)) _ _ tt
        (either (Points ps) (not (closed t r b)) _ _ tt
        (points_next (add_element L (polytope r b j m) t) _ (element_points (polytope r b j m) t h) (λ i s q. q))))

    side_points : (k : Bool) (y : Element) (x : Option ElementId) (b : List ℕ) (t : Table) → t.points ≡ ps → Points ps (side_of_cut L k y x b t)
    side_points false y x b t h = h
    side_points true y x b t h = polytope_points (rank_of y) (including x b) (plane_of y) (is_primordial y) t h

    module _ (c : Cutting) (y : Element) (g : Gathered) where
      rule7_points : (x : Option ElementId) (t : Table) → t.points ≡ ps → Points ps (rule7 L c y g x t)
      unfolding rule7
      rule7_points x t h =
          points_next (side_of_cut L c.params.keep_inside y x g.inside t) _ (side_points c.params.keep_inside y x g.inside t h) (λ i s q.
          points_next (side_of_cut L c.params.keep_outside y x g.outside s) _ (side_points c.params.keep_outside y x g.outside s q) (λ o u z. z))

      rule6_points : (fs : List ℕ) (t : Table) → t.points ≡ ps → Points ps (rule6 L c y g fs t)
      unfolding rule6
      rule6_points [] t h =
          points_next (new_intersection L c (rank_of y) g.intersections t) _ (polytope_points _ g.intersections (plane_of_intersection t c (rank_of y)) false t h)
          (λ x s q. rule7_points x s q)
      rule6_points (f ∷ []) t h = rule7_points (given f) t h
      rule6_points (f ∷ f' ∷ fs) t h = h

-- t is sound; s goes on from it, with the same points
module _ (L : Limits) (t : Table) (good : Good L t) (c : Cutting) (P : Side → Type 0) (apart : (a b : Side) → P a → P b → opposite a b ≡ false) where
  abbrev Off : ℕ → ℕ → Type 0
  Off r e = Clear t c.params.divider P r e

  abbrev KeepsPoints : ℕ → ℕ → Type 0
  KeepsPoints r e = (s : Table) → Extends t s → s.points ≡ t.points → Points t.points (cut_element L c r e s)

  -- an old corner lies where it lay
  corner_later : (s : Table) → Extends t s → (x : ℕ) → Off 0 x → Clear s c.params.divider P 0 x
  unfolding reaches
  corner_later s x e k = record {
    used = le_trans k.used (count_more x);
    ranked = rank_same t s e x k.used ∙ k.ranked;
    on = λ y a z.
        subst (λ (v : ℕ). P (side_of (distance_of c (point_at s v)))) (eq_test e y a)
        (subst (λ (p : List Float). P (side_of (distance_of c p))) (sym (point_at_same t s e (good_fine L t good) x k.used)) (k.on e (eqb_self e) k.ranked));
  }

  boundary_points : (r : ℕ) → ((x : ℕ) → Off r x → KeepsPoints r x) → (bs : List ℕ) (g : Gathered) → AllOf (Off r) bs → (s : Table) → Extends t s → s.points ≡ t.points
      → Points t.points (cut_boundary (cut_element L c r) bs g s)
  boundary_points r below [] g h s x q = q
  boundary_points r below (b ∷ bs) g h s x q =
      points_after t.points s (cut_element L c r b s) _ (cut_element_lem L c r b s) (below b h.0 s x q)
      (λ a u y z. boundary_points r below bs (gathering b a g) h.1 u (extends_trans x y) z)

  higher_points : (r : ℕ) → ((x : ℕ) → Off r x → KeepsPoints r x) → (y : Element) → AllOf (Off r) (boundary_of y) → (s : Table) → Extends t s → s.points ≡ t.points
      → Points t.points (cut_higher L c (cut_element L c r) y s)
  unfolding cut_higher
  higher_points r below y h s x q =
      points_next t.points (cut_boundary (cut_element L c r) (boundary_of y) nothing_yet s) _ (boundary_points r below (boundary_of y) nothing_yet h s x q)
      (λ g u z. rule6_points t.points L c y g g.flush u z)

  -- of rank 1 an edge that is not crossed asks its ends, of higher rank an element asks its boundary
  asks_later : (r e : ℕ) (b : List ℕ) (j : Option ℕ) (m : Bool) (s : Table) → Extends t s → element s e ≡ polytope (suc r) b j m → closed t (suc r) b ≡ true → AllOf (Off r) b
      → cut_element L c (suc r) e s ≡ cut_higher L c (cut_element L c r) (polytope (suc r) b j m) s
  unfolding cut_element
  asks_later zero e b j m s x q z k = asks L s c P apart 0 e b j m q z (all_of_map (Off 0) (Clear s c.params.divider P 0) (corner_later s x) b k)
  asks_later (suc r) e b j m s x q z k = ap (λ (y : Element). cut_higher L c (cut_element L c (suc r)) y s) q

  up_points : (r e : ℕ) → ((x : ℕ) → Off r x → KeepsPoints r x) → Off (suc r) e → KeepsPoints (suc r) e
  up_points r e below k s x q = go (element t e) refl k.ranked
    where
      go : (y : Element) → element t e ≡ y → rank_of y ≡ suc r → Points t.points (cut_element L c (suc r) e s)
      go (corner v) z n = absurd (suc-ne-zero r (sym n))
      go (polytope d b j m) z n =
          let own : element t e ≡ polytope (suc r) b j m = z ∙ ap (λ (i : ℕ). polytope i b j m) n in
          let off = clear_boundary L t good c.params.divider P r e b j m own k in
          subst (Points t.points) (sym (asks_later r e b j m s x (element_same t s e x k.used ∙ own) (whole_at L t e (suc r) b j m good k.used own).bound.tight off))
          (higher_points r below (polytope (suc r) b j m) off s x q)

  pub points_kept : (r e : ℕ) → Off r e → KeepsPoints r e
  unfolding cut_element cut_corner
  points_kept zero e k s x q = q
  points_kept (suc r) e k s x q = up_points r e (points_kept r) k s x q
