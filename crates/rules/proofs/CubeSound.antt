-- The cube of every dimension that the room allows, of every radius in range, is sound.
-- What is left here is the floats: the coordinates are the radius and its negative, and a facet's normal has one component that is not +0.
use Rattle.std.specs.Prelude.{if◌then◌else◌}
use Prim.Native.Nat.{ℕ, zero, suc, ◌*◌, ◌^◌, ◌≤◌, zero-le}
use mathlib.Core.Bool.{Bool, true, false, not, false≢true}
use mathlib.Core.List.{List, [], ◌∷◌, map}
use mathlib.Core.Path.{◌≡◌, refl, sym, ap, ◌∙◌, subst}
use native.Mathlib.Nat.{pow-le-pow_right, le_of_eq, le_refl}
use native.Mathlib.Omega.{arith}
use lib.Dec.{leb, eqb}
use lib.Ieee.{Float, nan, inf, fin, binary64, neg, add, sub, mul, le, lt, eq, up, down}
use lib.IntN.{pos}
use lib.ListN.{length, length-map}
use Rattle.rules.specs.Limits.{Limits, HasCubes}
use Rattle.rules.specs.Lists.{all, up_to}
use Rattle.rules.specs.Floats.{plus_zero, one, tolerance, farthest, farthest_plane, within, dot_from, dot, unit}
use Rattle.rules.specs.Table.{element_count, primordials}
use Rattle.rules.specs.Sound.{sound_point, sound_plane, sound}
use Rattle.rules.specs.Cube.{digits, twos, is_facet, cube_element, cube_point, facet_normal, facet_plane, cube, radius_fits}
use Rattle.rules.proofs.Comparisons.{fact, test, fin_chain}
use Rattle.rules.proofs.Counting.{length_up, all_kept}
use Rattle.rules.proofs.CubeCounts.{vertex_tally, facet_tally}
use Rattle.rules.proofs.CubeDigits.{digits_length, digit_low, twos_length}
use Rattle.rules.proofs.CubeElements.{vertex_at, facet_at, boundaries_fit, corners_ordered, elements_apart, elements_sound_lem, points_count, planes_count}
use Rattle.rules.proofs.Extends.{Below}
use Rattle.rules.proofs.Good.{good_sound}
use Rattle.rules.proofs.Laws.{and_true, and_left, and_right, either, le_test, test_le, eq_test, test_eq}

-- ---- the radius

-- what the cube's coordinates and distances need of the radius
pub record InRange (r : Float) : Type 0 where
  pub plus : within farthest r ≡ true
  pub minus : within farthest (neg r) ≡ true
  pub wide : within farthest_plane r ≡ true

pub in_range : (r : Float) → radius_fits r ≡ true → InRange r
unfolding radius_fits le lt eq neg within
in_range nan h = absurd (false≢true h)
in_range (inf true) h = absurd (false≢true h)
in_range (inf false) h = absurd (false≢true (and_right true false h))
in_range (fin s m e) h =
    let f₁ = and_left (le one (fin s m e)) (le (fin s m e) farthest) h in
    let f₂ = and_right (le one (fin s m e)) (le (fin s m e) farthest) h in
    let low : le (neg farthest) (fin s m e) ≡ true = fin_chain true false s 1 1 m (pos 16) (pos 0) e refl f₁ in
    record {
      plus = and_true (le (neg farthest) (fin s m e)) (le (fin s m e) farthest) low f₂;
      minus = turn s f₂ low;
      wide = and_true (le (neg farthest_plane) (fin s m e)) (le (fin s m e) farthest_plane)
          (fin_chain true true s 1 1 m (pos 18) (pos 16) e refl low) (fin_chain s false false m 1 1 e (pos 16) (pos 18) f₂ refl);
    }
  where
    -- the negative of what lies from -farthest to farthest does too
    turn : (t : Bool) → le (fin t m e) farthest ≡ true → le (neg farthest) (fin t m e) ≡ true → within farthest (neg (fin t m e)) ≡ true
    turn true h₁ h₂ =
        and_true (le (neg farthest) (fin false m e)) (le (fin false m e) farthest)
        (test true false (1 * up (pos 16) * down e) (m * up e * down (pos 16)) tt)
        (test false false (m * up e * down (pos 16)) (1 * up (pos 16) * down e) (fact true true (1 * up (pos 16) * down e) (m * up e * down (pos 16)) h₂))
    turn false h₁ h₂ =
        and_true (le (neg farthest) (fin true m e)) (le (fin true m e) farthest)
        (test true true (1 * up (pos 16) * down e) (m * up e * down (pos 16)) (fact false false (m * up e * down (pos 16)) (1 * up (pos 16) * down e) h₁))
        (test true false (m * up e * down (pos 16)) (1 * up (pos 16) * down e) tt)

-- ---- normals

-- the normal's component along an axis, by that axis's digit
abbrev component : ℕ → Float
component k = if eqb k 2 then plus_zero else if eqb k 0 then neg one else one

components : (ks : List ℕ) → all (within one) (map component ks) ≡ true
unfolding within le lt eq neg
components [] = refl
components (k ∷ ks) =
    and_true (within one (component k)) (all (within one) (map component ks))
    (either (λ (x : Float). within one x ≡ true) (eqb k 2) plus_zero (if eqb k 0 then neg one else one) refl
    (either (λ (x : Float). within one x ≡ true) (eqb k 0) (neg one) one refl refl)) (components ks)

-- +0 added leaves 1 as it is
after_one : (ks : List ℕ) → Below 3 ks → twos ks ≡ length ks → dot_from one (map component ks) (map component ks) ≡ one
unfolding dot_from add mul
after_one [] l e = refl
after_one (zero ∷ ks) l e = absurd (let t = twos_length ks in omega arith)
after_one (suc zero ∷ ks) l e = absurd (let t = twos_length ks in omega arith)
after_one (suc (suc zero) ∷ ks) l e = after_one ks l.1 (omega arith)
after_one (suc (suc (suc k)) ∷ ks) l e = absurd (let h = l.0 in omega arith)

-- the sum of squares of a facet's normal
square_one : (ks : List ℕ) → Below 3 ks → suc (twos ks) ≡ length ks → dot_from plus_zero (map component ks) (map component ks) ≡ one
unfolding dot_from add mul neg
square_one [] l e = absurd (omega arith)
square_one (zero ∷ ks) l e = after_one ks l.1 (omega arith)
square_one (suc zero ∷ ks) l e = after_one ks l.1 (omega arith)
square_one (suc (suc zero) ∷ ks) l e = square_one ks l.1 (omega arith)
square_one (suc (suc (suc k)) ∷ ks) l e = absurd (let h = l.0 in omega arith)

facet_unit : (ks : List ℕ) → Below 3 ks → is_facet ks ≡ true → unit (facet_normal ks) ≡ true
unfolding unit facet_normal dot le lt eq sub add neg
facet_unit ks l f =
    let e = square_one ks l (eq_test (suc (twos ks)) (length ks) (and_right (not (eqb (twos ks) 0)) (eqb (suc (twos ks)) (length ks)) f)) in
    and_true _ _ (and_true _ _ (components ks) (subst (λ (x : Float). le (sub binary64 one tolerance) x ≡ true) (sym e) refl))
    (subst (λ (x : Float). le x (add binary64 one tolerance) ≡ true) (sym e) refl)

-- ---- points and planes

module _ (d : ℕ) (r : Float) (i : InRange r) where
  coordinates : (ks : List ℕ) → all (within farthest) (cube_point r ks) ≡ true
  unfolding cube_point
  coordinates [] = refl
  coordinates (k ∷ ks) =
      and_true (within farthest (if eqb k 0 then neg r else r)) _
      (either (λ (x : Float). within farthest x ≡ true) (eqb k 0) (neg r) r i.minus i.plus) (coordinates ks)

  points_sound_lem : all (sound_point d) (cube d r).points ≡ true
  unfolding cube sound_point cube_point
  points_sound_lem = all_kept (λ n. cube_point r (digits d n)) (sound_point d) (vertex_at d) (up_to (3 ^ d)) (λ n v.
      and_true _ _ (test_eq (length (cube_point r (digits d n))) d (length-map (digits d n) _ ∙ digits_length d n)) (coordinates (digits d n)))

  planes_sound_lem : all (sound_plane d) (cube d r).planes ≡ true
  unfolding cube sound_plane facet_plane facet_normal
  planes_sound_lem = all_kept (λ n. facet_plane r (digits d n)) (sound_plane d) (facet_at d) (up_to (3 ^ d)) (λ n f.
      and_true _ _
      (and_true _ _ (test_eq (length (facet_normal (digits d n))) d (length-map (digits d n) _ ∙ digits_length d n)) (facet_unit (digits d n) (digit_low d n) f))
      i.wide)

-- ---- the cube

primordials_few : (d : ℕ) → primordials d ≤ 2 * d
primordials_few zero = le_refl 0
primordials_few (suc zero) = zero-le
primordials_few (suc (suc d)) = le_refl (2 * suc (suc d))

-- every cube that is not refused is sound
pub cube_sound : (L : Limits) → HasCubes L → (d : ℕ) (r : Float) → leb 1 d ≡ true → leb d L.dimensions ≡ true → radius_fits r ≡ true
    → sound L (cube d r) ≡ true
unfolding cube
cube_sound L c d r low high f =
    let i = in_range r f in
    let l = le_test d L.dimensions high in
    let vertices : length (cube d r).points ≡ 2 ^ d = points_count d r ∙ vertex_tally d in
    let planes : length (cube d r).planes ≡ primordials d = planes_count d r ∙ facet_tally d in
    let elements : element_count (cube d r) ≡ 3 ^ d = length-map (up_to (3 ^ d)) (cube_element d) ∙ length_up 0 (3 ^ d) in
    let more_vertices : 2 ^ d ≤ 2 ^ L.dimensions = pow-le-pow_right (omega arith) l in
    let more_elements : 3 ^ d ≤ 3 ^ L.dimensions = pow-le-pow_right (omega arith) l in
    let few = primordials_few d in
    good_sound L (cube d r) (record {
      low = low;
      high = high;
      vertex_room = test_le (length (cube d r).points) L.vertices (omega arith);
      element_room = test_le (element_count (cube d r)) L.elements (omega arith);
      plane_room = test_le (length (cube d r).planes) L.hyperplanes (omega arith);
      boundary_room = boundaries_fit d L.boundary (omega arith);
      points = points_sound_lem d r i;
      planes = planes_sound_lem d r i;
      primordial = test_le (primordials d) (length (cube d r).planes) (le_of_eq (sym planes));
      corners = corners_ordered d (3 ^ d) ∙ ap up_to (sym (points_count d r));
      elements = elements_sound_lem d r;
      apart = elements_apart d;
    })
