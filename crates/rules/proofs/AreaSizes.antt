-- How large the numbers of an area sheet are. A coordinate of a sound table lies from -65,536 to 65,536, so it has at most 2^26 units either way; the rest is counting.
use Prim.Native.Nat.{ℕ, zero, suc, ◌+◌, ◌-◌, ◌*◌, ◌/◌, ◌^◌, ◌≤◌, zero-le, suc-le-suc}
use mathlib.Core.Bool.{Bool, true, false, not, cond}
use mathlib.Core.List.{List, [], ◌∷◌, map}
use mathlib.Core.Path.{◌≡◌, refl, sym, ap, ◌∙◌}
use native.Mathlib.Nat.{le_refl, le_trans, le_of_eq, add_comm, add-le-add, suc-mul, mul-one, mul-le-mul, mul-le-mul_right, div-le_of_le-mul}
use native.Mathlib.Omega.{arith}
use lib.Dec.{ltb, leb, eqb, ltb→lt}
use lib.IntN.{ℤ, pos, negsuc, neg_ℤ, nat_abs, sub_ℕ, ◌+ℤ◌, ◌*ℤ◌}
use lib.ListN.{length, get_or}
use lib.Ieee.{Float, nan, inf, fin, up, down, neg, lt, eq, le}
use Rattle.rules.specs.Limits.{Limits}
use Rattle.rules.specs.Lists.{all}
use Rattle.rules.specs.Floats.{plus_zero, within, farthest}
use Rattle.rules.specs.Table.{Table, rank, boundary, boundary_of, corner}
use Rattle.rules.specs.Sound.{sound, sound_point}
use Rattle.rules.specs.Walk.{walk, around, start_of, first_edge, other_end, other_edge, each_once}
use Rattle.rules.specs.Questions.{Asked, no_answer, pairs, edges_in_order}
use Rattle.rules.specs.Areas.{units_in_one, signed, units, coordinate, turn, step_turn, steps, sum_of, sizes, twice_area}
use Rattle.rules.proofs.Comparisons.{fact}
use Rattle.rules.proofs.Each.{all_get_d, all_map}
use Rattle.rules.proofs.Good.{sound_good}
use Rattle.rules.proofs.Laws.{truly, and_left, and_right, le_test, test_le, either}
use Rattle.rules.specs.declared.Refusal.TheVariants.{NotClosed, Rank}

-- ---- a coordinate

-- m * 2 ^ e is at most 65,536
pub in_bounds : (s : Bool) (m : ℕ) (e : ℤ) → within farthest (fin s m e) ≡ true → m * up e ≤ 65536 * down e
unfolding within le lt eq neg
in_bounds false m e h =
    let l : m * up e * 1 ≤ 1 * 65536 * down e = fact false false (m * up e * 1) (1 * 65536 * down e) (and_right (le (neg farthest) (fin false m e)) (le (fin false m e) farthest) h) in
    le_trans (le_of_eq (sym (mul-one (m * up e)))) l
in_bounds true m e h =
    let l : m * up e * 1 ≤ 1 * 65536 * down e = fact true true (1 * 65536 * down e) (m * up e * 1) (and_left (le (neg farthest) (fin true m e)) (le (fin true m e) farthest) h) in
    le_trans (le_of_eq (sym (mul-one (m * up e)))) l

pub size_signed : (s : Bool) (n : ℕ) → nat_abs (signed s n) ≡ n
size_signed false n = refl
size_signed true zero = refl
size_signed true (suc n) = refl

-- a / d, for an a of at most 65,536 d / 1,024
few_units : (a d : ℕ) → a ≤ 65536 * d → a * units_in_one / d ≤ 2 ^ 26
few_units a d h =
    let l : a * 1024 ≤ d * 67108864 = omega (arith, h) in
    div-le_of_le-mul d l

pub units_few : (x : Float) → within farthest x ≡ true → nat_abs (units x) ≤ 2 ^ 26
unfolding units
units_few nan h = zero-le
units_few (inf s) h = zero-le
units_few (fin s m e) h = le_trans (le_of_eq (size_signed s (m * up e * units_in_one / down e))) (few_units (m * up e) (down e) (in_bounds s m e h))

-- ---- sums and products of whole numbers

one_more_lem : (n k : ℕ) → k + n * k ≡ suc n * k
one_more_lem n k = add_comm k (n * k) ∙ sym (suc-mul n k)

size_neg : (z : ℤ) → nat_abs (neg_ℤ z) ≡ nat_abs z
size_neg (pos zero) = refl
size_neg (pos (suc n)) = refl
size_neg (negsuc n) = refl

size_minus : (a b : ℕ) → nat_abs (sub_ℕ a b) ≤ a + b
size_minus a b = go (ltb a b) refl
  where
    go : (c : Bool) → ltb a b ≡ c → nat_abs (cond c (negsuc (b - suc a)) (pos (a - b))) ≤ a + b
    go true q = let l = ltb→lt a b (truly (ltb a b) q) in let z : suc (b - suc a) ≤ a + b = omega (arith, l) in z
    go false q = let z : a - b ≤ a + b = omega arith in z

pub size_sum : (a b : ℤ) → nat_abs (a +ℤ b) ≤ nat_abs a + nat_abs b
size_sum (pos a) (pos b) = le_refl (a + b)
size_sum (pos a) (negsuc b) = size_minus a (suc b)
size_sum (negsuc a) (pos b) = le_trans (size_minus b (suc a)) (let l : b + suc a ≤ suc a + b = omega arith in l)
size_sum (negsuc a) (negsuc b) = let l : suc (suc (a + b)) ≤ suc a + suc b = omega arith in l

pub size_product : (a b : ℤ) → nat_abs (a *ℤ b) ≡ nat_abs a * nat_abs b
size_product (pos a) (pos b) = refl
size_product (pos a) (negsuc b) = size_neg (pos (a * suc b))
size_product (negsuc a) (pos b) = size_neg (pos (suc a * b))
size_product (negsuc a) (negsuc b) = refl

-- ---- a step

pub product_few : (a b : ℤ) → nat_abs a ≤ 2 ^ 26 → nat_abs b ≤ 2 ^ 26 → nat_abs (a *ℤ b) ≤ 2 ^ 52
product_few a b h k = le_trans (le_of_eq (size_product a b)) (mul-le-mul h k)

pub turn_few : (a b c d : ℤ) → nat_abs a ≤ 2 ^ 26 → nat_abs b ≤ 2 ^ 26 → nat_abs c ≤ 2 ^ 26 → nat_abs d ≤ 2 ^ 26 → nat_abs (turn a b c d) ≤ 2 ^ 53
turn_few a b c d ha hb hc hd =
    let p = product_few a d ha hd in
    let q = product_few c b hc hb in
    let n = size_neg (c *ℤ b) in
    let s = size_sum (a *ℤ d) (neg_ℤ (c *ℤ b)) in
    omega (arith, p, q, n, s)

-- ---- a walk, and a sheet

module _ {A : Type 0} (f : A → ℤ) (k : ℕ) (few : (x : A) → nat_abs (f x) ≤ k) where
  pub sum_few : (xs : List A) → nat_abs (sum_of (map f xs)) ≤ length xs * k
  sum_few [] = zero-le
  sum_few (x ∷ xs) =
      le_trans (size_sum (f x) (sum_of (map f xs))) (le_trans (add-le-add (few x) (sum_few xs)) (le_of_eq (one_more_lem (length xs) k)))

  pub sizes_few : (xs : List A) → sizes (map f xs) ≤ length xs * k
  sizes_few [] = zero-le
  sizes_few (x ∷ xs) = le_trans (add-le-add (few x) (sizes_few xs)) (le_of_eq (one_more_lem (length xs) k))

module _ (L : Limits) (t : Table) (s : sound L t ≡ true) where
  in_range : (d : ℕ) (p : List Float) → sound_point d p ≡ true → all (within farthest) p ≡ true
  unfolding sound_point
  in_range d p h = and_right (eqb (length p) d) (all (within farthest) p) h

  zero_within : within farthest plus_zero ≡ true
  unfolding within le lt eq neg
  zero_within = refl

  pub coordinate_within : (v axis : ℕ) → within farthest (coordinate t v axis) ≡ true
  coordinate_within v axis =
      all_get_d (within farthest) (get_or t.points v []) axis plus_zero zero_within
      (all_get_d (all (within farthest)) t.points v [] refl (all_map (sound_point t.dimension) (all (within farthest)) (in_range t.dimension) t.points (sound_good L t s).points))

  pub step_few : (p : ℕ × ℕ) → nat_abs (step_turn t p) ≤ 2 ^ 53
  step_few p =
      turn_few (units (coordinate t p.0 0)) (units (coordinate t p.0 1)) (units (coordinate t p.1 0)) (units (coordinate t p.1 1))
      (units_few _ (coordinate_within p.0 0)) (units_few _ (coordinate_within p.0 1)) (units_few _ (coordinate_within p.1 0)) (units_few _ (coordinate_within p.1 1))

  -- as many steps as edges at most
  walk_short : (n : ℕ) (es : List ℕ) (start v e : ℕ) → length (walk n t es start v e) ≤ n
  unfolding walk
  walk_short zero es start v e = zero-le
  walk_short (suc n) es start v e = suc-le-suc (either (λ (ss : List (ℕ × ℕ)). length ss ≤ n) (eqb (other_end t v e) start) [] _ zero-le (walk_short n es start (other_end t v e) (other_edge t (other_end t v e) e es)))

  pairs_long : (v : ℕ) (ss : List (ℕ × ℕ)) → length (pairs t v ss) ≡ length ss
  pairs_long v [] = refl
  pairs_long v (x ∷ ss) = ap suc (pairs_long x.1 ss)

  steps_few : (f : ℕ) → length (steps (edges_in_order t f)) ≤ length (boundary t f)
  unfolding edges_in_order
  steps_few f =
      either (λ (a : Asked (List (ℕ × ℕ))). length (steps a) ≤ length (boundary t f)) (not (eqb (rank t f) 2)) (no_answer Rank) _ zero-le
      (either (λ (a : Asked (List (ℕ × ℕ))). length (steps a) ≤ length (boundary t f)) (each_once (boundary t f) (around t (boundary t f))) _ (no_answer NotClosed)
      (le_trans (le_of_eq (pairs_long (start_of t (boundary t f)) (around t (boundary t f))))
      (walk_short (length (boundary t f)) (boundary t f) (start_of t (boundary t f)) (start_of t (boundary t f)) (first_edge t (start_of t (boundary t f)) (boundary t f))))
      zero-le)

  boundary_few : (f : ℕ) → length (boundary t f) ≤ L.boundary
  boundary_few f =
      le_test (length (boundary t f)) L.boundary
      (all_get_d (λ e. leb (length (boundary_of e)) L.boundary) t.elements f (corner 0) (test_le 0 L.boundary zero-le) (sound_good L t s).boundary_room)

  pub area_few : L.boundary ≤ 32 → (f : ℕ) → nat_abs (twice_area t f) ≤ 2 ^ 58
  unfolding twice_area
  area_few b f =
      le_trans (sum_few (step_turn t) (2 ^ 53) step_few (steps (edges_in_order t f)))
      (mul-le-mul_right (2 ^ 53) (le_trans (steps_few f) (le_trans (boundary_few f) b)))
