-- The triangles of a walk, put one behind another: what a triangle asks and how long it is, and what is left of a fan from edge k on.
use Prim.Native.Nat.{ℕ, zero, suc, ◌+◌, ◌*◌, ◌-◌, ◌≤◌, ◌<◌}
use mathlib.Core.Path.{◌≡◌, refl, ap, ap₂, ◌∙◌}
use mathlib.Core.Bool.{true, not}
use mathlib.Core.List.{List, [], ◌∷◌, ◌++◌, map}
use native.Mathlib.Omega.{arith}
use lib.Dec.{ltb}
use lib.ListN.{length, get_or, take, replicate, length-append}
use lib.Seq.{length-slice}
use lib.Ieee.{Float, is_nan, binary32, to_bits}
use Rattle.rules.specs.Limits.{desk}
use Rattle.rules.specs.Lists.{all, joined, up_from}
use Rattle.rules.specs.Bytes.{bytes_of}
use Rattle.rules.specs.Print.{narrowed, narrowed_bytes, Triangle, corner_bytes, triangle_bytes}
use Rattle.rules.proofs.ByteLaws.{bytes_long}
use Rattle.rules.proofs.Counting.{all_up}
use Rattle.rules.proofs.Each.{all_take, all_drop}
use Rattle.rules.proofs.Laws.{and_true, test_le}
use Rattle.rules.proofs.Printed.{all_below, triangle_long, all_long}
use Rattle.lent_bytes.specs.Lent.{Put, Part}
use Rattle.lent_bytes.proofs.Puts.{then, put_as, put_length}
use Rattle.lent_bytes.proofs.Rests.{Rest, less_left, none_left, left_as, joined_long}
use Rattle.print.specs.Pieces.{point_in, triangle_at, fan_in, PointsReady, WalkLow}

-- ---- zeros

pub zeros_are : (k : ℕ) → bytes_of k 0 ≡ replicate k 0
zeros_are zero = refl
zeros_are (suc k) = ap (λ (l : List ℕ). 0 ∷ l) (zeros_are k)

-- ---- a corner

module _ (ps : List Float) (P : PointsReady ps) (v : ℕ) (l : v < desk.vertices) where
  room_of_lem : v * 4 + 3 ≤ length ps
  room_of_lem = let a = P.long in omega (arith, a, l)

  pub corner_part : Part ps (v * 4) (v * 4 + 3)
  corner_part = record { rising = (let z : v * 4 ≤ v * 4 + 3 = omega arith in z); within = room_of_lem }

  pub corner_numbers : all (λ x. not (is_nan x)) (point_in ps v) ≡ true
  corner_numbers = all_drop (λ x. not (is_nan x)) (v * 4) (take (v * 4 + 3) ps) (all_take (λ x. not (is_nan x)) (v * 4 + 3) ps P.numbers)

  pub point_three : length (point_in ps v) ≡ 3
  point_three = length-slice (v * 4) (v * 4 + 3) ps room_of_lem ∙ (let z : v * 4 + 3 - v * 4 ≡ 3 = omega arith in z)

  pub corner_twelve : length (corner_bytes (point_in ps v)) ≡ 12
  corner_twelve = joined_long narrowed_bytes 4 (λ x. bytes_long 4 (to_bits binary32 (narrowed x))) (point_in ps v) ∙ ap (λ (k : ℕ). k * 4) point_three

-- ---- a triangle, by its five parts

-- what room is left behind what was put
pub room_left : {before after : List ℕ} {at end : ℕ} {xs : List ℕ} (k m : ℕ) → length xs ≡ k → Put before at xs end after → at + (k + m) ≤ length before → end + m ≤ length after
room_left k m e p h =
    let a = p.place in
    let b = put_length p in
    omega (arith, a, b, e, h)

pub triangle_put : {r₀ r₁ r₂ r₃ r₄ r₅ : List ℕ} {at e₁ e₂ e₃ e₄ e₅ : ℕ} (ps : List Float) (a b c : ℕ)
    → Put r₀ at (bytes_of 12 0) e₁ r₁ → Put r₁ e₁ (corner_bytes (point_in ps a)) e₂ r₂ → Put r₂ e₂ (corner_bytes (point_in ps b)) e₃ r₃
    → Put r₃ e₃ (corner_bytes (point_in ps c)) e₄ r₄ → Put r₄ e₄ (bytes_of 2 0) e₅ r₅ → Put r₀ at (triangle_bytes (point_in ps) (a, b, c)) e₅ r₅
unfolding triangle_bytes
triangle_put ps a b c p q r s t = then (put_as (zeros_are 12) p) (then q (then r (then s (put_as (zeros_are 2) t))))

-- ---- a fan

-- what is left from edge k on
abbrev pub left_from : List Float → List ℕ → ℕ → ℕ → List ℕ
left_from ps ns n k = joined (map (triangle_bytes (point_in ps)) (map (triangle_at ns) (up_from k (n - 1 - k))))

module _ (ps : List Float) (ns : List ℕ) (n : ℕ) (P : PointsReady ps) (W : WalkLow ns n) where
  abbrev bytes : Triangle → List ℕ
  bytes c = triangle_bytes (point_in ps) c

  below : (k : ℕ) → k < n → all_below 256 (triangle_at ns k) ≡ true
  below k l =
      let m = W.three in
      and_true (ltb (get_or ns 0 0) 256) _ (test_le (suc (get_or ns 0 0)) 256 (W.low 0 (let z : 0 < 2 * n = omega (arith, m) in z)))
      (and_true (ltb (get_or ns (2 * k) 0) 256) _ (test_le (suc (get_or ns (2 * k) 0)) 256 (W.low (2 * k) (let z : 2 * k < 2 * n = omega (arith, l) in z)))
      (test_le (suc (get_or ns (2 * k + 1) 0)) 256 (W.low (2 * k + 1) (let z : 2 * k + 1 < 2 * n = omega (arith, l) in z))))

  pub bytes_fifty : (k : ℕ) → k < n → length (bytes (triangle_at ns k)) ≡ 50
  bytes_fifty k l = triangle_long (point_in ps) 256 (λ v b. point_three ps P v b) (triangle_at ns k) (below k l)

  abbrev left : ℕ → List ℕ
  left k = left_from ps ns n k

  pub left_start : joined (map bytes (fan_in ns n)) ≡ left 1
  unfolding fan_in
  left_start = ap (λ (m : ℕ). joined (map bytes (map (triangle_at ns) (up_from 1 m)))) (let z : n - 2 ≡ n - 1 - 1 = omega arith in z)

  pub left_on : (k : ℕ) → k < n - 1 → left k ≡ bytes (triangle_at ns k) ++ left (k + 1)
  left_on k l =
      ap (λ (m : ℕ). joined (map bytes (map (triangle_at ns) (up_from k m)))) (let z : n - 1 - k ≡ suc (n - 1 - (k + 1)) = omega (arith, l) in z)
      ∙ ap (λ (j : ℕ). bytes (triangle_at ns k) ++ joined (map bytes (map (triangle_at ns) (up_from j (n - 1 - (k + 1)))))) (let z : suc k ≡ k + 1 = omega arith in z)

  pub left_end : (k : ℕ) → n - 1 ≤ k → left k ≡ []
  left_end k l = ap (λ (m : ℕ). joined (map bytes (map (triangle_at ns) (up_from k m)))) (let z : n - 1 - k ≡ 0 = omega (arith, l) in z)

  pub fan_fifty : length (joined (map bytes (fan_in ns n))) ≡ 50 * (n - 2)
  unfolding fan_in
  fan_fifty =
      all_long (point_in ps) 256 (λ v b. point_three ps P v b) (map (triangle_at ns) (up_from 1 (n - 2)))
      (all_up (triangle_at ns) (all_below 256) 1 (n - 2) (λ i l. below i (let m = W.three in let z : i < n = omega (arith, l, m) in z)))
      ∙ ap (λ (k : ℕ). 50 * k) (long 1 (n - 2))
    where
      long : (k m : ℕ) → length (map (triangle_at ns) (up_from k m)) ≡ m
      long k zero = refl
      long k (suc m) = ap suc (long (suc k) m)

  module _ {before room : List ℕ} {at end : ℕ} (k : ℕ) (l : Rest before at (joined (map bytes (fan_in ns n))) room end (left k)) where
    pub next_fits : k < n - 1 → at + 50 * (n - 2) ≤ length before → length room ≡ length before → end + 50 ≤ length room
    next_fits h f g =
        let p = (left_as (left_on k h) l).place in
        let a = length-append (bytes (triangle_at ns k)) (left (k + 1)) in
        let b = bytes_fifty k (let z : k < n = omega (arith, h) in z) in
        let c = fan_fifty in
        omega (arith, p, a, b, c, f, g)

    pub next_triangle : {next : List ℕ} {on : ℕ} → k < n - 1 → Put room end (bytes (triangle_at ns k)) on next → Rest before at (joined (map bytes (fan_in ns n))) next on (left (k + 1))
    next_triangle h p = less_left (left_as (left_on k h) l) p

    pub no_triangle : n - 1 ≤ k → Put before at (joined (map bytes (fan_in ns n))) end room
    no_triangle h = none_left (left_as (left_end k h) l)

-- the numbers of a walk alone are read
pub fan_same : (ns ms : List ℕ) (n : ℕ) → 3 ≤ n → ((k : ℕ) → k < 2 * n → get_or ns k 0 ≡ get_or ms k 0) → fan_in ns n ≡ fan_in ms n
unfolding fan_in
fan_same ns ms n t h = go 1 (n - 2) (let z : 1 + (n - 2) ≤ n = omega arith in z)
  where
    at_same : (k : ℕ) → k < n → triangle_at ns k ≡ triangle_at ms k
    at_same k l i = (h 0 (let z : 0 < 2 * n = omega (arith, t) in z) i, h (2 * k) (let z : 2 * k < 2 * n = omega (arith, l) in z) i, h (2 * k + 1) (let z : 2 * k + 1 < 2 * n = omega (arith, l) in z) i)

    go : (k m : ℕ) → k + m ≤ n → map (triangle_at ns) (up_from k m) ≡ map (triangle_at ms) (up_from k m)
    go k zero l = refl
    go k (suc m) l = ap₂ (λ (c : Triangle) (cs : List Triangle). c ∷ cs) (at_same k (let z : k < n = omega (arith, l) in z)) (go (suc k) m (let z : suc k + m ≤ n = omega (arith, l) in z))
