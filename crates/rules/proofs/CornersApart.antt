-- The two coordinates of a cube never match: -r and r lie 2r apart, at least 2, which rounds to no less than 1, and 1 is above the tolerance.
-- So two corners of a cube match only where their digits are the same.
use Rattle.std.specs.Prelude.{if◌then◌else◌}
use Prim.Native.Nat.{ℕ, zero, suc, ◌*◌, ◌^◌, ◌+◌, ◌≤◌, ◌<◌}
use mathlib.Core.Bool.{true, false, Bool, cond, false≢true}
use mathlib.Core.List.{List, [], ◌∷◌}
use mathlib.Core.Path.{◌≡◌, refl, ◌∙◌, ap, sym, subst, ap₂}
use native.Mathlib.Nat.{mul-le-mul_right, zero-lt-suc, mul-pos}
use native.Mathlib.Omega.{arith}
use lib.Dec.{ltb, eqb}
use lib.Ieee.{round, odd, neg, units, Format, lt, low, emax, prec, inf, le, fin, eq, down, up, Float, nan, binary64, sub, add, sum}
use lib.Ieee.Fits.{round_is, down_pos}
use lib.Ieee.Order.{round_mono}
use lib.IntN.{ℤ, pos, negsuc}
use Rattle.rules.specs.Lists.{all}
use Rattle.rules.specs.Floats.{tolerance, one, within, matches, farthest, point_matches}
use Rattle.rules.specs.Cube.{radius_fits, cube_point}
use Rattle.rules.proofs.Comparisons.{fact, fin_chain, test}
use Rattle.rules.proofs.Laws.{refute, and_right, and_left, holds, le_test}

-- ---- rounding and the sign

odd_neg : (d q k l : ℕ) → odd d true q k l ≡ neg (odd d false q k l)
unfolding odd neg
odd_neg d zero k l = refl
odd_neg d (suc q) k l = refl

units_neg : (f : Format) (q k : ℕ) → units f true q k ≡ neg (units f false q k)
unfolding units
units_neg f q k = go (ltb (q * 2 ^ k) (2 ^ (low f + suc (emax f))))
  where
    go : (b : Bool) → cond b (odd (suc (prec f)) true q k (low f)) (inf true) ≡ neg (cond b (odd (suc (prec f)) false q k (low f)) (inf false))
    go true = odd_neg (suc (prec f)) q k (low f)
    go false = unfold neg in refl

round_neg : (f : Format) (a c : ℕ) → round f true a c ≡ neg (round f false a c)
round_neg f a c = round_is f true a c ∙ units_neg f _ _ ∙ ap neg (sym (round_is f false a c))

-- ---- 1 or more is out of the tolerance

-- 1 is not at most a negative float
not_negative : (m : ℕ) (e : ℤ) → le one (fin true m e) ≡ true → ⊥
unfolding le lt eq
not_negative m e h =
    let z = (fact false true (1 * 1 * down e) (m * up e * 1) h).0 in
    let p = down_pos e in
    omega arith

-- nothing is from 1 up and within the tolerance
beyond : (x : Float) → le one x ≡ true → le x tolerance ≡ true → ⊥
unfolding le lt eq
beyond nan h k = false≢true h
beyond (inf true) h k = false≢true h
beyond (inf false) h k = false≢true k
beyond (fin s m e) h k = false≢true (fin_chain false s false 1 m 1 (pos 0) e (negsuc 19) h k)

-- at least -T, seen from the other side of zero
mirrored : (x : Float) → le (neg tolerance) (neg x) ≡ true → le x tolerance ≡ true
unfolding le lt eq neg
mirrored nan h = h
mirrored (inf true) h = refl
mirrored (inf false) h = h
mirrored (fin true m e) h = test true false (m * up e * 2 ^ 20) (1 * 1 * down e) tt
mirrored (fin false m e) h = test false false (m * up e * 2 ^ 20) (1 * 1 * down e) (fact true true (1 * 1 * down e) (m * up e * 2 ^ 20) h)

-- so neither x nor -x is within it
far : (x : Float) → le one x ≡ true → (within tolerance x ≡ false) × (within tolerance (neg x) ≡ false)
unfolding within
far x h = (
  refute (within tolerance x) (λ k. beyond x h (and_right (le (neg tolerance) x) (le x tolerance) k)),
  refute (within tolerance (neg x)) (λ k. beyond x h (mirrored x (and_left (le (neg tolerance) (neg x)) (le (neg x) tolerance) k))),
)

-- ---- the two coordinates

one_rounded : round binary64 false 1 1 ≡ one
unfolding round
one_rounded = refl

-- 1 ≤ m * up e / down e
least : (m : ℕ) (e : ℤ) → le one (fin false m e) ≡ true → down e ≤ m * up e
unfolding le lt eq
least m e h = let l = fact false false (1 * 1 * down e) (m * up e * 1) h in omega arith

-- twice a value of 1 or more rounds to 1 or more
twice : (m : ℕ) (e : ℤ) → le one (fin false m e) ≡ true → le one (round binary64 false (m * up e * down e + m * up e * down e) (down e * down e)) ≡ true
twice m e h =
    let a = m * up e * down e in
    let l = mul-le-mul_right (down e) (least m e h) in
    let bound : 1 * (down e * down e) ≤ (a + a) * 1 = omega arith in
    subst (λ (x : Float). le x (round binary64 false (a + a) (down e * down e)) ≡ true) one_rounded
    (holds _ (round_mono binary64 1 1 (a + a) (down e * down e) (zero-lt-suc 0) (mul-pos (down_pos e) (down_pos e)) bound))

pub opposite_apart : (r : Float) → radius_fits r ≡ true → (matches (neg r) r ≡ false) × (matches r (neg r) ≡ false)
unfolding radius_fits le lt eq neg matches sub add sum
opposite_apart nan h = absurd (false≢true h)
opposite_apart (inf true) h = absurd (false≢true h)
opposite_apart (inf false) h = absurd (false≢true h)
opposite_apart (fin true m e) h = absurd (not_negative m e (and_left (le one (fin true m e)) (le (fin true m e) farthest) h))
opposite_apart (fin false m e) h =
    let a = m * up e * down e in
    let f = far (round binary64 false (a + a) (down e * down e)) (twice m e (and_left (le one (fin false m e)) (le (fin false m e) farthest) h)) in
    (ap (within tolerance) (round_neg binary64 (a + a) (down e * down e)) ∙ f.1, f.0)

-- ---- points of a cube

-- what `cubePoint` makes of a digit
abbrev coordinate : Float → ℕ → Float
coordinate r k = if eqb k 0 then neg r else r

module _ (r : Float) (fits : radius_fits r ≡ true) where
  digit_same : (k l : ℕ) → k < 2 → l < 2 → matches (coordinate r k) (coordinate r l) ≡ true → k ≡ l
  digit_same zero zero a b h = refl
  digit_same zero (suc zero) a b h = absurd (false≢true (sym (opposite_apart r fits).0 ∙ h))
  digit_same (suc zero) zero a b h = absurd (false≢true (sym (opposite_apart r fits).1 ∙ h))
  digit_same (suc zero) (suc zero) a b h = refl
  digit_same zero (suc (suc l)) a b h = omega arith
  digit_same (suc zero) (suc (suc l)) a b h = omega arith
  digit_same (suc (suc k)) l a b h = omega arith

  digits_same : (ks ls : List ℕ) → all (λ k. ltb k 2) ks ≡ true → all (λ k. ltb k 2) ls ≡ true
      → point_matches (cube_point r ks) (cube_point r ls) ≡ true → ks ≡ ls
  unfolding point_matches cube_point
  digits_same [] [] a b h = refl
  digits_same [] (l ∷ ls) a b h = absurd (false≢true h)
  digits_same (k ∷ ks) [] a b h = absurd (false≢true h)
  digits_same (k ∷ ks) (l ∷ ls) a b h =
      ap₂ (λ (x : ℕ) (xs : List ℕ). x ∷ xs)
      (digit_same k l (le_test (suc k) 2 (and_left _ _ a)) (le_test (suc l) 2 (and_left _ _ b)) (and_left _ _ h))
      (digits_same ks ls (and_right (ltb k 2) _ a) (and_right (ltb l 2) _ b) (and_right (matches (coordinate r k) (coordinate r l)) _ h))

  -- two corners with other digits, each 0 or 1, do not match
  pub points_apart : (ks ls : List ℕ) → all (λ k. ltb k 2) ks ≡ true → all (λ k. ltb k 2) ls ≡ true → (ks ≡ ls → ⊥)
      → point_matches (cube_point r ks) (cube_point r ls) ≡ false
  points_apart ks ls a b d = refute (point_matches (cube_point r ks) (cube_point r ls)) (λ h. d (digits_same ks ls a b h))
