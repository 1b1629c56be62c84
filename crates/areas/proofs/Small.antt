-- Signed numbers of 64 bits: one that is small enough is read back from its bits as it was.
use Rattle.std.proofs.Common.{◌≡◌, ℕ, zero, suc, ◌+◌, ◌*◌, ◌^◌, ◌<◌, ◌≤◌, true, false, ltb, ℤ, pos, negsuc, ◌+ℤ◌, ◌-ℤ◌, ◌*ℤ◌, neg_ℤ, nat_abs, sym, refl, ap, ◌∙◌, subst, ap₂, true≢false, le_trans}
use Rattle.std.proofs.Common.{le_of_eq, arith, lit≤, ltb→lt, to_z-of_z, w64, SFits, to_z, of_z}
use lib.IntN.{+ℤ_idl}
use lib.Signed.{lt_z}
use Rattle.rules.specs.Areas.{turn}
use Rattle.rules.proofs.AreaSizes.{size_sum, product_few, turn_few}
use Rattle.rules.proofs.Laws.{truly}

pub small : (z : ℤ) → nat_abs z ≤ 2 ^ 62 → SFits w64 z
small (pos n) h = record { sfits = let z : n < 2 ^ 63 = omega (arith, h) in z }
small (negsuc n) h = record { sfits = let z : n < 2 ^ 63 = omega (arith, h) in z }

abbrev pub again : ℤ → ℤ
again z = to_z w64 (of_z w64 z)

pub told : (r z : ℤ) → r ≡ z → nat_abs z ≤ 2 ^ 62 → again r ≡ z
told r z e h = ap again e ∙ to_z-of_z (small z h)

-- ---- a product of two coordinates, and a turn

module _ (a b x y : ℤ) (ea : a ≡ x) (eb : b ≡ y) (hx : nat_abs x ≤ 2 ^ 26) (hy : nat_abs y ≤ 2 ^ 26) where
  factors : again a *ℤ again b ≡ x *ℤ y
  factors = ap₂ (λ (u v : ℤ). u *ℤ v) (told a x ea (le_trans hx (lit≤ tt))) (told b y eb (le_trans hy (lit≤ tt)))

  pub product_fits : SFits w64 (again a *ℤ again b)
  product_fits = subst (SFits w64) (sym factors) (small (x *ℤ y) (le_trans (product_few x y hx hy) (lit≤ tt)))

  pub product_told : again (again a *ℤ again b) ≡ x *ℤ y
  product_told = told (again a *ℤ again b) (x *ℤ y) factors (le_trans (product_few x y hx hy) (lit≤ tt))

module _ (a b c d x y u v : ℤ) (ea : a ≡ x) (eb : b ≡ y) (ec : c ≡ u) (ed : d ≡ v) (hx : nat_abs x ≤ 2 ^ 26) (hy : nat_abs y ≤ 2 ^ 26) (hu : nat_abs u ≤ 2 ^ 26) (hv : nat_abs v ≤ 2 ^ 26) where
  difference : again (again a *ℤ again b) -ℤ again (again c *ℤ again d) ≡ turn x v u y
  difference = ap₂ (λ (p q : ℤ). p -ℤ q) (product_told a b x y ea eb hx hy) (product_told c d u v ec ed hu hv)

  few : nat_abs (turn x v u y) ≤ 2 ^ 62
  few = le_trans (turn_few x v u y hx hv hu hy) (lit≤ tt)

  pub turn_fits : SFits w64 (again (again a *ℤ again b) -ℤ again (again c *ℤ again d))
  turn_fits = subst (SFits w64) (sym difference) (small (turn x v u y) few)

  pub turn_told : again (again (again a *ℤ again b) -ℤ again (again c *ℤ again d)) ≡ turn x v u y
  turn_told = told _ (turn x v u y) difference few

-- ---- a sum

pub turns_small : (s : ℤ) (k : ℕ) → nat_abs s ≤ k * 2 ^ 53 → k ≤ 32 → nat_abs s ≤ 15 * 2 ^ 58
turns_small s k h l = omega (arith, h, l)

module _ (s r z : ℤ) (e : r ≡ z) (hz : nat_abs z ≤ 2 ^ 58) (hs : nat_abs s ≤ 15 * 2 ^ 58) where
  summands : s +ℤ again r ≡ s +ℤ z
  summands = ap (λ (v : ℤ). s +ℤ v) (told r z e (le_trans hz (lit≤ tt)))

  within_sum : nat_abs (s +ℤ z) ≤ 2 ^ 62
  within_sum = let l = size_sum s z in omega (arith, l, hz, hs)

  pub sum_fits : SFits w64 (s +ℤ again r)
  sum_fits = subst (SFits w64) (sym summands) (small (s +ℤ z) within_sum)

  pub sum_told : again (s +ℤ again r) ≡ s +ℤ z
  sum_told = told (s +ℤ again r) (s +ℤ z) summands within_sum

-- k turns, and one more
pub turns_few : (s r z : ℤ) (k : ℕ) → r ≡ z → nat_abs z ≤ 2 ^ 53 → nat_abs s ≤ k * 2 ^ 53 → k ≤ 32 → nat_abs (again (s +ℤ again r)) ≤ (k + 1) * 2 ^ 53
turns_few s r z k e hz hs l =
    let q = sum_told s r z e (le_trans hz (lit≤ tt)) (turns_small s k hs l) in
    let m = size_sum s z in
    le_trans (le_of_eq (ap nat_abs q)) (omega (arith, m, hz, hs))

-- i sizes, and one more
module _ (s r area z : ℤ) (a i : ℕ) (es : s ≡ pos a) (er : r ≡ pos (nat_abs area)) (ea : area ≡ z) (hz : nat_abs z ≤ 2 ^ 58) (ha : a ≤ i * 2 ^ 58) (hi : i ≤ 15) where
  size_is : r ≡ pos (nat_abs z)
  size_is = er ∙ ap (λ (y : ℤ). pos (nat_abs y)) ea

  before : nat_abs s ≤ 15 * 2 ^ 58
  before = le_trans (le_of_eq (ap nat_abs es)) (let l : a ≤ 15 * 2 ^ 58 = omega (arith, ha, hi) in l)

  pub sized_fits : SFits w64 (s +ℤ again r)
  sized_fits = sum_fits s r (pos (nat_abs z)) size_is hz before

  pub sized_sum : again (s +ℤ again r) ≡ pos (a + nat_abs z)
  sized_sum = sum_told s r (pos (nat_abs z)) size_is hz before ∙ ap (λ (y : ℤ). y +ℤ pos (nat_abs z)) es

  pub sized_few : a + nat_abs z ≤ (i + 1) * 2 ^ 58
  sized_few = omega (arith, ha, hz)

-- ---- without its sign

less_zero : (z : ℤ) → pos 0 -ℤ z ≡ neg_ℤ z
less_zero z = +ℤ_idl (neg_ℤ z)

turned_size : (z : ℤ) → nat_abs (pos 0 -ℤ z) ≡ nat_abs z
turned_size z = ap nat_abs (less_zero z) ∙ go z
  where
    go : (z : ℤ) → nat_abs (neg_ℤ z) ≡ nat_abs z
    go (pos zero) = refl
    go (pos (suc n)) = refl
    go (negsuc n) = refl

turned : (z : ℤ) → lt_z z (pos 0) ≡ true → pos 0 -ℤ z ≡ pos (nat_abs z)
turned (pos n) h = absurd (not_below n (ltb→lt n 0 (truly (ltb n 0) h)))
  where
    not_below : (n : ℕ) → n < 0 → ⊥
    not_below n l = omega (arith, l)
turned (negsuc n) h = less_zero (negsuc n)

as_it_is : (z : ℤ) → lt_z z (pos 0) ≡ false → z ≡ pos (nat_abs z)
as_it_is (pos n) h = refl
as_it_is (negsuc n) h = absurd (true≢false h)

module _ (z : ℤ) (h : nat_abs z ≤ 2 ^ 58) where
  read : again z ≡ z
  read = told z z refl (le_trans h (lit≤ tt))

  pub size_fits : SFits w64 (pos 0 -ℤ again z)
  size_fits = subst (λ (y : ℤ). SFits w64 (pos 0 -ℤ y)) (sym read) (small (pos 0 -ℤ z) (le_trans (le_of_eq (turned_size z)) (le_trans h (lit≤ tt))))

  pub size_turned : lt_z (again z) (pos 0) ≡ true → again (pos 0 -ℤ again z) ≡ pos (nat_abs z)
  size_turned l = told _ _ (ap (λ (y : ℤ). pos 0 -ℤ y) read ∙ turned z (subst (λ (y : ℤ). lt_z y (pos 0) ≡ true) read l)) (le_trans h (lit≤ tt))

  pub size_kept : lt_z (again z) (pos 0) ≡ false → again z ≡ pos (nat_abs z)
  size_kept l = read ∙ as_it_is z (subst (λ (y : ℤ). lt_z y (pos 0) ≡ false) read l)
