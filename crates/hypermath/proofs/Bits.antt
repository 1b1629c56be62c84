-- Equal bits: as data there is one NaN, and of the others the bits tell the value, since a value of the format is what its bits stand for.
use mathlib.Core.Path.{◌≡◌, refl, sym, ap, ◌∙◌, subst}
use Prim.Native.Nat.{ℕ, ◌*◌, ◌-◌, ◌<◌}
use mathlib.Core.Bool.{Bool, true, false, not, cond, ◌&&◌, ◌||◌, true≢false, false≢true}
use native.Mathlib.Nat.{lt_irrefl, mul-pos}
use native.Mathlib.Omega.{arith}
use lib.Dec.{T, eqb, ltb, ltb→lt}
use lib.Ieee.{Float, nan, inf, fin, binary64, up, down, round, sum, add, neg, sub, le, ne, is_nan, fits, to_bits, of_bits}
use lib.Ieee.Bits.{of_bits-to_bits}
use lib.Ieee.Compare.{differs_from_itself, nan_differs}
use lib.Ieee.Fits.{down_pos}
use lib.Ieee.Scale.{round_same}
use Rattle.rules.specs.Floats.{plus_zero, tolerance, within, same_bits, matches}
use Rattle.rules.proofs.Laws.{truly, falsely, eq_test, eqb_self, refute, both_ways, or_right}
use Rattle.rules.proofs.Selves.{bits_self, same_float}

-- only a NaN differs from itself
pub differs : (x : Float) → ne x x ≡ is_nan x
unfolding is_nan
differs nan = nan_differs
differs (inf s) = refute (ne (inf s) (inf s)) (λ e. false≢true (ap is_nan (differs_from_itself (inf s) (truly _ e))))
differs (fin s m e) = refute (ne (fin s m e) (fin s m e)) (λ h. false≢true (ap is_nan (differs_from_itself (fin s m e) (truly _ h))))

pub number : (x : Float) → ne x x ≡ false → T (not (is_nan x))
number x h = falsely (is_nan x) (sym (differs x) ∙ h)

-- the first is a NaN: the second is one too, or the bits differ
pub nan_bits : (a b : Float) → ne a a ≡ true → ne b b ≡ same_bits a b
unfolding is_nan
nan_bits a b h = differs b ∙ go a b (sym (differs a) ∙ h)
  where
    go : (x y : Float) → is_nan x ≡ true → is_nan y ≡ same_bits x y
    go nan nan e = refl
    go nan (inf t) e = refl
    go nan (fin t n d) e = refl
    go (inf s) y e = absurd (false≢true e)
    go (fin s m d) y e = absurd (false≢true e)

-- the second alone is one
pub nan_second : (a b : Float) → ne a a ≡ false → ne b b ≡ true → false ≡ same_bits a b
unfolding is_nan
nan_second a b h k = go a b (sym (differs a) ∙ h) (sym (differs b) ∙ k)
  where
    go : (x y : Float) → is_nan x ≡ false → is_nan y ≡ true → false ≡ same_bits x y
    go nan y e f = absurd (true≢false e)
    go (inf s) nan e f = refl
    go (inf s) (inf t) e f = absurd (false≢true f)
    go (inf s) (fin t n d) e f = absurd (false≢true f)
    go (fin s m c) nan e f = refl
    go (fin s m c) (inf t) e f = absurd (false≢true f)
    go (fin s m c) (fin t n d) e f = absurd (false≢true f)

-- neither is: the bits are equal exactly where the values are
pub bits_tell : (a b : Float) → fits binary64 a ≡ true → fits binary64 b ≡ true → eqb (to_bits binary64 a) (to_bits binary64 b) ≡ same_bits a b
bits_tell a b f g =
    both_ways (eqb (to_bits binary64 a) (to_bits binary64 b)) (same_bits a b)
    (λ h. subst (λ (y : Float). same_bits a y ≡ true)
    (sym (of_bits-to_bits binary64 a (truly _ f)) ∙ ap (of_bits binary64) (eq_test (to_bits binary64 a) (to_bits binary64 b) h) ∙ of_bits-to_bits binary64 b (truly _ g)) (bits_self a))
    (λ h. subst (λ (y : Float). eqb (to_bits binary64 a) (to_bits binary64 y) ≡ true) (same_float a b h) (eqb_self (to_bits binary64 a)))

-- ---- matches: the difference is tested first, for it tells most

pub match_near : (a b : Float) → within tolerance (sub binary64 a b) ≡ true → true ≡ matches a b
unfolding matches
match_near a b h = sym (or_right (same_bits a b) (within tolerance (sub binary64 a b)) h)

pub match_bits : (a b : Float) → within tolerance (sub binary64 a b) ≡ false → same_bits a b ≡ matches a b
unfolding matches
match_bits a b h = sym (first (same_bits a b) (within tolerance (sub binary64 a b)) h)
  where
    first : (p q : Bool) → q ≡ false → (p || q) ≡ p
    first true q e = refl
    first false q e = e

rounded_zero : round binary64 false 0 1 ≡ plus_zero
unfolding round
rounded_zero = refl

zero_near : within tolerance plus_zero ≡ true
unfolding within le neg
zero_near = refl

-- a number less itself is +0
nothing_left : (s : Bool) (a c : ℕ) → 0 < c → sum binary64 s a (not s) a c ≡ plus_zero
unfolding sum
nothing_left s a c p = go s
  where
    rounded : round binary64 false (a - a) c ≡ plus_zero
    rounded = round_same binary64 false (a - a) c 0 1 p (omega arith) (let z : (a - a) * 1 ≡ 0 * c = omega arith in z) ∙ rounded_zero

    no_less : ltb a a ≡ false
    no_less = refute (ltb a a) (λ q. lt_irrefl a (ltb→lt a a (truly _ q)))

    go : (b : Bool) → sum binary64 b a (not b) a c ≡ plus_zero
    go true = ap (λ (q : Bool). cond q (round binary64 false (a - a) c) (round binary64 (true && q) (a - a) c)) no_less ∙ rounded
    go false = ap (λ (q : Bool). cond q (round binary64 true (a - a) c) (round binary64 (false && q) (a - a) c)) no_less ∙ rounded

-- numbers with equal bits have no gap: only an infinity or a NaN is too far from itself, by a gap that is no number
gap_of_same : (x : Float) → within tolerance (sub binary64 x x) ≡ false → is_nan (sub binary64 x x) ≡ true
unfolding sub add neg is_nan
gap_of_same nan h = refl
gap_of_same (inf true) h = refl
gap_of_same (inf false) h = refl
gap_of_same (fin s m e) h =
    absurd (true≢false (sym (ap (within tolerance) (nothing_left s (m * up e * down e) (down e * down e) (mul-pos (down_pos e) (down_pos e))) ∙ zero_near) ∙ h))

pub match_far : (a b : Float) → within tolerance (sub binary64 a b) ≡ false → ne (sub binary64 a b) (sub binary64 a b) ≡ false → false ≡ matches a b
match_far a b h k =
    sym (refute (same_bits a b) (λ q.
    true≢false (sym (gap_of_same a (ap (λ (y : Float). within tolerance (sub binary64 a y)) (same_float a b q) ∙ h))
    ∙ ap (λ (y : Float). is_nan (sub binary64 a y)) (same_float a b q) ∙ sym (differs (sub binary64 a b)) ∙ k)))
    ∙ match_bits a b h
