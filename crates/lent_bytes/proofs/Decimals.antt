-- A number's digits are those of its tenth, then its last one; and how many there are, by the power of ten above it.
use Rattle.std.specs.Prelude.{if◌then◌else◌}
use Prim.Native.Nat.{ℕ, zero, suc, ◌+◌, ◌/◌, ◌%◌, ◌^◌, ◌≤◌, ◌<◌}
use mathlib.Core.Bool.{true, false, Bool}
use mathlib.Core.List.{List, [], ◌∷◌, ◌++◌}
use mathlib.Core.Path.{◌≡◌, refl, ap, ◌∙◌}
use native.Mathlib.Omega.{arith}
use lib.Dec.{leb, eqb}
use lib.ListN.{length, length-append}
use Rattle.rules.specs.Bytes.{low_digits, backwards, decimal}
use Rattle.rules.proofs.Laws.{le_test, not_le, test_eq, not_eq, unlike_eq}

-- ---- more digits of fuel than the number's size change nothing

same_rest : (b : Bool) (xs ys : List ℕ) → (b ≡ false → xs ≡ ys) → (if b then [] else xs) ≡ (if b then [] else ys)
same_rest true xs ys f = refl
same_rest false xs ys f = f refl

fuel : (n m k : ℕ) → k < n → k < m → low_digits n k ≡ low_digits m k
fuel zero m k h l = absurd (omega (arith, h))
fuel (suc n) zero k h l = absurd (omega (arith, l))
fuel (suc n) (suc m) k h l =
    ap (λ (xs : List ℕ). (48 + k % 10) ∷ xs)
    (same_rest (eqb (k / 10) 0) _ _ (λ e. let z = unlike_eq (k / 10) 0 e in fuel n m (k / 10) (omega (arith, z, h)) (omega (arith, z, l))))

-- ---- the digits of a tenth, then the last one

pub below_ten : (k : ℕ) → k < 10 → decimal k ≡ (48 + k % 10) ∷ []
unfolding decimal
below_ten k h = ap (λ (b : Bool). backwards ((48 + k % 10) ∷ (if b then [] else low_digits k (k / 10)))) (test_eq (k / 10) 0 (omega (arith, h)))

pub from_ten : (k : ℕ) → 10 ≤ k → decimal k ≡ decimal (k / 10) ++ (48 + k % 10) ∷ []
unfolding decimal
from_ten k h =
    ap (λ (b : Bool). backwards ((48 + k % 10) ∷ (if b then [] else low_digits k (k / 10)))) (not_eq (k / 10) 0 (λ e. omega (arith, e, h)))
    ∙ ap (λ (xs : List ℕ). backwards xs ++ (48 + k % 10) ∷ []) (fuel k (suc (k / 10)) (k / 10) (omega (arith, h)) (omega arith))

-- ---- how many

pub one_more_lem : (k : ℕ) → 10 ≤ k → length (decimal k) ≡ suc (length (decimal (k / 10)))
one_more_lem k h =
    let q = length-append (decimal (k / 10)) ((48 + k % 10) ∷ []) in
    ap length (from_ten k h) ∙ (let z : length (decimal (k / 10) ++ (48 + k % 10) ∷ []) ≡ suc (length (decimal (k / 10))) = omega (arith, q) in z)

by_test : {A : Type 0} (b : Bool) → (b ≡ true → A) → (b ≡ false → A) → A
by_test true f g = f refl
by_test false f g = g refl

length_decimal : (n k : ℕ) → k < 10 ^ suc n → length (decimal k) ≤ suc n
length_decimal zero k h = let q = ap length (below_ten k h) in omega (arith, q)
length_decimal (suc n) k h =
    by_test (leb 10 k)
    (λ e. let f = le_test 10 k e in
    let q = one_more_lem k f in
    let l = length_decimal n (k / 10) (omega (arith, h)) in
    omega (arith, q, l))
    (λ e. let q = ap length (below_ten k (not_le 10 k e)) in omega (arith, q))

pub twenty_digits : (k : ℕ) → k < 0x10000000000000000 → length (decimal k) ≤ 20
twenty_digits k h = length_decimal 19 k (omega (arith, h))

pub five_digits : (k : ℕ) → k < 0x10000 → length (decimal k) ≤ 5
five_digits k h = length_decimal 4 k (omega (arith, h))
