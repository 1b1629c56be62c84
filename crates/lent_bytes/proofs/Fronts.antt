-- What stands within the first n bytes is read the same with the bytes behind them left out.
use Prim.Native.Nat.{ℕ, zero, suc, ◌+◌, ◌*◌, ◌-◌, ◌≤◌}
use mathlib.Core.List.{List, [], ◌∷◌}
use mathlib.Core.Path.{◌≡◌, refl, sym, ap, ap₂, ◌∙◌}
use native.Mathlib.Omega.{arith}
use lib.ListN.{take, drop}
use lib.Seq.{take-nil, take-take}
use lib.Ieee.{Float, binary64, of_bits}
use Rattle.rules.specs.Bytes.{little_endian, number_at, float_at, floats_at}

-- a part by its start and its length
pub drop_front : {A : Type 0} (a n : ℕ) (xs : List A) → drop a (take (a + n) xs) ≡ take n (drop a xs)
drop_front zero n xs = ap (λ (k : ℕ). take k xs) (let q : 0 + n ≡ n = omega arith in q)
drop_front {A} (suc a) n [] = ap (λ (l : List A). drop (suc a) l) (take-nil (suc a + n)) ∙ sym (take-nil n)
drop_front {A} (suc a) n (x ∷ xs) = ap (λ (k : ℕ). drop (suc a) (take k (x ∷ xs))) (let q : suc a + n ≡ suc (a + n) = omega arith in q) ∙ drop_front a n xs

within_front : (k at n : ℕ) (bs : List ℕ) → at + k ≤ n → take k (drop at (take n bs)) ≡ take k (drop at bs)
within_front k at n bs h =
    ap (λ (j : ℕ). take k (drop at (take j bs))) (let q : n ≡ at + (n - at) = omega (arith, h) in q)
    ∙ ap (take k) (drop_front at (n - at) bs)
    ∙ take-take k (n - at) (drop at bs) (omega (arith, h))

pub number_front : (k at n : ℕ) (bs : List ℕ) → at + k ≤ n → number_at k at (take n bs) ≡ number_at k at bs
number_front k at n bs h = ap little_endian (within_front k at n bs h)

pub float_front : (at n : ℕ) (bs : List ℕ) → at + 8 ≤ n → float_at at (take n bs) ≡ float_at at bs
float_front at n bs h = ap (of_bits binary64) (number_front 8 at n bs h)

pub floats_front : (d at n : ℕ) (bs : List ℕ) → at + 8 * d ≤ n → floats_at d at (take n bs) ≡ floats_at d at bs
floats_front zero at n bs h = refl
floats_front (suc d) at n bs h = ap₂ (λ (x : Float) (xs : List Float). x ∷ xs) (float_front at n bs (omega (arith, h))) (floats_front d (8 + at) n bs (omega (arith, h)))

-- and by both its ends
pub part_is : {A : Type 0} (from to : ℕ) (xs : List A) → from ≤ to → drop from (take to xs) ≡ take (to - from) (drop from xs)
part_is from to xs h = ap (λ (n : ℕ). drop from (take n xs)) (let q : to ≡ from + (to - from) = omega (arith, h) in q) ∙ drop_front from (to - from) xs
