-- Sums over the numbers below a bound: two functions that differ at one number, and a sum that is 0.
use Prim.Native.Nat.{ℕ, ◌+◌, suc, zero, ◌<◌}
use mathlib.Core.Bool.{Bool, true, false}
use mathlib.Core.Path.{◌≡◌, refl, ap}
use native.Mathlib.Omega.{arith}
use lib.Dec.{eqb}
use Rattle.rules.proofs.Laws.{eq_test, unlike_eq}

-- the sum of f over the numbers below a bound
unfoldable pub sum_to : ℕ → (ℕ → ℕ) → ℕ
sum_to zero f = 0
sum_to (suc n) f = f n + sum_to n f

sum_same : (n : ℕ) (f g : ℕ → ℕ) → ((w : ℕ) → w < n → f w ≡ g w) → sum_to n f ≡ sum_to n g
unfolding sum_to
sum_same zero f g h = refl
sum_same (suc n) f g h =
    let i = sum_same n f g (λ w l. h w (omega arith)) in
    let e = h n (omega arith) in
    omega arith

pub sum_change : (n a : ℕ) (f g : ℕ → ℕ) → a < n → ((w : ℕ) → (w ≡ a → ⊥) → f w ≡ g w) → sum_to n f + g a ≡ sum_to n g + f a
unfolding sum_to
sum_change zero a f g l h = absurd (omega arith)
sum_change (suc n) a f g l h = go (eqb n a) refl (λ (m : a < n). sum_change n a f g m h)
  where
    go : (b : Bool) → eqb n a ≡ b → (a < n → sum_to n f + g a ≡ sum_to n g + f a) → (f n + sum_to n f) + g a ≡ (g n + sum_to n g) + f a
    go true e before =
        let q = eq_test n a e in
        let s = sum_same n f g (λ w m. h w (λ r. omega arith)) in
        let x = ap f q in
        let y = ap g q in
        omega arith
    go false e before =
        let u = unlike_eq n a e in
        let x = h n u in
        let i = before (omega arith) in
        omega arith

pub sum_zeros : (n : ℕ) (f : ℕ → ℕ) → ((w : ℕ) → w < n → f w ≡ 0) → sum_to n f ≡ 0
unfolding sum_to
sum_zeros zero f h = refl
sum_zeros (suc n) f h =
    let i = sum_zeros n f (λ w l. h w (omega arith)) in
    let e = h n (omega arith) in
    omega arith

pub zeros_sum : (n a : ℕ) (f : ℕ → ℕ) → sum_to n f ≡ 0 → a < n → f a ≡ 0
unfolding sum_to
zeros_sum zero a f e l = absurd (omega arith)
zeros_sum (suc n) a f e l = go (eqb a n) refl (λ (m : a < n). zeros_sum n a f (omega arith) m)
  where
    go : (b : Bool) → eqb a n ≡ b → (a < n → f a ≡ 0) → f a ≡ 0
    go true q before = let x = ap f (eq_test a n q) in omega arith
    go false q before = let u = unlike_eq a n q in before (omega arith)
