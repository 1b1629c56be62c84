-- Numbers in base 3: the digits of a number and the number of some digits undo one another below 3 ^ d.
-- So different numbers below 3 ^ d have different digits.
use Rattle.std.specs.Prelude.{if◌then◌else◌}
use Prim.Native.Nat.{ℕ, zero, suc, ◌+◌, ◌*◌, ◌^◌, ◌/◌, ◌%◌, ◌≤◌, ◌<◌}
use mathlib.Core.Bool.{Bool, true, false}
use mathlib.Core.List.{List, [], ◌∷◌}
use mathlib.Core.Path.{◌≡◌, refl, sym, ap, ap₂, ◌∙◌}
use native.Mathlib.Nat.{pow-suc, le_refl}
use native.Mathlib.Omega.{arith}
use lib.Dec.{eqb}
use lib.ListN.{length}
use Rattle.rules.specs.Lists.{keep}
use Rattle.rules.specs.Cube.{digits, of_digits, twos}
use Rattle.rules.proofs.Extends.{Below}

pub digits_length : (d n : ℕ) → length (digits d n) ≡ d
digits_length zero n = refl
digits_length (suc d) n = ap suc (digits_length d (n / 3))

-- every digit is 0, 1 or 2
pub digit_low : (d n : ℕ) → Below 3 (digits d n)
digit_low zero n = tt
digit_low (suc d) n = (omega arith, digit_low d (n / 3))

-- the first digit of k + 3 v is k, and the others are those of v
pub digits_step : (d k v : ℕ) → k < 3 → digits (suc d) (k + 3 * v) ≡ k ∷ digits d v
digits_step d k v l =
    let e : (k + 3 * v) % 3 ≡ k = omega arith in
    let f : (k + 3 * v) / 3 ≡ v = omega arith in
    ap₂ (λ (j w : ℕ). j ∷ digits d w) e f

pub of_digits_lem : (d n : ℕ) → n < 3 ^ d → of_digits (digits d n) ≡ n
of_digits_lem zero n l = omega arith
of_digits_lem (suc d) n l =
    let s = pow-suc 3 d in
    let m : n / 3 < 3 ^ d = omega arith in
    let h = of_digits_lem d (n / 3) m in
    omega arith

pub digits_of : (ks : List ℕ) → Below 3 ks → digits (length ks) (of_digits ks) ≡ ks
digits_of [] l = refl
digits_of (k ∷ ks) l = digits_step (length ks) k (of_digits ks) l.0 ∙ ap (λ (js : List ℕ). k ∷ js) (digits_of ks l.1)

pub below_power : (ks : List ℕ) → Below 3 ks → of_digits ks < 3 ^ length ks
below_power [] l = le_refl 1
below_power (k ∷ ks) l =
    let h = below_power ks l.1 in
    let s = pow-suc 3 (length ks) in
    omega arith

pub digits_inj : (d m n : ℕ) → m < 3 ^ d → n < 3 ^ d → digits d m ≡ digits d n → m ≡ n
digits_inj d m n l h e = sym (of_digits_lem d m l) ∙ ap of_digits e ∙ of_digits_lem d n h

-- ---- rank

-- no rank is above the dimension
pub twos_length : (ks : List ℕ) → twos ks ≤ length ks
twos_length [] = le_refl 0
twos_length (k ∷ ks) = go (eqb 2 k) (twos_length ks)
  where
    go : (b : Bool) → twos ks ≤ length ks → length (if b then k ∷ keep (eqb 2) ks else keep (eqb 2) ks) ≤ suc (length ks)
    go true h = omega arith
    go false h = omega arith
