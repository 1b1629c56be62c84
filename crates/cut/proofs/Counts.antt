-- The four counts, in an array of their own and back in the memory: a list of four words is its words.
use Prim.Native.Nat.{ℕ}
use mathlib.Core.Path.{◌≡◌, refl}
use mathlib.Core.List.{List, [], ◌∷◌}
use native.Mathlib.Omega.{arith}
use lib.ListN.{length, get_or, set}

by_four : (P : List ℕ → Type 0) → ((d e v h : ℕ) → P (d ∷ e ∷ v ∷ h ∷ [])) → (cs : List ℕ) → length cs ≡ 4 → P cs
by_four P k [] l = absurd (let z : ⊥ = omega (arith, l) in z)
by_four P k (d ∷ []) l = absurd (let z : ⊥ = omega (arith, l) in z)
by_four P k (d ∷ e ∷ []) l = absurd (let z : ⊥ = omega (arith, l) in z)
by_four P k (d ∷ e ∷ v ∷ []) l = absurd (let z : ⊥ = omega (arith, l) in z)
by_four P k (d ∷ e ∷ v ∷ h ∷ []) l = k d e v h
by_four P k (d ∷ e ∷ v ∷ h ∷ x ∷ cs) l = absurd (let z : ⊥ = omega (arith, l) in z)

pub counts_taken : (cs : List ℕ) → length cs ≡ 4 → get_or cs 0 0 ∷ get_or cs 1 0 ∷ get_or cs 2 0 ∷ get_or cs 3 0 ∷ [] ≡ cs
counts_taken = by_four (λ cs. get_or cs 0 0 ∷ get_or cs 1 0 ∷ get_or cs 2 0 ∷ get_or cs 3 0 ∷ [] ≡ cs) λ d e v h. refl

pub counts_put : (cs us : List ℕ) → length cs ≡ 4 → length us ≡ 4 → set (set (set (set cs 0 (get_or us 0 0)) 1 (get_or us 1 0)) 2 (get_or us 2 0)) 3 (get_or us 3 0) ≡ us
counts_put cs us l m = by_four (λ cs'. set (set (set (set cs' 0 (get_or us 0 0)) 1 (get_or us 1 0)) 2 (get_or us 2 0)) 3 (get_or us 3 0) ≡ us) (λ d e v h. counts_taken us m) cs l
