-- An array of zeros filled from the front: the next store puts one entry more before the zeros that are left.
use Prim.Native.Nat.{ℕ, suc, ◌-◌, ◌<◌}
use mathlib.Core.Path.{◌≡◌, sym, ap, ◌∙◌}
use mathlib.Core.List.{List, [], ◌∷◌, ◌++◌, append_assoc}
use native.Mathlib.Omega.{arith}
use lib.ListN.{length, set, replicate}
use lib.Seq.{set-append_seam}
use Rattle.rules.specs.Lists.{pad}
use Rattle.rules.proofs.Growing.{length_snoc}

pub fill_next : {A : Type 0} (z : A) (n : ℕ) (xs : List A) (y : A) → length xs < n → set (pad z n xs) (length xs) y ≡ pad z n (xs ++ y ∷ [])
fill_next z n xs y h =
    ap (λ (m : ℕ). set (xs ++ replicate m z) (length xs) y) (let q : n - length xs ≡ suc (n - suc (length xs)) = omega arith in q)
    ∙ set-append_seam xs z (replicate (n - suc (length xs)) z) y
    ∙ sym (append_assoc xs (y ∷ []) (replicate (n - suc (length xs)) z))
    ∙ ap (λ (m : ℕ). xs ++ y ∷ [] ++ replicate (n - m) z) (sym (length_snoc xs y))
