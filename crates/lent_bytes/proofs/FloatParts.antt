-- A part of a list of floats, none of them a NaN: each of them is no NaN.
use Rattle.std.proofs.Common.{ℕ, zero, suc, ◌-◌, ◌≤◌, ◌≡◌, sym, ap, ◌∙◌, Bool, true, false, not, List, [], ◌∷◌, take, drop, All, arith}
use lib.Ieee.{Float, is_nan}
use Rattle.rules.specs.Lists.{all}
use Rattle.rules.proofs.Laws.{not_true, and_left, and_right}
use Rattle.lent_bytes.proofs.Fronts.{part_is}

abbrev is_number : Float → Bool
is_number x = not (is_nan x)

each_is : (xs : List Float) → all is_number xs ≡ true → All (λ x. is_nan x ≡ false) xs
each_is [] h k d l = absurd (omega (arith, l))
each_is (x ∷ xs) h zero d l = not_true (is_nan x) (and_left (is_number x) (all is_number xs) h)
each_is (x ∷ xs) h (suc k) d l = each_is xs (and_right (is_number x) (all is_number xs) h) k d (omega (arith, l))

pub part_numbers : (list : List Float) (from to : ℕ) → from ≤ to → all is_number (drop from (take to list)) ≡ true → All (λ x. is_nan x ≡ false) (take (to - from) (drop from list))
part_numbers list from to h n = each_is _ (sym (ap (all is_number) (part_is from to list h)) ∙ n)
