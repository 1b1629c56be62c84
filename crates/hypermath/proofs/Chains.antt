-- What a chain of the library answers, in the words of the rules.
use mathlib.Core.Path.{◌≡◌, refl, ap}
use mathlib.Core.Bool.{Bool, ◌&&◌}
use mathlib.Core.List.{List, [], ◌∷◌}
use lib.ListN.{length}
use native.Mathlib.Omega.{arith}
use Rattle.std.specs.List.{list_all, zip}
use Rattle.rules.specs.Lists.{all, alike}

module _ {A : Type 0} where
  pub all_is : (p : A → Bool) (xs : List A) → list_all p xs ≡ all p xs
  all_is p [] = refl
  all_is p (x ∷ xs) = ap (λ (b : Bool). p x && b) (all_is p xs)

  -- of two lists that are equally long
  pub alike_is : (p : A → A → Bool) (xs ys : List A) → length xs ≡ length ys → list_all (λ x. p x.0 x.1) (zip xs ys) ≡ alike p xs ys
  alike_is p [] [] h = refl
  alike_is p [] (y ∷ ys) h = absurd (grind (arith, h))
  alike_is p (x ∷ xs) [] h = absurd (grind (arith, h))
  alike_is p (x ∷ xs) (y ∷ ys) h = ap (λ (b : Bool). p x y && b) (alike_is p xs ys (grind (arith, h)))
