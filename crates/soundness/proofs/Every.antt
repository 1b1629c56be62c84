-- What an iterator's `all` and `any` compute is what the rules call so.
use Rattle.std.proofs.Common.{◌≡◌, Bool, ◌&&◌, ◌||◌, List, [], ◌∷◌, refl, ap}
use Rattle.std.specs.List.{list_all, list_any}
use Rattle.rules.specs.Lists.{all, any}

module _ {A : Type 0} (p : A → Bool) where
  pub every : (xs : List A) → list_all p xs ≡ all p xs
  every [] = refl
  every (x ∷ xs) = ap (λ (b : Bool). p x && b) (every xs)

  pub some : (xs : List A) → list_any p xs ≡ any p xs
  some [] = refl
  some (x ∷ xs) = ap (λ (b : Bool). p x || b) (some xs)
