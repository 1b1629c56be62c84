-- Tests of a whole list: what follows for every entry, for a part of the list, and for what is read of its rows. All by induction over the list.
use Prim.Native.Nat.{ℕ, zero, suc, ◌<◌}
use mathlib.Core.Bool.{Bool, true}
use mathlib.Core.List.{List, [], ◌∷◌, map}
use mathlib.Core.Path.{◌≡◌, refl}
use native.Mathlib.Nat.{zero-lt-suc}
use native.Mathlib.Omega.{arith}
use lib.ListN.{length, get_or, take, drop}
use Rattle.rules.specs.Lists.{all, rows}
use Rattle.rules.proofs.Laws.{and_left, and_right, and_true}

module _ {A : Type 0} (p : A → Bool) where
  pub all_map : (q : A → Bool) → ((x : A) → p x ≡ true → q x ≡ true) → (xs : List A) → all p xs ≡ true → all q xs ≡ true
  all_map q f [] h = refl
  all_map q f (x ∷ xs) h = and_true (q x) (all q xs) (f x (and_left (p x) (all p xs) h)) (all_map q f xs (and_right (p x) (all p xs) h))

  pub all_both : (q r : A → Bool) → ((x : A) → p x ≡ true → q x ≡ true → r x ≡ true) → (xs : List A) → all p xs ≡ true → all q xs ≡ true → all r xs ≡ true
  all_both q r f [] h k = refl
  all_both q r f (x ∷ xs) h k =
      and_true (r x) (all r xs) (f x (and_left (p x) (all p xs) h) (and_left (q x) (all q xs) k))
      (all_both q r f xs (and_right (p x) (all p xs) h) (and_right (q x) (all q xs) k))

  -- by its entries
  pub all_each : (d : A) (xs : List A) → ((i : ℕ) → i < length xs → p (get_or xs i d) ≡ true) → all p xs ≡ true
  all_each d [] f = refl
  all_each d (x ∷ xs) f =
      and_true (p x) (all p xs) (f 0 (zero-lt-suc (length xs))) (all_each d xs (λ i h. f (suc i) (let z : suc i < suc (length xs) = omega (arith, h) in z)))

  pub all_take : (n : ℕ) (xs : List A) → all p xs ≡ true → all p (take n xs) ≡ true
  all_take zero xs h = refl
  all_take (suc n) [] h = refl
  all_take (suc n) (x ∷ xs) h = and_true (p x) (all p (take n xs)) (and_left (p x) (all p xs) h) (all_take n xs (and_right (p x) (all p xs) h))

  pub all_drop : (n : ℕ) (xs : List A) → all p xs ≡ true → all p (drop n xs) ≡ true
  all_drop zero xs h = h
  all_drop (suc n) [] h = refl
  all_drop (suc n) (x ∷ xs) h = all_drop n xs (and_right (p x) (all p xs) h)

  -- also past the end, where the default stands
  pub all_get_d : (xs : List A) (i : ℕ) (d : A) → p d ≡ true → all p xs ≡ true → p (get_or xs i d) ≡ true
  all_get_d [] i d k h = k
  all_get_d (x ∷ xs) zero d k h = and_left (p x) (all p xs) h
  all_get_d (x ∷ xs) (suc i) d k h = all_get_d xs i d k (and_right (p x) (all p xs) h)

  -- what holds of every entry holds of every row, and of what is read of it
  pub all_rows : {B : Type 0} (f : List A → B) (q : B → Bool) → ((r : List A) → all p r ≡ true → q (f r) ≡ true) → (n w : ℕ) (xs : List A) → all p xs ≡ true → all q (map f (rows n w xs)) ≡ true
  all_rows f q g zero w xs h = refl
  all_rows f q g (suc n) w xs h = and_true (q (f (take w xs))) _ (g (take w xs) (all_take w xs h)) (all_rows f q g n w (drop w xs) (all_drop w xs h))
