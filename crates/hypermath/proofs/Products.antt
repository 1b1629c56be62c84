-- A dot product goes axis by axis: the sum so far, and the products still to come.
use Prim.Native.Nat.{ℕ, suc, ◌+◌, ◌≤◌, ◌<◌}
use mathlib.Core.Path.{◌≡◌, sym, ap, ap₂, ◌∙◌}
use mathlib.Core.List.{List}
use native.Mathlib.Nat.{le_trans, le_of_eq}
use native.Mathlib.Numerals.{add-one}
use lib.ListN.{length, get_or, take, drop, drop_of_length-le}
use lib.Seq.{drop-cons, get_or-take, length-take-le}
use lib.Ieee.{Float, nan, binary64, add, mul}
use Rattle.rules.specs.Floats.{dot_from}

module _ (n : ℕ) (xs ys : List Float) (lx : n ≤ length xs) (ly : n ≤ length ys) where
  pub dot_go : {r : Float} (s : Float) (i : ℕ) → r ≡ dot_from s (drop i (take n xs)) (drop i (take n ys)) → i < n
      → r ≡ dot_from (add binary64 s (mul binary64 (get_or xs i nan) (get_or ys i nan))) (drop (i + 1) (take n xs)) (drop (i + 1) (take n ys))
  unfolding dot_from
  dot_go s i e h =
      e ∙ ap₂ (dot_from s) (drop-cons (take n xs) i nan (le_trans h (le_of_eq (sym (length-take-le n xs lx))))) (drop-cons (take n ys) i nan (le_trans h (le_of_eq (sym (length-take-le n ys ly)))))
      ∙ ap₂ (λ (x y : Float). dot_from (add binary64 s (mul binary64 x y)) (drop (suc i) (take n xs)) (drop (suc i) (take n ys))) (get_or-take n xs i nan h) (get_or-take n ys i nan h)
      ∙ ap (λ (k : ℕ). dot_from (add binary64 s (mul binary64 (get_or xs i nan) (get_or ys i nan))) (drop k (take n xs)) (drop k (take n ys))) (sym (add-one i))

  pub dot_end : {r : Float} (s : Float) (i : ℕ) → r ≡ dot_from s (drop i (take n xs)) (drop i (take n ys)) → n ≤ i → s ≡ r
  unfolding dot_from
  dot_end s i e h =
      sym (e ∙ ap (λ (zs : List Float). dot_from s zs (drop i (take n ys))) (drop_of_length-le (take n xs) (le_trans (le_of_eq (length-take-le n xs lx)) h)))
