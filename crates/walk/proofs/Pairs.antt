-- Two vertex numbers for each step: what is left to write, put behind what is written, makes up the whole.
use Prim.Native.Nat.{ℕ, suc, ◌+◌, ◌-◌, ◌*◌, ◌≤◌, ◌<◌}
use mathlib.Core.Path.{◌≡◌, sym, ap, ap₂, ◌∙◌}
use mathlib.Core.List.{List, ◌∷◌}
use native.Mathlib.Numerals.{add-one}
use native.Mathlib.Omega.{arith}
use lib.ListN.{length, get_or, set}
use lib.Seq.{sets}
use Rattle.walk.specs.Walks.{end_across, edge_beside, numbers_from}

module _ (es xs : List ℕ) (n : ℕ) where
  -- what is left from v by the edge e, after k steps
  abbrev left : ℕ → ℕ → ℕ → List ℕ
  left k v e = numbers_from (n - k) es xs v e

  pub pairs_start : (l : List ℕ) (v e : ℕ) → length xs ≡ n → sets l 0 (numbers_from (length xs) es xs v e) ≡ sets l (2 * 0) (left 0 v e)
  pairs_start l v e q = ap (λ (m : ℕ). sets l 0 (numbers_from m es xs v e)) (let z : length xs ≡ n - 0 = omega (arith, q) in z)

  pub pairs_go : (o l : List ℕ) (v e k w d a b : ℕ) → k < n → w ≡ end_across es v e → d ≡ edge_beside es e w xs → a ≡ get_or es (v * 36 + 4) 0 → b ≡ get_or es (w * 36 + 4) 0
      → o ≡ sets l (2 * k) (left k v e) → o ≡ sets (set (set l (2 * k) a) (2 * k + 1) b) (2 * (k + 1)) (left (k + 1) w d)
  unfolding numbers_from
  pairs_go o l v e k w d a b h q r f g j =
      j ∙ ap (λ (m : ℕ). sets l (2 * k) (numbers_from m es xs v e)) (let z : n - k ≡ suc (n - (k + 1)) = omega (arith, h) in z)
      ∙ ap (λ (y : ℕ). sets l (2 * k) (get_or es (v * 36 + 4) 0 ∷ get_or es (y * 36 + 4) 0 ∷ left (k + 1) y (edge_beside es e y xs))) (sym q)
      ∙ ap (λ (y : ℕ). sets l (2 * k) (get_or es (v * 36 + 4) 0 ∷ get_or es (w * 36 + 4) 0 ∷ left (k + 1) w y)) (sym r)
      ∙ ap₂ (λ (x y : ℕ). sets l (2 * k) (x ∷ y ∷ left (k + 1) w d)) (sym f) (sym g)
      ∙ ap₂ (λ (x y : ℕ). sets (set (set l (2 * k) a) x b) y (left (k + 1) w d)) (sym (add-one (2 * k))) (let z : suc (suc (2 * k)) ≡ 2 * (k + 1) = omega arith in z)

  pub pairs_end : (o l : List ℕ) (v e k : ℕ) → n ≤ k → o ≡ sets l (2 * k) (left k v e) → l ≡ o
  unfolding numbers_from
  pairs_end o l v e k h j = sym (j ∙ ap (λ (m : ℕ). sets l (2 * k) (numbers_from m es xs v e)) (let z : n - k ≡ 0 = omega (arith, h) in z))
