-- No vertex of a cube matches an earlier one: two of its corners have other digits, so on some axis they lie a diameter apart.
-- With what stays unmatched, a crossing is never entered as two corners.
use Rattle.std.specs.Prelude.{if◌then◌else◌}
use Prim.Native.Nat.{ℕ, zero, suc, ◌%◌, ◌/◌, ◌<◌, ◌^◌}
use mathlib.Core.Bool.{true, Bool, false}
use mathlib.Core.List.{◌∷◌, List, [], map}
use mathlib.Core.Path.{◌≡◌, refl, subst, ap₂, ◌∙◌}
use native.Mathlib.Nat.{suc-ne-zero, le_of_eq, zero-add, not-suc-le-zero, le_of_suc-le-suc, le_trans, le_of_lt}
use native.Mathlib.Omega.{arith}
use lib.Dec.{ltb, eqb}
use lib.Ieee.{Float}
use lib.ListN.{length, get_or, length-map}
use Rattle.rules.specs.Lists.{all, keep, up_to}
use Rattle.rules.specs.Floats.{point_matches}
use Rattle.rules.specs.Cube.{digits, is_vertex, radius_fits, chosen, cube, cube_point}
use Rattle.rules.specs.Promises.{Unmatched}
use Rattle.rules.proofs.Borders.{rise_at}
use Rattle.rules.proofs.CornersApart.{points_apart}
use Rattle.rules.proofs.CubeDigits.{digits_inj}
use Rattle.rules.proofs.Growing.{all_get}
use Rattle.rules.proofs.Laws.{eq_test, unlike_eq, and_true, test_le, le_test}
use Rattle.rules.proofs.VertexSet.{keep_all, up_under, each_kept, keep_rises, up_rises}

-- the digits of a corner are 0 and 1
corner_digits : (d n : ℕ) → is_vertex (digits d n) ≡ true → all (λ k. ltb k 2) (digits d n) ≡ true
corner_digits zero n h = refl
corner_digits (suc d) n h = go (eqb 2 (n % 3)) refl h (corner_digits d (n / 3))
  where
    go : (b : Bool) → eqb 2 (n % 3) ≡ b → eqb (length (if b then n % 3 ∷ keep (eqb 2) (digits d (n / 3)) else keep (eqb 2) (digits d (n / 3)))) 0 ≡ true
        → (is_vertex (digits d (n / 3)) ≡ true → all (λ k. ltb k 2) (digits d (n / 3)) ≡ true) → all (λ k. ltb k 2) (digits (suc d) n) ≡ true
    go true e z r = absurd (suc-ne-zero (length (keep (eqb 2) (digits d (n / 3)))) (eq_test (suc (length (keep (eqb 2) (digits d (n / 3))))) 0 z))
    go false e z r =
        let other = unlike_eq 2 (n % 3) e in
        let low : n % 3 < 2 = omega (arith, other) in
        and_true (ltb (n % 3) 2) (all (λ k. ltb k 2) (digits d (n / 3))) (test_le (suc (n % 3)) 2 low) (r z)

module _ (d : ℕ) (r : Float) (fits : radius_fits r ≡ true) where
  abbrev numbers : List ℕ
  numbers = chosen is_vertex d (3 ^ d)

  number : ℕ → ℕ
  number i = get_or numbers i 0

  in_range : (i : ℕ) → i < length numbers → number i < 3 ^ d
  unfolding number
  in_range i l =
      le_test (suc (number i)) (3 ^ d) (all_get (λ n. ltb n (3 ^ d)) numbers i 0 l
      (keep_all (λ n. ltb n (3 ^ d)) (λ n. is_vertex (digits d n)) (up_to (3 ^ d)) (up_under 0 (3 ^ d) (3 ^ d) (le_of_eq (zero-add (3 ^ d))))))

  is_corner_lem : (i : ℕ) → i < length numbers → all (λ k. ltb k 2) (digits d (number i)) ≡ true
  unfolding number
  is_corner_lem i l = corner_digits d (number i) (all_get (λ n. is_vertex (digits d n)) numbers i 0 l (each_kept (λ n. is_vertex (digits d n)) (up_to (3 ^ d))))

  rising : (i j : ℕ) → i < j → j < length numbers → number i < number j
  unfolding number
  rising = rise_at numbers (keep_rises (λ n. is_vertex (digits d n)) (up_to (3 ^ d)) (up_rises 0 (3 ^ d)))

  point_of_lem : (i : ℕ) → i < length numbers → get_or (cube d r).points i [] ≡ cube_point r (digits d (number i))
  unfolding cube number
  point_of_lem i l = mapped numbers i l
    where
      mapped : (ns : List ℕ) (k : ℕ) → k < length ns → get_or (map (λ n. cube_point r (digits d n)) ns) k [] ≡ cube_point r (digits d (get_or ns k 0))
      mapped [] k m = absurd (not-suc-le-zero m)
      mapped (n ∷ ns) zero m = refl
      mapped (n ∷ ns) (suc k) m = mapped ns k (le_of_suc-le-suc m)

  pub cube_unmatched : Unmatched (cube d r)
  unfolding cube
  cube_unmatched i j l k =
      let j< = subst (λ (n : ℕ). j < n) (length-map numbers (λ n. cube_point r (digits d n))) k in
      let i< = le_trans l (le_of_lt j<) in
      let up = rising i j l j< in
      ap₂ point_matches (point_of_lem i i<) (point_of_lem j j<)
      ∙ points_apart r fits (digits d (number i)) (digits d (number j)) (is_corner_lem i i<) (is_corner_lem j j<)
      (λ e. (let same = digits_inj d (number i) (number j) (in_range i i<) (in_range j j<) e in let no : ⊥ = omega (arith, up, same) in no))
