-- Rows of the lent floats, read one by one, and the search over vertices: a row of the lent points matches when all its axes that the dimension uses do, and the code leaves it at the first that does not.
use Prim.Native.Nat.{ℕ, ◌+◌, ◌*◌, ◌≤◌, ◌<◌}
use mathlib.Core.Path.{◌≡◌, sym, ap, ap₂, ◌∙◌}
use mathlib.Core.Bool.{Bool, true, false}
use mathlib.Core.List.{List}
use native.Mathlib.Nat.{le_trans, le_of_eq, suc-mul, mul-le-mul_right}
use native.Mathlib.Omega.{arith}
use lib.ListN.{length, get_or, take, drop, length-drop}
use lib.Seq.{length-take-le, get_or-take, get_or-drop}
use lib.Ieee.{Float, nan}
use Rattle.rules.specs.Lists.{alike}
use Rattle.rules.specs.Floats.{matches, point_matches}
use Rattle.rules.proofs.Indexed.{alike_front_go, alike_front_no, alike_front_end}
use Rattle.hypermath.specs.Axes.{axes, AxesOf}

-- a row that the list has room for is whole
pub part_long : (w k : ℕ) (l : List Float) → k * w + w ≤ length l → length (take w (drop (k * w) l)) ≡ w
part_long w k l h =
    length-take-le w (drop (k * w) l) (let e = length-drop (k * w) l in let q : w ≤ length (drop (k * w) l) = omega (arith, e, h) in q)

-- so is the k-th of n rows
pub row_long : (w n k : ℕ) (l : List Float) → n * w ≤ length l → k < n → length (take w (drop (k * w) l)) ≡ w
row_long w n k l h i =
    part_long w k l (let m = mul-le-mul_right w i in let s = suc-mul k w in let q : k * w + w ≤ length l = omega (arith, m, s, h) in q)

-- an entry of a row, by its place in the slice
pub row_entry : (w k i : ℕ) (l : List Float) → i < w → get_or (take w (drop (k * w) l)) i nan ≡ get_or l (k * w + i) nan
row_entry w k i l h = get_or-take w (drop (k * w) l) i nan h ∙ get_or-drop (k * w) l i nan

module _ (d n : ℕ) (points p : List Float) (used v : ℕ) (A : AxesOf d used) (room : n * axes ≤ length points) (long : length p ≡ axes) (in_use_lem : v < n) where
  row : List Float
  row = take axes (drop (v * axes) points)

  fits_row : used ≤ length row
  unfolding row
  fits_row = le_trans A.few (le_of_eq (sym (row_long axes n v points room in_use_lem)))

  fits_point : used ≤ length p
  fits_point = le_trans A.few (le_of_eq (sym long))

  -- what is left of the comparison from an axis on
  unfoldable pub left_from : ℕ → Bool
  unfolding row
  left_from i = alike matches (drop i (take used row)) (drop i (take used p))

  entry : (i : ℕ) → i < used → matches (get_or row i nan) (get_or p i nan) ≡ matches (get_or points (v * axes + i) nan) (get_or p i nan)
  unfolding row
  entry i h = ap (λ (x : Float). matches x (get_or p i nan)) (row_entry axes v i points (le_trans h A.few))

  pub left_go : (i : ℕ) → left_from 0 ≡ left_from i → i < used → matches (get_or points (v * axes + i) nan) (get_or p i nan) ≡ true → left_from 0 ≡ left_from (i + 1)
  unfolding left_from
  left_go i e h q = alike_front_go matches nan used row p fits_row fits_point i e h (entry i h ∙ q)

  -- the row does not match at an unlike axis
  pub left_no : (i : ℕ) → left_from 0 ≡ left_from i → i < used → matches (get_or points (v * axes + i) nan) (get_or p i nan) ≡ false
      → point_matches (take d (take axes (drop (v * axes) points))) (take d p) ≡ false
  unfolding left_from point_matches
  left_no i e h q =
      sym (ap₂ (alike matches) (A.front row (row_long axes n v points room in_use_lem)) (A.front p long))
      ∙ sym (alike_front_no matches nan used row p fits_row fits_point i e h (entry i h ∙ q))

  -- and does when none is left
  pub left_end : (i : ℕ) → left_from 0 ≡ left_from i → used ≤ i → point_matches (take d (take axes (drop (v * axes) points))) (take d p) ≡ true
  unfolding left_from point_matches
  left_end i e h =
      sym (ap₂ (alike matches) (A.front row (row_long axes n v points room in_use_lem)) (A.front p long))
      ∙ sym (alike_front_end matches nan used row p fits_row fits_point i e h)
