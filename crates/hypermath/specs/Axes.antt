-- How many axes a point has, and how many of them a dimension uses. Definitions only.
use Rattle.std.specs.Prelude.{ℕ, ◌≤◌, ◌≡◌, List, length, take, drop, Float}

-- the one constant that more dimensions change
abbrev pub axes : ℕ
axes = 4

-- n axes of a point are those of the dimension d; a point has no more than there are
pub record AxesOf (d n : ℕ) : Type 0 where
  pub few : n ≤ axes
  pub front : (xs : List Float) → length xs ≡ axes → take n xs ≡ take d xs
  pub rest : (xs : List Float) → length xs ≡ axes → drop n xs ≡ drop d xs
