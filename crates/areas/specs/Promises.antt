-- What is promised of areas beside the rules' own promises: when the two parts of a piece add up to it. Definitions only.
-- A spot is a point of the grid, as two whole numbers of units.
use Rattle.std.specs.Prelude.{◌≡◌, ◌+◌, List, [], ◌∷◌, ◌++◌, ℤ, pos, ◌+ℤ◌, unsigned_abs}
use Rattle.std.specs.Int.Signed.{non_neg}
use Rattle.rules.specs.Areas.{turn}

abbrev pub Spot : Type 0
Spot = ℤ × ℤ

abbrev pub turn_to : Spot → Spot → ℤ
turn_to a b = turn a.0 a.1 b.0 b.1

-- the turns from a along a path
abbrev pub turns_to : Spot → List Spot → ℤ
turns_to a [] = pos 0
turns_to a (b ∷ bs) = turn_to a b +ℤ turns_to b bs

-- twice the signed area of the ring from a along a path and back to a
abbrev pub ring_area : Spot → List Spot → ℤ
ring_area a bs = turns_to a (bs ++ a ∷ [])

-- where the path from a ends
abbrev pub last_of : Spot → List Spot → Spot
last_of a [] = a
last_of a (b ∷ bs) = last_of b bs

-- p lies exactly in line with a and b: the three have no area between them
abbrev pub InLine : Spot → Spot → Spot → Type 0
InLine a p b = ring_area a (p ∷ b ∷ []) ≡ pos 0

-- a ring goes from b along bs, and then from d along ds back to b. It is cut from q, in line with the edge from the end of bs to d, to p, in line with the edge from the end of ds to b
abbrev pub PartsAddUp : Type 0
PartsAddUp = (b d p q : Spot) (bs ds : List Spot) → InLine (last_of b bs) q d → InLine (last_of d ds) p b
    → ring_area b (bs ++ q ∷ p ∷ []) +ℤ ring_area d (ds ++ p ∷ q ∷ []) ≡ ring_area b (bs ++ d ∷ ds)

-- so do their sizes, where both parts turn the same way
abbrev pub SizesAddUp : Type 0
SizesAddUp = (x y : ℤ) → non_neg x ≡ non_neg y → unsigned_abs (x +ℤ y) ≡ unsigned_abs x + unsigned_abs y

pub record Promises : Type 0 where
  pub parts_add_up : PartsAddUp
  pub sizes_add_up : SizesAddUp
