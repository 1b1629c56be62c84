-- Document 02, order 13: the area sheet of some flat pieces in exact numbers, the whole reply, and what is promised of it. Definitions only.
-- A coordinate is a whole number of units of 1/1,024, so twice an area is a whole number of units of 1/1,048,576.
use Rattle.std.specs.Prelude.{ℕ, suc, ◌+◌, ◌*◌, ◌/◌, ◌%◌, ◌^◌, ◌≤◌, ◌<◌, ◌≡◌, Bool, true, false, not, ◌&&◌, List, [], ◌∷◌, ◌++◌, map, leb, ltb, eqb, ℤ, pos, neg_ℤ, nat_abs, ◌+ℤ◌, ◌-ℤ◌, ◌*ℤ◌, length, get_or, Float, if◌then◌else◌, Some}
use Rattle.std.specs.Float.{nan, inf, fin}
use Rattle.std.specs.Float.Ieee.{up, down}
use Rattle.rules.specs.Limits.{Limits}
use Rattle.rules.specs.Lists.{all}
use Rattle.rules.specs.Floats.{plus_zero}
use Rattle.rules.specs.Table.{ElementNumber, VertexNumber, Table, rank, element_count}
use Rattle.rules.specs.Memory.{Memory, decode, sound_memory}
use Rattle.rules.specs.Questions.{Asked, no_answer, answer, edges_in_order}
use Rattle.rules.specs.Replies.{list_size, listed}
use Rattle.rules.specs.Calls.{ListNumbered, Filled}
use Rattle.rules.specs.Refusals.{Reply, reply_number}
use Rattle.rules.specs.declared.Refusal.TheVariants.{ListLong, NotInUse, NotSound, OffGrid, Rank}

-- a sheet has at most so many pieces
abbrev pub most_pieces : ℕ
most_pieces = 16

-- so many units are 1
abbrev pub units_in_one : ℕ
units_in_one = 1024

-- ---- a coordinate

-- it is a multiple of 1/1,024
unfoldable pub on_grid : Float → Bool
on_grid nan = false
on_grid (inf s) = false
on_grid (fin s m e) = eqb (m * up e * units_in_one % down e) 0

abbrev pub signed : Bool → ℕ → ℤ
signed false n = pos n
signed true n = neg_ℤ (pos n)

-- how many units it has, with its sign; none are left over on the grid
unfoldable pub units : Float → ℤ
units nan = pos 0
units (inf s) = pos 0
units (fin s m e) = signed s (m * up e * units_in_one / down e)

abbrev pub coordinate : Table → VertexNumber → ℕ → Float
coordinate t v axis = get_or (get_or t.points v []) axis plus_zero

abbrev pub vertex_on_grid : Table → VertexNumber → Bool
vertex_on_grid t v = on_grid (coordinate t v 0) && on_grid (coordinate t v 1)

-- ---- a piece

-- the steps of its walk
abbrev pub steps : Asked (List (VertexNumber × VertexNumber)) → List (VertexNumber × VertexNumber)
steps (no_answer n) = []
steps (answer ps) = ps

abbrev pub step_on_grid : Table → VertexNumber × VertexNumber → Bool
step_on_grid t p = vertex_on_grid t p.0 && vertex_on_grid t p.1

unfoldable pub piece_on_grid : Table → ElementNumber → Bool
piece_on_grid t f = all (step_on_grid t) (steps (edges_in_order t f))

-- twice the signed area between the origin and a step from a to b: positive where the step turns from axis 0 towards axis 1
abbrev pub turn : ℤ → ℤ → ℤ → ℤ → ℤ
turn a₀ a₁ b₀ b₁ = a₀ *ℤ b₁ -ℤ b₀ *ℤ a₁

abbrev pub step_turn : Table → VertexNumber × VertexNumber → ℤ
step_turn t p = turn (units (coordinate t p.0 0)) (units (coordinate t p.0 1)) (units (coordinate t p.1 0)) (units (coordinate t p.1 1))

abbrev pub sum_of : List ℤ → ℤ
sum_of [] = pos 0
sum_of (z ∷ zs) = z +ℤ sum_of zs

-- twice the signed area of its walk
unfoldable pub twice_area : Table → ElementNumber → ℤ
twice_area t f = sum_of (map (step_turn t) (steps (edges_in_order t f)))

-- ---- the sheet

abbrev pub sizes : List ℤ → ℕ
sizes [] = 0
sizes (z ∷ zs) = nat_abs z + sizes zs

-- the areas, then the count and the sum of sizes
unfoldable pub sheet : Table → List ElementNumber → List ℤ
sheet t pieces = let areas = map (twice_area t) pieces in areas ++ pos (length pieces) ∷ pos (sizes areas) ∷ []

-- 3, 26 above the limit, 4, 6 unless two-dimensional and rank 2, 25 off the grid; each is tested of all pieces before the next
unfoldable pub area_sheet : Limits → Memory → List ElementNumber → Asked (List ℤ)
area_sheet L m pieces =
    let t = decode L m in
    if not (sound_memory L m) then no_answer NotSound
    else if not (leb (length pieces) most_pieces) then no_answer ListLong
    else if not (all (λ f. ltb f (element_count t)) pieces) then no_answer NotInUse
    else if not (eqb t.dimension 2 && all (λ f. eqb (rank t f) 2) pieces) then no_answer Rank
    else if not (all (piece_on_grid t) pieces) then no_answer OffGrid
    else answer (sheet t pieces)

-- and 12 last; the table is read only
unfoldable pub areas_reply : Limits → Memory → List ElementNumber → List ℤ → Reply ℕ × List ℤ
areas_reply L m pieces room = listed (area_sheet L m pieces) room

-- ---- promises

-- the number is 0 with a size, or one of its refusals with none
abbrev pub AreasNumbers : Limits → Type 0
AreasNumbers L = (m : Memory) (pieces : List ElementNumber) (room : List ℤ) → ListNumbered (3 ∷ 26 ∷ 4 ∷ 6 ∷ 25 ∷ 12 ∷ []) (areas_reply L m pieces room).0

abbrev pub RefusedAreasLeave : Limits → Type 0
RefusedAreasLeave L = (m : Memory) (pieces : List ElementNumber) (room : List ℤ) → 0 < reply_number (areas_reply L m pieces room).0 → (areas_reply L m pieces room).1 ≡ room

-- a sheet has two numbers more than pieces, fills the front of its room and leaves the remainder
abbrev pub AreasFillFront : Limits → Type 0
AreasFillFront L = (m : Memory) (pieces : List ElementNumber) (room : List ℤ) (n : ℕ) → list_size (areas_reply L m pieces room).0 ≡ Some n
    → (n ≡ suc (suc (length pieces))) × Filled n room (areas_reply L m pieces room).1

-- where no boundary has more than 32 elements, every number of a sheet lies from -2^62 to 2^62, so it fits in 64 bits: a coordinate has at most 2^26 units, a step 2^53, and a walk 2^58
-- (in the large room a walk may have 64 steps, and this bound of the sum is 2^63, one more than a signed number of 64 bits holds)
abbrev pub AreasFit : Limits → Type 0
AreasFit L = L.boundary ≤ 32 → (m : Memory) (pieces : List ElementNumber) (xs : List ℤ) → area_sheet L m pieces ≡ answer xs
    → all (λ z. leb (nat_abs z) (2 ^ 62)) xs ≡ true
