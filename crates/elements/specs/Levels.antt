-- The elements of one rank below a root, from rank to rank. Definitions only.
use Rattle.std.specs.Prelude.{ℕ, ◌<◌, ◌≤◌, Bool, true, ◌&&◌, ◌≡◌, List, [], ◌∷◌, eqb}
use Rattle.rules.specs.Lists.{any, member}
use Rattle.rules.specs.Table.{Table, element_count, rank}
use Rattle.rules.specs.Questions.{is_below}
use Rattle.elements.specs.Marks.{is_marked, marking_all, bits_from, marked_numbers}
use Rattle.elements.specs.Below.{Lent, boundary_numbers, BoundaryReady}

-- ---- the boundaries of some elements

-- the set with all of them in it
unfoldable pub marking_under : List ℕ → List ℕ → List ℕ → List ℕ
marking_under es ws [] = ws
marking_under es ws (y ∷ ys) = marking_under es (marking_all ws (boundary_numbers es y)) ys

-- whether x is in one of them
abbrev pub is_under : List ℕ → List ℕ → ℕ → Bool
is_under es ys x = any (λ y. member x (boundary_numbers es y)) ys

-- each number of a word has one
pub record WordReady (es : List ℕ) (word base : ℕ) : Type 0 where
  pub low : base ≤ 448
  pub each : (y : ℕ) → member y (bits_from 64 word base) ≡ true → BoundaryReady es y

-- each of a set has
pub record SetReady (es ws : List ℕ) : Type 0 where
  pub each : (y : ℕ) → is_marked ws y ≡ true → BoundaryReady es y

-- exactly what is in those of a set
pub record Under (es ws out : List ℕ) : Type 0 where
  pub of : (x : ℕ) → is_marked out x ≡ is_under es (marked_numbers ws) x

-- ---- one rank

-- whatever such table is lent: exactly what is below the root and has the rank is marked
pub record Level (es : List ℕ) (root k : ℕ) (ws : List ℕ) : Type 0 where
  pub of : (t : Table) → Lent es t → root < element_count t → (x : ℕ) → is_marked ws x ≡ (is_below t root x && eqb (rank t x) k)
