-- Marks by rank, marks common to all of some roots, and the vertices that are named. Definitions only.
use Rattle.std.specs.Prelude.{ℕ, ◌*◌, ◌<◌, ◌≤◌, Bool, true, ◌&&◌, ◌≡◌, List, eqb, ltb, length, get_or, take, if◌then◌else◌}
use Rattle.rules.specs.Lists.{all}
use Rattle.rules.specs.Table.{Table, element_count}
use Rattle.rules.specs.Questions.{is_below, greatest_from}
use Rattle.elements.specs.Marks.{is_marked, marking, marked_numbers}
use Rattle.elements.specs.Below.{Lent, boundary_word}

-- ---- by rank

-- x is marked and its row has the rank
abbrev pub is_of_rank : List ℕ → List ℕ → ℕ → ℕ → Bool
is_of_rank es ws rank x = is_marked ws x && eqb (get_or es (x * 36) 0) rank

-- e more, if it is so
unfoldable pub one_more : List ℕ → List ℕ → ℕ → ℕ → List ℕ → List ℕ
one_more es ws rank e out = if is_of_rank es ws rank e then marking out e else out

-- exactly those of the rank
pub record OfRank (es ws : List ℕ) (rank : ℕ) (out : List ℕ) : Type 0 where
  pub of : (x : ℕ) → is_marked out x ≡ is_of_rank es ws rank x

-- ---- vertices

-- the number of the vertex that a vertex's row names
abbrev pub vertex_word : List ℕ → ℕ → ℕ
vertex_word es x = boundary_word es x 0

-- the first n numbers of a list are elements' numbers
pub record VerticesAsked (es list : List ℕ) (n : ℕ) : Type 0 where
  pub long : length es ≡ 18432
  pub few : n ≤ length list
  pub low : all (λ x. ltb x 512) (take n list) ≡ true

-- ---- common to all roots

-- there is a table whose elements are lent, and all roots are in use
pub record AllUsed (es roots : List ℕ) : Type 0 where
  pub table : Table
  pub lent : Lent es table
  pub used : all (λ e. ltb e (element_count table)) roots ≡ true

-- and there is a root
pub record SomeUsed (es roots : List ℕ) : Type 0 where
  pub every : AllUsed es roots
  pub some : 0 < length roots

-- whatever such table is lent: exactly what is below every root is marked
pub record Common (es roots ws : List ℕ) : Type 0 where
  pub of : (t : Table) → Lent es t → all (λ e. ltb e (element_count t)) roots ≡ true → (x : ℕ) → is_marked ws x ≡ all (λ e. is_below t e x) roots

-- whatever such table is lent: of what is below every root, those of the highest rank from r down to 1
pub record Greatest (es ws : List ℕ) (r : ℕ) (out : List ℕ) : Type 0 where
  pub of : (t : Table) (roots : List ℕ) → Lent es t → all (λ e. ltb e (element_count t)) roots ≡ true → 0 < length roots
      → ((x : ℕ) → is_marked ws x ≡ all (λ e. is_below t e x) roots) → marked_numbers out ≡ greatest_from t r roots
