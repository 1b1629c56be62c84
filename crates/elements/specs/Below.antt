-- The marks of all that lies below a root, in a table whose elements are lent. Definitions only.
use Rattle.std.specs.Prelude.{ℕ, suc, ◌+◌, ◌*◌, ◌<◌, ◌≤◌, true, ◌≡◌, List, map, length, get_or}
use Rattle.rules.specs.Limits.{desk}
use Rattle.rules.specs.Lists.{up_to}
use Rattle.rules.specs.Table.{Table, element_count, boundary}
use Rattle.rules.specs.Sound.{sound}
use Rattle.rules.specs.Held.{Fits, elements_of}
use Rattle.rules.specs.Questions.{is_below}
use Rattle.rules.specs.Asking.{Reaches, border}
use Rattle.elements.specs.Marks.{is_marked}

-- ---- what is lent

-- the elements of a sound table
pub record Lent (es : List ℕ) (t : Table) : Type 0 where
  pub elements : es ≡ elements_of desk t
  pub fits : Fits desk t
  pub sound : sound desk t ≡ true

-- there is such a table, and e is in use
pub record Used (es : List ℕ) (e : ℕ) : Type 0 where
  pub table : Table
  pub lent : Lent es table
  pub used : e < element_count table

-- ---- the boundary of an element, in words

-- the number at a place of the boundary
abbrev pub boundary_word : List ℕ → ℕ → ℕ → ℕ
boundary_word es e i = get_or es (e * 36 + (4 + i)) 0

-- all of them
unfoldable pub boundary_numbers : List ℕ → ℕ → List ℕ
boundary_numbers es e = map (boundary_word es e) (up_to (get_or es (e * 36 + 3) 0))

-- they are no more than the room has, and each is an element's number
pub record BoundaryReady (es : List ℕ) (e : ℕ) : Type 0 where
  pub long : length es ≡ 18432
  pub in_room : e < 512
  pub few : get_or es (e * 36 + 3) 0 ≤ 32
  pub low : (i : ℕ) → i < get_or es (e * 36 + 3) 0 → boundary_word es e i < 512

-- ---- the pass

-- the root is marked; what is marked is reached from it; and from y on, with each its boundary is marked
pub record PassedFrom (t : Table) (root y : ℕ) (ws : List ℕ) : Type 0 where
  pub long : length ws ≡ 8
  pub top : is_marked ws root ≡ true
  pub reached : (x : ℕ) → is_marked ws x ≡ true → Reaches t root x
  pub closed : (x n : ℕ) → y ≤ x → is_marked ws x ≡ true → n < length (boundary t x) → is_marked ws (border t x n) ≡ true

-- whatever such table is lent: the pass goes on by element e
pub record Onward (es : List ℕ) (e : ℕ) (ws ws' : List ℕ) : Type 0 where
  pub of : (t : Table) → Lent es t → e < element_count t → (root : ℕ) → PassedFrom t root (suc e) ws → PassedFrom t root e ws'

-- whatever such table is lent: exactly what is below the root is marked
pub record Below (es : List ℕ) (root : ℕ) (ws : List ℕ) : Type 0 where
  pub of : (t : Table) → Lent es t → root < element_count t → (x : ℕ) → is_marked ws x ≡ is_below t root x
