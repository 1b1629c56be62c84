-- How the corners of an element are tested against a plane, in rising order, by their marks. Definitions only.
use Rattle.std.specs.Prelude.{ℕ, ◌+◌, ◌<◌, ◌≤◌, true, false, ◌&&◌, ◌≡◌, List, [], ◌∷◌, map, length, Float, if◌then◌else◌, Ok}
use Rattle.rules.specs.Limits.{desk}
use Rattle.rules.specs.Lists.{member}
use Rattle.rules.specs.Floats.{side_of}
use Rattle.rules.specs.Table.{Table, element_count}
use Rattle.rules.specs.Sound.{sound}
use Rattle.rules.specs.Held.{Holds}
use Rattle.rules.specs.Replies.{divider_of}
use Rattle.rules.specs.Touch.{corner_sides, touched}
use Rattle.rules.specs.declared.Hyperplane.{Hyperplane}
use Rattle.rules.specs.declared.Side.{Side}
use Rattle.rules.specs.declared.Side.TheVariants.{Inside, On, Outside}
use Rattle.hypermath.specs.Answers.{distance_to}
use Rattle.space.specs.Shared.{stored_point}
use Rattle.elements.specs.Marks.{is_marked, bits_from}
use Rattle.elements.specs.Ranks.{vertex_word}
use Rattle.elements.specs.declared.touch.Tested.{Tested}
use Rattle.rules.specs.declared.Touched.{Touched}

-- ---- one corner

-- the side of the vertex that the row of x names
abbrev pub corner_side : ℕ → Hyperplane → List Float → List ℕ → ℕ → Side
corner_side d h ps es x = side_of (distance_to d h (stored_point ps (vertex_word es x)))

-- its row and its point are there
pub record CornerReady (ps : List Float) (es : List ℕ) (x : ℕ) : Type 0 where
  pub points : length ps ≡ 1024
  pub elements : length es ≡ 18432
  pub in_room : x < 512
  pub vertex : vertex_word es x < 256

-- ---- what the corners tested so far have told

abbrev pub nothing_tested : Tested
nothing_tested = record { inside = false; outside = false; corners = 0 }

abbrev pub with_side : Tested → Side → Tested
with_side s Inside = record { inside = true; outside = s.outside; corners = s.corners + 1 }
with_side s On = record { inside = s.inside; outside = s.outside; corners = s.corners + 1 }
with_side s Outside = record { inside = s.inside; outside = true; corners = s.corners + 1 }

-- in this order, until both have been met
unfoldable pub tested_to : Tested → List Side → Tested
tested_to s [] = s
tested_to s (x ∷ xs) = if s.inside && s.outside then s else tested_to (with_side s x) xs

-- ---- the corners of a set of marks

-- each number of a word names a point, and no more were tested than numbers before them
pub record WordTestable (ps : List Float) (es : List ℕ) (word base : ℕ) (s : Tested) : Type 0 where
  pub points : length ps ≡ 1024
  pub elements : length es ≡ 18432
  pub low : base ≤ 448
  pub vertex : (x : ℕ) → member x (bits_from 64 word base) ≡ true → vertex_word es x < 256
  pub few : s.corners ≤ base

-- they are tested after those before them
pub record WordTested (d : ℕ) (h : Hyperplane) (ps : List Float) (es : List ℕ) (word base : ℕ) (s r : Tested) : Type 0 where
  pub same : r ≡ tested_to s (map (corner_side d h ps es) (bits_from 64 word base))
  pub few : r.corners ≤ base + 64

-- each number of a set names a point
pub record CornersReady (ps : List Float) (es ws : List ℕ) : Type 0 where
  pub points : length ps ≡ 1024
  pub elements : length es ≡ 18432
  pub vertex : (x : ℕ) → is_marked ws x ≡ true → vertex_word es x < 256

-- ---- the root of a sound table

-- the memory holds such a table, whatever its hyperplanes
pub record TouchReady (cs : List ℕ) (ps : List Float) (es : List ℕ) (root : ℕ) : Type 0 where
  pub planes : List Float
  pub table : Table
  pub holds : Holds desk cs ps planes es table
  pub sound : sound desk table ≡ true
  pub used : root < element_count table

-- whatever such table it is: what is read from the sides of the corners
pub record FiniteTouched (cs : List ℕ) (ps : List Float) (es : List ℕ) (h : Hyperplane) (root : ℕ) (reply : Touched) : Type 0 where
  pub of : (hs : List Float) (t : Table) → Holds desk cs ps hs es t → sound desk t ≡ true → root < element_count t → Ok reply ≡ touched (corner_sides (divider_of t.dimension h) t root)
