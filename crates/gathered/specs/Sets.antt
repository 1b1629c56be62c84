-- What code holds of a set, and of what rules 4 and 5 gather: one lent room, which all elements of a cut use in turn. Definitions only.
use Rattle.std.specs.Prelude.{ℕ, ◌+◌, ◌≤◌, ◌<◌, Bool, false, ◌||◌, ◌≡◌, List, ◌++◌, length, get_or, take, drop, replicate, set, Option, Some, None}
use Rattle.std.specs.List.{copy_within}
use Rattle.rules.specs.Limits.{desk}
use Rattle.rules.specs.Lists.{with_member}
use Rattle.rules.specs.Cut.{Gathered, nothing_yet, including, gathering_output}
use Rattle.rules.specs.declared.ElementCutOutput.{ElementCutOutput}
use Rattle.rules.specs.declared.ElementCutOutput.TheVariants.{Flush, NonFlush}
use Rattle.rules.specs.declared.ElementId.{ElementId}
use Rattle.gathered.specs.declared.sets.Set.{Set}
use Rattle.gathered.specs.declared.sets.Room.{Room}

-- ---- what is held

-- how many numbers a set has
abbrev pub size_in : Set → ℕ
size_in s = s.size

-- and they stand in front
abbrev pub numbers_in : Set → List ℕ
numbers_in s = take s.size s.numbers

-- a set of no number
abbrev pub empty_set : Set
empty_set = record { numbers = replicate 33 0; size = 0 }

-- a set whose numbers are gone
abbrev pub emptied : Set → Set
emptied s = record { numbers = s.numbers; size = 0 }

-- the room: how many answers were flush and the last of them, and the sets of all answers that are not
abbrev pub inside_in : Room → Set
inside_in s = s.inside

abbrev pub outside_in : Room → Set
outside_in s = s.outside

abbrev pub intersections_in : Room → Set
intersections_in s = s.intersections

-- the cut's warning, once a corner was a close call
abbrev pub warning_in : Room → Bool
warning_in s = s.warning

-- the room before anything was asked
abbrev pub empty_room : Room
empty_room = record { flushes = 0; flush = record { 0 = 0 }; warning = false; inside = empty_set; outside = empty_set; intersections = empty_set }

-- flush answers by their count and the last one, and the others as sets; the warning of what is gathered is in the cut's
pub record Gathers (s : Room) (g : Gathered) : Type 0 where
  pub flushes : s.flushes ≡ length g.flush
  pub flush : s.flush.0 ≡ get_or g.flush 0 0
  pub inside : numbers_in (inside_in s) ≡ g.inside
  pub outside : numbers_in (outside_in s) ≡ g.outside
  pub intersections : numbers_in (intersections_in s) ≡ g.intersections

-- no more than m numbers
pub record SizedSet (s : Set) (m : ℕ) : Type 0 where
  pub most : size_in s ≤ m

-- no more than m answers, of any kind
pub record Sized (s : Room) (m : ℕ) : Type 0 where
  pub flushes : s.flushes ≤ m
  pub inside : size_in (inside_in s) ≤ m
  pub outside : size_in (outside_in s) ≤ m
  pub intersections : size_in (intersections_in s) ≤ m

-- the room before any answer
pub record NothingYet (s : Room) : Type 0 where
  pub of : Gathers s nothing_yet
  pub sized : Sized s 0

-- ---- a room used again

-- the room with nothing gathered, and its warning
abbrev pub cleared_room : Room → Room
cleared_room s = record { flushes = 0; flush = record { 0 = 0 }; warning = s.warning; inside = emptied s.inside; outside = emptied s.outside; intersections = emptied s.intersections }

-- whatever was gathered is gone, and the warning stays
pub record Cleared (s r : Room) : Type 0 where
  pub nothing : NothingYet r
  pub warning : warning_in r ≡ warning_in s
  pub whole : r ≡ cleared_room s

-- the room with another warning
abbrev pub with_warning : Room → Bool → Room
with_warning s w = record { flushes = s.flushes; flush = s.flush; warning = w; inside = s.inside; outside = s.outside; intersections = s.intersections }

-- a test's warning is the cut's, and what is gathered stays
pub record Noted (s : Room) (w : Bool) (r : Room) : Type 0 where
  pub warning : warning_in r ≡ (warning_in s || w)
  pub whole : r ≡ with_warning s (warning_in s || w)

-- whatever the sets are, the warning stays
pub record Used (s r : Room) : Type 0 where
  pub warning : warning_in r ≡ warning_in s

-- ---- a number put in

-- a search for x's place has passed the first numbers
pub record Passed (x : ℕ) (xs : List ℕ) (at : ℕ) : Type 0 where
  pub so : with_member x xs ≡ take at xs ++ with_member x (drop at xs)

-- x stands there, or belongs there
pub record Place (s : Set) (x r : ℕ) : Type 0 where
  pub passed : Passed x (numbers_in s) r
  pub within : r ≤ size_in s
  pub stop : r < size_in s → x ≤ get_or s.numbers r 0

-- the words with x at a place, and behind it those that stood there
abbrev pub shifted : Set → ℕ → ℕ → List ℕ
shifted s x at = set (copy_within s.numbers at s.size (at + 1)) at x

-- an element's number is within the room
abbrev pub InRoom : Option ElementId → Type 0
InRoom None = Unit {0}
InRoom (Some e) = e.0 < 512

-- a set with room for one more, and the element that goes to it
pub record IncludeReady (s : Set) (p : Option ElementId) : Type 0 where
  pub sized : SizedSet s 32
  pub room : InRoom p

-- the set with the element in it, if there is one
pub record Included (s : Set) (p : Option ElementId) (r : Set) : Type 0 where
  pub of : numbers_in r ≡ including p (numbers_in s)
  pub long : length r.numbers ≡ 33
  pub sized : (m : ℕ) → SizedSet s m → SizedSet r (m + 1)

-- ---- an answer gathered

-- the three of an answer that is not flush
pub record SidesInRoom (i o x : Option ElementId) : Type 0 where
  pub inside : InRoom i
  pub outside : InRoom o
  pub intersection : InRoom x

-- all elements of an answer are within the room
abbrev pub OutputInRoom : ElementCutOutput → Type 0
OutputInRoom Flush = Unit {0}
OutputInRoom (NonFlush i o x) = SidesInRoom i o x

-- a room with place for one answer more, and the answer of boundary element b
pub record OutputReady (s : Room) (b : ℕ) (a : ElementCutOutput) : Type 0 where
  pub sized : Sized s 31
  pub element : b < desk.elements
  pub answer : OutputInRoom a

-- whatever is gathered: that, with the answer of boundary element b, whatever its warning
pub record OutputGathered (s : Room) (b : ℕ) (a : ElementCutOutput) (r : Room) : Type 0 where
  pub of : (g : Gathered) (w : Bool) → Gathers s g → Gathers r (gathering_output b a w g)
  pub sized : (m : ℕ) → Sized s m → Sized r (m + 1)
  pub warning : warning_in r ≡ warning_in s
