-- When an element whose boundary has answered may go on, and what rules 6 to 8 then give: the steps of the rules. Definitions only.
use Rattle.std.specs.Prelude.{ℕ, ◌+◌, ◌-◌, ◌*◌, ◌≤◌, ◌<◌, ◌≡◌, Bool, true, ◌||◌, List, length, get_or, Float, Option, Ok, Err}
use Rattle.rules.specs.Limits.{desk}
use Rattle.rules.specs.Table.{Table, element_count, rank, element}
use Rattle.rules.specs.Sound.{sound}
use Rattle.rules.specs.Cut.{Outcome, refused, done, Cutting, Gathered, new_intersection, side_of_cut, rule7, rule6}
use Rattle.rules.specs.Replies.{params_of}
use Rattle.rules.specs.Held.{Extends, Holds, Came, Sets, SetOf, SomeOf}
use Rattle.rules.specs.declared.ElementAnswer.{ElementAnswer}
use Rattle.space.specs.Chains.{Indexed}
use Rattle.gathered.specs.Sets.{inside_in, outside_in, numbers_in, SizedSet, Sized, Gathers, Used}
use Rattle.rules.specs.declared.Cutter.{Cutter}
use Rattle.rules.specs.declared.ElementId.{ElementId}
use Rattle.gathered.specs.declared.sets.Set.{Set}
use Rattle.gathered.specs.declared.sets.Room.{Room}
use Rattle.rules.specs.Refusals.{Reply}
use Rattle.rules.specs.declared.ElementCutOutput.{ElementCutOutput}
use Rattle.rules.specs.declared.Refusal.{Refusal}

-- ---- the cut of one element

-- what the code has at hand, as the rules have it in a space of d dimensions
abbrev pub cut_of : ℕ → Cutter → Cutting
cut_of d k = record { params = params_of d k.params; number = k.number.0 }

-- the table that the memory holds may be cut: it is sound, and has the divider's hyperplane and element e, of rank r
pub record Fit (cs : List ℕ) (ps hs : List Float) (es : List ℕ) (r e : ℕ) (k : Cutter) (t : Table) : Type 0 where
  pub holds : Holds desk cs ps hs es t
  pub sound : sound desk t ≡ true
  pub plane : k.number.0 < length t.planes
  pub used : e < element_count t
  pub ranked : rank t e ≡ r

-- ---- the intersection

-- in a sound table that the memory holds, the set is of elements in use, two ranks below r
pub record IntersectionFit (cs : List ℕ) (ps hs : List Float) (es : List ℕ) (r : ℕ) (k : Cutter) (set : Set) (t : Table) : Type 0 where
  pub holds : Holds desk cs ps hs es t
  pub sound : sound desk t ≡ true
  pub plane : k.number.0 < length t.planes
  pub some : 1 ≤ r
  pub low : r ≤ t.dimension
  pub sized : SizedSet set 32
  pub sets : SetOf t (r - 1) (numbers_in set)

-- there is such a table, and the index leads to its rows
pub record IntersectionReady (cs es ix : List ℕ) (r : ℕ) (k : Cutter) (set : Set) : Type 0 where
  pub points : List Float
  pub planes : List Float
  pub table : Table
  pub fit : IntersectionFit cs points planes es r k set table
  pub indexed : Indexed es (get_or cs 1 0) ix

-- the counts, and a hyperplane's number within the room
pub record PlaneReady (cs : List ℕ) (n : ℕ) : Type 0 where
  pub counts : length cs ≡ 4
  pub room : n < desk.hyperplanes

-- whatever such table the memory holds: the intersection's step; and the index leads to the rows of after
pub record IntersectionMade (cs es : List ℕ) (r : ℕ) (k : Cutter) (set : Set) (y : Reply (Option ElementId)) (cs' es' ix' : List ℕ) : Type 0 where
  pub of : (ps hs : List Float) (t : Table) → IntersectionFit cs ps hs es r k set t
      → Came Ok Err (Holds desk cs' ps hs es') t (new_intersection desk (cut_of t.dimension k) r (numbers_in set) t) y
  pub indexed : Indexed es' (get_or cs' 1 0) ix'

-- ---- a side

-- in a sound table that the memory holds, element e is in use and of rank r, and the set and the intersection are in use and of the rank below
pub record SideFit (cs : List ℕ) (ps hs : List Float) (es : List ℕ) (r e : ℕ) (set : Set) (x : Option ElementId) (t : Table) : Type 0 where
  pub holds : Holds desk cs ps hs es t
  pub sound : sound desk t ≡ true
  pub used : e < element_count t
  pub ranked : rank t e ≡ r
  pub some : 1 ≤ r
  pub sized : SizedSet set 32
  pub sets : SetOf t r (numbers_in set)
  pub intersection : SomeOf r x t

-- there is such a table, and the index leads to its rows
pub record SideReady (cs es ix : List ℕ) (r e : ℕ) (set : Set) (x : Option ElementId) : Type 0 where
  pub points : List Float
  pub planes : List Float
  pub table : Table
  pub fit : SideFit cs points planes es r e set x table
  pub indexed : Indexed es (get_or cs 1 0) ix

-- element e is within the room, and its boundary within its row
pub record RowReadable (es : List ℕ) (e : ℕ) : Type 0 where
  pub long : length es ≡ 18432
  pub low : e < 512
  pub short : get_or es (e * 36 + 3) 0 ≤ 32

-- the first n numbers of a list are the boundary that the row of element e has
pub record OwnBoundary (es : List ℕ) (e : ℕ) (list : List ℕ) (n : ℕ) : Type 0 where
  pub size : get_or es (e * 36 + 3) 0 ≡ n
  pub same : (j : ℕ) → j < n → get_or list j 0 ≡ get_or es (e * 36 + (4 + j)) 0

-- whether they are: yes only where they are, and wherever they are
pub record OwnTold (es : List ℕ) (e : ℕ) (list : List ℕ) (n : ℕ) (r : Bool) : Type 0 where
  pub only : r ≡ true → OwnBoundary es e list n
  pub wherever : OwnBoundary es e list n → r ≡ true

-- whatever such table the memory holds: the side's step; and the index leads to the rows of after
pub record SideMade (cs es : List ℕ) (r e : ℕ) (keep : Bool) (set : Set) (x : Option ElementId) (y : Reply (Option ElementId)) (cs' es' ix' : List ℕ) (set' : Set) : Type 0 where
  pub of : (ps hs : List Float) (t : Table) → SideFit cs ps hs es r e set x t
      → Came Ok Err (Holds desk cs' ps hs es') t (side_of_cut desk keep (element t e) x (numbers_in set) t) y
  pub indexed : Indexed es' (get_or cs' 1 0) ix'

-- ---- an answer of the rules, as code gives it

-- its output; its warning is in the room
abbrev pub answered_by : ElementAnswer → Reply ElementCutOutput
answered_by a = Ok a.output

-- the answer of a step, the cut's warning with its own, and the memory of the table that it gives; or its refusal, and the memory of some table that goes on from the one before
pub data Told (H : Table → Type 0) (t : Table) (o : Outcome ElementAnswer) (y : Reply ElementCutOutput) (v w : Bool) : Type 0 where
  went : (a : ElementAnswer) (u : Table) → o ≡ done a u → y ≡ answered_by a → w ≡ (v || a.warning) → H u → Told H t o y v w
  stopped : (n : Refusal) (u : Table) → o ≡ refused n → y ≡ Err n → Extends t u → H u → Told H t o y v w

-- ---- rule 6

-- the boundary of element e has answered, and the room holds what is gathered, of elements in use
pub record Rule6Fit (cs : List ℕ) (ps hs : List Float) (es : List ℕ) (r e : ℕ) (k : Cutter) (s : Room) (t : Table) (g : Gathered) : Type 0 where
  pub fit : Fit cs ps hs es r e k t
  pub some : 1 ≤ r
  pub gathers : Gathers s g
  pub sized : Sized s 32
  pub sets : Sets (r - 1) g t

-- there is such a table, and the index leads to its rows
pub record Rule6Ready (cs es ix : List ℕ) (r e : ℕ) (k : Cutter) (s : Room) : Type 0 where
  pub points : List Float
  pub planes : List Float
  pub table : Table
  pub gathered : Gathered
  pub fit : Rule6Fit cs points planes es r e k s table gathered
  pub indexed : Indexed es (get_or cs 1 0) ix

-- whatever such table the memory holds, and whatever is gathered: rule 6; the index leads to the rows of after, and the room is as it was but for its sets
pub record Rule6Done (cs es : List ℕ) (r e : ℕ) (k : Cutter) (s : Room) (y : Reply ElementCutOutput) (cs' es' ix' : List ℕ) (s' : Room) : Type 0 where
  pub of : (ps hs : List Float) (t : Table) (g : Gathered) → Rule6Fit cs ps hs es r e k s t g
      → Came answered_by Err (Holds desk cs' ps hs es') t (rule6 desk (cut_of t.dimension k) (element t e) g g.flush t) y
  pub indexed : Indexed es' (get_or cs' 1 0) ix'
  pub used : Used s s'

-- ---- rule 7

-- the words of a side's set, of elements in use and of the rank below r
pub record SideSet (r : ℕ) (t : Table) (set : Set) (xs : List ℕ) : Type 0 where
  pub held : numbers_in set ≡ xs
  pub sized : SizedSet set 32
  pub sets : SetOf t r xs

-- the boundary of element e has answered, the room holds the sides' sets, and the intersection is in use and of the rank below
pub record Rule7Fit (cs : List ℕ) (ps hs : List Float) (es : List ℕ) (r e : ℕ) (k : Cutter) (s : Room) (x : Option ElementId) (t : Table) (g : Gathered) : Type 0 where
  pub fit : Fit cs ps hs es r e k t
  pub some : 1 ≤ r
  pub inside : SideSet r t (inside_in s) g.inside
  pub outside : SideSet r t (outside_in s) g.outside
  pub intersection : SomeOf r x t

-- there is such a table, and the index leads to its rows
pub record Rule7Ready (cs es ix : List ℕ) (r e : ℕ) (k : Cutter) (s : Room) (x : Option ElementId) : Type 0 where
  pub points : List Float
  pub planes : List Float
  pub table : Table
  pub gathered : Gathered
  pub fit : Rule7Fit cs points planes es r e k s x table gathered
  pub indexed : Indexed es (get_or cs 1 0) ix

-- whatever such table the memory holds, and whatever is gathered: rule 7; the index leads to the rows of after, and the room is as it was but for its sets
pub record Rule7Done (cs es : List ℕ) (r e : ℕ) (k : Cutter) (s : Room) (x : Option ElementId) (y : Reply ElementCutOutput) (cs' es' ix' : List ℕ) (s' : Room) : Type 0 where
  pub of : (ps hs : List Float) (t : Table) (g : Gathered) → Rule7Fit cs ps hs es r e k s x t g
      → Came answered_by Err (Holds desk cs' ps hs es') t (rule7 desk (cut_of t.dimension k) (element t e) g x t) y
  pub indexed : Indexed es' (get_or cs' 1 0) ix'
  pub used : Used s s'
