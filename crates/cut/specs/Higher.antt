-- An element of rank 2 or more whose boundary is known: what it gathers from there, and its answer. Definitions only.
use Rattle.std.specs.Prelude.{ℕ, ◌-◌, ◌<◌, ◌≡◌, Bool, ◌||◌, List, length, get_or, Float}
use Rattle.rules.specs.Limits.{desk}
use Rattle.rules.specs.Table.{Table, boundary}
use Rattle.rules.specs.Cut.{done, Gathered, nothing_yet, cut_element, cut_boundary}
use Rattle.rules.specs.declared.Cutter.{Cutter}
use Rattle.space.specs.Chains.{Indexed}
use Rattle.gathered.specs.Sets.{Gathers, Sized, warning_in}
use Rattle.gathered.specs.declared.sets.Room.{Room}
use Rattle.gathered.specs.Cutting.{Fit, cut_of}
use Rattle.cut.specs.Known.{Knows, KnownStill, KnownTo}
use Rattle.cut.specs.Rounds.{ElementEnded}
use Rattle.rules.specs.Refusals.{Reply}

-- a table that may be cut, of which all that is known is true, and all of the boundary of element e is known
pub record HigherFit (cs : List ℕ) (ps hs : List Float) (es ms : List ℕ) (w : Bool) (r e : ℕ) (k : Cutter) (t : Table) : Type 0 where
  pub fit : Fit cs ps hs es r e k t
  pub more : 1 < r
  pub knows : Knows k ms w t
  pub all : KnownTo ms (boundary t e) (length (boundary t e))

-- there is such a table, and the room, whatever it holds
pub record GatherReady (es ms : List ℕ) (s : Room) (e : ℕ) : Type 0 where
  pub counts : List ℕ
  pub points : List Float
  pub planes : List Float
  pub rank : ℕ
  pub cutter : Cutter
  pub table : Table
  pub fit : HigherFit counts points planes es ms (warning_in s) rank e cutter table

-- the room holds what the rules gather from that table, asking its boundary again; its warning is in the cut's, which is w
pub record Filled (w : Bool) (r e : ℕ) (k : Cutter) (t : Table) (s : Room) : Type 0 where
  pub gathered : Gathered
  pub asked : cut_boundary (cut_element desk (cut_of t.dimension k) (r - 1)) (boundary t e) nothing_yet t ≡ done gathered t
  pub gathers : Gathers s gathered
  pub noted : (w || gathered.warning) ≡ w

-- so it does whatever such table the memory holds
pub record KnownGathered (es ms : List ℕ) (s : Room) (e : ℕ) (s' : Room) : Type 0 where
  pub of : (cs : List ℕ) (ps hs : List Float) (r : ℕ) (k : Cutter) (t : Table) → HigherFit cs ps hs es ms (warning_in s) r e k t → Filled (warning_in s) r e k t s'
  pub sized : Sized s' 32
  pub warning : warning_in s' ≡ warning_in s

-- there is such a table, the index is of its rows, and the room is there
pub record HigherReady (cs es ix ms : List ℕ) (s : Room) (r e : ℕ) (k : Cutter) : Type 0 where
  pub points : List Float
  pub planes : List Float
  pub table : Table
  pub fit : HigherFit cs points planes es ms (warning_in s) r e k table
  pub indexed : Indexed es (get_or cs 1 0) ix

-- whatever such table the memory holds: the cut of element e, with its answer in the words and its warning in the room; what was known still is
pub record HigherAsked (cs es ms : List ℕ) (s : Room) (r e : ℕ) (k : Cutter) (x : Reply (Unit {0})) (cs' es' ix' ms' : List ℕ) (s' : Room) : Type 0 where
  pub of : (ps hs : List Float) (t : Table) → HigherFit cs ps hs es ms (warning_in s) r e k t → ElementEnded cs' ps hs es' ms' (warning_in s') r e k x (warning_in s) t
  pub indexed : Indexed es' (get_or cs' 1 0) ix'
  pub still : KnownStill ms ms'
