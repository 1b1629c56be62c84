-- What the cut of one element asks of the lent memory, and does to it: the step of the rules. Definitions only.
use Rattle.std.specs.Prelude.{ℕ, ◌<◌, Bool, List, get_or, Float}
use Rattle.rules.specs.Limits.{desk}
use Rattle.rules.specs.Table.{Table}
use Rattle.rules.specs.Held.{Holds}
use Rattle.rules.specs.Cut.{cut_element}
use Rattle.space.specs.Chains.{Indexed}
use Rattle.gathered.specs.Sets.{warning_in}
use Rattle.gathered.specs.declared.sets.Room.{Room}
use Rattle.gathered.specs.Cutting.{Fit, cut_of, Told}
use Rattle.rules.specs.declared.Cutter.{Cutter}
use Rattle.rules.specs.Refusals.{Reply}
use Rattle.rules.specs.declared.ElementCutOutput.{ElementCutOutput}

-- there is a table that may be cut, whatever its hyperplanes
pub record Ready (cs : List ℕ) (ps : List Float) (es : List ℕ) (r e : ℕ) (k : Cutter) : Type 0 where
  pub planes : List Float
  pub table : Table
  pub fit : Fit cs ps planes es r e k table

-- whatever such table the memory holds: the cut of element e, where the cut's warning was v and is w
pub record ElementCut (cs : List ℕ) (ps : List Float) (es : List ℕ) (r e : ℕ) (k : Cutter) (v : Bool) (x : Reply ElementCutOutput) (cs' : List ℕ) (ps' : List Float) (es' : List ℕ) (w : Bool) : Type 0 where
  pub of : (hs : List Float) (t : Table) → Fit cs ps hs es r e k t → Told (Holds desk cs' ps' hs es') t (cut_element desk (cut_of t.dimension k) r e t) x v w

-- a vertex or an edge may be cut, the rows are indexed, and the room is there
pub record LowAsked (cs : List ℕ) (ps : List Float) (es ix : List ℕ) (r e : ℕ) (k : Cutter) (s : Room) : Type 0 where
  pub ready : Ready cs ps es r e k
  pub low : r < 2
  pub indexed : Indexed es (get_or cs 1 0) ix

-- its cut, with the rows indexed and the room there as well
pub record LowLeft (cs : List ℕ) (ps : List Float) (es : List ℕ) (r e : ℕ) (k : Cutter) (s : Room) (x : Reply ElementCutOutput)
    (cs' : List ℕ) (ps' : List Float) (es' ix' : List ℕ) (s' : Room) : Type 0 where
  pub cut : ElementCut cs ps es r e k (warning_in s) x cs' ps' es' (warning_in s')
  pub indexed : Indexed es' (get_or cs' 1 0) ix'
