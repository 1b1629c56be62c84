-- What the cut of an element that may be known, and of its boundary, does to the lent memory: the steps of the rules. Definitions only.
use Rattle.std.specs.Prelude.{ℕ, ◌-◌, ◌<◌, ◌≡◌, Bool, true, ◌||◌, List, length, get_or, Float, Ok, Err}
use Rattle.rules.specs.Limits.{desk}
use Rattle.rules.specs.Table.{Table, boundary}
use Rattle.rules.specs.Held.{Extends, Holds}
use Rattle.rules.specs.Cut.{Outcome, refused, done, Gathered, nothing_yet, cut_element, cut_boundary}
use Rattle.space.specs.Chains.{Indexed}
use Rattle.gathered.specs.Sets.{warning_in}
use Rattle.gathered.specs.declared.sets.Room.{Room}
use Rattle.gathered.specs.Cutting.{Fit, cut_of}
use Rattle.rules.specs.declared.ElementAnswer.{ElementAnswer}
use Rattle.rules.specs.declared.Cutter.{Cutter}
use Rattle.cut.specs.Known.{known_at, output_at, Knows, KnownStill, KnownTo}
use Rattle.rules.specs.Refusals.{Reply}
use Rattle.rules.specs.declared.Refusal.{Refusal}

-- there is a table that may be cut, and of which all that is known is true; the index is of its rows, and the room is there
pub record AskReady (cs : List ℕ) (ps : List Float) (es ix ms : List ℕ) (s : Room) (r e : ℕ) (k : Cutter) : Type 0 where
  pub planes : List Float
  pub table : Table
  pub fit : Fit cs ps planes es r e k table
  pub knows : Knows k ms (warning_in s) table
  pub indexed : Indexed es (get_or cs 1 0) ix

-- the same of a vertex or an edge
pub record LowReady (cs : List ℕ) (ps : List Float) (es ix ms : List ℕ) (s : Room) (r e : ℕ) (k : Cutter) : Type 0 where
  pub ready : AskReady cs ps es ix ms s r e k
  pub low : r < 2

-- the same of an element that has a boundary to ask
pub record RoundReady (cs : List ℕ) (ps : List Float) (es ix ms : List ℕ) (s : Room) (r e : ℕ) (k : Cutter) : Type 0 where
  pub ready : AskReady cs ps es ix ms s r e k
  pub more : 1 < r

-- how asking ended, where the cut's warning was v and is w: done with a value of the rules, and H is so of the table that it gives; or refused, and N is so of some table that goes on from the one before
pub data Ended {A : Type 0} (warning : A → Bool) (H : A → Table → Type 0) (N : Table → Type 0) (t : Table) (o : Outcome A) (x : Reply (Unit {0})) (v w : Bool) : Type 0 where
  went : (a : A) (u : Table) → o ≡ done a u → x ≡ Ok tt → w ≡ (v || warning a) → H a u → Ended warning H N t o x v w
  stopped : (n : Refusal) (u : Table) → o ≡ refused n → x ≡ Err n → Extends t u → N u → Ended warning H N t o x v w

-- the memory holds the table, what is known is true of it, and the words of element e say its answer
pub record AnswerKept (cs : List ℕ) (ps hs : List Float) (es ms : List ℕ) (w : Bool) (e : ℕ) (k : Cutter) (a : ElementAnswer) (u : Table) : Type 0 where
  pub holds : Holds desk cs ps hs es u
  pub knows : Knows k ms w u
  pub known : known_at ms e ≡ true
  pub output : output_at ms e ≡ a.output

-- whatever such table the memory holds: the cut of element e
abbrev pub ElementEnded : List ℕ → List Float → List Float → List ℕ → List ℕ → Bool → ℕ → ℕ → Cutter → Reply (Unit {0}) → Bool → Table → Type 0
ElementEnded cs ps hs es ms w r e k x v t =
    Ended (λ a. a.warning) (AnswerKept cs ps hs es ms w e k) (Holds desk cs ps hs es) t (cut_element desk (cut_of t.dimension k) r e t) x v w

-- with its answer in the words and its warning in the room; what was known still is
pub record ElementAsked (cs : List ℕ) (ps : List Float) (es ms : List ℕ) (s : Room) (r e : ℕ) (k : Cutter) (x : Reply (Unit {0}))
    (cs' : List ℕ) (ps' : List Float) (es' ix' ms' : List ℕ) (s' : Room) : Type 0 where
  pub of : (hs : List Float) (t : Table) → Fit cs ps hs es r e k t → Knows k ms (warning_in s) t → ElementEnded cs' ps' hs es' ms' (warning_in s') r e k x (warning_in s) t
  pub indexed : Indexed es' (get_or cs' 1 0) ix'
  pub still : KnownStill ms ms'

-- the memory holds the table, what is known is true of it, and all of a boundary is known
pub record BoundaryKept (cs : List ℕ) (ps hs : List Float) (es ms : List ℕ) (w : Bool) (bs : List ℕ) (k : Cutter) (g : Gathered) (u : Table) : Type 0 where
  pub holds : Holds desk cs ps hs es u
  pub knows : Knows k ms w u
  pub all : KnownTo ms bs (length bs)

-- whatever such table the memory holds: the boundary of element e is asked
abbrev pub BoundaryEnded : List ℕ → List Float → List Float → List ℕ → List ℕ → Bool → ℕ → ℕ → Cutter → Reply (Unit {0}) → Bool → Table → Type 0
BoundaryEnded cs ps hs es ms w r e k x v t =
    Ended (λ g. g.warning) (BoundaryKept cs ps hs es ms w (boundary t e) k) (Holds desk cs ps hs es) t
    (cut_boundary (cut_element desk (cut_of t.dimension k) (r - 1)) (boundary t e) nothing_yet t) x v w

pub record BoundaryCut (cs : List ℕ) (ps : List Float) (es ms : List ℕ) (s : Room) (r e : ℕ) (k : Cutter) (x : Reply (Unit {0}))
    (cs' : List ℕ) (ps' : List Float) (es' ix' ms' : List ℕ) (s' : Room) : Type 0 where
  pub of : (hs : List Float) (t : Table) → Fit cs ps hs es r e k t → Knows k ms (warning_in s) t → BoundaryEnded cs' ps' hs es' ms' (warning_in s') r e k x (warning_in s) t
  pub indexed : Indexed es' (get_or cs' 1 0) ix'
  pub still : KnownStill ms ms'
