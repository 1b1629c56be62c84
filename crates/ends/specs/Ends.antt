-- What rules 3 and 4 do: the cut of a vertex, and of an edge by its two ends. Definitions only.
use Rattle.std.specs.Prelude.{ℕ, ◌+◌, ◌*◌, ◌<◌, ◌≡◌, true, ◌||◌, List, [], ◌∷◌, length, get_or, Float, Some, Err}
use Rattle.rules.specs.Limits.{desk}
use Rattle.rules.specs.Lists.{pad}
use Rattle.rules.specs.Floats.{plus_zero, side_test, crossing_point}
use Rattle.rules.specs.Table.{Table, Element, element, point_at}
use Rattle.rules.specs.Sound.{sound_point}
use Rattle.rules.specs.Held.{Holds, Came, Sets}
use Rattle.rules.specs.Cut.{Outcome, next, Cutting, Gathered, corner_answer, distance_of, gathering, nothing_yet, cross_edge, rule6}
use Rattle.rules.specs.declared.ElementCutOutput.{ElementCutOutput}
use Rattle.rules.specs.declared.ElementAnswer.{ElementAnswer}
use Rattle.space.specs.Chains.{Indexed}
use Rattle.space.specs.Shared.{stored_point}
use Rattle.gathered.specs.Sets.{Gathers, Sized, Used, warning_in}
use Rattle.gathered.specs.declared.sets.Room.{Room}
use Rattle.gathered.specs.Cutting.{Fit, cut_of, answered_by}
use Rattle.rules.specs.declared.Cutter.{Cutter}
use Rattle.ends.specs.declared.EdgeEnds.{EdgeEnds}
use Rattle.ends.specs.Elements.{Ready}
use Rattle.rules.specs.Refusals.{Reply}

-- ---- a vertex

-- element e, and the vertex that its row names, are within the room
pub record PointAsked (ps : List Float) (es : List ℕ) (e : ℕ) : Type 0 where
  pub points : length ps ≡ 1024
  pub elements : length es ≡ 18432
  pub low : e < 512
  pub vertex : get_or es (e * 36 + 4) 0 < 256

-- there is a table that may be cut, in which element e is a vertex, and the room
pub record CornerReady (cs : List ℕ) (ps : List Float) (es : List ℕ) (e : ℕ) (k : Cutter) (s : Room) : Type 0 where
  pub ready : Ready cs ps es 0 e k

-- what the rules answer for vertex e of table t
abbrev pub corner_at : Cutter → Table → ℕ → ElementAnswer
corner_at k t e = corner_answer e (side_test (distance_of (cut_of t.dimension k) (point_at t e)))

-- whatever table that may be cut the memory holds, in which element e is a vertex: its answer, and the cut's warning with its own
pub record CornerCut (cs : List ℕ) (ps : List Float) (es : List ℕ) (e : ℕ) (k : Cutter) (s : Room) (r : ElementCutOutput) (s' : Room) : Type 0 where
  pub of : (hs : List Float) (t : Table) → Fit cs ps hs es 0 e k t → r ≡ (corner_at k t e).output
  pub warning : (hs : List Float) (t : Table) → Fit cs ps hs es 0 e k t → warning_in s' ≡ (warning_in s || (corner_at k t e).warning)

-- ---- the two ends of an edge

-- there is a table that may be cut, in which element e is an edge
pub record EndsReady (ps : List Float) (es : List ℕ) (e : ℕ) : Type 0 where
  pub counts : List ℕ
  pub planes : List Float
  pub cutter : Cutter
  pub table : Table
  pub fit : Fit counts ps planes es 1 e cutter table

-- the two numbers of its row, and the point of each
pub record EndsRead (ps : List Float) (es : List ℕ) (e : ℕ) (r : EdgeEnds) : Type 0 where
  pub first : r.a.0 ≡ get_or es (e * 36 + 4) 0
  pub second : r.b.0 ≡ get_or es (e * 36 + 5) 0
  pub first_point : r.p ≡ stored_point ps (get_or es (r.a.0 * 36 + 4) 0)
  pub second_point : r.q ≡ stored_point ps (get_or es (r.b.0 * 36 + 4) 0)

-- both ends fit a word, and the room is there, whatever it holds
pub record EndsAsked (a b : ℕ) (s : Room) : Type 0 where
  pub first : a < 512
  pub second : b < 512

-- what the ends a and b answer, gathered
abbrev pub ends_of : ℕ → ℕ → Float → Float → Gathered
ends_of a b sa sb = gathering b (corner_answer b (side_test sb)) (gathering a (corner_answer a (side_test sa)) nothing_yet)

-- the room holds what the two ends answer, and the cut's warning as it was
pub record EndsGathered (a b : ℕ) (sa sb : Float) (s r : Room) : Type 0 where
  pub of : Gathers r (ends_of a b sa sb)
  pub sized : Sized r 2
  pub warning : warning_in r ≡ warning_in s

-- ---- a crossing

-- what is gathered, with vertex element v as the flush one
abbrev pub crossed_of : ℕ → Gathered → Gathered
crossed_of v g = record { flush = v ∷ []; inside = g.inside; outside = g.outside; intersections = g.intersections; warning = g.warning }

-- once the ends of element y are gathered: rule 6
abbrev pub after_ends : Cutting → Element → Outcome Gathered → Outcome ElementAnswer
after_ends c y o = next o (λ g. rule6 desk c y g g.flush)

-- in a table that may be cut, x is the point at parameter f of an edge with ends at p and q, and the room holds what the ends answered
pub record CrossedFit (cs : List ℕ) (ps hs : List Float) (es : List ℕ) (e : ℕ) (k : Cutter) (s : Room) (x : List Float) (t : Table)
    (p q : List Float) (f : Float) (g : Gathered) : Type 0 where
  pub fit : Fit cs ps hs es 1 e k t
  pub point : x ≡ pad plus_zero 4 (crossing_point f p q)
  pub first : sound_point t.dimension p ≡ true
  pub second : sound_point t.dimension q ≡ true
  pub gathers : Gathers s g
  pub sized : Sized s 2
  pub sets : Sets 0 g t

-- there is such a table
pub record CrossedReady (cs : List ℕ) (ps : List Float) (es : List ℕ) (e : ℕ) (k : Cutter) (s : Room) (x : List Float) : Type 0 where
  pub planes : List Float
  pub table : Table
  pub low : List Float
  pub high : List Float
  pub parameter : Float
  pub gathered : Gathered
  pub fit : CrossedFit cs ps planes es e k s x table low high parameter gathered

-- whatever such table the memory holds: the crossing is matched or appended, and then rule 6
pub record CrossedCut (cs : List ℕ) (ps : List Float) (es : List ℕ) (e : ℕ) (k : Cutter) (s : Room) (x : List Float) (y : Reply ElementCutOutput)
    (cs' : List ℕ) (ps' : List Float) (es' : List ℕ) : Type 0 where
  pub of : (hs : List Float) (t : Table) (p q : List Float) (f : Float) (g : Gathered) → CrossedFit cs ps hs es e k s x t p q f g
      → Came answered_by Err (Holds desk cs' ps' hs es') t (after_ends (cut_of t.dimension k) (element t e) (cross_edge desk p q (Some f) g t)) y

-- such a memory, with its rows indexed
pub record CrossedAsked (cs : List ℕ) (ps : List Float) (es ix : List ℕ) (e : ℕ) (k : Cutter) (s : Room) (x : List Float) : Type 0 where
  pub ready : CrossedReady cs ps es e k s x
  pub indexed : Indexed es (get_or cs 1 0) ix

-- what stands afterwards, its rows indexed as well, and the room with the cut's warning as it was
pub record CrossedLeft (cs : List ℕ) (ps : List Float) (es : List ℕ) (e : ℕ) (k : Cutter) (s : Room) (x : List Float) (y : Reply ElementCutOutput)
    (cs' : List ℕ) (ps' : List Float) (es' ix' : List ℕ) (s' : Room) : Type 0 where
  pub cut : CrossedCut cs ps es e k s x y cs' ps' es'
  pub indexed : Indexed es' (get_or cs' 1 0) ix'
  pub used : Used s s'
