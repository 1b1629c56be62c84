-- For contracts over the lent memory: when one table goes on from another, what the memory holds of a table, and what code did of a step. Definitions only.
-- Nothing here is needed to read the rules; it stands in specs/ because contracts cite only that.
use Rattle.std.specs.Prelude.{ℕ, suc, ◌*◌, ◌≤◌, ◌<◌, ◌≡◌, Bool, true, not, ◌&&◌, List, [], ◌∷◌, ◌++◌, map, leb, eqb, length, Float, Option, Some, None}
use Rattle.rules.specs.Limits.{Limits, no_plane}
use Rattle.rules.specs.Lists.{all, pad, joined, rises}
use Rattle.rules.specs.Floats.{plus_zero}
use Rattle.rules.specs.Table.{Element, corner, polytope, Table, rank, element_count}
use Rattle.rules.specs.Sound.{names_none}
use Rattle.rules.specs.Memory.{Memory, plane_number, element_row, plane_row, element_width, plane_width}
use Rattle.rules.specs.Cut.{Outcome, refused, done, Gathered}
use Rattle.rules.specs.declared.ElementCutOutput.{ElementCutOutput}
use Rattle.rules.specs.declared.ElementCutOutput.TheVariants.{Flush, NonFlush}
use Rattle.rules.specs.declared.ElementAnswer.{ElementAnswer}
use Rattle.rules.specs.declared.ElementId.{ElementId}
use Rattle.rules.specs.declared.Refusal.{Refusal}

-- ---- one list goes on from another, and one table from another

abbrev pub Begins : {A : Type 0} → List A → List A → Type 0
Begins {A} xs ys = (zs : List A) × (ys ≡ xs ++ zs)

pub record Extends (old new : Table) : Type 0 where
  pub dimension : new.dimension ≡ old.dimension
  pub points : Begins old.points new.points
  pub elements : Begins old.elements new.elements
  pub planes : Begins old.planes new.planes

-- ---- rows laid out one after another, in a room filled up with z

module _ {A B : Type 0} where
  abbrev pub laid : B → ℕ → (A → List B) → List A → List B
  laid z room f xs = pad z room (joined (map f xs))

-- every row has one width
abbrev pub Wide : {A : Type 0} → ℕ → List (List A) → Type 0
Wide w [] = Unit {0}
Wide w (x ∷ xs) = (length x ≡ w) × Wide w xs

abbrev pub element_words : Limits → Element → List ℕ
element_words L e = pad 0 (element_width L) (element_row e)

-- an element whose row is its own and fits its width
abbrev pub fitting : Limits → Element → Bool
fitting L (corner v) = true
fitting L (polytope r b h m) = leb 1 r && leb (length b) L.boundary && not (eqb (plane_number h) no_plane && not (names_none h))

-- what fits the room: counts, and every row; weaker than sound
pub record Fits (L : Limits) (t : Table) : Type 0 where
  pub element_room : element_count t ≤ L.elements
  pub point_room : length t.points ≤ L.vertices
  pub plane_room : length t.planes ≤ L.hyperplanes
  pub elements : Wide (element_width L) (map (element_words L) t.elements)
  pub kinds : all (fitting L) t.elements ≡ true
  pub points : Wide L.dimensions (map (pad plus_zero L.dimensions) t.points)
  pub planes : Wide (plane_width L) (map (plane_row L) t.planes)

-- ---- the four slices of a table

unfoldable pub counts_of : Table → List ℕ
counts_of t = t.dimension ∷ element_count t ∷ length t.points ∷ length t.planes ∷ []

unfoldable pub elements_of : Limits → Table → List ℕ
elements_of L t = laid 0 (L.elements * element_width L) (element_words L) t.elements

unfoldable pub points_of : Limits → Table → List Float
points_of L t = laid plus_zero (L.vertices * L.dimensions) (pad plus_zero L.dimensions) t.points

unfoldable pub planes_of : Limits → Table → List Float
planes_of L t = laid plus_zero (L.hyperplanes * plane_width L) (plane_row L) t.planes

-- the four slices as one memory
abbrev pub memory_of : List ℕ → List Float → List Float → List ℕ → Memory
memory_of cs ps hs es = record { counts = cs; points = ps; planes = hs; elements = es }

-- the memory holds a table that fits
pub record Holds (L : Limits) (cs : List ℕ) (ps hs : List Float) (es : List ℕ) (t : Table) : Type 0 where
  pub counts : cs ≡ counts_of t
  pub points : ps ≡ points_of L t
  pub planes : hs ≡ planes_of L t
  pub elements : es ≡ elements_of L t
  pub fits : Fits L t

-- ---- what code did of a step

-- the step's value, in a reply of its own, and the memory of the table that it gives; or its refusal, and the memory of some table that goes on from the one before
pub data Came {A R : Type 0} (made : A → R) (no : Refusal → R) (H : Table → Type 0) (t : Table) (o : Outcome A) (r : R) : Type 0 where
  went : (a : A) (u : Table) → o ≡ done a u → r ≡ made a → H u → Came made no H t o r
  stopped : (n : Refusal) (u : Table) → o ≡ refused n → r ≡ no n → Extends t u → H u → Came made no H t o r

-- ---- sets of elements in use, of one rank: each member's rank is one less than q

abbrev pub Ranked : Table → ℕ → ℕ → Type 0
Ranked t q x = (x < element_count t) × (suc (rank t x) ≡ q)

abbrev pub AllOf : (ℕ → Type 0) → List ℕ → Type 0
AllOf P [] = Unit {0}
AllOf P (x ∷ xs) = P x × AllOf P xs

pub record SetOf (t : Table) (q : ℕ) (s : List ℕ) : Type 0 where
  pub rising : rises s ≡ true
  pub ranked : AllOf (Ranked t q) s

-- an element of such a rank, or none
abbrev pub SomeOf : ℕ → Option ElementId → Table → Type 0
SomeOf q None t = Unit {0}
SomeOf q (Some e) t = Ranked t q e.0

-- what is gathered from the boundary of an element of rank r + 1
pub record Sets (r : ℕ) (g : Gathered) (t : Table) : Type 0 where
  pub flush : AllOf (Ranked t (suc r)) g.flush
  pub inside : SetOf t (suc r) g.inside
  pub outside : SetOf t (suc r) g.outside
  pub intersections : SetOf t r g.intersections

-- the output of an element of rank r: two elements of rank r or none, and one of the rank below or none
abbrev pub OutputOf : ℕ → ElementCutOutput → Table → Type 0
OutputOf r Flush t = Unit {0}
OutputOf r (NonFlush i o x) t = SomeOf (suc r) i t × SomeOf (suc r) o t × SomeOf r x t

-- its answer, whatever the warning
abbrev pub AnswerOf : ℕ → ElementAnswer → Table → Type 0
AnswerOf r a t = OutputOf r a.output t
