-- Two tables that differ by a renumbering of appended elements, and answers that correspond (document 02, order 14). Definitions only.
use Rattle.std.specs.Prelude.{ℕ, ◌≤◌, ◌<◌, ◌≡◌, List, [], ◌∷◌, Option, Some, None}
use Rattle.rules.specs.Lists.{with_member}
use Rattle.rules.specs.Table.{ElementNumber, Element, corner, polytope, Table, element, element_count}
use Rattle.rules.specs.Cut.{given}
use Rattle.rules.specs.declared.ElementCutOutput.{ElementCutOutput}
use Rattle.rules.specs.declared.ElementCutOutput.TheVariants.{Flush, NonFlush}
use Rattle.rules.specs.declared.ElementAnswer.{ElementAnswer}
use Rattle.rules.specs.declared.ElementId.{ElementId}

-- the new numbers of a set, as a set: each member renumbered, and all of them put in rising order again
abbrev pub image : (ElementNumber → ElementNumber) → List ElementNumber → List ElementNumber
image f [] = []
image f (x ∷ xs) = with_member (f x) (image f xs)

-- an element with its boundary renumbered; rank, hyperplane and mark stay, and so does a corner's vertex number
abbrev pub renumbered : (ElementNumber → ElementNumber) → Element → Element
renumbered f (corner v) = corner v
renumbered f (polytope r b h m) = polytope r (image f b) h m

-- a place of an answer, renumbered
abbrev pub renumbered_place : (ElementNumber → ElementNumber) → Option ElementId → Option ElementId
renumbered_place f None = None
renumbered_place f (Some e) = given (f e.0)

-- and as a value
abbrev pub renumbered_value : (ElementNumber → ElementNumber) → Option ElementNumber → Option ElementNumber
renumbered_value f None = None
renumbered_value f (Some e) = Some (f e)

-- two tables that differ by a renumbering of the elements appended to the first `old` ones: the same dimension, vertices and hyperplanes, number for number;
-- f is one to one from the elements of t onto those of u, leaves the old ones and takes appended ones to appended ones, and each element of u is that of t, renumbered
pub record Renumbering (old : ℕ) (t u : Table) (f : ElementNumber → ElementNumber) : Type 0 where
  pub dimension : u.dimension ≡ t.dimension
  pub points : u.points ≡ t.points
  pub planes : u.planes ≡ t.planes
  pub count : element_count u ≡ element_count t
  pub old_stays : (e : ElementNumber) → e < old → f e ≡ e
  pub appended : (e : ElementNumber) → old ≤ e → e < element_count t → old ≤ f e
  pub in_use : (e : ElementNumber) → e < element_count t → f e < element_count u
  pub once : (e e' : ElementNumber) → e < element_count t → e' < element_count t → f e ≡ f e' → e ≡ e'
  pub onto : (x : ElementNumber) → x < element_count u → (e : ElementNumber) × (e < element_count t) × (f e ≡ x)
  pub elements : (e : ElementNumber) → e < element_count t → element u (f e) ≡ renumbered f (element t e)

-- the slice's output, and those of the carvings for the inside and for the outside: Flush all three; or the inside of the first carving, the outside of the second
-- and the intersection of both are the slice's, renumbered, and the removed sides are none
abbrev pub Corresponds : (ElementNumber → ElementNumber) → ElementCutOutput → ElementCutOutput → ElementCutOutput → Type 0
Corresponds f Flush a b = (a ≡ Flush) × (b ≡ Flush)
Corresponds f (NonFlush i o x) a b =
    (a ≡ NonFlush (renumbered_place f i) None (renumbered_place f x)) × (b ≡ NonFlush None (renumbered_place f o) (renumbered_place f x))

-- and the three have one warning
pub record AnswersCorrespond (f : ElementNumber → ElementNumber) (slice inside outside : ElementAnswer) : Type 0 where
  pub outputs : Corresponds f slice.output inside.output outside.output
  pub inside_warning : inside.warning ≡ slice.warning
  pub outside_warning : outside.warning ≡ slice.warning
