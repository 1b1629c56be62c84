-- One ring of edges, in words without a start or a direction, and what is promised of faces (document 02, order 4). Definitions only.
use Rattle.std.specs.Prelude.{◌<◌, ◌≡◌, Bool, true, ◌&&◌, List, eqb, ltb}
use Rattle.rules.specs.Limits.{Limits}
use Rattle.rules.specs.Lists.{all, member, occurrences, rises}
use Rattle.rules.specs.Table.{ElementNumber, VertexNumber, Table, boundary, element_count, rank}
use Rattle.rules.specs.Walk.{ends_of}
use Rattle.rules.specs.Sound.{sound, closed}
use Rattle.rules.specs.Questions.{answer, edges_in_order}

-- the edges of a face hang together: a set that holds one of them, and with an edge each one that shares a corner with it, holds all
abbrev pub HangTogether : Table → List ElementNumber → Type 0
HangTogether t es = (S : ElementNumber → Bool) (e : ElementNumber) → member e es ≡ true → S e ≡ true
    → ((x y v : ElementNumber) → member x es ≡ true → member y es ≡ true
    → member v (boundary t x) ≡ true → member v (boundary t y) ≡ true → S x ≡ true → S y ≡ true)
    → (x : ElementNumber) → member x es ≡ true → S x ≡ true

-- one ring, said without a walk: each corner met lies on exactly two of the edges, and they hang together
pub record Ring (t : Table) (es : List ElementNumber) : Type 0 where
  pub twice : (v : ElementNumber) → member v (ends_of t es) ≡ true → occurrences v (ends_of t es) ≡ 2
  pub together : HangTogether t es

-- the rule of rank 2, and test 7, is this and nothing else, for any edges of a sound table: where the walk starts, and which way it goes, does not matter
abbrev pub RuleIsOneRing : Limits → Type 0
RuleIsOneRing L = (t : Table) → sound L t ≡ true → (es : List ElementNumber) → rises es ≡ true
    → all (λ e. ltb e (element_count t) && eqb (rank t e) 1) es ≡ true
    → (closed t 2 es ≡ true → Ring t es) × (Ring t es → closed t 2 es ≡ true)

-- so a face of a sound table is one ring
abbrev pub FaceIsOneRing : Limits → Type 0
FaceIsOneRing L = (t : Table) → sound L t ≡ true → (f : ElementNumber) → f < element_count t → rank t f ≡ 2 → Ring t (boundary t f)

-- and it is walked, with an answer and never 7
abbrev pub FaceIsWalked : Limits → Type 0
FaceIsWalked L = (t : Table) → sound L t ≡ true → (f : ElementNumber) → f < element_count t → rank t f ≡ 2
    → (ps : List (VertexNumber × VertexNumber)) × (edges_in_order t f ≡ answer ps)
