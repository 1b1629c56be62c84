-- What is promised of the six questions: what each answer is, without the way it is found. Definitions only.
use Rattle.std.specs.Prelude.{ℕ, zero, suc, ◌<◌, ◌≡◌, Bool, true, false, List, [], ◌∷◌, eqb, ltb, length, get_or, Some}
use Rattle.rules.specs.Limits.{Limits}
use Rattle.rules.specs.Lists.{all, any, member, occurrences, rises}
use Rattle.rules.specs.Table.{ElementNumber, VertexNumber, Table, vertex_of, element, rank, boundary, element_count}
use Rattle.rules.specs.Sound.{sound}
use Rattle.rules.specs.Memory.{Memory, decode, sound_memory}
use Rattle.rules.specs.Questions.{answer, is_below, vertex_set, greatest_common, edges_in_order}
use Rattle.rules.specs.Replies.{facet_value, primordial_facet_reply}

-- the n-th boundary element of x
abbrev pub border : Table → ElementNumber → ℕ → ElementNumber
border t x n = get_or (boundary t x) n 0

-- x is e, or is reached from a boundary element of e
pub data Reaches (t : Table) : ElementNumber → ElementNumber → Type 0 where
  itself : (e : ElementNumber) → Reaches t e e
  lower : (e n x : ElementNumber) → n < length (boundary t e) → Reaches t (border t e n) x → Reaches t e x

-- the root and all below it
abbrev pub SubElementsAreReached : Limits → Type 0
SubElementsAreReached L = (t : Table) → sound L t ≡ true → (e x : ElementNumber) → e < element_count t
    → (is_below t e x ≡ true → Reaches t e x) × (Reaches t e x → is_below t e x ≡ true)

-- the least set that holds the root and, with an element, its boundary; all of it but the root is earlier than the root
pub record LeastSet (t : Table) (e : ElementNumber) : Type 0 where
  pub root : is_below t e e ≡ true
  pub closed : (x n : ElementNumber) → is_below t e x ≡ true → n < length (boundary t x) → is_below t e (border t x n) ≡ true
  pub least : (S : ElementNumber → Bool) → S e ≡ true → ((x n : ElementNumber) → S x ≡ true → n < length (boundary t x) → S (border t x n) ≡ true)
      → (x : ElementNumber) → is_below t e x ≡ true → S x ≡ true
  pub earlier : (x : ElementNumber) → is_below t e x ≡ true → (x ≡ e → ⊥) → x < e

abbrev pub SubElementsAreLeast : Limits → Type 0
SubElementsAreLeast L = (t : Table) → sound L t ≡ true → (e : ElementNumber) → e < element_count t → LeastSet t e

-- the recursion of the Rust: a vertex element gives its vertex, any other element the union over its boundary
unfoldable pub vertex_below : Table → ℕ → ElementNumber → VertexNumber → Bool
vertex_below t zero e v = eqb v (vertex_of (element t e))
vertex_below t (suc r) e v = any (λ b. vertex_below t r b v) (boundary t e)

abbrev pub VertexSetIsTheUnion : Limits → Type 0
VertexSetIsTheUnion L = (t : Table) → sound L t ≡ true → (e : ElementNumber) (v : VertexNumber) → e < element_count t
    → member v (vertex_set t e) ≡ vertex_below t (rank t e) e v

abbrev pub VertexSetRises : Limits → Type 0
VertexSetRises L = (t : Table) → sound L t ≡ true → (e : ElementNumber) → rises (vertex_set t e) ≡ true

-- below every input
abbrev pub is_common : Table → List ElementNumber → ElementNumber → Bool
is_common t es x = all (λ e. is_below t e x) es

-- members are common, of one rank, and all of it; no common element has a higher rank; where there are none, that rank is 0
pub record Greatest (t : Table) (es xs : List ElementNumber) : Type 0 where
  pub level : ℕ
  pub common : (x : ElementNumber) → member x xs ≡ true → (x < element_count t) × (rank t x ≡ level) × (is_common t es x ≡ true)
  pub whole : (x : ElementNumber) → x < element_count t → 0 < rank t x → rank t x ≡ level → is_common t es x ≡ true → member x xs ≡ true
  pub highest : (x : ElementNumber) → x < element_count t → level < rank t x → is_common t es x ≡ true → ⊥

abbrev pub CommonAreGreatest : Limits → Type 0
CommonAreGreatest L = (t : Table) → sound L t ≡ true → (es xs : List ElementNumber) → all (λ e. ltb e (element_count t)) es ≡ true
    → greatest_common t es ≡ answer xs → Greatest t es xs

-- an edge taken from a vertex to a vertex: they are the two ends of its boundary, one way or the other
pub data Runs (t : Table) (e : ElementNumber) : VertexNumber → VertexNumber → Type 0 where
  forth : Runs t e (vertex_of (element t (border t e 0))) (vertex_of (element t (border t e 1)))
  back : Runs t e (vertex_of (element t (border t e 1))) (vertex_of (element t (border t e 0)))

-- as many pairs as edges, and each pair is the two vertices of the edge in its place
abbrev pub Paired : Table → List ElementNumber → List (VertexNumber × VertexNumber) → Type 0
Paired t [] [] = Unit {0}
Paired t [] (p ∷ ps) = ⊥
Paired t (e ∷ es) [] = ⊥
Paired t (e ∷ es) (p ∷ ps) = Runs t e p.0 p.1 × Paired t es ps

-- from the vertex a by these pairs to the vertex b: each pair starts where the one before ended
abbrev pub Chain : VertexNumber → List (VertexNumber × VertexNumber) → VertexNumber → Type 0
Chain a [] b = a ≡ b
Chain a (p ∷ ps) b = (p.0 ≡ a) × Chain p.1 ps b

-- the lowest vertex of an element: the first of its vertex set, which rises
abbrev pub lowest : Table → ElementNumber → VertexNumber
lowest t e = get_or (vertex_set t e) 0 0

-- the edges in the order taken are the face's, each once; the pairs are their vertices, one after another, from the lowest vertex round to it
pub record Walked (t : Table) (f : ElementNumber) (ps : List (VertexNumber × VertexNumber)) : Type 0 where
  pub edges : List ElementNumber
  pub once : (e : ElementNumber) → member e (boundary t f) ≡ true → occurrences e edges ≡ 1
  pub own : (e : ElementNumber) → member e edges ≡ true → member e (boundary t f) ≡ true
  pub ends : Paired t edges ps
  pub round : Chain (lowest t f) ps (lowest t f)

-- a walk that is answered goes round the face
abbrev pub WalkGoesRound : Limits → Type 0
WalkGoesRound L = (t : Table) → sound L t ≡ true → (f : ElementNumber) (ps : List (VertexNumber × VertexNumber)) → f < element_count t
    → edges_in_order t f ≡ answer ps → Walked t f ps

-- always no in one dimension
abbrev pub NoFacetInOneDimension : Limits → Type 0
NoFacetInOneDimension L = (m : Memory) → sound_memory L m ≡ true → (decode L m).dimension ≡ 1
    → (e : ElementNumber) → e < element_count (decode L m) → rank (decode L m) e ≡ 1 → facet_value (primordial_facet_reply L m e) ≡ Some false
