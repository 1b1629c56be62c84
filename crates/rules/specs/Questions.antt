-- Document 01, "Questions", on a sound table with element numbers in use. Definitions only.
use Rattle.std.specs.Prelude.{ℕ, zero, suc, Bool, not, ◌&&◌, ◌||◌, List, [], ◌∷◌, map, eqb, if◌then◌else◌}
use Rattle.rules.specs.Lists.{all, any, keep, up_to}
use Rattle.rules.specs.Table.{ElementNumber, VertexNumber, Table, is_primordial, vertex_of, element, rank, boundary, element_count}
use Rattle.rules.specs.Walk.{start_of, around, each_once}
use Rattle.rules.specs.declared.Refusal.{Refusal}
use Rattle.rules.specs.declared.Refusal.TheVariants.{NotClosed, Rank}

-- an answer, or a refusal
pub data Asked (A : Type 0) : Type 0 where
  no_answer : Refusal → Asked A
  answer : A → Asked A

-- ---- sub-elements: the root and all below it, vertices too, rising

-- x is the element e of rank r, or is reached from one of its boundary
unfoldable pub reaches : Table → ℕ → ElementNumber → ElementNumber → Bool
reaches t zero e x = eqb e x
reaches t (suc r) e x = eqb e x || any (λ b. reaches t r b x) (boundary t e)

abbrev pub is_below : Table → ElementNumber → ElementNumber → Bool
is_below t e x = reaches t (rank t e) e x

unfoldable pub sub_elements : Table → ElementNumber → List ElementNumber
sub_elements t e = keep (is_below t e) (up_to (element_count t))

-- with a rank: those of that rank, if any
unfoldable pub with_rank : Table → ℕ → ElementNumber → List ElementNumber
with_rank t k e = keep (λ x. eqb (rank t x) k) (sub_elements t e)

-- rising, since vertex elements name vertices in order
unfoldable pub vertex_set : Table → ElementNumber → List VertexNumber
vertex_set t e = map (λ x. vertex_of (element t x)) (with_rank t 0 e)

-- ---- greatest common of a list, repeats allowed

-- the elements of rank k that are common to all
unfoldable pub common_with_rank : Table → ℕ → List ElementNumber → List ElementNumber
common_with_rank t k es = keep (λ x. eqb (rank t x) k && all (λ e. is_below t e x) es) (up_to (element_count t))

-- the first list if it has some, else the second
abbrev pub some_or : List ElementNumber → List ElementNumber → List ElementNumber
some_or [] lower = lower
some_or (x ∷ xs) lower = x ∷ xs

-- down rank by rank from r until some element is common to all; rank 0 is never looked at
unfoldable pub greatest_from : Table → ℕ → List ElementNumber → List ElementNumber
greatest_from t zero es = []
greatest_from t (suc r) es = let lower = greatest_from t r es in some_or (common_with_rank t (suc r) es) lower

-- all of one rank, else 6; an empty input is 6
unfoldable pub greatest_common : Table → List ElementNumber → Asked (List ElementNumber)
greatest_common t [] = no_answer Rank
greatest_common t (e ∷ es) =
    if all (λ x. eqb (rank t x) (rank t e)) es then answer (greatest_from t (rank t e) (e ∷ es)) else no_answer Rank

-- ---- edges in order, of a rank-2 element

-- the steps as pairs of vertex numbers, the first from the corner v
abbrev pub pairs : Table → ElementNumber → List (ElementNumber × ElementNumber) → List (VertexNumber × VertexNumber)
pairs t v [] = []
pairs t v (s ∷ ss) = (vertex_of (element t v), vertex_of (element t s.1)) ∷ pairs t s.1 ss

-- from the lowest vertex, first to the lower of its two neighbours, round to the start; 6 unless the rank is 2, 7 unless the walk takes every edge once
-- (7 is what document 01 says for any face; no face of a sound table gives it: Promises, `FaceIsWalked`)
unfoldable pub edges_in_order : Table → ElementNumber → Asked (List (VertexNumber × VertexNumber))
edges_in_order t f =
    let es = boundary t f in
    let steps = around t es in
    if not (eqb (rank t f) 2) then no_answer Rank else if each_once es steps then answer (pairs t (start_of t es) steps) else no_answer NotClosed

-- ---- primordial facet: of an element of full rank, else 6

unfoldable pub primordial_facet : Table → ElementNumber → Asked Bool
primordial_facet t e =
    if eqb (rank t e) t.dimension then answer (any (λ b. is_primordial (element t b)) (boundary t e)) else no_answer Rank
