-- The walk round a face over the words of the lent memory: the rules' own for a face that is one ring, with the ends of an edge read from its row. Definitions only.
use Rattle.std.specs.Prelude.{ℕ, zero, suc, ◌+◌, ◌*◌, ◌<◌, ◌≤◌, Bool, not, ◌&&◌, ◌||◌, ◌≡◌, List, [], ◌∷◌, ltb, eqb, length, get_or, if◌then◌else◌}
use Rattle.rules.specs.Lists.{keep}
use Rattle.rules.specs.Held.{AllOf}
use Rattle.space.specs.Ready.{ElementReady}
use Rattle.walk.specs.Boundaries.{row_boundary, BoundaryFits}

-- ---- an edge's two ends

abbrev pub low_end : List ℕ → ℕ → ℕ
low_end es x = get_or es (x * 36 + 4) 0

abbrev pub high_end : List ℕ → ℕ → ℕ
high_end es x = get_or es (x * 36 + 5) 0

abbrev pub has_end : List ℕ → ℕ → ℕ → Bool
has_end es v x = eqb v (low_end es x) || eqb v (high_end es x)

-- the end that is not v
abbrev pub end_across : List ℕ → ℕ → ℕ → ℕ
end_across es v x = if eqb (low_end es x) v then high_end es x else low_end es x

-- the first edge at the corner v that is not e, or 0
unfoldable pub edge_beside : List ℕ → ℕ → ℕ → List ℕ → ℕ
edge_beside es e v xs = get_or (keep (λ x. not (eqb x e) && has_end es v x) xs) 0 0

-- ---- where the walk begins

abbrev pub lower : ℕ → ℕ → ℕ
lower a b = if ltb b a then b else a

-- the lowest of m and of the edges' first ends, which are the lower ones
unfoldable pub lowest_end : List ℕ → ℕ → List ℕ → ℕ
lowest_end es m [] = m
lowest_end es m (x ∷ xs) = lowest_end es (lower m (low_end es x)) xs

-- no element has this number
abbrev pub no_edge : ℕ
no_edge = 65535

-- of the edges a and b at the corner v, the one to the lower corner
abbrev pub lower_way : List ℕ → ℕ → ℕ → ℕ → ℕ
lower_way es v a b = if ltb (end_across es v b) (end_across es v a) then b else a

unfoldable pub first_way : List ℕ → ℕ → List ℕ → ℕ
first_way es v xs = lower_way es v (edge_beside es no_edge v xs) (edge_beside es (edge_beside es no_edge v xs) v xs)

-- ---- the walk

-- from v by the edge e, n steps: two vertex numbers for each
unfoldable pub numbers_from : ℕ → List ℕ → List ℕ → ℕ → ℕ → List ℕ
numbers_from zero es xs v e = []
numbers_from (suc n) es xs v e =
    let w = end_across es v e in
    get_or es (v * 36 + 4) 0 ∷ get_or es (w * 36 + 4) 0 ∷ numbers_from n es xs w (edge_beside es e w xs)

-- round the face f: as many steps as it has edges, which lead round a ring, and no further
abbrev pub numbers_round : List ℕ → ℕ → ℕ → ℕ → List ℕ
numbers_round es f v e = numbers_from (length (row_boundary es f)) es (row_boundary es f) v e

-- from the lowest corner, first to its lower neighbour
unfoldable pub words_in_order : List ℕ → List ℕ → List ℕ
words_in_order es xs = numbers_from (length xs) es xs (lowest_end es no_edge xs) (first_way es (lowest_end es no_edge xs) xs)

-- ---- what the walk needs

-- an end of edge e is read
pub record EndReady (es : List ℕ) (e i : ℕ) : Type 0 where
  pub edge : ElementReady es e
  pub end : i < 2

-- r is the number in the row of the vertex element v
pub record VertexOf (es : List ℕ) (v r : ℕ) : Type 0 where
  pub named : r ≡ low_end es v
  pub small : r < 65536

-- an edge and its ends are numbers within the room
pub record EdgeFits (es : List ℕ) (x : ℕ) : Type 0 where
  pub used : x < 512
  pub first : low_end es x < 512
  pub second : high_end es x < 512

-- so are those of a face; row 0 is read where a corner has no other edge
pub record FaceFits (es : List ℕ) (f : ℕ) : Type 0 where
  pub bounds : BoundaryFits es f
  pub edges : AllOf (EdgeFits es) (row_boundary es f)
  pub none : EdgeFits es 0
  pub start : lowest_end es no_edge (row_boundary es f) < 512

-- and a list has room for all its numbers
pub record ListFits (es : List ℕ) (f : ℕ) (room : List ℕ) : Type 0 where
  pub face : FaceFits es f
  pub enough : 2 * length (row_boundary es f) ≤ length room

-- and the corner and the edge that the walk begins with are numbers within the room
pub record WalkFits (es : List ℕ) (f start first : ℕ) (room : List ℕ) : Type 0 where
  pub face : FaceFits es f
  pub corner : start < 512
  pub edge : EdgeFits es first
  pub enough : 2 * length (row_boundary es f) ≤ length room
