-- The walk along some edges, from the lowest of their corners, and whether they make one ring (document 02, order 4). Definitions only.
use Rattle.std.specs.Prelude.{ℕ, zero, suc, Bool, not, ◌&&◌, List, [], ◌∷◌, map, ltb, eqb, length, get_or, if◌then◌else◌}
use Rattle.rules.specs.Lists.{all, keep, joined, member, occurrences}
use Rattle.rules.specs.Table.{ElementNumber, Table, boundary}

-- ---- corners and edges

-- the ends of some edges, each as often as an edge has it
abbrev pub ends_of : Table → List ElementNumber → List ElementNumber
ends_of t edges = joined (map (boundary t) edges)

-- the edges among some that have the corner v as an end
abbrev pub edges_at : Table → ElementNumber → List ElementNumber → List ElementNumber
edges_at t v es = keep (λ e. member v (boundary t e)) es

-- the other end of an edge
abbrev pub other_end : Table → ElementNumber → ElementNumber → ElementNumber
other_end t v e = let a = get_or (boundary t e) 0 0 in if eqb a v then get_or (boundary t e) 1 0 else a

-- the other edge at the corner w
abbrev pub other_edge : Table → ElementNumber → ElementNumber → List ElementNumber → ElementNumber
other_edge t w e es = get_or (keep (λ x. not (eqb x e)) (edges_at t w es)) 0 0

-- ---- the walk

-- from v by the edge e, until the corner start is met again: each edge taken, and the corner that it leads to; at most n of them
unfoldable pub walk : ℕ → Table → List ElementNumber → ElementNumber → ElementNumber → ElementNumber → List (ElementNumber × ElementNumber)
walk zero t es start v e = []
walk (suc n) t es start v e =
    let w = other_end t v e in
    let rest = walk n t es start w (other_edge t w e es) in
    (e, w) ∷ (if eqb w start then [] else rest)

-- of the two edges at the corner v, the one to the lower neighbour; of two edges to one neighbour, the first
abbrev pub first_edge : Table → ElementNumber → List ElementNumber → ElementNumber
first_edge t v es =
    let a = get_or (edges_at t v es) 0 0 in
    let b = get_or (edges_at t v es) 1 0 in
    if ltb (other_end t v b) (other_end t v a) then b else a

-- the lowest of some numbers
abbrev pub lowest_of : List ℕ → ℕ
lowest_of [] = 0
lowest_of (x ∷ []) = x
lowest_of (x ∷ y ∷ ys) = let r = lowest_of (y ∷ ys) in if ltb x r then x else r

-- where the walk starts: the lowest corner that the edges meet
abbrev pub start_of : Table → List ElementNumber → ElementNumber
start_of t es = lowest_of (ends_of t es)

-- the walk from there, first to the lower of its two neighbours, for as many steps as there are edges
abbrev pub around : Table → List ElementNumber → List (ElementNumber × ElementNumber)
around t es = walk (length es) t es (start_of t es) (start_of t es) (first_edge t (start_of t es) es)

-- every edge is taken once
abbrev pub each_once : List ElementNumber → List (ElementNumber × ElementNumber) → Bool
each_once es steps = all (λ e. eqb (occurrences e (map (λ (s : ElementNumber × ElementNumber). s.0) steps)) 1) es

-- ---- one ring

-- each corner met lies on exactly two of the edges
abbrev pub each_twice : Table → List ElementNumber → Bool
each_twice t es = all (λ v. eqb (occurrences v (ends_of t es)) 2) (ends_of t es)

-- the edges make one ring: no corner but with two of them, and the walk takes every edge once
abbrev pub one_ring : Table → List ElementNumber → Bool
one_ring t es = each_twice t es && each_once es (around t es)
