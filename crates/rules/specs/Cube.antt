-- Document 01, "The primordial cube". Definitions only.
use Rattle.std.specs.Prelude.{ℕ, zero, suc, ◌+◌, ◌*◌, ◌^◌, ◌/◌, ◌%◌, Bool, not, ◌&&◌, List, [], ◌∷◌, ◌++◌, map, eqb, length, Float, if◌then◌else◌, Some, None}
use Rattle.std.specs.Float.Ieee.{neg, le}
use Rattle.rules.specs.Lists.{keep, up_to, occurrences}
use Rattle.rules.specs.Floats.{plus_zero, one, farthest}
use Rattle.rules.specs.Table.{ElementNumber, Element, corner, polytope, Plane, Table}

-- ---- elements are numbered in base 3

-- axis 0 is the lowest digit: digit 0 is -radius, 1 is +radius, 2 spans both
abbrev pub digits : ℕ → ElementNumber → List ℕ
digits zero n = []
digits (suc d) n = n % 3 ∷ digits d (n / 3)

-- the number of some digits
abbrev pub of_digits : List ℕ → ElementNumber
of_digits [] = 0
of_digits (k ∷ ks) = k + 3 * of_digits ks

-- rank is the count of 2s
abbrev pub twos : List ℕ → ℕ
twos ks = occurrences 2 ks

-- the boundary replaces each 2 by 0 and by 1; the highest axis comes first, so that the numbers rise
abbrev pub faces : List ℕ → List (List ℕ)
faces [] = []
faces (k ∷ ks) = map (λ f. k ∷ f) (faces ks) ++ (if eqb k 2 then (0 ∷ ks) ∷ (1 ∷ ks) ∷ [] else [])

-- ---- corners and facets, in order of number

abbrev pub is_vertex : List ℕ → Bool
is_vertex ks = eqb (twos ks) 0

-- rank dimension - 1, above 0
abbrev pub is_facet : List ℕ → Bool
is_facet ks = not (eqb (twos ks) 0) && eqb (suc (twos ks)) (length ks)

-- the numbers below n whose digits pass a test
abbrev pub chosen : (List ℕ → Bool) → ℕ → ℕ → List ElementNumber
chosen p d n = keep (λ e. p (digits d e)) (up_to n)

-- ---- the entries

-- a corner's vertex, and a facet's hyperplane, have as number how many come before them
unfoldable pub cube_element : ℕ → ElementNumber → Element
cube_element d n =
    let ks = digits d n in
    if is_vertex ks then corner (length (chosen is_vertex d n))
    else polytope (twos ks) (map of_digits (faces ks)) (if is_facet ks then Some (length (chosen is_facet d n)) else None) (is_facet ks)

unfoldable pub cube_point : Float → List ℕ → List Float
cube_point radius ks = map (λ k. if eqb k 0 then neg radius else radius) ks

-- the outward unit axis normal of a facet: its axis is the one whose digit is not 2, and the other components are +0
unfoldable pub facet_normal : List ℕ → List Float
facet_normal ks = map (λ k. if eqb k 2 then plus_zero else if eqb k 0 then neg one else one) ks

unfoldable pub facet_plane : Float → List ℕ → Plane
facet_plane radius ks = record { normal = facet_normal ks; distance = radius }

-- the cube is the last element
unfoldable pub cube : ℕ → Float → Table
cube d radius = record {
  dimension = d;
  points = map (λ n. cube_point radius (digits d n)) (chosen is_vertex d (3 ^ d));
  elements = map (cube_element d) (up_to (3 ^ d));
  planes = map (λ n. facet_plane radius (digits d n)) (chosen is_facet d (3 ^ d));
}

-- from 1 to 65,536
unfoldable pub radius_fits : Float → Bool
radius_fits radius = le one radius && le radius farthest
