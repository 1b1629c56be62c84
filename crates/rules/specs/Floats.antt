-- Document 01, "Floats": tolerance, signed distance, side, unit normal, crossing, match. Definitions only.
-- A point is the list of its coordinates, one for each dimension.
use Rattle.std.specs.Prelude.{Bool, true, false, not, ◌&&◌, ◌||◌, List, [], ◌∷◌, ℤ, pos, negsuc, eqb, Float, if◌then◌else◌, Option, Some, None}
use Rattle.std.specs.Bool.{beq}
use Rattle.std.specs.Float.{nan, inf, fin, binary64}
use Rattle.std.specs.Float.Ieee.{neg, add, sub, mul, div, lt, le, is_nan}
use Rattle.rules.specs.Lists.{all, alike}
use Rattle.rules.specs.declared.Side.{Side}
use Rattle.rules.specs.declared.Side.TheVariants.{Inside, On, Outside}
use Rattle.rules.specs.declared.SideTest.{SideTest}
use Rattle.rules.specs.declared.EdgeTest.{EdgeTest}

-- ---- numbers that the rules name

-- the float of zero bits
abbrev pub plus_zero : Float
plus_zero = fin false 0 (pos 0)

abbrev pub one : Float
one = fin false 1 (pos 0)

-- T, exactly 2 ^ -20
abbrev pub tolerance : Float
tolerance = fin false 1 (negsuc 19)

-- 16 T, exactly 2 ^ -16: how near to the plane is a close call
abbrev pub close_bound : Float
close_bound = fin false 1 (negsuc 15)

-- 65,536: how far a coordinate may lie
abbrev pub farthest : Float
farthest = fin false 1 (pos 16)

-- 262,144: how far a hyperplane may lie
abbrev pub farthest_plane : Float
farthest_plane = fin false 1 (pos 18)

-- x lies from -bound to bound
unfoldable pub within : Float → Float → Bool
within bound x = le (neg bound) x && le x bound

-- ---- bits

abbrev pub same_exponent : ℤ → ℤ → Bool
same_exponent (pos m) (pos n) = eqb m n
same_exponent (pos m) (negsuc n) = false
same_exponent (negsuc m) (pos n) = false
same_exponent (negsuc m) (negsuc n) = eqb m n

-- two floats have equal bits; there is one NaN as data, and in a lent memory or a divider every NaN is refused by the bounds
abbrev pub same_bits : Float → Float → Bool
same_bits nan nan = true
same_bits nan (inf t) = false
same_bits nan (fin t n d) = false
same_bits (inf s) nan = false
same_bits (inf s) (inf t) = beq s t
same_bits (inf s) (fin t n d) = false
same_bits (fin s m e) nan = false
same_bits (fin s m e) (inf t) = false
same_bits (fin s m e) (fin t n d) = beq s t && eqb m n && same_exponent e d

-- ---- sides

-- the products, each rounded, added to s in axis order
unfoldable pub dot_from : Float → List Float → List Float → Float
dot_from s [] xs = s
dot_from s (n ∷ ns) [] = s
dot_from s (n ∷ ns) (x ∷ xs) = dot_from (add binary64 s (mul binary64 n x)) ns xs

-- the sum starts at +0; starting at the first product would differ only in the sign of a zero, which nothing shows
unfoldable pub dot : List Float → List Float → Float
dot ns xs = dot_from plus_zero ns xs

-- s: the products added in axis order, and then the distance subtracted
unfoldable pub signed_distance : List Float → Float → List Float → Float
signed_distance normal distance point = sub binary64 (dot normal point) distance

-- On: -T <= s <= T. Inside: s < -T. Outside: all else, so also an s that is not a number
unfoldable pub side_of : Float → Side
side_of s = if within tolerance s then On else if lt s (neg tolerance) then Inside else Outside

-- document 02, order 2: within 16 T, and not on the plane
unfoldable pub close_call : Float → Bool
close_call s = within close_bound s && not (within tolerance s)

-- the side, and a warning where it was a close call
abbrev pub side_test : Float → SideTest
side_test s = record { side = side_of s; warning = close_call s }

-- components from -1 to 1, and squares added in axis order from 1 - 2^-20 to 1 + 2^-20
unfoldable pub unit : List Float → Bool
unit normal =
    all (within one) normal && le (sub binary64 one tolerance) (dot normal normal)
    && le (dot normal normal) (add binary64 one tolerance)

-- ---- crossings

-- one end is inside and the other outside
abbrev pub opposite : Side → Side → Bool
opposite Inside Inside = false
opposite Inside On = false
opposite Inside Outside = true
opposite On b = false
opposite Outside Inside = true
opposite Outside On = false
opposite Outside Outside = false

-- from the signed distances of the lower-numbered end and the other: t = sa / (sa - sb)
unfoldable pub crossing_of : Float → Float → Option Float
crossing_of sa sb = if opposite (side_of sa) (side_of sb) then Some (div binary64 sa (sub binary64 sa sb)) else None

-- the edge test: the crossing, and a warning where an end was a close call
abbrev pub edge_test : Float → Float → EdgeTest
edge_test sa sb = record { crossing = crossing_of sa sb; warning = close_call sa || close_call sb }

-- of two ends that are equal, the first
abbrev pub greater : Float → Float → Float
greater a b = if lt a b then b else a

abbrev pub lesser : Float → Float → Float
lesser a b = if lt b a then b else a

-- above both ends it becomes the greater end's, and below both, or not a number, the lesser end's
unfoldable pub clamp : Float → Float → Float → Float
clamp a b x =
    if lt a x && lt b x then greater a b else if (lt x a && lt x b) || is_nan x then lesser a b else x

-- each coordinate is a + (b - a) x t, brought back between the ends
unfoldable pub crossing_point : Float → List Float → List Float → List Float
crossing_point t [] bs = []
crossing_point t (a ∷ as') [] = []
crossing_point t (a ∷ as') (b ∷ bs) =
    clamp a b (add binary64 a (mul binary64 (sub binary64 b a) t)) ∷ crossing_point t as' bs

-- ---- matches

-- two coordinates match if their bits are equal or the earlier minus the later lies from -T to T
unfoldable pub matches : Float → Float → Bool
matches earlier later = same_bits earlier later || within tolerance (sub binary64 earlier later)

-- a vertex matches when every axis does
unfoldable pub point_matches : List Float → List Float → Bool
point_matches earlier later = alike matches earlier later
