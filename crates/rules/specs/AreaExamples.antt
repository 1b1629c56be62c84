-- Area sheets (document 02, order 13): each row is what the rules give and what is right; proofs/Answers.antt has the theorems. Definitions only.
use Rattle.std.specs.Prelude.{true, false, List, [], ◌∷◌, ◌++◌, ◌≡◌, pos, negsuc, replicate, set, Float, Some}
use Rattle.std.specs.Float.{fin}
use Rattle.rules.specs.Limits.{Limits}
use Rattle.rules.specs.Floats.{plus_zero, one}
use Rattle.rules.specs.Table.{ElementNumber, HyperplaneNumber, Element, corner, polytope, Plane, Table}
use Rattle.rules.specs.Memory.{Memory, encode}
use Rattle.rules.specs.Cube.{cube}
use Rattle.rules.specs.Cut.{Outcome, refused, done, keeping, cut}
use Rattle.rules.specs.Areas.{sheet, areas_reply}
use Rattle.rules.specs.Marked.{Shown, sheet_shown, show_sheet}
use Rattle.rules.specs.Examples.{made, minus_one, plane, points, edge, face, planes, room_of, tight, square, counts_changed}
use Rattle.rules.specs.declared.ElementAnswer.{ElementAnswer}

-- ---- the square of radius 1, sliced three times, in a room that this fills

abbrev pub room : Limits
room = room_of 2 7 28 6 4

abbrev pub table_after : Table → Outcome ElementAnswer → Table
table_after t (refused n) = t
table_after t (done a u) = u

abbrev pub sliced : Plane → ElementNumber → Table → Table
sliced h root t = table_after t (cut room (keeping h true true) root t)

-- x = -1023/1024, and the normal (-1/2048, 1) through the corner (-1, -1)
abbrev pub near_edge : Plane
near_edge = plane one plus_zero (fin true 1023 (negsuc 9))

abbrev pub through_corner : Plane
through_corner = plane (fin true 1 (negsuc 10)) one (fin true 2047 (negsuc 10))

-- an edge that a cut made
abbrev pub line : ElementNumber → ElementNumber → HyperplaneNumber → Element
line a b h = polytope 1 (a ∷ b ∷ []) (Some h) false

abbrev pub whole_elements : List Element
whole_elements = corner 0 ∷ corner 1 ∷ edge 0 1 0 ∷ corner 2 ∷ corner 3 ∷ edge 3 4 1 ∷ edge 0 3 2 ∷ edge 1 4 3 ∷ face (2 ∷ 5 ∷ 6 ∷ 7 ∷ []) ∷ []

abbrev pub once_elements : List Element
once_elements = whole_elements ++ corner 4 ∷ edge 0 9 0 ∷ edge 1 9 0 ∷ corner 5 ∷ edge 3 12 1 ∷ edge 4 12 1 ∷ line 9 12 4
    ∷ face (6 ∷ 10 ∷ 13 ∷ 15 ∷ []) ∷ face (7 ∷ 11 ∷ 14 ∷ 15 ∷ []) ∷ []

abbrev pub twice_elements : List Element
twice_elements = once_elements ++ corner 6 ∷ edge 1 18 3 ∷ edge 4 18 3 ∷ line 0 18 5 ∷ face (2 ∷ 19 ∷ 21 ∷ []) ∷ face (5 ∷ 6 ∷ 20 ∷ 21 ∷ []) ∷ []

-- the crossing of edge 21, 2^-21 off it, is vertex 4
abbrev pub matched_elements : List Element
matched_elements = twice_elements ++ line 0 9 5 ∷ line 9 18 5 ∷ face (6 ∷ 13 ∷ 15 ∷ 24 ∷ []) ∷ face (14 ∷ 15 ∷ 20 ∷ 25 ∷ []) ∷ []

abbrev pub once_points : List (List Float)
once_points = points ++ (fin true 1023 (negsuc 9) ∷ minus_one ∷ []) ∷ (fin true 1023 (negsuc 9) ∷ one ∷ []) ∷ []

abbrev pub twice_points : List (List Float)
twice_points = once_points ++ (one ∷ fin true 1023 (negsuc 9) ∷ []) ∷ []

unfoldable pub whole : Table
whole = made 2 points whole_elements planes

unfoldable pub once : Table
once = made 2 once_points once_elements (planes ++ near_edge ∷ [])

unfoldable pub twice : Table
twice = made 2 twice_points twice_elements (planes ++ near_edge ∷ through_corner ∷ [])

unfoldable pub matched : Table
matched = made 2 twice_points matched_elements (planes ++ near_edge ∷ through_corner ∷ [])

-- they begin with the cube, and each is what the slice of the one before leaves
pub record Slices : Type 0 where
  pub start : cube 2 one ≡ whole
  pub first : sliced near_edge 8 whole ≡ once
  pub second : sliced through_corner 8 once ≡ twice
  pub third : sliced near_edge 23 twice ≡ matched

unfoldable pub area_sheets : List (Shown × Shown)
area_sheets =
    -- the square, whose walk turns from axis 0 towards axis 1, and its two parts: the walk of the first turns the other way; no piece at all
    (sheet_shown 0 (sheet once (8 ∷ 16 ∷ 17 ∷ [])), sheet_shown 0 (pos 8388608 ∷ negsuc 4095 ∷ pos 8384512 ∷ pos 3 ∷ pos 16777216 ∷ []))
    ∷ (sheet_shown 0 (sheet once []), sheet_shown 0 (pos 0 ∷ pos 0 ∷ []))
    -- where a crossing off its edge is matched, the sizes of the two parts add up to one more than the whole's
    ∷ (sheet_shown 0 (sheet matched (23 ∷ 26 ∷ 27 ∷ [])), sheet_shown 0 (negsuc 8386559 ∷ negsuc 4095 ∷ pos 8382465 ∷ pos 3 ∷ pos 16773121 ∷ []))
    ∷ []

-- ---- the whole reply, and its refusals in their order, each with the next one's cause

-- the square in the room that it just fills, and with its right side at x = 1 + 1/2048, off the grid
unfoldable pub tight_q : Memory
tight_q = encode tight square

unfoldable pub tight_off : Memory
tight_off = let m = encode tight square in record { counts = m.counts; points = set m.points 2 (fin false 2049 (negsuc 10)); planes = m.planes; elements = m.elements }

unfoldable pub area_replies : List (Shown × Shown)
area_replies =
    (show_sheet (areas_reply tight tight_q (8 ∷ 8 ∷ []) (replicate 5 (pos 7))), sheet_shown 0 (pos 8388608 ∷ pos 8388608 ∷ pos 2 ∷ pos 16777216 ∷ []))
    ∷ (show_sheet (areas_reply tight (counts_changed (λ ns. ns)) (replicate 17 9) []), sheet_shown 3 [])
    ∷ (show_sheet (areas_reply tight tight_q (replicate 17 9) []), sheet_shown 26 [])
    ∷ (show_sheet (areas_reply tight tight_q (7 ∷ 9 ∷ []) []), sheet_shown 4 [])
    ∷ (show_sheet (areas_reply tight tight_off (8 ∷ 7 ∷ []) []), sheet_shown 6 [])
    ∷ (show_sheet (areas_reply (room_of 1 2 3 0 2) (encode (room_of 1 2 3 0 2) (cube 1 one)) [] []), sheet_shown 6 [])
    ∷ (show_sheet (areas_reply tight tight_off (8 ∷ []) []), sheet_shown 25 [])
    ∷ (show_sheet (areas_reply tight tight_q (8 ∷ []) (replicate 2 (pos 7))), sheet_shown 12 [])
    -- sixteen pieces are not above the limit
    ∷ (show_sheet (areas_reply tight tight_q (replicate 16 8) []), sheet_shown 12 [])
    ∷ []
