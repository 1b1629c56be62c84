-- Examples of a touch (document 02, order 6), each beside what a cut of the same root by the same plane gives: what a touch says of a cut, and no more.
-- Each row is what the rules give and what is right; proofs/Answers.antt has the theorem. Definitions only.
use Rattle.std.specs.Prelude.{List, [], ◌∷◌, ◌++◌, true, false, pos, Some, None}
use Rattle.std.specs.Float.{nan, inf, fin}
use Rattle.std.specs.Float.Ieee.{neg}
use Rattle.rules.specs.Floats.{plus_zero, one}
use Rattle.rules.specs.Table.{ElementNumber, corner, Table}
use Rattle.rules.specs.Memory.{Memory, encode}
use Rattle.rules.specs.Touch.{touch_values, touch_reply}
use Rattle.rules.specs.Marked.{Shown, cut_shown, numbers, show_cut, at_x, slanted}
use Rattle.rules.specs.Examples.{made, edge, face, planes, corners, two, minus_one, small, small_q, counts_changed, flat_y}
use Rattle.rules.specs.declared.Hyperplane.{Hyperplane}
use Rattle.rules.specs.declared.PolytopeFate.TheVariants.{Remove, Keep}
use Rattle.rules.specs.Refusals.{reply_number}

-- its number, and then its answer and its count
abbrev pub show_touch : Hyperplane → ElementNumber → Memory → Shown
show_touch h root m = let r = touch_reply small h root m in numbers (reply_number r ∷ touch_values r)

abbrev pub touch_small : Hyperplane → ElementNumber → Shown
touch_small h root = show_touch h root small_q

-- a triangle, one corner of which is crossed by a hair: so near that the crossing is that corner
unfoldable pub near_corner : Table
near_corner = made 2 ((neg (fin false 3 (pos 0)) ∷ neg (fin false 1 (pos 2)) ∷ []) ∷ (plus_zero ∷ plus_zero ∷ []) ∷ (minus_one ∷ minus_one ∷ []) ∷ [])
    (corner 0 ∷ corner 1 ∷ corner 2 ∷ edge 0 1 0 ∷ edge 1 2 0 ∷ edge 0 2 0 ∷ face (3 ∷ 4 ∷ 5 ∷ []) ∷ []) planes

-- a face with a straight corner, two edges of which lie on y = 0
unfoldable pub straight : Table
straight = made 2 ((plus_zero ∷ plus_zero ∷ []) ∷ (one ∷ plus_zero ∷ []) ∷ (two ∷ plus_zero ∷ []) ∷ (one ∷ minus_one ∷ []) ∷ [])
    (corners ++ edge 0 1 0 ∷ edge 1 2 0 ∷ edge 2 3 0 ∷ edge 0 3 0 ∷ face (4 ∷ 5 ∷ 6 ∷ 7 ∷ []) ∷ []) planes

-- a dart whose two tips lie on y = 0
unfoldable pub dart : Table
dart = made 2 ((minus_one ∷ plus_zero ∷ []) ∷ (one ∷ plus_zero ∷ []) ∷ (plus_zero ∷ minus_one ∷ []) ∷ (plus_zero ∷ neg two ∷ []) ∷ [])
    (corners ++ edge 0 2 0 ∷ edge 1 2 0 ∷ edge 1 3 0 ∷ edge 0 3 0 ∷ face (4 ∷ 5 ∷ 6 ∷ 7 ∷ []) ∷ []) planes

unfoldable pub touches : List (Shown × Shown)
touches =
    -- the square: both by its second corner, outside or on by all four, and an edge that is all on
    (touch_small (at_x plus_zero) 8, numbers (0 ∷ 3 ∷ 2 ∷ []))
    ∷ (touch_small (at_x minus_one) 8, numbers (0 ∷ 2 ∷ 4 ∷ []))
    ∷ (touch_small (at_x one) 7, numbers (0 ∷ 0 ∷ 2 ∷ []))
    -- a corner has one corner; an infinite distance tests none
    ∷ (touch_small (at_x plus_zero) 0, numbers (0 ∷ 1 ∷ 1 ∷ []))
    ∷ (touch_small (at_x (inf false)) 8, numbers (0 ∷ 1 ∷ 0 ∷ []))
    ∷ (touch_small (at_x (inf true)) 8, numbers (0 ∷ 2 ∷ 0 ∷ []))
    -- 3, 4 and 5, in this order; 5 also with an infinite distance
    ∷ (show_touch (record { normal = []; distance = nan }) 99 (counts_changed (λ ns. ns)), numbers (3 ∷ []))
    ∷ (touch_small (record { normal = []; distance = nan }) 9, numbers (4 ∷ []))
    ∷ (touch_small (record { normal = []; distance = inf false }) 8, numbers (5 ∷ []))
    -- both, and yet the cut gives the old entry alone, with a warning: the crossing 1.125 T from the corner is the corner
    ∷ (show_touch (slanted 0xbeb2000000000000) 6 (encode small near_corner), numbers (0 ∷ 3 ∷ 2 ∷ []))
    ∷ (show_cut small (slanted 0xbeb2000000000000) Keep Keep 6 (encode small near_corner), cut_shown 0 (Some 6 ∷ None ∷ None ∷ []) true (7 ∷ 3 ∷ 5 ∷ []))
    -- inside or on, and the cut is flush
    ∷ (show_touch flat_y 8 (encode small straight), numbers (0 ∷ 1 ∷ 4 ∷ []))
    ∷ (show_cut small flat_y Keep Keep 8 (encode small straight), cut_shown 0 [] false (9 ∷ 4 ∷ 5 ∷ []))
    -- inside or on, and to keep the inside is 7
    ∷ (show_touch flat_y 8 (encode small dart), numbers (0 ∷ 1 ∷ 4 ∷ []))
    ∷ (show_cut small flat_y Keep Remove 8 (encode small dart), cut_shown 7 [] false (9 ∷ 4 ∷ 4 ∷ []))
    ∷ []
