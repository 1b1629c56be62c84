-- Document 01, "Marked examples": one table, each row what the public replies give and what document 01 says. Its one theorem is proofs/Marked.antt of crate marked. Definitions only.
use Rattle.std.specs.Prelude.{ℕ, Bool, false, List, [], ◌∷◌, ℤ, take, drop, replicate, Float, Option, Some, None, Ok, Err}
use Rattle.std.specs.Float.{inf, binary64}
use Rattle.std.specs.Float.Ieee.{of_bits}
use Rattle.rules.specs.Limits.{Limits, desk}
use Rattle.rules.specs.Floats.{plus_zero, one, tolerance, side_of}
use Rattle.rules.specs.Table.{ElementNumber}
use Rattle.rules.specs.Memory.{Memory, encode}
use Rattle.rules.specs.Cube.{cube}
use Rattle.rules.specs.Replies.{cut_values, cut_warning, cut_by, cut_reply, greatest_common_reply, edges_in_order_reply}
use Rattle.rules.specs.declared.Hyperplane.{Hyperplane}
use Rattle.rules.specs.declared.Side.{Side}
use Rattle.rules.specs.declared.Side.TheVariants.{On, Outside}
use Rattle.rules.specs.declared.PolytopeFate.{PolytopeFate}
use Rattle.rules.specs.declared.PolytopeFate.TheVariants.{Remove, Keep}
use Rattle.rules.specs.Refusals.{refusal_number, Reply, reply_number}

-- ---- what a row shows

-- a cut: its number, its values, its warning, and the counts of elements, vertices and hyperplanes after it; a list: its number and what it wrote; an area sheet the same; a side; a verdict; numbers; floats
pub data Shown : Type 0 where
  cut_shown : ℕ → List (Option ElementNumber) → Bool → List ℕ → Shown
  list_shown : ℕ → List ℕ → Shown
  sheet_shown : ℕ → List ℤ → Shown
  side_shown : Side → Shown
  verdict : Bool → Shown
  numbers : List ℕ → Shown
  floats : List (List Float) → Shown

abbrev pub show_cut : Limits → Hyperplane → PolytopeFate → PolytopeFate → ElementNumber → Memory → Shown
show_cut L h i o root m =
    let r = cut_reply L (cut_by h i o) root m in
    cut_shown (reply_number r.0) (cut_values r.0) (cut_warning r.0) (drop 1 r.1.counts)

abbrev pub show_list : Reply ℕ × List ℕ → Shown
show_list (Err r, room) = list_shown (refusal_number r) []
show_list (Ok n, room) = list_shown 0 (take n room)

abbrev pub show_sheet : Reply ℕ × List ℤ → Shown
show_sheet (Err r, room) = sheet_shown (refusal_number r) []
show_sheet (Ok n, room) = sheet_shown 0 (take n room)

-- ---- Q, the square of radius 1, and the segment of radius 1, in the desk's memory

unfoldable pub Q : Memory
Q = encode desk (cube 2 one)

unfoldable pub segment : Memory
segment = encode desk (cube 1 one)

-- x = d, as it is lent
abbrev pub at_x : Float → Hyperplane
at_x d = record { normal = one ∷ plus_zero ∷ plus_zero ∷ plus_zero ∷ []; distance = d }

-- 0.6, 0.8 and a distance, by their bits
abbrev pub slanted : ℕ → Hyperplane
slanted bits = record {
  normal = of_bits binary64 0x3fe3333333333333 ∷ of_bits binary64 0x3fe999999999999a ∷ plus_zero ∷ plus_zero ∷ [];
  distance = of_bits binary64 bits;
}

abbrev pub cut_q : Hyperplane → PolytopeFate → PolytopeFate → ElementNumber → Shown
cut_q h i o root = show_cut desk h i o root Q

-- a list room of eight numbers
abbrev pub room : List ℕ
room = replicate 8 0

-- ---- the table

unfoldable pub marked : List (Shown × Shown)
marked =
    -- M1
    (cut_q (at_x plus_zero) Keep Keep 8, cut_shown 0 (Some 16 ∷ Some 17 ∷ Some 15 ∷ []) false (18 ∷ 6 ∷ 5 ∷ []))
    -- M2
    ∷ (cut_q (at_x plus_zero) Remove Remove 8, cut_shown 0 (None ∷ None ∷ Some 11 ∷ []) false (12 ∷ 6 ∷ 5 ∷ []))
    -- M3
    ∷ (cut_q (at_x one) Keep Remove 8, cut_shown 0 (Some 8 ∷ None ∷ Some 7 ∷ []) false (9 ∷ 4 ∷ 5 ∷ []))
    -- M4
    ∷ (cut_q (at_x (inf false)) Remove Remove 8, cut_shown 0 (Some 8 ∷ None ∷ None ∷ []) false (9 ∷ 4 ∷ 4 ∷ []))
    -- M5
    ∷ (cut_q (at_x plus_zero) Remove Keep 0, cut_shown 0 (Some 0 ∷ None ∷ None ∷ []) false (9 ∷ 4 ∷ 5 ∷ []))
    -- M6: flush carries nothing
    ∷ (cut_q (at_x one) Keep Keep 7, cut_shown 0 [] false (9 ∷ 4 ∷ 5 ∷ []))
    -- M7
    ∷ (cut_q (slanted 0x3ff6666666666666) Keep Keep 8, cut_shown 0 (Some 8 ∷ None ∷ None ∷ []) false (9 ∷ 4 ∷ 5 ∷ []))
    -- M8
    ∷ (show_cut desk (at_x plus_zero) Keep Keep 2 segment, cut_shown 0 (Some 4 ∷ Some 5 ∷ Some 3 ∷ []) false (6 ∷ 3 ∷ 1 ∷ []))
    -- M9
    ∷ (show_list (greatest_common_reply desk Q (2 ∷ 6 ∷ []) room), list_shown 0 [])
    ∷ (show_list (greatest_common_reply desk Q (8 ∷ []) room), list_shown 0 (8 ∷ []))
    ∷ (show_list (greatest_common_reply desk Q (0 ∷ []) room), list_shown 0 [])
    -- M10: vertices 0-1, 1-3, 3-2, 2-0
    ∷ (show_list (edges_in_order_reply desk Q 8 room), list_shown 0 (0 ∷ 1 ∷ 1 ∷ 3 ∷ 3 ∷ 2 ∷ 2 ∷ 0 ∷ []))
    -- M11: the tolerance, and the next float above it
    ∷ (side_shown (side_of tolerance), side_shown On)
    ∷ (side_shown (side_of (of_bits binary64 0x3eb0000000000001)), side_shown Outside)
    ∷ []
