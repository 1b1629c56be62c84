-- Examples of a list of cuts (document 02, order 5), in the small room: each row is what the rules give and what is right; proofs/Answers.antt has the theorem. Definitions only.
use Rattle.std.specs.Prelude.{ℕ, ◌+◌, ◌*◌, List, [], ◌∷◌, ◌++◌, Float, drop, replicate}
use Rattle.std.specs.Float.{nan}
use Rattle.std.specs.Float.Ieee.{neg}
use Rattle.rules.specs.Floats.{plus_zero, one}
use Rattle.rules.specs.Table.{ElementNumber}
use Rattle.rules.specs.Memory.{Memory}
use Rattle.rules.specs.CutLists.{CutList, cut_list_reply, cut_list_number, answers_written}
use Rattle.rules.specs.Marked.{Shown, numbers}
use Rattle.rules.specs.Examples.{two, small, small_q, counts_changed}

-- a row for the divider x = d, and one for the divider y = d
abbrev pub x_row : Float → List Float
x_row d = one ∷ plus_zero ∷ plus_zero ∷ plus_zero ∷ d ∷ []

abbrev pub y_row : Float → List Float
y_row d = plus_zero ∷ one ∷ plus_zero ∷ plus_zero ∷ d ∷ []

-- as it is lent
abbrev pub list_of : List Float → List ℕ → List ElementNumber → CutList
list_of ds ks rs = record { dividers = ds; kept = ks; roots = rs }

-- two cuts by x = 0, with these kept sides and roots
abbrev pub twice : List ℕ → List ElementNumber → CutList
twice ks rs = list_of (x_row plus_zero ++ x_row plus_zero) ks rs

-- 65 cuts, one more than a list may have, with slices that belong together
abbrev pub long : CutList
long = list_of (replicate 325 plus_zero) (replicate 65 3) (replicate 65 8)

-- an answer's inside, outside and intersection in one number
abbrev pub answer : ℕ → ℕ → ℕ → ℕ
answer i o x = i * 0x10000 + o * 0x100000000 + x * 0x1000000000000

-- its number, how many answers were written, the room for answers, and the counts of elements, vertices and hyperplanes after it
abbrev pub show_cuts : CutList → List ℕ → Memory → Shown
show_cuts l room m = let r = cut_list_reply small l room m in numbers (cut_list_number r.0 ∷ answers_written r.0 ∷ (r.1 ++ drop 1 r.2.counts))

abbrev pub cuts_small : CutList → List ℕ → Shown
cuts_small l room = show_cuts l room small_q

unfoldable pub cut_lists : List (Shown × Shown)
cut_lists =
    -- M1 and the same cut again, and the room behind the answers as it came
    (cuts_small (twice (3 ∷ 3 ∷ []) (8 ∷ 8 ∷ [])) (7 ∷ 7 ∷ 7 ∷ []), numbers (0 ∷ 2 ∷ answer 16 17 15 ∷ answer 16 17 15 ∷ 7 ∷ 18 ∷ 6 ∷ 5 ∷ []))
    -- a root that the cut before it has added, which the second plane misses
    ∷ (cuts_small (list_of (x_row plus_zero ++ x_row (neg two)) (3 ∷ 3 ∷ []) (8 ∷ 16 ∷ [])) (7 ∷ 7 ∷ []), numbers (0 ∷ 2 ∷ answer 16 17 15 ∷ answer 0xffff 16 0xffff ∷ 18 ∷ 6 ∷ 6 ∷ []))
    -- bit 0 keeps the inside and bit 1 the outside; bit 2 says nothing
    ∷ (cuts_small (twice (5 ∷ 6 ∷ []) (8 ∷ 8 ∷ [])) (7 ∷ 7 ∷ []), numbers (0 ∷ 2 ∷ answer 14 0xffff 13 ∷ answer 0xffff 17 13 ∷ 18 ∷ 6 ∷ 5 ∷ []))
    -- no cut at all
    ∷ (cuts_small (list_of [] [] []) [], numbers (0 ∷ 0 ∷ 9 ∷ 4 ∷ 4 ∷ []))
    -- stopped at position 1 with 4: the cut before it stays, and nothing is written from there on
    ∷ (cuts_small (twice (3 ∷ 3 ∷ []) (8 ∷ 99 ∷ [])) (7 ∷ 7 ∷ []), numbers (4 ∷ 1 ∷ answer 16 17 15 ∷ 7 ∷ 18 ∷ 6 ∷ 5 ∷ []))
    -- stopped at position 0 with 5
    ∷ (cuts_small (list_of (x_row nan) (3 ∷ []) (8 ∷ [])) (7 ∷ []), numbers (5 ∷ 0 ∷ 7 ∷ 9 ∷ 4 ∷ 4 ∷ []))
    -- 26, for the limit, for the dividers and for the kept sides; before 12
    ∷ (cuts_small long [], numbers (26 ∷ 0 ∷ 9 ∷ 4 ∷ 4 ∷ []))
    ∷ (cuts_small (list_of (x_row plus_zero) (3 ∷ 3 ∷ []) (8 ∷ 8 ∷ [])) (7 ∷ 7 ∷ []), numbers (26 ∷ 0 ∷ 7 ∷ 7 ∷ 9 ∷ 4 ∷ 4 ∷ []))
    ∷ (cuts_small (twice (3 ∷ []) (8 ∷ 8 ∷ [])) (7 ∷ 7 ∷ []), numbers (26 ∷ 0 ∷ 7 ∷ 7 ∷ 9 ∷ 4 ∷ 4 ∷ []))
    -- 12 counts the whole list, also where its first cut would be refused
    ∷ (cuts_small (twice (3 ∷ 3 ∷ []) (99 ∷ 8 ∷ [])) (7 ∷ []), numbers (12 ∷ 0 ∷ 7 ∷ 9 ∷ 4 ∷ 4 ∷ []))
    -- 3 before 26
    ∷ (show_cuts long [] (counts_changed (λ ns. ns)), numbers (3 ∷ 0 ∷ 9 ∷ 4 ∷ 4 ∷ []))
    ∷ []
