-- Examples of sessions: what `cutlist` writes for some bytes, and what is right; proofs/Answers.antt has the theorem. Definitions only.
use Rattle.std.specs.Prelude.{ℕ, ◌+◌, List, [], ◌∷◌, ◌++◌, drop}
use Rattle.rules.specs.Session.{cutlist}
use Rattle.rules.specs.Marked.{Shown, numbers}
use Rattle.rules.specs.Examples.{small}

-- 1.0, by its bits
abbrev pub one_bytes : List ℕ
one_bytes = 0 ∷ 0 ∷ 0 ∷ 0 ∷ 0 ∷ 0 ∷ 240 ∷ 63 ∷ []

abbrev pub zero_bytes : List ℕ
zero_bytes = 0 ∷ 0 ∷ 0 ∷ 0 ∷ 0 ∷ 0 ∷ 0 ∷ 0 ∷ []

abbrev pub cube_record : ℕ → List ℕ
cube_record d = 0x43 ∷ 0x55 ∷ d ∷ one_bytes

-- keep some sides, root 8, normal (1, 0), distance 0
abbrev pub cut_record : ℕ → List ℕ
cut_record kept = 0x43 ∷ 0x54 ∷ kept ∷ 8 ∷ 0 ∷ (one_bytes ++ zero_bytes ++ zero_bytes)

-- what the program writes for some bytes, in the small room
abbrev pub printed : List ℕ → Shown
printed bs = numbers (cutlist small bs)

-- "cube 9 4 4" and "cut 16 17 15 18 6 5", each with its line feed
abbrev pub cube_words : List ℕ
cube_words = 99 ∷ 117 ∷ 98 ∷ 101 ∷ 32 ∷ 57 ∷ 32 ∷ 52 ∷ 32 ∷ 52 ∷ 10 ∷ []

abbrev pub cut_words : List ℕ
cut_words = 99 ∷ 117 ∷ 116 ∷ 32 ∷ 49 ∷ 54 ∷ 32 ∷ 49 ∷ 55 ∷ 32 ∷ 49 ∷ 53 ∷ 32 ∷ 49 ∷ 56 ∷ 32 ∷ 54 ∷ 32 ∷ 53 ∷ 10 ∷ []

-- "bad ", "refused " and a digit
abbrev pub bad_words : ℕ → List ℕ
bad_words d = 98 ∷ 97 ∷ 100 ∷ 32 ∷ (48 + d) ∷ 10 ∷ []

abbrev pub refused_words : ℕ → List ℕ
refused_words d = 114 ∷ 101 ∷ 102 ∷ 117 ∷ 115 ∷ 101 ∷ 100 ∷ 32 ∷ (48 + d) ∷ 10 ∷ []

unfoldable pub sessions : List (Shown × Shown)
sessions =
    -- document 01's session, whole
    (printed (cube_record 2 ++ cut_record 3 ++ cut_record 3), numbers (cube_words ++ cut_words ++ cut_words))
    -- nothing; a stray byte; another mark; a cut with no table
    ∷ (printed [], numbers [])
    ∷ (printed (0x43 ∷ []), numbers (bad_words 0))
    ∷ (printed (0x43 ∷ 0x56 ∷ []), numbers (bad_words 0))
    ∷ (printed (cut_record 3), numbers (bad_words 0))
    -- a cube that is refused keeps the table before it, for the cut after it too; a kept byte of 4, and a short record, stop at their first byte
    ∷ (printed (cube_record 5 ++ cube_record 2 ++ cube_record 0), numbers (refused_words 1 ++ cube_words ++ refused_words 1))
    ∷ (printed (cube_record 2 ++ cube_record 5 ++ cut_record 3), numbers (cube_words ++ refused_words 1 ++ cut_words))
    ∷ (printed (cube_record 2 ++ cut_record 4), numbers (cube_words ++ 98 ∷ 97 ∷ 100 ∷ 32 ∷ 49 ∷ 49 ∷ 10 ∷ []))
    ∷ (printed (cube_record 2 ++ drop 1 (cut_record 3)), numbers (cube_words ++ 98 ∷ 97 ∷ 100 ∷ 32 ∷ 49 ∷ 49 ∷ 10 ∷ []))
    ∷ []
