-- Examples of files: what is written of a table, what is refused with 13 and what with 3; proofs/Answers.antt has the theorem. Definitions only.
use Rattle.std.specs.Prelude.{ℕ, true, List, [], ◌∷◌, ◌++◌, take, drop, replicate, Some}
use Rattle.rules.specs.Limits.{Limits}
use Rattle.rules.specs.Floats.{plus_zero, one}
use Rattle.rules.specs.Table.{polytope}
use Rattle.rules.specs.Memory.{Memory, encode}
use Rattle.rules.specs.Cube.{cube}
use Rattle.rules.specs.Files.{plane_record, element_record, file_of, save_reply, open_reply}
use Rattle.rules.specs.Session.{blank}
use Rattle.rules.specs.Marked.{Shown, numbers, list_shown, show_list}
use Rattle.rules.specs.Examples.{plane, minus_one, small, tight}
use Rattle.rules.specs.Sessions.{one_bytes, zero_bytes}
use Rattle.rules.specs.Refusals.{reply_number}

-- -1, and -0, by their bits
abbrev pub minus_one_bytes : List ℕ
minus_one_bytes = 0 ∷ 0 ∷ 0 ∷ 0 ∷ 0 ∷ 0 ∷ 240 ∷ 191 ∷ []

abbrev pub minus_zero_bytes : List ℕ
minus_zero_bytes = 0 ∷ 0 ∷ 0 ∷ 0 ∷ 0 ∷ 0 ∷ 0 ∷ 128 ∷ []

-- a NaN's bits; others are a NaN's too
abbrev pub nan_bytes : List ℕ
nan_bytes = 1 ∷ 0 ∷ 0 ∷ 0 ∷ 0 ∷ 0 ∷ 240 ∷ 255 ∷ []

-- dimension, and how many elements, vertices and hyperplanes follow
abbrev pub header_bytes : ℕ → ℕ → ℕ → ℕ → List ℕ
header_bytes d ne nv nh = 0x48 ∷ 0x44 ∷ d ∷ 0 ∷ ne ∷ 0 ∷ nv ∷ 0 ∷ nh ∷ 0 ∷ []

-- rank, primordial byte, no hyperplane, count, and the numbers
abbrev pub element_bytes : ℕ → ℕ → ℕ → List ℕ → List ℕ
element_bytes r m n b = 0x45 ∷ 0x4C ∷ r ∷ m ∷ 255 ∷ 255 ∷ n ∷ 0 ∷ b

-- the cube of one dimension: two vertices, their elements, and the edge between them; here with any first vertex and any last record
abbrev pub edge_file : List ℕ → List ℕ → List ℕ
edge_file first last =
    header_bytes 1 3 2 0 ++ (0x56 ∷ 0x58 ∷ first) ++ (0x56 ∷ 0x58 ∷ one_bytes) ++ element_bytes 0 0 1 (0 ∷ 0 ∷ []) ++ element_bytes 0 0 1 (1 ∷ 0 ∷ []) ++ last

abbrev pub edge_bytes : List ℕ
edge_bytes = element_bytes 1 0 2 (0 ∷ 0 ∷ 1 ∷ 0 ∷ [])

abbrev pub good_file : List ℕ
good_file = edge_file minus_one_bytes edge_bytes

-- the number of opening some bytes, and then the counts of the memory: those of a blank one, where it was refused
abbrev pub opened_in : Limits → Memory → List ℕ → Shown
opened_in L m bs = let r = open_reply L bs m in numbers (reply_number r.0 ∷ r.1.counts)

abbrev pub opened_as : List ℕ → Shown
opened_as bs = opened_in small (blank small) bs

abbrev pub refused_as : ℕ → Shown
refused_as n = numbers (n ∷ 0 ∷ 0 ∷ 0 ∷ 0 ∷ [])

-- the last record of the edge's file made another
abbrev pub ended_as : List ℕ → Shown
ended_as last = opened_as (edge_file minus_one_bytes last)

unfoldable pub files : List (Shown × Shown)
files =
    -- what is written: a table, a hyperplane with its distance last, a primordial edge that names hyperplane 2
    (numbers (file_of (cube 1 one)), numbers good_file)
    ∷ (numbers (plane_record (plane plus_zero one minus_one)), numbers (0x48 ∷ 0x50 ∷ (zero_bytes ++ one_bytes ++ minus_one_bytes)))
    ∷ (numbers (element_record (polytope 1 (0 ∷ 3 ∷ []) (Some 2) true)), numbers (0x45 ∷ 0x4C ∷ 1 ∷ 1 ∷ 2 ∷ 0 ∷ 2 ∷ 0 ∷ 0 ∷ 0 ∷ 3 ∷ 0 ∷ []))
    -- it is saved where there is room, and 12 where a byte is missing; 3 comes before 12
    ∷ (show_list (save_reply small (encode small (cube 1 one)) (replicate 62 0)), list_shown 0 good_file)
    ∷ (show_list (save_reply small (encode small (cube 1 one)) (replicate 61 0)), list_shown 12 [])
    ∷ (show_list (save_reply small (blank small) []), list_shown 3 [])
    -- it opens; so does -0, which is kept; a table of nothing is a table
    ∷ (opened_as good_file, numbers (0 ∷ 1 ∷ 3 ∷ 2 ∷ 0 ∷ []))
    ∷ (opened_as (edge_file minus_zero_bytes edge_bytes), numbers (0 ∷ 1 ∷ 3 ∷ 2 ∷ 0 ∷ []))
    ∷ (opened_as (header_bytes 1 0 0 0), numbers (0 ∷ 1 ∷ 0 ∷ 0 ∷ 0 ∷ []))
    -- 13: nothing, another mark, a byte too few or too many, a primordial byte of 2, a corner with a primordial byte, with a hyperplane, with two numbers
    ∷ (opened_as [], refused_as 13)
    ∷ (opened_as (0x48 ∷ 0x45 ∷ drop 2 good_file), refused_as 13)
    ∷ (opened_as (take 61 good_file), refused_as 13)
    ∷ (opened_as (good_file ++ 0 ∷ []), refused_as 13)
    ∷ (ended_as (element_bytes 1 2 2 (0 ∷ 0 ∷ 1 ∷ 0 ∷ [])), refused_as 13)
    ∷ (ended_as (element_bytes 0 1 1 (2 ∷ 0 ∷ [])), refused_as 13)
    ∷ (ended_as (0x45 ∷ 0x4C ∷ 0 ∷ 0 ∷ 0 ∷ 0 ∷ 1 ∷ 0 ∷ 2 ∷ 0 ∷ []), refused_as 13)
    ∷ (ended_as (element_bytes 0 0 2 (0 ∷ 0 ∷ 1 ∷ 0 ∷ [])), refused_as 13)
    -- 3: a NaN, a primordial byte of 1 where no hyperplane is named, an edge with no end, a vertex named twice, an edge of a rank above the dimension
    ∷ (opened_as (edge_file nan_bytes edge_bytes), refused_as 3)
    ∷ (ended_as (element_bytes 1 1 2 (0 ∷ 0 ∷ 1 ∷ 0 ∷ [])), refused_as 3)
    ∷ (ended_as (element_bytes 1 0 0 []), refused_as 3)
    ∷ (ended_as (element_bytes 0 0 1 (1 ∷ 0 ∷ [])), refused_as 3)
    ∷ (ended_as (element_bytes 2 0 2 (0 ∷ 0 ∷ 1 ∷ 0 ∷ [])), refused_as 3)
    -- no dimension, dimension 9, and 300, which the file can say and the room has not
    ∷ (opened_as (header_bytes 0 0 0 0), refused_as 3)
    ∷ (opened_as (header_bytes 9 0 0 0), refused_as 3)
    ∷ (opened_as (0x48 ∷ 0x44 ∷ 44 ∷ 1 ∷ 0 ∷ 0 ∷ 0 ∷ 0 ∷ 0 ∷ 0 ∷ []), refused_as 3)
    -- lent room of another size is 3; but the layout comes before it
    ∷ (opened_in small (blank tight) good_file, refused_as 3)
    ∷ (opened_in small (blank tight) (good_file ++ 0 ∷ []), refused_as 13)
    ∷ []
