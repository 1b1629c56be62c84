-- Document 01, "The session program": what `cutlist` prints for the bytes of a session, record by record. Definitions only.
use Rattle.std.specs.Prelude.{ℕ, zero, suc, ◌+◌, ◌*◌, ◌/◌, ◌%◌, Bool, true, false, ◌&&◌, List, [], ◌∷◌, ◌++◌, map, leb, eqb, length, get_or, take, drop, replicate, if◌then◌else◌, Option, Some, None, Err, Ok}
use Rattle.rules.specs.Limits.{Limits}
use Rattle.rules.specs.Lists.{alike, pad, joined}
use Rattle.rules.specs.Floats.{plus_zero}
use Rattle.rules.specs.Bytes.{number_at, float_at, floats_at, decimal}
use Rattle.rules.specs.Memory.{Memory, element_width, plane_width}
use Rattle.rules.specs.Replies.{cube_reply, fate_of, cut_reply}
use Rattle.rules.specs.declared.Hyperplane.{Hyperplane}
use Rattle.rules.specs.declared.ElementCutOutput.{ElementCutOutput}
use Rattle.rules.specs.declared.ElementCutOutput.TheVariants.{Flush, NonFlush}
use Rattle.rules.specs.declared.CutParams.{CutParams}
use Rattle.rules.specs.Refusals.{refusal_number, Reply}
use Rattle.rules.specs.declared.ElementAnswer.{ElementAnswer}
use Rattle.rules.specs.declared.ElementId.{ElementId}

-- ---- what is printed

-- the counts are elements, vertices, hyperplanes
pub data Line : Type 0 where
  cube_line : List ℕ → Line
  cut_line : Option ElementId → Option ElementId → Option ElementId → List ℕ → Line
  flush_line : List ℕ → Line
  refused_line : ℕ → Line
  bad_line : ℕ → Line

-- a space and a number for each
abbrev pub spaced : List ℕ → List ℕ
spaced ns = joined (map (λ n. 32 ∷ decimal n) ns)

-- a space, and the element's number or -
abbrev pub place : Option ElementId → List ℕ
place None = 32 ∷ 45 ∷ []
place (Some e) = 32 ∷ decimal e.0

-- "cube", "cut", "flush", "refused", "bad", then the numbers, then one line feed
abbrev pub text : Line → List ℕ
text (cube_line ns) = (99 ∷ 117 ∷ 98 ∷ 101 ∷ []) ++ spaced ns ++ 10 ∷ []
text (cut_line i o x ns) = (99 ∷ 117 ∷ 116 ∷ []) ++ place i ++ place o ++ place x ++ spaced ns ++ 10 ∷ []
text (flush_line ns) = (102 ∷ 108 ∷ 117 ∷ 115 ∷ 104 ∷ []) ++ spaced ns ++ 10 ∷ []
text (refused_line n) = (114 ∷ 101 ∷ 102 ∷ 117 ∷ 115 ∷ 101 ∷ 100 ∷ []) ++ spaced (n ∷ []) ++ 10 ∷ []
text (bad_line n) = (98 ∷ 97 ∷ 100 ∷ []) ++ spaced (n ∷ []) ++ 10 ∷ []

-- ---- one record

-- how long the record is, what is printed for it, whether a table stands then, and the memory; or bad
pub data Turn : Type 0 where
  bad : Turn
  taken : ℕ → Line → Bool → Memory → Turn

-- a memory of the room's size, for a session that has no table yet
unfoldable pub blank : Limits → Memory
blank L = record {
  counts = replicate 4 0;
  points = replicate (L.vertices * L.dimensions) plus_zero;
  planes = replicate (L.hyperplanes * plane_width L) plus_zero;
  elements = replicate (L.elements * element_width L) 0;
}

-- elements, vertices, hyperplanes
abbrev pub table_counts : Memory → List ℕ
table_counts m = drop 1 m.counts

-- 43 55, dimension (1 byte), radius (8)
abbrev pub is_cube : List ℕ → Bool
is_cube bs = alike eqb (take 2 bs) (0x43 ∷ 0x55 ∷ []) && leb 11 (length bs)

-- a cut record's length follows the dimension of the table that stands
abbrev pub cut_length : ℕ → ℕ
cut_length d = 5 + 8 * suc d

-- 43 54, kept sides (1 byte, 0 to 3), root (2), one component for each of d dimensions, distance
abbrev pub is_cut : ℕ → List ℕ → Bool
is_cut d bs = alike eqb (take 2 bs) (0x43 ∷ 0x54 ∷ []) && leb (cut_length d) (length bs) && leb (number_at 1 2 bs) 3

-- ---- what a record asks for, and what is printed of its reply

abbrev pub cube_asked : Limits → Memory → List ℕ → Reply (Unit {0}) × Memory
cube_asked L m bs = cube_reply L (number_at 1 2 bs) (float_at 3 bs) m

abbrev pub divider_at : Limits → ℕ → List ℕ → Hyperplane
divider_at L d bs = record { normal = pad plus_zero L.dimensions (floats_at d 5 bs); distance = float_at (5 + 8 * d) bs }

-- of the kept sides, 1 is the inside and 2 the outside
abbrev pub params_at : Limits → ℕ → List ℕ → CutParams
params_at L d bs = let kept = number_at 1 2 bs in record { divider = divider_at L d bs; inside = fate_of (eqb (kept % 2) 1); outside = fate_of (eqb (kept / 2) 1) }

abbrev pub cut_asked : Limits → Memory → List ℕ → Reply ElementAnswer × Memory
cut_asked L m bs = cut_reply L (params_at L (get_or m.counts 0 0) bs) (number_at 2 3 bs) m

-- a refused cube leaves the memory, and keeps the table before it
abbrev pub cube_turn : Bool → Reply (Unit {0}) × Memory → Turn
cube_turn stands (Ok x, m) = taken 11 (cube_line (table_counts m)) true m
cube_turn stands (Err r, m) = taken 11 (refused_line (refusal_number r)) stands m

abbrev pub output_text : ElementCutOutput → List ℕ → Line
output_text Flush ns = flush_line ns
output_text (NonFlush i o x) ns = cut_line i o x ns

-- a line has no place for the warning
abbrev pub cut_text : Reply ElementAnswer → List ℕ → Line
cut_text (Err r) ns = refused_line (refusal_number r)
cut_text (Ok a) ns = output_text a.output ns

abbrev pub cut_turn : ℕ → Reply ElementAnswer × Memory → Turn
cut_turn d (r, m) = taken (cut_length d) (cut_text r (table_counts m)) true m

-- another mark, a short record, a kept byte above 3, or a cut with no table is bad
unfoldable pub turn : Limits → Bool → Memory → List ℕ → Turn
turn L stands m bs =
    let d = get_or m.counts 0 0 in
    if is_cube bs then cube_turn stands (cube_asked L m bs)
    else if stands && is_cut d bs then cut_turn d (cut_asked L m bs)
    else bad

-- ---- a session

-- the records in turn, from an offset on; `bad` and the offset of the record's first byte stop it. Each record has a byte or more, so the number of bytes is enough turns
abbrev pub session : ℕ → Limits → Bool → Memory → ℕ → List ℕ → List Line
session zero L stands m at bs = []
session (suc n) L stands m at [] = []
session (suc n) L stands m at (b ∷ bs) =
    elim (turn L stands m (b ∷ bs)) [
      | bad ↦ bad_line at ∷ []
      | taken k line later after ↦ line ∷ session n L later after (at + k) (drop k (b ∷ bs))
    ]

-- what `cutlist` writes for its input; no table stands at first
unfoldable pub cutlist : Limits → List ℕ → List ℕ
cutlist L bs = joined (map text (session (length bs) L false (blank L) 0 bs))
