-- Document 02, order 5: a list of cuts in one call: the cuts that it asks for, the whole reply, and what is promised of it. Definitions only.
use Rattle.std.specs.Prelude.{ℕ, suc, ◌*◌, ◌/◌, ◌%◌, ◌≤◌, ◌<◌, ◌≡◌, Bool, true, not, ◌&&◌, List, [], ◌∷◌, map, leb, ltb, eqb, length, get_or, set, take, drop, Float, if◌then◌else◌, Option, Some, None, Err, Ok}
use Rattle.rules.specs.Limits.{Limits}
use Rattle.rules.specs.Lists.{member, up_to}
use Rattle.rules.specs.Floats.{plus_zero}
use Rattle.rules.specs.Table.{ElementNumber}
use Rattle.rules.specs.Memory.{Memory, plane_width, sound_memory}
use Rattle.rules.specs.Replies.{output_word, fate_of, cut_by, cut_reply}
use Rattle.rules.specs.Calls.{Call, cutting, after_calls, TableStays, Filled}
use Rattle.rules.specs.declared.Hyperplane.{Hyperplane}
use Rattle.rules.specs.declared.PolytopeFate.{PolytopeFate}
use Rattle.rules.specs.declared.CutParams.{CutParams}
use Rattle.rules.specs.declared.ElementAnswer.{ElementAnswer}
use Rattle.rules.specs.declared.CutListReply.{CutListReply}
use Rattle.rules.specs.declared.CutListReply.TheVariants.{Refused, Stopped, Answered}
use Rattle.rules.specs.Refusals.{refusal_number, Reply}
use Rattle.rules.specs.declared.Refusal.{Refusal}
use Rattle.rules.specs.declared.Refusal.TheVariants.{ListLong, NotSound, RoomShort}

-- ---- the cuts of a list

-- a list has no more cuts, in every room
abbrev pub most_cuts : ℕ
most_cuts = 64

-- as it is lent: a row for each divider, a byte for the kept sides of each cut, and the roots
pub record CutList : Type 0 where
  pub dividers : List Float
  pub kept : List ℕ
  pub roots : List ElementNumber

-- no more cuts than the limit, and three slices that belong together
unfoldable pub list_fits : Limits → CutList → Bool
list_fits L l =
    leb (length l.roots) most_cuts && eqb (length l.kept) (length l.roots) && eqb (length l.dividers) (length l.roots * plane_width L)

-- the divider in row i: a component for each axis of the room, and the distance last
abbrev pub divider_at : Limits → List Float → ℕ → Hyperplane
divider_at L rows i =
    let row = take (plane_width L) (drop (i * plane_width L) rows) in record { normal = take L.dimensions row; distance = get_or row L.dimensions plus_zero }

-- bit 0 of a byte keeps the inside, bit 1 the outside; the others say nothing
abbrev pub inside_by : ℕ → PolytopeFate
inside_by b = fate_of (eqb (b % 2) 1)

abbrev pub outside_by : ℕ → PolytopeFate
outside_by b = fate_of (eqb (b / 2 % 2) 1)

pub record ListedCut : Type 0 where
  pub params : CutParams
  pub root : ElementNumber

-- the cut at position i
abbrev pub cut_at : Limits → CutList → ℕ → ListedCut
cut_at L l i =
    let byte = get_or l.kept i 0 in record { params = cut_by (divider_at L l.dividers i) (inside_by byte) (outside_by byte); root = get_or l.roots i 0 }

unfoldable pub cuts_of : Limits → CutList → List ListedCut
cuts_of L l = map (cut_at L l) (up_to (length l.roots))

-- ---- the reply, the room for answers and the memory after it

-- the cut at position i: a refusal ends the list, and an answer is written at its position, as one number, before the list goes on
abbrev pub going_on : ℕ → List ℕ → Reply ElementAnswer × Memory → (List ℕ → Memory → CutListReply × List ℕ × Memory) → CutListReply × List ℕ × Memory
going_on i room (Err n, m) rest = (Stopped n i, room, m)
going_on i room (Ok a, m) rest = rest (set room i (output_word a.output a.warning)) m

-- these cuts one after another, the first of them at position i
abbrev pub cuts_from : Limits → List ListedCut → ℕ → List ℕ → Memory → CutListReply × List ℕ × Memory
cuts_from L [] i room m = (Answered i, room, m)
cuts_from L (c ∷ cs) i room m = going_on i room (cut_reply L c.params c.root m) (cuts_from L cs (suc i))

-- 3, then 26, then 12 for the whole list, and then each cut with its own refusals
unfoldable pub cut_list_reply : Limits → CutList → List ℕ → Memory → CutListReply × List ℕ × Memory
cut_list_reply L l room m =
    if not (sound_memory L m) then (Refused NotSound, room, m)
    else if not (list_fits L l) then (Refused ListLong, room, m)
    else if ltb (length room) (length l.roots) then (Refused RoomShort, room, m)
    else cuts_from L (cuts_of L l) 0 room m

-- ---- the number and the values of each case

abbrev pub cut_list_number : CutListReply → ℕ
cut_list_number (Refused r) = refusal_number r
cut_list_number (Stopped r i) = refusal_number r
cut_list_number (Answered k) = 0

abbrev pub answers_written : CutListReply → ℕ
answers_written (Refused n) = 0
answers_written (Stopped n i) = i
answers_written (Answered k) = k

-- a position is given only with the refusal of a cut
abbrev pub refused_at : CutListReply → Option ℕ
refused_at (Refused n) = None
refused_at (Stopped n i) = Some i
refused_at (Answered k) = None

-- ---- promises

-- of n cuts: 3, 26 or 12 before any cut; a refusal of a cut and its position; or all are answered
abbrev pub EndsAs : ℕ → CutListReply → Type 0
EndsAs n (Refused r) = member (refusal_number r) (3 ∷ 26 ∷ 12 ∷ []) ≡ true
EndsAs n (Stopped r i) = (member (refusal_number r) (4 ∷ 5 ∷ 7 ∷ 8 ∷ 9 ∷ 10 ∷ 11 ∷ []) ≡ true) × (i < n)
EndsAs n (Answered k) = k ≡ n

abbrev pub CutListNumbers : Limits → Type 0
CutListNumbers L = (l : CutList) (room : List ℕ) (m : Memory) → EndsAs (length l.roots) (cut_list_reply L l room m).0

-- refused before any cut, the memory and the room are as they came
abbrev pub RefusedCutListLeaves : Limits → Type 0
RefusedCutListLeaves L = (l : CutList) (room : List ℕ) (m : Memory) (n : Refusal) → (cut_list_reply L l room m).0 ≡ Refused n → cut_list_reply L l room m ≡ (Refused n, room, m)

-- the list as calls of the single cut
abbrev pub call_of : ListedCut → Call
call_of c = cutting c.params c.root

abbrev pub calls_of : Limits → CutList → List Call
calls_of L l = map call_of (cuts_of L l)

-- the memory after the first i of them
abbrev pub after_first : Limits → CutList → ℕ → Memory → Memory
after_first L l i m = after_calls L (take i (calls_of L l)) m

-- the cut at position i, made singly after those before it
abbrev pub singly : Limits → CutList → ℕ → Memory → Reply ElementAnswer × Memory
singly L l i m = cut_reply L (cut_at L l i).params (cut_at L l i).root (after_first L l i m)

-- a single cut that is answered, and this is its word
pub record AnsweredAs (r : Reply ElementAnswer) (word : ℕ) : Type 0 where
  pub answer : ElementAnswer
  pub reply : r ≡ Ok answer
  pub told : word ≡ output_word answer.output answer.warning

-- the first k cuts of a list, as they are made singly in that order: their answers, their memory, and the room behind the answers as it came
pub record MadeSingly (L : Limits) (l : CutList) (k : ℕ) (room filled : List ℕ) (m after : Memory) : Type 0 where
  pub few : k ≤ length l.roots
  pub answers : (i : ℕ) → i < k → AnsweredAs (singly L l i m).0 (get_or filled i 0)
  pub memory : after ≡ after_first L l k m
  pub calls : TableStays L (take k (calls_of L l)) m
  pub behind : Filled k room filled

-- so what is promised after any calls of which no cube and no file is taken is promised after a list
abbrev pub CutListIsCuts : Limits → Type 0
CutListIsCuts L = (l : CutList) (room : List ℕ) (m : Memory) → let r = cut_list_reply L l room m in MadeSingly L l (answers_written r.0) room r.1 m r.2

-- stopped at a cut: made singly there it is refused with the same number, and leaves the memory of those before it
abbrev pub StoppedAtTheRefused : Limits → Type 0
StoppedAtTheRefused L = (l : CutList) (room : List ℕ) (m : Memory) (n : Refusal) (i : ℕ) → (cut_list_reply L l room m).0 ≡ Stopped n i
    → singly L l i m ≡ (Err n, (cut_list_reply L l room m).2)

-- the calls by which a list of which k cuts were made goes on after its cut at position i
abbrev pub going_on_by : Limits → CutList → ℕ → ℕ → List Call
going_on_by L l k i = drop (suc i) (take k (calls_of L l))

-- from the cut at position i the memory after a list is reached by calls of which no cube and no file is taken
pub record GoesOn (L : Limits) (l : CutList) (k i : ℕ) (m after : Memory) : Type 0 where
  pub memory : after_calls L (going_on_by L l k i) (singly L l i m).1 ≡ after
  pub calls : TableStays L (going_on_by L l k i) (singly L l i m).1

-- so the same cut again, and one side of it asked later, are what was answered, also after the list
abbrev pub CutListGoesOn : Limits → Type 0
CutListGoesOn L = (l : CutList) (room : List ℕ) (m : Memory) (i : ℕ) → let r = cut_list_reply L l room m in
    i < answers_written r.0 → GoesOn L l (answers_written r.0) i m r.2

-- all k cuts of a list are answered as they were, and nothing is added
pub record AnsweredAgain (k : ℕ) (filled : List ℕ) (m : Memory) (r : CutListReply × List ℕ × Memory) : Type 0 where
  pub reply : r.0 ≡ Answered k
  pub answers : (i : ℕ) → i < k → get_or r.1 i 0 ≡ get_or filled i 0
  pub memory : r.2 ≡ m

-- a list that was answered to its end, made again after any further calls of which no cube and no file is taken, with room for its answers
abbrev pub CutListAgain : Limits → Type 0
CutListAgain L = (l : CutList) (room : List ℕ) (m : Memory) (k : ℕ) → let r = cut_list_reply L l room m in r.0 ≡ Answered k
    → (cs : List Call) → TableStays L cs r.2 → let later = after_calls L cs r.2 in
    (room' : List ℕ) → length l.roots ≤ length room' → AnsweredAgain k r.1 later (cut_list_reply L l room' later)
