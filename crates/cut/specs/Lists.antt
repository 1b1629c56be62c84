-- A list of cuts under way: the lent slices as one list, and what the cut at a position does. Definitions only.
use Rattle.std.specs.Prelude.{ℕ, ◌+◌, ◌*◌, ◌≤◌, ◌<◌, ◌≡◌, true, List, [], length, Float, Err, Ok}
use Rattle.rules.specs.Limits.{desk}
use Rattle.rules.specs.Memory.{Memory, plane_width}
use Rattle.rules.specs.Held.{memory_of}
use Rattle.rules.specs.Replies.{cut_reply}
use Rattle.rules.specs.CutLists.{CutList, list_fits, cut_at, cuts_of, going_on, cuts_from}
use Rattle.rules.specs.declared.CutParams.{CutParams}
use Rattle.rules.specs.declared.CutListReply.{CutListReply}
use Rattle.rules.specs.declared.CutListReply.TheVariants.{Stopped}
use Rattle.cut.specs.Whole.{SoundIndexed}
use Rattle.rules.specs.Refusals.{Reply}

-- the three slices as one list
abbrev pub cut_list_of : List Float → List ℕ → List ℕ → CutList
cut_list_of ds ks rs = record { dividers = ds; kept = ks; roots = rs }

-- the divider in row i and the kept byte i are there
pub record RowReady (ds : List Float) (ks : List ℕ) (i : ℕ) : Type 0 where
  pub row : i * plane_width desk + plane_width desk ≤ length ds
  pub byte : i < length ks

-- the parameters of the cut at position i, whatever its root
abbrev pub params_at : List Float → List ℕ → ℕ → CutParams
params_at ds ks i = (cut_at desk (cut_list_of ds ks []) i).params

-- the cuts of a list that fits may be made, with room for all answers
pub record ListReady (cs : List ℕ) (ps hs : List Float) (es ix : List ℕ) (l : CutList) (room : List ℕ) : Type 0 where
  pub memory : SoundIndexed cs ps hs es ix
  pub fits : list_fits desk l ≡ true
  pub enough : length l.roots ≤ length room

-- the same, and a position of the list
pub record PositionReady (cs : List ℕ) (ps hs : List Float) (es ix : List ℕ) (l : CutList) (room : List ℕ) (i : ℕ) : Type 0 where
  pub list : ListReady cs ps hs es ix l room
  pub low : i < length l.roots

-- a list that goes on after the cut at position i, or stops there
abbrev pub after_made : ℕ → Reply (Unit {0}) → List ℕ → Memory → (List ℕ → Memory → CutListReply × List ℕ × Memory) → CutListReply × List ℕ × Memory
after_made i (Err n) room m rest = (Stopped n i, room, m)
after_made i (Ok x) room m rest = rest room m

-- the cut at position i, whatever comes after it; after an answer the list may go on
pub record CutMade (cs : List ℕ) (ps hs : List Float) (es : List ℕ) (l : CutList) (room : List ℕ) (i : ℕ) (x : Reply (Unit {0}))
    (cs' : List ℕ) (ps' hs' : List Float) (es' ix' room' : List ℕ) : Type 0 where
  pub goes : (rest : List ℕ → Memory → CutListReply × List ℕ × Memory)
      → after_made i x room' (memory_of cs' ps' hs' es') rest ≡ going_on i room (cut_reply desk (cut_at desk l i).params (cut_at desk l i).root (memory_of cs ps hs es)) rest
  pub again : x ≡ Ok tt → ListReady cs' ps' hs' es' ix' l room'

-- what the cuts of a list do, all of them in turn
pub record CutsMade (cs : List ℕ) (ps hs : List Float) (es : List ℕ) (l : CutList) (room : List ℕ) (r : CutListReply)
    (cs' : List ℕ) (ps' hs' : List Float) (es' room' : List ℕ) : Type 0 where
  pub of : ◌≡◌ {A = CutListReply × List ℕ × Memory} (r, room', memory_of cs' ps' hs' es') (cuts_from desk (cuts_of desk l) 0 room (memory_of cs ps hs es))
