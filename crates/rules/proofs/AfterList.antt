-- What each single cut keeps of the memory, a list of cuts keeps: a refused list leaves it, and each cut of one that is made goes on from the cut before it.
use Rattle.std.specs.Prelude.{if◌then◌else◌, Err, Ok}
use Prim.Native.Nat.{ℕ, suc}
use mathlib.Core.Bool.{Bool, true, false, not}
use mathlib.Core.List.{List, [], ◌∷◌}
use mathlib.Core.Path.{◌≡◌, refl, sym, subst}
use lib.Dec.{ltb}
use lib.ListN.{length, set}
use Rattle.rules.specs.Limits.{Limits}
use Rattle.rules.specs.Memory.{Memory, sound_memory}
use Rattle.rules.specs.Replies.{output_word, cut_reply}
use Rattle.rules.specs.CutLists.{CutList, list_fits, ListedCut, cuts_of, going_on, cuts_from, cut_list_reply}
use Rattle.rules.specs.declared.CutParams.{CutParams}
use Rattle.rules.specs.declared.CutListReply.{CutListReply}
use Rattle.rules.specs.declared.CutListReply.TheVariants.{Refused}
use Rattle.rules.specs.Refusals.{Reply}
use Rattle.rules.specs.declared.ElementAnswer.{ElementAnswer}
use Rattle.rules.specs.declared.Refusal.TheVariants.{ListLong, NotSound, RoomShort}

-- a list's reply, the room for answers after it, and the memory
abbrev pub Result : Type 0
Result = CutListReply × List ℕ × Memory

-- ---- the reply by its three tests

module _ (L : Limits) (l : CutList) (room : List ℕ) (m : Memory) where
  abbrev pub list_by : Bool → Bool → Bool → Result
  list_by s f k = if not s then (Refused NotSound, room, m) else if not f then (Refused ListLong, room, m) else if k then (Refused RoomShort, room, m) else cuts_from L (cuts_of L l) 0 room m

  pub list_by_lem : cut_list_reply L l room m ≡ list_by (sound_memory L m) (list_fits L l) (ltb (length room) (length l.roots))
  unfolding cut_list_reply
  list_by_lem = refl

-- ---- what each cut keeps

module _ (L : Limits) (P : Memory → Type 0) (kept : (p : CutParams) (root : ℕ) (m : Memory) → P m → P (cut_reply L p root m).1) where
  pub after_cuts : (cs : List ListedCut) (i : ℕ) (room : List ℕ) (m : Memory) → P m → P (cuts_from L cs i room m).2
  after_cuts [] i room m h = h
  after_cuts (c ∷ cs) i room m h = go (cut_reply L c.params c.root m).0 (cut_reply L c.params c.root m).1 (kept c.params c.root m h) (after_cuts cs (suc i))
    where
      go : (r : Reply ElementAnswer) (m' : Memory) → P m' → ((room : List ℕ) (m : Memory) → P m → P (cuts_from L cs (suc i) room m).2) → P (going_on i room (r, m') (cuts_from L cs (suc i))).2
      go (Err n) m' k later = k
      go (Ok a) m' k later = later (set room i (output_word a.output a.warning)) m' k

  pub after_list : (l : CutList) (room : List ℕ) (m : Memory) → P m → P (cut_list_reply L l room m).2
  after_list l room m h = subst (λ (r : Result). P r.2) (sym (list_by_lem L l room m)) (go (sound_memory L m) (list_fits L l) (ltb (length room) (length l.roots)))
    where
      go : (s f k : Bool) → P (list_by L l room m s f k).2
      go false f k = h
      go true false k = h
      go true true true = h
      go true true false = after_cuts (cuts_of L l) 0 room m h
