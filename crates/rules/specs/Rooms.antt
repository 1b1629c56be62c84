-- What a room answers, a roomier one answers alike: said of tables, and of every public reply. Definitions only.
use Rattle.std.specs.Prelude.{ℕ, ◌≡◌, true, List, [], ◌∷◌, map, ℤ, length, Float, Ok, Err}
use Rattle.rules.specs.Limits.{Limits, Readable, Roomier}
use Rattle.rules.specs.Lists.{member, pad}
use Rattle.rules.specs.Floats.{plus_zero}
use Rattle.rules.specs.Table.{ElementNumber, Table}
use Rattle.rules.specs.Sound.{sound}
use Rattle.rules.specs.Memory.{Memory, encode, decode, right_size, sound_memory}
use Rattle.rules.specs.Cut.{refused, done, Params, cut}
use Rattle.rules.specs.Replies.{is_sound_reply, cube_reply, cut_reply, primordial_facet_reply}
use Rattle.rules.specs.Touch.{touch_reply}
use Rattle.rules.specs.Files.{open_reply}
use Rattle.rules.specs.Calls.{ListQuestion, list_reply}
use Rattle.rules.specs.CutLists.{CutList, list_fits, ListedCut, cuts_of, cut_list_reply, cut_list_number}
use Rattle.rules.specs.Areas.{areas_reply}
use Rattle.rules.specs.declared.Hyperplane.{Hyperplane}
use Rattle.rules.specs.declared.CutParams.{CutParams}
use Rattle.rules.specs.declared.ElementAnswer.{ElementAnswer}
use Rattle.rules.specs.Refusals.{reply_number}
use Rattle.rules.specs.declared.Refusal.TheVariants.{NotClosed, Radius, Layout}

-- what is done in the one room is done alike in the other, and so is refusal 7; what is sound in the one is sound in the other
pub record TablesAlike (L M : Limits) : Type 0 where
  pub cuts : (p : Params) (root : ElementNumber) (t t' : Table) (a : ElementAnswer) → cut L p root t ≡ done a t' → cut M p root t ≡ done a t'
  pub refuses : (p : Params) (root : ElementNumber) (t : Table) → cut L p root t ≡ refused NotClosed → cut M p root t ≡ refused NotClosed
  pub stays_sound : (t : Table) → sound L t ≡ true → sound M t ≡ true

-- the same table, as the other room has it in memory
abbrev pub moved : Limits → Limits → Memory → Memory
moved L M m = encode M (decode L m)

-- the same divider, with a component for each axis of the other room
abbrev pub widened : Limits → Hyperplane → Hyperplane
widened M h = record { normal = pad plus_zero M.dimensions h.normal; distance = h.distance }

-- the same parameters, with that divider
abbrev pub widened_params : Limits → CutParams → CutParams
widened_params M p = record { divider = widened M p.divider; inside = p.inside; outside = p.outside }

abbrev pub widened_cut : Limits → ListedCut → ListedCut
widened_cut M c = record { params = widened_params M c.params; root = c.root }

-- two lists of the same cuts, each laid out for its own room
pub record SameCuts (L M : Limits) (l k : CutList) : Type 0 where
  pub here : list_fits L l ≡ true
  pub there : list_fits M k ≡ true
  pub cuts : cuts_of M k ≡ map (widened_cut M) (cuts_of L l)

-- each public reply. A cut: done, and refusals 4, 5 and 7; 8 to 11 are the room's own. A list of cuts: the same, and 12. A cube: done, and refusal 2.
-- A file: done, and refusal 13. A question, saving, a touch and an area sheet too: every reply of a sound memory
pub record RepliesAlike (L M : Limits) : Type 0 where
  pub is_sound : (m : Memory) → is_sound_reply L m ≡ Ok tt → is_sound_reply M (moved L M m) ≡ Ok tt
  pub cube_done : (d : ℕ) (radius : Float) (m n : Memory) → reply_number (cube_reply L d radius m).0 ≡ 0 → right_size M n ≡ true
      → cube_reply M d radius n ≡ (Ok tt, moved L M (cube_reply L d radius m).1)
  pub cube_refused : (d : ℕ) (radius : Float) (m n : Memory) → (cube_reply L d radius m).0 ≡ Err Radius → cube_reply M d radius n ≡ (Err Radius, n)
  pub open_done : (bs : List ℕ) (m n : Memory) → reply_number (open_reply L bs m).0 ≡ 0 → right_size M n ≡ true → open_reply M bs n ≡ (Ok tt, moved L M (open_reply L bs m).1)
  pub open_refused : (bs : List ℕ) (m n : Memory) → (open_reply L bs m).0 ≡ Err Layout → open_reply M bs n ≡ (Err Layout, n)
  pub cut_alike : (p : CutParams) (root : ElementNumber) (m : Memory) → length p.divider.normal ≡ L.dimensions
      → member (reply_number (cut_reply L p root m).0) (0 ∷ 4 ∷ 5 ∷ 7 ∷ []) ≡ true
      → cut_reply M (widened_params M p) root (moved L M m) ≡ ((cut_reply L p root m).0, moved L M (cut_reply L p root m).1)
  pub cut_list_alike : (l k : CutList) (room : List ℕ) (m : Memory) → SameCuts L M l k → let r = cut_list_reply L l room m in
      member (cut_list_number r.0) (0 ∷ 4 ∷ 5 ∷ 7 ∷ 12 ∷ []) ≡ true → cut_list_reply M k room (moved L M m) ≡ (r.0, r.1, moved L M r.2)
  pub list_alike : (q : ListQuestion) (m : Memory) (room : List ℕ) → sound_memory L m ≡ true → list_reply M q (moved L M m) room ≡ list_reply L q m room
  pub facet_alike : (m : Memory) (e : ElementNumber) → sound_memory L m ≡ true → primordial_facet_reply M (moved L M m) e ≡ primordial_facet_reply L m e
  pub touch_alike : (h : Hyperplane) (root : ElementNumber) (m : Memory) → length h.normal ≡ L.dimensions → sound_memory L m ≡ true
      → touch_reply M (widened M h) root (moved L M m) ≡ touch_reply L h root m
  pub areas_alike : (m : Memory) (pieces : List ElementNumber) (room : List ℤ) → sound_memory L m ≡ true → areas_reply M (moved L M m) pieces room ≡ areas_reply L m pieces room

-- what a room does not refuse, a roomier one answers alike; in memory, where its rows can be read back
abbrev pub RoomierAlike : Limits → Type 0
RoomierAlike L = (M : Limits) → Roomier L M → TablesAlike L M × (Readable M → RepliesAlike L M)
