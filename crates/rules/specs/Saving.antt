-- What is promised of saving a table and opening it (document 02, order 1). That saving is refused with 3 or 12, and leaves what it does not fill, is said of every question that gives a list. Definitions only.
use Rattle.std.specs.Prelude.{ℕ, ◌≤◌, ◌<◌, ◌≡◌, true, List, [], ◌∷◌, length, take, if◌then◌else◌, Some, Ok, Err}
use Rattle.rules.specs.Limits.{Limits, Roomier}
use Rattle.rules.specs.Lists.{member}
use Rattle.rules.specs.Bytes.{are_bytes}
use Rattle.rules.specs.Table.{Table}
use Rattle.rules.specs.Sound.{sound, room_fits}
use Rattle.rules.specs.Memory.{Memory, right_size, sound_memory}
use Rattle.rules.specs.Questions.{no_answer, answer}
use Rattle.rules.specs.Replies.{list_size}
use Rattle.rules.specs.Files.{file_of, table_in, save_reply, open_reply, are_floats, table_floats}
use Rattle.rules.specs.declared.Refusal.TheVariants.{NotSound, Layout}
use Rattle.rules.specs.Refusals.{reply_number}

-- a refused file leaves the memory
abbrev pub RefusedOpenLeaves : Limits → Type 0
RefusedOpenLeaves L = (bs : List ℕ) (m : Memory) → 0 < reply_number (open_reply L bs m).0 → (open_reply L bs m).1 ≡ m

-- which numbers opening can give
abbrev pub OpenNumbers : Limits → Type 0
OpenNumbers L = (bs : List ℕ) (m : Memory) → member (reply_number (open_reply L bs m).0) (0 ∷ 3 ∷ 13 ∷ []) ≡ true

-- a file that is taken makes a sound memory
abbrev pub OpenIsSound : Limits → Type 0
OpenIsSound L = (bs : List ℕ) (m : Memory) → reply_number (open_reply L bs m).0 ≡ 0 → sound_memory L (open_reply L bs m).1 ≡ true

-- what was saved opens, in any memory of the room's size, as the memory that it was saved from
abbrev pub SavedOpens : Limits → Type 0
SavedOpens L = (m n : Memory) (room : List ℕ) (k : ℕ) → are_floats m.points ≡ true → are_floats m.planes ≡ true → right_size L n ≡ true
    → list_size (save_reply L m room).0 ≡ Some k → open_reply L (take k (save_reply L m room).1) n ≡ (Ok tt, m)

-- and what was opened is saved as the bytes that it was opened from
abbrev pub OpenedSaves : Limits → Type 0
OpenedSaves L = (bs room : List ℕ) (m : Memory) → are_bytes bs ≡ true → reply_number (open_reply L bs m).0 ≡ 0 → length bs ≤ length room
    → let r = save_reply L (open_reply L bs m).1 room in (list_size r.0 ≡ Some (length bs)) × (take (length bs) r.1 ≡ bs)

-- a table has one file: it is accepted, and no other is
abbrev pub OneFile : Limits → Type 0
OneFile L = (t : Table) → (sound L t ≡ true → table_floats t ≡ true → table_in L (file_of t) ≡ answer t)
    × ((bs : List ℕ) → are_bytes bs ≡ true → table_in L bs ≡ answer t → bs ≡ file_of t)

-- a file says the same table in a roomier room; one that is accepted there is accepted here exactly if its table fits this room's limits, and else is 3
abbrev pub OpensRoomier : Limits → Type 0
OpensRoomier L = (M : Limits) → Roomier L M → (bs : List ℕ) (t : Table) → (table_in L bs ≡ answer t → table_in M bs ≡ answer t)
    × (table_in M bs ≡ answer t → table_in L bs ≡ (if room_fits L t then answer t else no_answer NotSound))

-- 13 is the layout alone, before every 3: no room changes it, and no memory that is lent, of whatever size
abbrev pub LayoutAlone : Limits → Type 0
LayoutAlone L = (M : Limits) (bs : List ℕ) (m n : Memory) → (open_reply L bs m).0 ≡ Err Layout → open_reply M bs n ≡ (Err Layout, n)
