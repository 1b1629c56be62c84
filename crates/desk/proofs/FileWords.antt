-- A file has few enough bytes for their count to stand above the reply's number.
use Rattle.std.specs.Prelude.{if◌then◌else◌, Ok, Err}
use Prim.Native.Nat.{ℕ, ◌≤◌}
use mathlib.Core.Bool.{Bool, true, false, not}
use mathlib.Core.List.{List, ◌++◌}
use mathlib.Core.Path.{◌≡◌, refl}
use lib.Dec.{leb}
use lib.ListN.{length, drop}
use Rattle.rules.specs.Limits.{desk}
use Rattle.rules.specs.Memory.{Memory, decode, sound_memory}
use Rattle.rules.specs.Questions.{no_answer, answer}
use Rattle.rules.specs.Replies.{listed}
use Rattle.rules.specs.Files.{file_of, save_reply}
use Rattle.files.proofs.SavedTable.{file_short}
use Rattle.desk.specs.Words.{longest, SizeFits}
use Rattle.rules.specs.Refusals.{Reply}
use Rattle.rules.specs.declared.Refusal.TheVariants.{NotInUse, NotSound, RoomShort}

pub file_fits : (m : Memory) (room : List ℕ) → SizeFits (save_reply desk m room).0
unfolding save_reply
file_fits m room = go (sound_memory desk m) refl
  where
    file : List ℕ
    file = file_of (decode desk m)

    done : (b : Bool) → length file ≤ longest → SizeFits (if◌then◌else◌ {A = Reply ℕ × List ℕ} b (Ok (length file), file ++ drop (length file) room) (Err RoomShort, room)).0
    done true h = h
    done false h = tt

    go : (s : Bool) → sound_memory desk m ≡ s → SizeFits (listed (if not s then no_answer NotSound else if not true then no_answer NotInUse else answer file) room).0
    go false q = tt
    go true q = done (leb (length file) (length room)) (file_short m.counts m.points m.planes m.elements q)
