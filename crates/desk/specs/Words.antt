-- The one number that a host is given for a reply. Definitions only.
use Rattle.std.specs.Prelude.{ℕ, ◌+◌, ◌*◌, ◌≤◌, not, cond, List, [], ◌∷◌, eqb, leb, Float, Ok, Err, Bool}
use Rattle.rules.specs.Memory.{Memory}
use Rattle.rules.specs.Replies.{output_word, fate_of}
use Rattle.rules.specs.Touch.{touch_value}
use Rattle.rules.specs.declared.Hyperplane.{Hyperplane}
use Rattle.rules.specs.declared.PolytopeFate.{PolytopeFate}
use Rattle.rules.specs.declared.CutListReply.{CutListReply}
use Rattle.rules.specs.declared.CutListReply.TheVariants.{Refused, Stopped, Answered}
use Rattle.rules.specs.Refusals.{refusal_number, Reply, reply_number}
use Rattle.rules.specs.declared.ElementAnswer.{ElementAnswer}
use Rattle.rules.specs.declared.Touched.{Touched}

-- the number of a reply that has nothing else to tell
abbrev pub number_word : Reply (Unit {0}) × Memory → ℕ × Memory
number_word (r, m) = (reply_number r, m)

-- bits 0 to 7 are the reply's number
abbrev pub cut_word : Reply ElementAnswer × Memory → ℕ × Memory
cut_word (Err r, m) = (refusal_number r, m)
cut_word (Ok a, m) = (output_word a.output a.warning, m)

-- bits 0 to 7 are the reply's number, and above them stands how many answers were written: where a cut was refused, its position
abbrev pub written_word : CutListReply → ℕ
written_word (Refused r) = refusal_number r
written_word (Stopped r i) = refusal_number r + i * 0x100
written_word (Answered k) = k * 0x100

-- beside it, the room for answers and the memory
abbrev pub cut_list_word : CutListReply × List ℕ × Memory → ℕ × List ℕ × Memory
cut_list_word (r, room, m) = (written_word r, room, m)

-- bits 0 to 7 are the reply's number, and above them stands the size of the list
abbrev pub size_word : Reply ℕ → ℕ
size_word (Err r) = refusal_number r
size_word (Ok n) = n * 0x100

-- beside it, the list room
module _ {A : Type 0} where
  abbrev pub list_word : Reply ℕ × List A → ℕ × List A
  list_word (r, room) = (size_word r, room)

-- bits 0 to 7 are the reply's number, bit 8 the answer
abbrev pub facet_word : Reply Bool → ℕ
facet_word (Err r) = refusal_number r
facet_word (Ok b) = cond b 0x100 0

-- bits 0 to 7 are the reply's number, bits 8 and 9 the answer, and from bit 16 on stands how many corners were tested
abbrev pub touch_word : Reply Touched → ℕ
touch_word (Err r) = refusal_number r
touch_word (Ok t) = touch_value t.answer * 0x100 + t.tested * 0x10000

-- the divider, of its four components and its distance
abbrev pub divider_with : Float → Float → Float → Float → Float → Hyperplane
divider_with n0 n1 n2 n3 distance = record { normal = n0 ∷ n1 ∷ n2 ∷ n3 ∷ []; distance = distance }

-- 0 removes a side, and any other number keeps it
abbrev pub fate_by : ℕ → PolytopeFate
fate_by n = fate_of (not (eqb n 0))

-- a rank as a byte; one that no byte holds is 255, which no element has either
abbrev pub rank_byte : ℕ → ℕ
rank_byte k = cond (leb k 255) k 255

-- no list has more numbers, and no file more bytes
abbrev pub longest : ℕ
longest = 65535

-- a list no longer than that, or a refusal
abbrev pub SizeFits : Reply ℕ → Type 0
SizeFits (Err n) = Unit {0}
SizeFits (Ok n) = n ≤ longest

-- no more corners tested than that, or a refusal
abbrev pub CountFits : Reply Touched → Type 0
CountFits (Err n) = Unit {0}
CountFits (Ok t) = t.tested ≤ longest
