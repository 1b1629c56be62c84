-- What is promised of a record's turn, through its number and its values. Definitions only; proofs/Promises.antt proves the record at the end.
use Rattle.std.specs.Prelude.{ℕ, ◌<◌, ◌≤◌, ◌≡◌, Bool, true, List, length, drop, Some, None}
use Rattle.rules.specs.Memory.{Memory}
use Rattle.session.specs.Written.{line_room, TurnReply, turn_number, turn_values, turn_reply}

-- 12 exactly where the room is too short for a line, 0 exactly with values, and no number for a bad record
pub record TurnNumbered (room : List ℕ) (r : TurnReply) : Type 0 where
  pub short : length room < line_room → turn_number r ≡ Some 12
  pub refused : turn_number r ≡ Some 12 → (length room < line_room) × (turn_values r ≡ None)
  pub taken : turn_number r ≡ Some 0 → (v : ℕ × ℕ × Bool) × (turn_values r ≡ Some v)
  pub bad : turn_number r ≡ None → turn_values r ≡ None

abbrev pub TurnNumbers : Type 0
TurnNumbers = (stands : Bool) (m : Memory) (bytes room : List ℕ) → TurnNumbered room (turn_reply stands m bytes room).0

-- a turn that is not taken leaves the memory and the room as they came
abbrev pub UntakenTurnLeaves : Type 0
UntakenTurnLeaves = (stands : Bool) (m : Memory) (bytes room : List ℕ) → turn_values (turn_reply stands m bytes room).0 ≡ None
    → ((turn_reply stands m bytes room).1 ≡ m) × ((turn_reply stands m bytes room).2 ≡ room)

-- a record of k bytes is taken, and a line of n: the record is there, the line fits its room and leaves what is behind it, and a table that stood stands
pub record TurnTaken (stands : Bool) (bytes room after : List ℕ) (k n : ℕ) (later : Bool) : Type 0 where
  pub some_bytes : 0 < k
  pub in_bytes : k ≤ length bytes
  pub in_room : n ≤ length room
  pub size : length after ≡ length room
  pub rest : drop n after ≡ drop n room
  pub table : stands ≡ true → later ≡ true

abbrev pub TakenTurnGoesOn : Type 0
TakenTurnGoesOn = (stands : Bool) (m : Memory) (bytes room : List ℕ) (k n : ℕ) (later : Bool)
    → turn_values (turn_reply stands m bytes room).0 ≡ Some (k, n, later) → TurnTaken stands bytes room (turn_reply stands m bytes room).2 k n later

-- ---- all of them

pub record Promises : Type 0 where
  pub turn_numbers : TurnNumbers
  pub untaken_turn_leaves : UntakenTurnLeaves
  pub taken_turn_goes_on : TakenTurnGoesOn
