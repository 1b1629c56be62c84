-- What is written into the lent room: the line of a record. Definitions only.
use Rattle.std.specs.Prelude.{ℕ, Bool, ◌≡◌, List, ltb, length, if◌then◌else◌, Option, Some, None, Result, Ok, Err}
use Rattle.std.proofs.lemmas.List.Edits.{sets}
use Rattle.rules.specs.Limits.{desk}
use Rattle.rules.specs.Memory.{Memory}
use Rattle.rules.specs.Session.{bad_line, text, Turn, bad, taken, turn}
use Rattle.rules.specs.Promises.{NamesBelow}
use Rattle.rules.specs.declared.ElementCutOutput.{ElementCutOutput}
use Rattle.session.specs.declared.Taken.{Taken}
use Rattle.session.specs.declared.Untaken.{Untaken}
use Rattle.session.specs.declared.Untaken.TheVariants.{NoRoom, Bad}
use Rattle.rules.specs.Refusals.{Reply}
use Rattle.rules.specs.declared.ElementAnswer.{ElementAnswer}

-- room that is enough for every line
abbrev pub line_room : ℕ
line_room = 64

-- an answer names elements of the room, and comes with four counts
pub record AnswerFits (a : ElementCutOutput) (cs : List ℕ) : Type 0 where
  pub names : NamesBelow desk.elements a
  pub counts : length cs ≡ 4

abbrev pub LineFits : Reply ElementAnswer → List ℕ → Type 0
LineFits (Err n) cs = Unit {0}
LineFits (Ok a) cs = AnswerFits a.output cs

-- what a turn replies: that a record is taken, or why it is not
abbrev pub TurnReply : Type 0
TurnReply = Result Taken Untaken

-- a record of k bytes and a line of n
abbrev pub taking : ℕ → ℕ → Bool → Taken
taking k n stands = record { record_bytes = k; line_bytes = n; stands = stands }

-- the reply, the memory and the room after a turn
abbrev pub reply_of : Memory → List ℕ → Turn → TurnReply × Memory × List ℕ
reply_of m room bad = (Err Bad, m, room)
reply_of m room (taken k line stands after) = (Ok (taking k (length (text line)) stands), after, sets room 0 (text line))

-- document 01's values of a turn that is taken: the record's length, its line's length, and whether a table stands then; no other turn has any
abbrev pub turn_values : TurnReply → Option (ℕ × ℕ × Bool)
turn_values (Err u) = None
turn_values (Ok t) = Some (t.record_bytes, t.line_bytes, t.stands)

-- its number: 0 is taken, 12 too little room; a bad record has no number, only its line
abbrev pub turn_number : TurnReply → Option ℕ
turn_number (Err NoRoom) = Some 12
turn_number (Err Bad) = None
turn_number (Ok t) = Some 0

-- a record's turn; in too little room nothing is done
unfoldable pub turn_reply : Bool → Memory → List ℕ → List ℕ → TurnReply × Memory × List ℕ
turn_reply stands m bytes room = if ltb (length room) line_room then (Err NoRoom, m, room) else reply_of m room (turn desk stands m bytes)

-- the line of a bad record and its length
unfoldable pub bad_reply : ℕ → List ℕ → ℕ × List ℕ
bad_reply offset room = if ltb (length room) line_room then (0, room) else (length (text (bad_line offset)), sets room 0 (text (bad_line offset)))
