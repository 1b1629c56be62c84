-- What a function asks of its caller: one record for each that asks more than one thing. Definitions only.
-- `room` says that what the function puts fits the lent room, whose bytes are `out`.
use Rattle.std.specs.Prelude.{ℕ, ◌+◌, ◌≤◌, ◌<◌, ◌≡◌, true, List, length, get_or, Option}
use Rattle.rules.specs.Limits.{desk}
use Rattle.rules.specs.Promises.{OneBelow, NamesBelow}
use Rattle.rules.specs.Session.{is_cube, is_cut, cut_length}
use Rattle.rules.specs.declared.ElementCutOutput.{ElementCutOutput}
use Rattle.session.specs.Written.{line_room, LineFits}
use Rattle.rules.specs.Refusals.{Reply}
use Rattle.rules.specs.declared.ElementAnswer.{ElementAnswer}
use Rattle.rules.specs.declared.ElementId.{ElementId}

-- ---- parts of a line

-- the place of an element or none
pub record PlaceReady (e : Option ElementId) (out : List ℕ) (at : ℕ) : Type 0 where
  pub element : OneBelow desk.elements e
  pub room : at + 21 ≤ length out

-- the counts and the end of a line
pub record CountsEndReady (cs out : List ℕ) (at : ℕ) : Type 0 where
  pub counts : length cs ≡ 4
  pub room : at + 34 ≤ length out

-- ---- whole lines

-- a name and a number
pub record NumberedReady (word out : List ℕ) : Type 0 where
  pub name : length word ≤ 7
  pub room : line_room ≤ length out

-- a name and the counts
pub record CountedReady (word cs out : List ℕ) : Type 0 where
  pub name : length word ≤ 7
  pub counts : length cs ≡ 4
  pub room : line_room ≤ length out

-- the three places of an answer and the counts
pub record SidesLineReady (i o x : Option ElementId) (cs out : List ℕ) : Type 0 where
  pub inside : OneBelow desk.elements i
  pub outside : OneBelow desk.elements o
  pub intersection : OneBelow desk.elements x
  pub counts : length cs ≡ 4
  pub room : line_room ≤ length out

-- an answer
pub record AnswerLineReady (a : ElementCutOutput) (cs out : List ℕ) : Type 0 where
  pub names : NamesBelow desk.elements a
  pub counts : length cs ≡ 4
  pub room : line_room ≤ length out

-- a cut's reply
pub record CutLineReady (r : Reply ElementAnswer) (cs out : List ℕ) : Type 0 where
  pub fits : LineFits r cs
  pub room : line_room ≤ length out

-- ---- records

-- a component of the divider read out of a record of d dimensions
pub record ComponentReady (bytes : List ℕ) (d n : ℕ) : Type 0 where
  pub record_there : cut_length d ≤ length bytes
  pub axis : n < desk.dimensions

-- the whole divider
pub record DividerReady (bytes : List ℕ) (d : ℕ) : Type 0 where
  pub word : d < 65536
  pub record_there : cut_length d ≤ length bytes

-- the turn of a cube
pub record CubeTurnReady (bytes out : List ℕ) : Type 0 where
  pub asked : is_cube bytes ≡ true
  pub room : line_room ≤ length out

-- the turn of a cut
pub record CutTurnReady (cs bytes out : List ℕ) : Type 0 where
  pub asked : is_cut (get_or cs 0 0) bytes ≡ true
  pub room : line_room ≤ length out
