-- What a cut remembers: the words of the answers given so far, and when they are true of a table. Definitions only.
use Rattle.std.specs.Prelude.{ℕ, zero, suc, ◌+◌, ◌*◌, ◌/◌, ◌%◌, ◌<◌, ◌≡◌, Bool, true, ◌||◌, List, ltb, length, get_or, set, Option, Some, None, Ok, Err}
use Rattle.rules.specs.Limits.{desk}
use Rattle.rules.specs.Table.{Table, rank, element_count}
use Rattle.rules.specs.Cut.{done, given, cut_element}
use Rattle.rules.specs.declared.ElementCutOutput.{ElementCutOutput}
use Rattle.rules.specs.declared.ElementCutOutput.TheVariants.{Flush, NonFlush}
use Rattle.gathered.specs.Sets.{OutputInRoom}
use Rattle.gathered.specs.Cutting.{cut_of}
use Rattle.rules.specs.declared.Cutter.{Cutter}
use Rattle.rules.specs.declared.ElementId.{ElementId}
use Rattle.rules.specs.Refusals.{Reply}

-- ---- one word of three fields an element

-- a field lies below this number
abbrev pub field_size : ℕ
field_size = 1024

-- none is 1, and an element is two above its number
abbrev pub field_of : Option ElementId → ℕ
field_of None = 1
field_of (Some e) = suc (suc e.0)

-- the element of a field, or none
abbrev pub some_of : ℕ → Option ElementId
some_of zero = None
some_of (suc zero) = None
some_of (suc (suc e)) = given e

-- what three fields say: a second field of 0 is flush
abbrev pub output_of : ℕ → ℕ → ℕ → ElementCutOutput
output_of a zero c = Flush
output_of a (suc b) c = NonFlush (some_of a) (some_of (suc b)) (some_of c)

-- a word is its fields as digits, the first lowest
abbrev pub packed : ℕ → ℕ → ℕ → ℕ
packed a b c = (c * field_size + b) * field_size + a

-- and says what they say
abbrev pub output_in : ℕ → ElementCutOutput
output_in w = output_of (w % field_size) (w / field_size % field_size) (w / field_size / field_size)

-- element e was asked: its word is not 0
unfoldable pub known_at : List ℕ → ℕ → Bool
known_at ms e = ltb 0 (get_or ms e 0)

-- what it answered
unfoldable pub output_at : List ℕ → ℕ → ElementCutOutput
output_at ms e = output_in (get_or ms e 0)

-- the fields of element e are a, b and c
unfoldable pub fields_at : List ℕ → ℕ → ℕ → ℕ → ℕ → List ℕ
fields_at ms e a b c = set ms e (packed a b c)

-- the answer of element e is kept
abbrev pub with_answer : List ℕ → ℕ → ElementCutOutput → List ℕ
with_answer ms e Flush = fields_at ms e 1 0 0
with_answer ms e (NonFlush i o x) = fields_at ms e (field_of i) (field_of o) (field_of x)

-- a refusal is not kept
abbrev pub with_reply : List ℕ → ℕ → Reply ElementCutOutput → List ℕ
with_reply ms e (Err n) = ms
with_reply ms e (Ok a) = with_answer ms e a

-- the elements that a reply names are within the room
abbrev pub ReplyInRoom : Reply ElementCutOutput → Type 0
ReplyInRoom (Err n) = Unit {0}
ReplyInRoom (Ok a) = OutputInRoom a

-- ---- a reply, kept in the words

-- how asking ended: the refusal, or done where there is an answer
abbrev pub asked_by : Reply ElementCutOutput → Reply (Unit {0})
asked_by (Err n) = Err n
asked_by (Ok a) = Ok tt

-- what writing the fields of element e asks
pub record FieldsReady (e a b c : ℕ) : Type 0 where
  pub low : e < 512
  pub first : a < field_size
  pub second : b < field_size
  pub third : c < field_size

-- what keeping an answer asks
pub record AnswerReady (e : ℕ) (a : ElementCutOutput) : Type 0 where
  pub low : e < 512
  pub room : OutputInRoom a

-- what keeping a reply to element e asks
pub record KeepReady (e : ℕ) (x : Reply ElementCutOutput) : Type 0 where
  pub low : e < 512
  pub room : ReplyInRoom x

-- and what it does: how asking ended, and the words after it
pub record ReplyKept (ms : List ℕ) (e : ℕ) (x : Reply ElementCutOutput) (y : Reply (Unit {0})) (ms' : List ℕ) : Type 0 where
  pub asked : y ≡ asked_by x
  pub words : ms' ≡ with_reply ms e x

-- ---- what is known is true

-- asking element e in table t gives this output and adds nothing, and its warning is in the cut's, which is w
pub record Repeats (k : Cutter) (t : Table) (x : ElementCutOutput) (w : Bool) (e : ℕ) : Type 0 where
  pub used : e < element_count t
  pub warning : Bool
  pub again : cut_element desk (cut_of t.dimension k) (rank t e) e t ≡ done (record { output = x; warning = warning }) t
  pub noted : (w || warning) ≡ w

-- all that is known is repeated by the table as it is now
pub record Knows (k : Cutter) (ms : List ℕ) (w : Bool) (t : Table) : Type 0 where
  pub long : length ms ≡ 512
  pub of : (e : ℕ) → e < 512 → known_at ms e ≡ true → Repeats k t (output_at ms e) w e

-- ---- what is known stays so

-- whatever was known still is
pub record KnownStill (ms ms' : List ℕ) : Type 0 where
  pub of : (j : ℕ) → known_at ms j ≡ true → known_at ms' j ≡ true

-- the first n of these elements are known
pub record KnownTo (ms bs : List ℕ) (n : ℕ) : Type 0 where
  pub of : (j : ℕ) → j < n → known_at ms (get_or bs j 0) ≡ true
