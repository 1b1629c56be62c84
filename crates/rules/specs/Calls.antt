-- Calls on the table at hand, and what is read off their replies: the words in which the promises speak. Definitions only.
use Rattle.std.specs.Prelude.{ℕ, ◌<◌, ◌≤◌, ◌≡◌, Bool, true, false, List, [], ◌∷◌, length, drop, Float, Option, Some, None, Ok}
use Rattle.rules.specs.Limits.{Limits}
use Rattle.rules.specs.Lists.{member}
use Rattle.rules.specs.Table.{ElementNumber}
use Rattle.rules.specs.Memory.{Memory}
use Rattle.rules.specs.Replies.{cut_values, cut_warning, list_size, facet_value, cube_reply, cut_reply}
use Rattle.rules.specs.Replies.{sub_elements_reply, with_rank_reply, vertex_set_reply, greatest_common_reply, edges_in_order_reply}
use Rattle.rules.specs.Print.{print_reply}
use Rattle.rules.specs.Files.{save_reply, open_reply}
use Rattle.rules.specs.declared.CutParams.{CutParams}
use Rattle.rules.specs.declared.ElementAnswer.{ElementAnswer}
use Rattle.rules.specs.Refusals.{Reply, reply_number}

-- ---- calls in turn

-- a cut; a question, which only reads; a cube or a file to open, which replaces the table unless it is refused
pub data Call : Type 0 where
  cutting : CutParams → ElementNumber → Call
  asking : Call
  cubing : ℕ → Float → Call
  opening : List ℕ → Call

abbrev pub after : Limits → Call → Memory → Memory
after L (cutting p root) m = (cut_reply L p root m).1
after L asking m = m
after L (cubing d radius) m = (cube_reply L d radius m).1
after L (opening bs) m = (open_reply L bs m).1

-- the memory after some calls in turn, each taken or refused
abbrev pub after_calls : Limits → List Call → Memory → Memory
after_calls L [] m = m
after_calls L (c ∷ cs) m = after_calls L cs (after L c m)

-- the table at hand stays: if the call is a cube or a file, it is refused
abbrev pub LeavesTable : Limits → Call → Memory → Type 0
LeavesTable L (cutting p root) m = Unit {0}
LeavesTable L asking m = Unit {0}
LeavesTable L (cubing d radius) m = 0 < reply_number (cube_reply L d radius m).0
LeavesTable L (opening bs) m = 0 < reply_number (open_reply L bs m).0

-- no cube and no file among the calls is taken
abbrev pub TableStays : Limits → List Call → Memory → Type 0
TableStays L [] m = Unit {0}
TableStays L (c ∷ cs) m = LeavesTable L c m × TableStays L cs (after L c m)

-- ---- the questions that give a list; saving gives the bytes of the table's file, and printing those of a piece's

pub data ListQuestion : Type 0 where
  sub_elements_of : ElementNumber → ListQuestion
  sub_elements_with_rank : ℕ → ElementNumber → ListQuestion
  vertex_set_of : ElementNumber → ListQuestion
  greatest_common_of : List ElementNumber → ListQuestion
  edges_in_order_of : ElementNumber → ListQuestion
  file_of_table : ListQuestion
  print_file_of : ElementNumber → ListQuestion

abbrev pub list_reply : Limits → ListQuestion → Memory → List ℕ → Reply ℕ × List ℕ
list_reply L (sub_elements_of e) m room = sub_elements_reply L m e room
list_reply L (sub_elements_with_rank k e) m room = with_rank_reply L m k e room
list_reply L (vertex_set_of e) m room = vertex_set_reply L m e room
list_reply L (greatest_common_of es) m room = greatest_common_reply L m es room
list_reply L (edges_in_order_of e) m room = edges_in_order_reply L m e room
list_reply L file_of_table m room = save_reply L m room
list_reply L (print_file_of e) m room = print_reply L m e room

-- their refusals
abbrev pub list_refusals : ListQuestion → List ℕ
list_refusals (sub_elements_of e) = 3 ∷ 4 ∷ 12 ∷ []
list_refusals (sub_elements_with_rank k e) = 3 ∷ 4 ∷ 12 ∷ []
list_refusals (vertex_set_of e) = 3 ∷ 4 ∷ 12 ∷ []
list_refusals (greatest_common_of es) = 3 ∷ 4 ∷ 6 ∷ 12 ∷ []
list_refusals (edges_in_order_of e) = 3 ∷ 4 ∷ 6 ∷ 12 ∷ []
list_refusals file_of_table = 3 ∷ 12 ∷ []
list_refusals (print_file_of e) = 3 ∷ 4 ∷ 6 ∷ 16 ∷ 12 ∷ []

-- ---- what a reply says

-- a cut is done with these values and this warning, and this is the memory after it
pub record Gives (r : Reply ElementAnswer × Memory) (vs : List (Option ElementNumber)) (w : Bool) (m : Memory) : Type 0 where
  pub number : reply_number r.0 ≡ 0
  pub values : cut_values r.0 ≡ vs
  pub warning : cut_warning r.0 ≡ w
  pub memory : r.1 ≡ m

-- the number is 0 with an answer, or one of some refusals, with no element and no warning
pub record CutNumbered (ns : List ℕ) (r : Reply ElementAnswer) : Type 0 where
  pub number : member (reply_number r) (0 ∷ ns) ≡ true
  pub answered : reply_number r ≡ 0 → (a : ElementAnswer) × (r ≡ Ok a)
  pub refused : 0 < reply_number r → (cut_values r ≡ []) × (cut_warning r ≡ false)

pub record ListNumbered (ns : List ℕ) (r : Reply ℕ) : Type 0 where
  pub number : member (reply_number r) (0 ∷ ns) ≡ true
  pub answered : reply_number r ≡ 0 → (n : ℕ) × (list_size r ≡ Some n)
  pub refused : 0 < reply_number r → list_size r ≡ None

pub record FacetNumbered (ns : List ℕ) (r : Reply Bool) : Type 0 where
  pub number : member (reply_number r) (0 ∷ ns) ≡ true
  pub answered : reply_number r ≡ 0 → (b : Bool) × (facet_value r ≡ Some b)
  pub refused : 0 < reply_number r → facet_value r ≡ None

-- a list of n entries fits the room, and leaves all behind it
pub record Filled {A : Type 0} (n : ℕ) (room filled : List A) : Type 0 where
  pub fits : n ≤ length room
  pub size : length filled ≡ length room
  pub rest : drop n filled ≡ drop n room
