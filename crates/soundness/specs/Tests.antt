-- What the tests need, and what they answer: the parts of their contracts by name. Definitions only.
use Rattle.std.specs.Prelude.{ℕ, zero, suc, ◌+◌, ◌<◌, ◌≤◌, ◌≡◌, Bool, true, false, cond, ◌&&◌, List, eqb, Float, length, get_or, take, drop, if◌then◌else◌}
use Rattle.rules.specs.Held.{memory_of}
use Rattle.rules.specs.Limits.{desk}
use Rattle.rules.specs.Memory.{Memory, sound_memory, right_size}
use Rattle.space.specs.Numbers.{row_width, point_slice, plane_slice, element_slice}
use Rattle.space.specs.Chains.{stored_row, key_of, new_start, Indexed}
use Rattle.space.specs.Closed.{Unmet}
use Rattle.soundness.specs.Known.{known_rows, Spaced}
use Rattle.soundness.specs.declared.row.Spacing.{Spacing}
use Rattle.soundness.specs.Words.{Mask, PastSeen, counts_fit, head_words, corner_named, polytope_words, stamp_of, EdgesLow, row_sound, row_new, floats_sound}

-- a part of a list of so many words
pub record PartOf (from to words : ℕ) : Type 0 where
  pub order : from ≤ to
  pub end : to ≤ words

-- ---- floats: ps are the points, hs the hyperplanes, d the dimension

-- the point of a vertex from float `at` on
pub record PointThere (ps : List Float) (at d : ℕ) : Type 0 where
  pub dimension : d ≤ desk.dimensions
  pub row : at + desk.dimensions ≤ length ps

-- the points of the first v vertices
pub record PointsThere (ps : List Float) (d v : ℕ) : Type 0 where
  pub dimension : d ≤ desk.dimensions
  pub fits : v ≤ desk.vertices
  pub long : length ps ≡ point_slice

-- the row of hyperplane k
pub record PlaneThere (hs : List Float) (k d : ℕ) : Type 0 where
  pub dimension : d ≤ desk.dimensions
  pub in_room : k < desk.hyperplanes
  pub long : length hs ≡ plane_slice

-- the rows of the first h hyperplanes
pub record PlanesThere (hs : List Float) (d h : ℕ) : Type 0 where
  pub dimension : d ≤ desk.dimensions
  pub fits : h ≤ desk.hyperplanes
  pub long : length hs ≡ plane_slice

-- both slices
pub record FloatsReady (ps hs : List Float) (d v h : ℕ) : Type 0 where
  pub dimension : d ≤ desk.dimensions
  pub vertices : v ≤ desk.vertices
  pub hyperplanes : h ≤ desk.hyperplanes
  pub points : length ps ≡ point_slice
  pub planes : length hs ≡ plane_slice

-- ---- words

-- what an entry of the mask keeps of a word
pub record Kept (word mask reply : ℕ) : Type 0 where
  pub nothing : mask ≡ 0 → reply ≡ 0
  pub whole : mask ≡ 65535 → reply ≡ word

-- how far a row moves the next vertex on
pub record MovesOn (row : List ℕ) (reply : ℕ) : Type 0 where
  pub corner : reply ≡ cond (eqb (get_or row 0 0) 0) 1 0
  pub most : reply ≤ 1

-- ---- boundaries: ws are the words that they stand in, fs those of earlier elements, e the element whose boundary it is

-- a number tested, for an element in the room or the next one
pub record NumberReady (fs : List ℕ) (sp : Spacing) (e : ℕ) : Type 0 where
  pub spaced : Spaced fs sp
  pub room : e ≤ desk.elements

-- a part of the words, for such an element
pub record NumbersReady (ws : List ℕ) (from to : ℕ) (fs : List ℕ) (sp : Spacing) (e : ℕ) : Type 0 where
  pub part : PartOf from to (length ws)
  pub spaced : Spaced fs sp
  pub room : e ≤ desk.elements

-- the edges of a face, ns: each edge before it has its ends in order, and no corner counts as met
pub record EdgesReady (ns fs : List ℕ) (sp : Spacing) (e : ℕ) (met : List ℕ) : Type 0 where
  pub size : length ns ≤ desk.boundary
  pub spaced : Spaced fs sp
  pub in_room : e < desk.elements
  pub edges : EdgesLow (known_rows fs sp) e
  pub unmet : Unmet (stamp_of e) met

-- n numbers from word `at` on, of a face or a body
pub record NumbersThere (ws : List ℕ) (at n : ℕ) (fs : List ℕ) (sp : Spacing) (e rank : ℕ) (met : List ℕ) : Type 0 where
  pub end : at + n ≤ length ws
  pub size : n ≤ desk.boundary
  pub spaced : Spaced fs sp
  pub in_room : e < desk.elements
  pub no_edge : rank ≡ 1 → ⊥
  pub edges : EdgesLow (known_rows fs sp) e
  pub unmet : Unmet (stamp_of e) met

-- the answer of a test, and how the next element finds the corners met
pub record BoundaryTested (test : Bool) (e : ℕ) (reply : Bool) (met' : List ℕ) : Type 0 where
  pub told : reply ≡ test
  pub unmet : reply ≡ true → Unmet (stamp_of (e + 1)) met'

-- ---- one row: es are the words that it stands in, fs those of earlier elements, seen is what stood past the boundaries so far

-- a row from word `at` on, with a count that fits
pub record PastReady (es : List ℕ) (at n : ℕ) (past seen : List ℕ) : Type 0 where
  pub row : at + row_width ≤ length es
  pub count : n ≡ get_or es (at + 3) 0
  pub fits : n ≤ desk.boundary
  pub mask : Mask past
  pub places : length seen ≡ desk.boundary

-- the row of a vertex element from word `at` on
pub record CornerReady (es : List ℕ) (at : ℕ) (past seen : List ℕ) : Type 0 where
  pub row : at + row_width ≤ length es
  pub corner : get_or es at 0 ≡ 0
  pub mask : Mask past
  pub places : length seen ≡ desk.boundary

-- it is tested as such, and names vertex k
pub record CornerTested (es : List ℕ) (at k : ℕ) (reply : Bool) (seen seen' : List ℕ) : Type 0 where
  pub told : reply ≡ (head_words desk (take row_width (drop at es)) && corner_named k (take row_width (drop at es)))
  pub past : reply ≡ true → PastSeen (take row_width (drop at es)) seen seen'

-- the row of element e, from word `at` on
pub record RowThere (es : List ℕ) (at : ℕ) (fs : List ℕ) (sp : Spacing) (e : ℕ) (past seen : List ℕ) : Type 0 where
  pub row : at + row_width ≤ length es
  pub spaced : Spaced fs sp
  pub in_room : e < desk.elements
  pub mask : Mask past
  pub places : length seen ≡ desk.boundary

-- it is tested as an edge's, in any dimension
pub record EdgeTested (row : List ℕ) (fs : List ℕ) (sp : Spacing) (e : ℕ) (reply : Bool) (seen seen' : List ℕ) : Type 0 where
  pub told : (d : ℕ) → reply ≡ polytope_words desk (known_rows fs sp) d e 1 row
  pub past : reply ≡ true → PastSeen row seen seen'

-- it is there, each edge before it has its ends in order, and no corner counts as met
pub record RowReady (es : List ℕ) (at : ℕ) (fs : List ℕ) (sp : Spacing) (e : ℕ) (met past seen : List ℕ) : Type 0 where
  pub there : RowThere es at fs sp e past seen
  pub edges : EdgesLow (known_rows fs sp) e
  pub unmet : Unmet (stamp_of e) met

-- the same for the row of a face or a body
pub record HigherReady (es : List ℕ) (at : ℕ) (fs : List ℕ) (sp : Spacing) (e rank : ℕ) (met past seen : List ℕ) : Type 0 where
  pub ready : RowReady es at fs sp e met past seen
  pub no_edge : rank ≡ 1 → ⊥

-- the same in the memory, whose earlier rows tell of the elements before it
pub record StoredReady (es : List ℕ) (e : ℕ) (met past seen : List ℕ) : Type 0 where
  pub long : length es ≡ element_slice
  pub in_room : e < desk.elements
  pub edges : EdgesLow es e
  pub unmet : Unmet (stamp_of e) met
  pub mask : Mask past
  pub places : length seen ≡ desk.boundary

-- the answer of its test, from word `at` on, and how the next row finds the corners met and what was seen
pub record RowTested (test : List ℕ → Bool) (es : List ℕ) (at e : ℕ) (reply : Bool) (met' seen seen' : List ℕ) : Type 0 where
  pub told : reply ≡ test (take row_width (drop at es))
  pub unmet : reply ≡ true → Unmet (stamp_of (e + 1)) met'
  pub past : reply ≡ true → PastSeen (take row_width (drop at es)) seen seen'

-- ---- rows in turn, with their index

-- the first n rows are there, and the index is empty
pub record RowsReady (es : List ℕ) (n : ℕ) (index : List ℕ) : Type 0 where
  pub long : length es ≡ element_slice
  pub fits : n ≤ desk.elements
  pub empty : Indexed es 0 index

-- row i is there, and the rows before it are in the index
pub record NewReady (es : List ℕ) (i : ℕ) (index : List ℕ) : Type 0 where
  pub long : length es ≡ element_slice
  pub in_room : i < desk.elements
  pub earlier : Indexed es i index

-- a new row joins the index, and any other leaves it as it is
pub record NewTested (es : List ℕ) (i : ℕ) (index : List ℕ) (reply : Bool) (index' : List ℕ) : Type 0 where
  pub told : reply ≡ row_new es i
  pub indexed : reply ≡ true → Indexed es (i + 1) index'
  pub joins : reply ≡ true → index' ≡ new_start index (key_of (stored_row es i)) i
  pub stays : reply ≡ false → index' ≡ index

-- rows are read in turn up to the first that is not sound or not new: its number. Row i comes next, m are left, and vertex k is the next to be named
abbrev pub read_to : List ℕ → ℕ → ℕ → ℕ → ℕ → ℕ → ℕ
read_to es d h zero k i = i
read_to es d h (suc m) k i =
    let on = read_to es d h m (k + cond (eqb (get_or (stored_row es i) 0 0) 0) 1 0) (suc i) in
    if row_sound desk es d h k i (stored_row es i) && row_new es i then on else i

-- how many of n rows are read before it
unfoldable pub rows_read : List ℕ → ℕ → ℕ → ℕ → ℕ
rows_read es d n h = read_to es d h n 0 0

-- and of those of a memory: none where its lengths, counts or floats are not sound
unfoldable pub memory_read : List ℕ → List Float → List Float → List ℕ → ℕ
memory_read cs ps hs es =
    let d = get_or cs 0 0 in let n = get_or cs 1 0 in let v = get_or cs 2 0 in let h = get_or cs 3 0 in
    if right_size desk (memory_of cs ps hs es) && counts_fit desk d n v h && floats_sound desk d v h ps hs then rows_read es d n h else 0

-- an index that the first m rows have newStart
abbrev pub with_rows : List ℕ → ℕ → List ℕ → List ℕ
with_rows es zero index = index
with_rows es (suc i) index = new_start (with_rows es i index) (key_of (stored_row es i)) i

-- the answer of a test of the first n rows: all are in the index where it is true, and those that were read in any case
pub record RowsTested (test : Bool) (es : List ℕ) (d n h : ℕ) (index : List ℕ) (reply : Bool) (index' : List ℕ) : Type 0 where
  pub told : reply ≡ test
  pub indexed : reply ≡ true → Indexed es n index'
  pub read : index' ≡ with_rows es (rows_read es d n h) index

-- the same of a memory
pub record MemoryTested (m : Memory) (index : List ℕ) (reply : Bool) (index' : List ℕ) : Type 0 where
  pub told : reply ≡ sound_memory desk m
  pub indexed : reply ≡ true → Indexed m.elements (get_or m.counts 1 0) index'
  pub read : index' ≡ with_rows m.elements (memory_read m.counts m.points m.planes m.elements) index
