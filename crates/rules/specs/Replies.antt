-- Document 01, "The numbered replies": the whole reply of each public function, and the memory or the list room after it. Definitions only.
use Rattle.std.specs.Prelude.{ℕ, ◌+◌, ◌*◌, Bool, true, false, not, ◌&&◌, cond, List, [], ◌∷◌, ◌++◌, map, leb, ltb, eqb, length, take, drop, Float, if◌then◌else◌, Option, Some, None, Ok, Err}
use Rattle.std.specs.Float.{nan, inf, fin}
use Rattle.rules.specs.Limits.{Limits}
use Rattle.rules.specs.Lists.{all, joined}
use Rattle.rules.specs.Floats.{plus_zero, same_bits, within, farthest_plane, unit}
use Rattle.rules.specs.Table.{ElementNumber, VertexNumber, Plane, element_count}
use Rattle.rules.specs.Memory.{Memory, encode, decode, right_size, sound_memory}
use Rattle.rules.specs.Cube.{cube, radius_fits}
use Rattle.rules.specs.Cut.{Outcome, refused, done, Params, cut}
use Rattle.rules.specs.Questions.{Asked, no_answer, answer, sub_elements, with_rank, vertex_set, greatest_common, edges_in_order, primordial_facet}
use Rattle.rules.specs.declared.Hyperplane.{Hyperplane}
use Rattle.rules.specs.declared.ElementCutOutput.{ElementCutOutput}
use Rattle.rules.specs.declared.ElementCutOutput.TheVariants.{Flush, NonFlush}
use Rattle.rules.specs.declared.PolytopeFate.{PolytopeFate}
use Rattle.rules.specs.declared.PolytopeFate.TheVariants.{Remove, Keep}
use Rattle.rules.specs.declared.CutParams.{CutParams}
use Rattle.rules.specs.declared.ElementAnswer.{ElementAnswer}
use Rattle.rules.specs.Refusals.{Reply}
use Rattle.rules.specs.declared.ElementId.{ElementId}
use Rattle.rules.specs.declared.Refusal.TheVariants.{Dimension, Radius, NotSound, NotInUse, Divider, RoomShort}

-- ---- document 01's number and values for each case of an enum

-- the element's number, or none
abbrev pub element_value : Option ElementId → Option ElementNumber
element_value None = None
element_value (Some e) = Some e.0

-- a Flush answer carries nothing; the other carries three places: inside, outside, intersection
abbrev pub output_values : ElementCutOutput → List (Option ElementNumber)
output_values Flush = []
output_values (NonFlush i o x) = element_value i ∷ element_value o ∷ element_value x ∷ []

abbrev pub cut_values : Reply ElementAnswer → List (Option ElementNumber)
cut_values (Err n) = []
cut_values (Ok a) = output_values a.output

-- the warning of an answer; a refused cut has none
abbrev pub cut_warning : Reply ElementAnswer → Bool
cut_warning (Err n) = false
cut_warning (Ok a) = a.warning

-- how many numbers were written; a refused list has no size
abbrev pub list_size : Reply ℕ → Option ℕ
list_size (Err n) = None
list_size (Ok n) = Some n

abbrev pub facet_value : Reply Bool → Option Bool
facet_value (Err n) = None
facet_value (Ok b) = Some b

-- ---- an answer in one number, for a host and for a room of answers

-- an element's number, FFFF for none
abbrev pub element_word : Option ElementId → ℕ
element_word None = 0xffff
element_word (Some e) = e.0

-- bit 9 for a warning
abbrev pub warning_word : Bool → ℕ
warning_word w = cond w 0x200 0

-- beside it bit 8 for flush; else inside in bits 16 to 31, outside in 32 to 47, intersection in 48 to 63
abbrev pub output_word : ElementCutOutput → Bool → ℕ
output_word Flush w = warning_word w + 0x100
output_word (NonFlush i o x) w = warning_word w + element_word i * 0x10000 + element_word o * 0x100000000 + element_word x * 0x1000000000000

-- ---- whether a memory is sound: 0 or 3

unfoldable pub is_sound_reply : Limits → Memory → Reply (Unit {0})
is_sound_reply L m = if sound_memory L m then Ok tt else Err NotSound

-- ---- a cube: 1, 2, 3 (room size only)

unfoldable pub cube_reply : Limits → ℕ → Float → Memory → Reply (Unit {0}) × Memory
cube_reply L d radius m =
    if not (leb 1 d && leb d L.dimensions) then (Err Dimension, m)
    else if not (radius_fits radius) then (Err Radius, m)
    else if not (right_size L m) then (Err NotSound, m)
    else (Ok tt, encode L (cube d radius))

-- ---- a cut: 3, 4, 5, and then the first met in the rules' own order

-- a distance from -262,144 to 262,144, or infinite
abbrev pub distance_fits : Float → Bool
distance_fits nan = false
distance_fits (inf s) = true
distance_fits (fin s m e) = within farthest_plane (fin s m e)

-- a component for each axis of the room: those of the dimension make a unit normal, and those past it are zero bits
unfoldable pub divider_fits : Limits → ℕ → Hyperplane → Bool
divider_fits L d h =
    eqb (length h.normal) L.dimensions && unit (take d h.normal) && all (same_bits plus_zero) (drop d h.normal)
    && distance_fits h.distance

-- keep or remove
abbrev pub is_kept : PolytopeFate → Bool
is_kept Remove = false
is_kept Keep = true

abbrev pub fate_of : Bool → PolytopeFate
fate_of false = Remove
fate_of true = Keep

-- the divider with the dimension's components only
abbrev pub divider_of : ℕ → Hyperplane → Plane
divider_of d h = record { normal = take d h.normal; distance = h.distance }

-- the parameters of a cut by divider h, with what becomes of each side
abbrev pub cut_by : Hyperplane → PolytopeFate → PolytopeFate → CutParams
cut_by h i o = record { divider = h; inside = i; outside = o }

-- the parameters as the rules have them
abbrev pub params_of : ℕ → CutParams → Params
params_of d p = record { divider = divider_of d p.divider; keep_inside = is_kept p.inside; keep_outside = is_kept p.outside }

-- an output and its warning
abbrev pub answer_with : ElementCutOutput → Bool → ElementAnswer
answer_with a w = record { output = a; warning = w }

-- a refusal restores all memory
abbrev pub written : Limits → Memory → Outcome ElementAnswer → Reply ElementAnswer × Memory
written L m (refused n) = (Err n, m)
written L m (done a t) = (Ok a, encode L t)

unfoldable pub cut_reply : Limits → CutParams → ElementNumber → Memory → Reply ElementAnswer × Memory
cut_reply L p root m =
    let t = decode L m in
    if not (sound_memory L m) then (Err NotSound, m)
    else if not (ltb root (element_count t)) then (Err NotInUse, m)
    else if not (divider_fits L t.dimension p.divider) then (Err Divider, m)
    else written L m (cut L (params_of t.dimension p) root t)

-- ---- a question: 3, 4, then its own (6, 7), and 12 last; the table is read only

abbrev pub asked : {A : Type 0} → Limits → Memory → List ElementNumber → Asked A → Asked A
asked L m es q =
    if not (sound_memory L m) then no_answer NotSound
    else if not (all (λ e. ltb e (element_count (decode L m))) es) then no_answer NotInUse
    else q

-- a list done fills the front of its room and leaves the remainder
module _ {A : Type 0} where
  abbrev pub listed : Asked (List A) → List A → Reply ℕ × List A
  listed (no_answer n) room = (Err n, room)
  listed (answer xs) room =
      if leb (length xs) (length room) then (Ok (length xs), xs ++ drop (length xs) room) else (Err RoomShort, room)

unfoldable pub sub_elements_reply : Limits → Memory → ElementNumber → List ℕ → Reply ℕ × List ℕ
sub_elements_reply L m e room = listed (asked L m (e ∷ []) (answer (sub_elements (decode L m) e))) room

unfoldable pub with_rank_reply : Limits → Memory → ℕ → ElementNumber → List ℕ → Reply ℕ × List ℕ
with_rank_reply L m k e room = listed (asked L m (e ∷ []) (answer (with_rank (decode L m) k e))) room

unfoldable pub vertex_set_reply : Limits → Memory → ElementNumber → List ℕ → Reply ℕ × List ℕ
vertex_set_reply L m e room = listed (asked L m (e ∷ []) (answer (vertex_set (decode L m) e))) room

unfoldable pub greatest_common_reply : Limits → Memory → List ElementNumber → List ℕ → Reply ℕ × List ℕ
greatest_common_reply L m es room = listed (asked L m es (greatest_common (decode L m) es)) room

-- pairs, as two numbers each; the reply counts the numbers
abbrev pub in_numbers : Asked (List (VertexNumber × VertexNumber)) → Asked (List ℕ)
in_numbers (no_answer n) = no_answer n
in_numbers (answer ps) = answer (joined (map (λ (p : VertexNumber × VertexNumber). p.0 ∷ p.1 ∷ []) ps))

unfoldable pub edges_in_order_reply : Limits → Memory → ElementNumber → List ℕ → Reply ℕ × List ℕ
edges_in_order_reply L m e room = listed (asked L m (e ∷ []) (in_numbers (edges_in_order (decode L m) e))) room

abbrev pub facet_answer : Asked Bool → Reply Bool
facet_answer (no_answer n) = Err n
facet_answer (answer b) = Ok b

unfoldable pub primordial_facet_reply : Limits → Memory → ElementNumber → Reply Bool
primordial_facet_reply L m e = facet_answer (asked L m (e ∷ []) (primordial_facet (decode L m) e))
