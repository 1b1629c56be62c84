-- What is promised of the rules, over any room: each statement in the words of the demands. Definitions only.
-- proofs/Promises.antt proves the record at the end, for every room that can be read back, has place for its cubes, and has numbers that a file can hold: the desk's, and the large one.
use Rattle.std.specs.Prelude.{ℕ, suc, ◌*◌, ◌≤◌, ◌<◌, ◌≡◌, Bool, true, false, not, ◌||◌, List, [], ◌∷◌, length, get_or, take, drop, Float, Option, Some, None, Err}
use Rattle.std.specs.Float.{inf}
use Rattle.std.specs.Float.Ieee.{le, is_nan}
use Rattle.rules.specs.Limits.{Limits}
use Rattle.rules.specs.Lists.{all, member}
use Rattle.rules.specs.Floats.{plus_zero, side_of, signed_distance, clamp, crossing_point, point_matches}
use Rattle.rules.specs.Table.{ElementNumber, HyperplaneNumber, Plane, Table, rank, boundary, element_count, point_at}
use Rattle.rules.specs.Sound.{sound}
use Rattle.rules.specs.Memory.{Memory, element_width, plane_width, encode, decode, sound_memory}
use Rattle.rules.specs.Cut.{Outcome, refused, done, add_plane}
use Rattle.rules.specs.Questions.{is_below}
use Rattle.rules.specs.Asking.{border, SubElementsAreReached, SubElementsAreLeast, VertexSetIsTheUnion, VertexSetRises, CommonAreGreatest, WalkGoesRound, NoFacetInOneDimension}
use Rattle.rules.specs.Rings.{RuleIsOneRing, FaceIsOneRing, FaceIsWalked}
use Rattle.rules.specs.Replies.{cut_values, cut_warning, list_size, is_sound_reply, cube_reply, divider_fits, divider_of, cut_by, cut_reply, primordial_facet_reply}
use Rattle.rules.specs.Touch.{some_close_call, TouchNumbers, TouchInfinite, TouchIsRead, TouchIsCounted, TouchIsOfTheTable, AllOnIsFlush, OneSideIsMissed, OneSideAddsNoVertex, BothCutsAnEdge}
use Rattle.rules.specs.Print.{PrintIsSized, FacesAreFanned}
use Rattle.rules.specs.Files.{open_reply}
use Rattle.rules.specs.Saving.{RefusedOpenLeaves, OpenNumbers, OpenIsSound, SavedOpens, OpenedSaves, OneFile, OpensRoomier, LayoutAlone}
use Rattle.rules.specs.Calls.{Call, cutting, asking, cubing, opening, after, after_calls, TableStays, ListQuestion, list_reply, list_refusals, Gives, CutNumbered, ListNumbered, FacetNumbered, Filled}
use Rattle.rules.specs.CutLists.{CutListNumbers, RefusedCutListLeaves, CutListIsCuts, StoppedAtTheRefused, CutListGoesOn, CutListAgain}
use Rattle.rules.specs.Areas.{AreasNumbers, RefusedAreasLeave, AreasFillFront, AreasFit}
use Rattle.rules.specs.Rooms.{RoomierAlike}
use Rattle.rules.specs.declared.Hyperplane.{Hyperplane}
use Rattle.rules.specs.declared.Side.{Side}
use Rattle.rules.specs.declared.Side.TheVariants.{Inside, Outside}
use Rattle.rules.specs.declared.ElementCutOutput.{ElementCutOutput}
use Rattle.rules.specs.declared.ElementCutOutput.TheVariants.{Flush, NonFlush}
use Rattle.rules.specs.declared.PolytopeFate.{PolytopeFate}
use Rattle.rules.specs.declared.PolytopeFate.TheVariants.{Remove, Keep}
use Rattle.rules.specs.declared.CutParams.{CutParams}
use Rattle.rules.specs.Refusals.{Reply, reply_number}
use Rattle.rules.specs.declared.ElementAnswer.{ElementAnswer}
use Rattle.rules.specs.declared.ElementId.{ElementId}

-- ---- demand 1: an answer, or one numbered refusal that leaves everything as it came

-- a refused cut leaves the memory
abbrev pub RefusedCutLeaves : Limits → Type 0
RefusedCutLeaves L = (p : CutParams) (root : ElementNumber) (m : Memory) → 0 < reply_number (cut_reply L p root m).0 → (cut_reply L p root m).1 ≡ m

-- a refused cube leaves the memory
abbrev pub RefusedCubeLeaves : Limits → Type 0
RefusedCubeLeaves L = (d : ℕ) (radius : Float) (m : Memory) → 0 < reply_number (cube_reply L d radius m).0 → (cube_reply L d radius m).1 ≡ m

-- a refused question leaves the list room
abbrev pub RefusedListLeaves : Limits → Type 0
RefusedListLeaves L = (q : ListQuestion) (m : Memory) (room : List ℕ) → 0 < reply_number (list_reply L q m room).0 → (list_reply L q m room).1 ≡ room

-- a list done fills the front of its room and leaves the remainder
abbrev pub ListFillsFront : Limits → Type 0
ListFillsFront L = (q : ListQuestion) (m : Memory) (room : List ℕ) (n : ℕ) → list_size (list_reply L q m room).0 ≡ Some n → Filled n room (list_reply L q m room).1

-- which numbers each public reply can have
abbrev pub CutNumbers : Limits → Type 0
CutNumbers L = (p : CutParams) (root : ElementNumber) (m : Memory) → CutNumbered (3 ∷ 4 ∷ 5 ∷ 7 ∷ 8 ∷ 9 ∷ 10 ∷ 11 ∷ []) (cut_reply L p root m).0

abbrev pub CubeNumbers : Limits → Type 0
CubeNumbers L = (d : ℕ) (radius : Float) (m : Memory) → member (reply_number (cube_reply L d radius m).0) (0 ∷ 1 ∷ 2 ∷ 3 ∷ []) ≡ true

abbrev pub ListNumbers : Limits → Type 0
ListNumbers L = (q : ListQuestion) (m : Memory) (room : List ℕ) → ListNumbered (list_refusals q) (list_reply L q m room).0

abbrev pub FacetNumbers : Limits → Type 0
FacetNumbers L = (m : Memory) (e : ElementNumber) → FacetNumbered (3 ∷ 4 ∷ 6 ∷ []) (primordial_facet_reply L m e)

abbrev pub SoundNumbers : Limits → Type 0
SoundNumbers L = (m : Memory) → member (reply_number (is_sound_reply L m)) (0 ∷ 3 ∷ []) ≡ true

-- ---- demand 3: after an unrefused cut

-- a row of a slice, by its number and its width
abbrev pub row_at : {A : Type 0} → ℕ → List A → ℕ → List A
row_at w xs n = take w (drop (n * w) xs)

-- every entry of the old memory stands in the new one under its number, word for word
pub record Keeps (L : Limits) (old new : Memory) : Type 0 where
  pub dimension : get_or new.counts 0 0 ≡ get_or old.counts 0 0
  pub elements : (e : ℕ) → e < get_or old.counts 1 0 → row_at (element_width L) new.elements e ≡ row_at (element_width L) old.elements e
  pub vertices : (v : ℕ) → v < get_or old.counts 2 0 → row_at L.dimensions new.points v ≡ row_at L.dimensions old.points v
  pub hyperplanes : (h : ℕ) → h < get_or old.counts 3 0 → row_at (plane_width L) new.planes h ≡ row_at (plane_width L) old.planes h
  pub no_fewer : (k : ℕ) → get_or old.counts k 0 ≤ get_or new.counts k 0

-- old entries keep number and content, after any calls of which no cube and no file is taken: cuts, questions, and cubes and files that are refused
abbrev pub OldEntriesStay : Limits → Type 0
OldEntriesStay L = (cs : List Call) (m : Memory) → sound_memory L m ≡ true → TableStays L cs m → Keeps L m (after_calls L cs m)

-- the new table is sound, after any calls, cubes and files too
abbrev pub StaysSound : Limits → Type 0
StaysSound L = (cs : List Call) (m : Memory) → sound_memory L m ≡ true → sound_memory L (after_calls L cs m) ≡ true

-- element x, of rank r, has at least r + 1 boundary elements, no two the same since they rise, all earlier and of rank r - 1
pub record Bordered (t : Table) (x : ElementNumber) : Type 0 where
  pub enough : suc (rank t x) ≤ length (boundary t x)
  pub rising : (i j : ℕ) → i < j → j < length (boundary t x) → border t x i < border t x j
  pub earlier : (j : ℕ) → j < length (boundary t x) → border t x j < x
  pub ranks : (j : ℕ) → j < length (boundary t x) → suc (rank t (border t x j)) ≡ rank t x

-- so has each element of rank above 0 that calls have appended, and each that was there
abbrev pub EnoughBoundary : Limits → Type 0
EnoughBoundary L = (cs : List Call) (m : Memory) → sound_memory L m ≡ true → (x : ElementNumber)
    → x < element_count (decode L (after_calls L cs m)) → 0 < rank (decode L (after_calls L cs m)) x → Bordered (decode L (after_calls L cs m)) x

-- the same cut again, after any further calls of which no cube and no file is taken, gives the same reply and leaves the memory as it is
abbrev pub AgainLater : Limits → Type 0
AgainLater L = (p : CutParams) (root : ElementNumber) (m : Memory) → reply_number (cut_reply L p root m).0 ≡ 0
    → (cs : List Call) → TableStays L cs (cut_reply L p root m).1 → let later = after_calls L cs (cut_reply L p root m).1 in
    cut_reply L p root later ≡ ((cut_reply L p root m).0, later)

-- a distance that is no infinity
abbrev pub Finite : Float → Type 0
Finite d = (s : Bool) → d ≡ inf s → ⊥

-- both sides kept, a finite divider, and a root that is no corner: one side asked later is the same piece with the same face and the same warning, and nothing is added
abbrev pub OneSideLater : Limits → Type 0
OneSideLater L = (h : Hyperplane) (root : ElementNumber) (m : Memory) (in' out x : Option ElementNumber)
    → let slice = cut_reply L (cut_by h Keep Keep) root m in
    Finite h.distance → 0 < rank (decode L m) root → cut_values slice.0 ≡ in' ∷ out ∷ x ∷ []
    → (cs : List Call) → TableStays L cs slice.1 → let later = after_calls L cs slice.1 in
    Gives (cut_reply L (cut_by h Keep Remove) root later) (in' ∷ None ∷ x ∷ []) (cut_warning slice.0) later
    × Gives (cut_reply L (cut_by h Remove Keep) root later) (None ∷ out ∷ x ∷ []) (cut_warning slice.0) later

-- and what was flush, done and without values, is flush with the same warning, whichever sides are kept
abbrev pub FlushLater : Limits → Type 0
FlushLater L = (h : Hyperplane) (root : ElementNumber) (m : Memory) → let slice = cut_reply L (cut_by h Keep Keep) root m in
    Finite h.distance → 0 < rank (decode L m) root → reply_number slice.0 ≡ 0 → cut_values slice.0 ≡ []
    → (i o : PolytopeFate) (cs : List Call) → TableStays L cs slice.1 → let later = after_calls L cs slice.1 in
    cut_reply L (cut_by h i o) root later ≡ (slice.0, later)

-- ---- the cube, and what is reached from it

-- a cube that is not refused is sound: every dimension in the room, every radius in range
abbrev pub CubeIsSound : Limits → Type 0
CubeIsSound L = (d : ℕ) (radius : Float) (m : Memory) → reply_number (cube_reply L d radius m).0 ≡ 0 → sound_memory L (cube_reply L d radius m).1 ≡ true

-- no vertex matches an earlier one
abbrev pub Unmatched : Table → Type 0
Unmatched t = (i j : ℕ) → i < j → j < length t.points → point_matches (get_or t.points i []) (get_or t.points j []) ≡ false

-- nothing is asked of a call, but of a file that is taken that its table has no matching vertices
abbrev pub OpensUnmatched : Limits → Call → Memory → Type 0
OpensUnmatched L (cutting p root) m = Unit {0}
OpensUnmatched L asking m = Unit {0}
OpensUnmatched L (cubing d radius) m = Unit {0}
OpensUnmatched L (opening bs) m = reply_number (open_reply L bs m).0 ≡ 0 → Unmatched (decode L (open_reply L bs m).1)

-- no file among the calls brings matching vertices
abbrev pub FilesUnmatched : Limits → List Call → Memory → Type 0
FilesUnmatched L [] m = Unit {0}
FilesUnmatched L (c ∷ cs) m = OpensUnmatched L c m × FilesUnmatched L cs (after L c m)

-- one crossing, one corner: from a cube, by any calls, cubes too, and files that bring no matching vertices, a crossing is never entered as two corners
abbrev pub OneCrossingOneCorner : Limits → Type 0
OneCrossingOneCorner L = (d : ℕ) (radius : Float) (m : Memory) → reply_number (cube_reply L d radius m).0 ≡ 0
    → (cs : List Call) → FilesUnmatched L cs (cube_reply L d radius m).1 → Unmatched (decode L (after_calls L cs (cube_reply L d radius m).1))

-- and a table without matching vertices, whatever it came from, stays so
abbrev pub StaysUnmatched : Limits → Type 0
StaysUnmatched L = (cs : List Call) (m : Memory) → Unmatched (decode L m) → FilesUnmatched L cs m → Unmatched (decode L (after_calls L cs m))

-- ---- pieces that the plane misses

-- every corner of the root is on one side of the divider
abbrev pub AllOn : Side → Plane → Table → ElementNumber → Type 0
AllOn side h t root = (x : ElementNumber) → is_below t root x ≡ true → rank t x ≡ 0 → side_of (signed_distance h.normal h.distance (point_at t x)) ≡ side

-- a call that 3, 4 and 5 let pass
pub record Passes (L : Limits) (h : Hyperplane) (root : ElementNumber) (m : Memory) : Type 0 where
  pub sound : sound_memory L m ≡ true
  pub used : root < element_count (decode L m)
  pub fits : divider_fits L (decode L m).dimension h ≡ true

-- rule 2 and nothing more: the divider's hyperplane is matched or appended, and these are the values and the warning; or 10
abbrev pub OnlyPlane : Limits → Memory → List (Option ElementNumber) → Bool → Reply ElementAnswer × Memory → Outcome HyperplaneNumber → Type 0
OnlyPlane L m vs w r (refused n) = (r.0 ≡ Err n) × (r.1 ≡ m)
OnlyPlane L m vs w r (done n t) = Gives r vs w (encode L t)

-- the divider of a call, as a hyperplane of the table
abbrev pub divider_in : Limits → Memory → Hyperplane → Plane
divider_in L m h = divider_of (decode L m).dimension h

-- document 02, order 2: of a finite divider and a cut that is not refused, the warning is on exactly where some corner of the root is a close call
abbrev pub WarnsOfCloseCalls : Limits → Type 0
WarnsOfCloseCalls L = (p : CutParams) (root : ElementNumber) (m : Memory) → Finite p.divider.distance → reply_number (cut_reply L p root m).0 ≡ 0
    → cut_warning (cut_reply L p root m).0 ≡ some_close_call (divider_in L m p.divider) (decode L m) root

-- a missed piece is its old entry: all corners Inside and inside kept, the values are the root, none, none; the same for Outside
abbrev pub MissedPiece : Limits → Type 0
MissedPiece L = (h : Hyperplane) (root : ElementNumber) (m : Memory) → Passes L h root m → Finite h.distance
    → let divider = divider_in L m h in let t = decode L m in let warning = some_close_call divider t root in
    (AllOn Inside divider t root → (o : PolytopeFate) → OnlyPlane L m (Some root ∷ None ∷ None ∷ []) warning (cut_reply L (cut_by h Keep o) root m) (add_plane L divider t))
    × (AllOn Outside divider t root → (i : PolytopeFate) → OnlyPlane L m (None ∷ Some root ∷ None ∷ []) warning (cut_reply L (cut_by h i Keep) root m) (add_plane L divider t))

-- an infinite distance answers the root, as inside for + and as outside for -, without a warning, and leaves the memory as it is
abbrev pub InfiniteDistance : Limits → Type 0
InfiniteDistance L = (p : CutParams) (root : ElementNumber) (m : Memory) → Passes L p.divider root m
    → (p.divider.distance ≡ inf false → Gives (cut_reply L p root m) (Some root ∷ None ∷ None ∷ []) false m)
    × (p.divider.distance ≡ inf true → Gives (cut_reply L p root m) (None ∷ Some root ∷ None ∷ []) false m)

-- ---- memory and room

-- what is written of a sound table is sound and is read back, and a sound memory is what is written of its table
abbrev pub ReadBack : Limits → Type 0
ReadBack L = ((t : Table) → sound L t ≡ true → (sound_memory L (encode L t) ≡ true) × (decode L (encode L t) ≡ t))
    × ((m : Memory) → sound_memory L m ≡ true → encode L (decode L m) ≡ m)

-- ---- beside the definitions

-- an element of the first n, or none; and so each of an answer's three places, as contracts say it
abbrev pub OneBelow : ℕ → Option ElementId → Type 0
OneBelow n None = Unit {0}
OneBelow n (Some e) = e.0 < n

abbrev pub NamesBelow : ℕ → ElementCutOutput → Type 0
NamesBelow n Flush = Unit {0}
NamesBelow n (NonFlush i o x) = OneBelow n i × OneBelow n o × OneBelow n x

-- the elements that a cut's values name are in use in the memory after it
abbrev pub AnswersAreInUse : Limits → Type 0
AnswersAreInUse L = (p : CutParams) (root : ElementNumber) (m : Memory) (k : ℕ) (e : ElementNumber)
    → get_or (cut_values (cut_reply L p root m).0) k None ≡ Some e → e < get_or (cut_reply L p root m).1.counts 1 0

-- x lies from the lesser of a and b to the greater
pub record Between (a b x : Float) : Type 0 where
  pub above : (le a x || le b x) ≡ true
  pub under : (le x a || le x b) ≡ true

-- the point x lies in the box of p and q: on every axis between them
pub record InBox (p q x : List Float) : Type 0 where
  pub axes : length x ≡ length p
  pub between : (k : ℕ) → k < length p → Between (get_or p k plus_zero) (get_or q k plus_zero) (get_or x k plus_zero)

-- two points of one dimension, with no NaN: the ends of an edge
pub record EndsOfEdge (p q : List Float) : Type 0 where
  pub axes : length q ≡ length p
  pub first : all (λ x. not (is_nan x)) p ≡ true
  pub second : all (λ x. not (is_nan x)) q ≡ true

-- the point of an edge's end
abbrev pub end_at : Table → ElementNumber → ℕ → List Float
end_at t e n = point_at t (border t e n)

-- a crossing never lies outside the box of its edge, whatever its t; an edge of a sound table has ends of which this holds; and whatever is clamped lies between
pub record InTheBox (L : Limits) : Type 0 where
  pub crossing : (p q : List Float) → EndsOfEdge p q → (t : Float) → InBox p q (crossing_point t p q)
  pub edge : (t : Table) → sound L t ≡ true → (e : ElementNumber) → e < element_count t → rank t e ≡ 1 → EndsOfEdge (end_at t e 0) (end_at t e 1)
  pub coordinate : (a b x : Float) → is_nan a ≡ false → is_nan b ≡ false → Between a b (clamp a b x)

-- ---- all of it

pub record Promises (L : Limits) : Type 0 where
  pub refused_cut_leaves : RefusedCutLeaves L
  pub refused_cube_leaves : RefusedCubeLeaves L
  pub refused_list_leaves : RefusedListLeaves L
  pub list_fills_front : ListFillsFront L
  pub cut_numbers : CutNumbers L
  pub cube_numbers : CubeNumbers L
  pub list_numbers : ListNumbers L
  pub facet_numbers : FacetNumbers L
  pub sound_numbers : SoundNumbers L
  pub old_entries_stay : OldEntriesStay L
  pub stays_sound : StaysSound L
  pub enough_boundary : EnoughBoundary L
  pub again_later : AgainLater L
  pub one_side_later : OneSideLater L
  pub flush_later : FlushLater L
  pub cube_is_sound : CubeIsSound L
  pub one_crossing_one_corner : OneCrossingOneCorner L
  pub stays_unmatched : StaysUnmatched L
  pub missed_piece : MissedPiece L
  pub infinite_distance : InfiniteDistance L
  pub warns_of_close_calls : WarnsOfCloseCalls L
  pub read_back : ReadBack L
  pub roomier_alike : RoomierAlike L
  pub refused_open_leaves : RefusedOpenLeaves L
  pub open_numbers : OpenNumbers L
  pub open_is_sound : OpenIsSound L
  pub saved_opens : SavedOpens L
  pub opened_saves : OpenedSaves L
  pub one_file : OneFile L
  pub opens_roomier : OpensRoomier L
  pub layout_alone : LayoutAlone L
  pub in_the_box : InTheBox L
  pub answers_are_in_use : AnswersAreInUse L
  pub sub_elements_are_reached : SubElementsAreReached L
  pub sub_elements_are_least : SubElementsAreLeast L
  pub vertex_set_is_the_union : VertexSetIsTheUnion L
  pub vertex_set_rises : VertexSetRises L
  pub common_are_greatest : CommonAreGreatest L
  pub walk_goes_round : WalkGoesRound L
  pub rule_is_one_ring : RuleIsOneRing L
  pub face_is_one_ring : FaceIsOneRing L
  pub face_is_walked : FaceIsWalked L
  pub no_facet_in_one_dimension : NoFacetInOneDimension L
  pub touch_numbers : TouchNumbers L
  pub touch_infinite : TouchInfinite L
  pub touch_is_read : TouchIsRead L
  pub touch_is_counted : TouchIsCounted L
  pub touch_is_of_the_table : TouchIsOfTheTable L
  pub all_on_is_flush : AllOnIsFlush L
  pub one_side_is_missed : OneSideIsMissed L
  pub one_side_adds_no_vertex : OneSideAddsNoVertex L
  pub both_cuts_an_edge : BothCutsAnEdge L
  pub cut_list_numbers : CutListNumbers L
  pub refused_cut_list_leaves : RefusedCutListLeaves L
  pub cut_list_is_cuts : CutListIsCuts L
  pub stopped_at_the_refused : StoppedAtTheRefused L
  pub cut_list_goes_on : CutListGoesOn L
  pub cut_list_again : CutListAgain L
  pub areas_numbers : AreasNumbers L
  pub refused_areas_leave : RefusedAreasLeave L
  pub areas_fill_front : AreasFillFront L
  pub areas_fit : AreasFit L
  pub print_is_sized : PrintIsSized L
  pub faces_are_fanned : FacesAreFanned L
