-- A table that a file says is sound exactly where its parts are: its counts, its boundaries' sizes, its vertices, its hyperplanes, and the rows of its elements.
-- Where one part is not, the table is not; its rows are asked for only where its counts and boundaries fit the room.
use Prim.Native.Nat.{ℕ, ◌+◌, ◌*◌}
use mathlib.Core.Bool.{Bool, true, false, true≢false, ◌&&◌}
use mathlib.Core.List.{List, map}
use mathlib.Core.Path.{◌≡◌, refl, sym, ap, ◌∙◌}
use native.Mathlib.Omega.{arith}
use lib.Dec.{leb, eqb, lit≤}
use lib.ListN.{length, drop}
use Rattle.rules.specs.Limits.{desk}
use Rattle.rules.specs.Lists.{all, alike, all_from, distinct, keep, up_to, pad, joined, rows}
use Rattle.rules.specs.Table.{Element, Table, element_count, is_corner, primordials, same_element, vertex_of}
use Rattle.rules.specs.Sound.{room_fits, corners_in_order, sound_element, sound}
use Rattle.rules.specs.Memory.{read_element}
use Rattle.rules.specs.Held.{element_words, elements_of, fitting}
use Rattle.rules.proofs.Good.{sound_good}
use Rattle.rules.proofs.Laws.{refute, and_left, and_right, and_when}
use Rattle.rules.proofs.RoundTrip.{Shaped, element_long, element_back}
use Rattle.rules.proofs.Rows.{read_rows}
use Rattle.rules.proofs.Selves.{eq_alike}
use Rattle.space.proofs.Room.{shaped_fits, elements_size}
use Rattle.space.proofs.RowAdds.{readable_desk}
use Rattle.soundness.specs.Words.{counts_fit, record_words, blank_words, records_sound, corners_sound, elements_sound, rows_in_use, rows_distinct}
use Rattle.soundness.proofs.ReadBack.{and_zero, rows_wide}
use Rattle.soundness.proofs.SoundElements.{elements_same}
use Rattle.soundness.proofs.SoundLines.{records_same, records_own, order_same, distinct_same}
use Rattle.files.specs.Laid.{Whole}
use Rattle.files.specs.Judged.{Judged, widths_fit, vertices_sound, hyperplanes_sound, laid_fits, laid_rows}
use Rattle.files.specs.declared.layout.Laid.{Laid}
use Rattle.files.proofs.SaidTable.{counts_same, said_shaped}

-- ---- the elements of a table, told by their rows

-- what is asked of its elements
abbrev elements_fit : Table → Bool
elements_fit t = corners_in_order t && all_from 0 (sound_element t) t.elements && distinct same_element t.elements

-- the same of the rows that they have in the room
abbrev rows_fit : Table → Bool
rows_fit t =
    rows_in_use desk t.dimension (element_count t) (length t.points) (length t.planes) (elements_of desk t) && rows_distinct desk (element_count t) (elements_of desk t)

-- the middle test is the other's only where the last one holds
middle : (a b c d : Bool) → (c ≡ true → b ≡ d) → (a && b && c) ≡ (a && d && c)
middle a b true d h = ap (λ (x : Bool). a && x && true) (h refl)
middle a b false d h = and_zero (a && b) ∙ sym (and_zero (a && d))

module _ (t : Table) (g : Shaped desk readable_desk t) where
  abbrev n : ℕ
  n = element_count t

  abbrev es : List ℕ
  es = elements_of desk t

  abbrev rs : List (List ℕ)
  rs = rows n 36 es

  long : length es ≡ 18432
  long = elements_size desk t (shaped_fits desk readable_desk t g)

  read_back : map read_element rs ≡ t.elements
  unfolding elements_of
  read_back = read_rows 0 18432 36 (element_words desk) read_element (fitting desk) t.elements (element_long desk readable_desk) (element_back desk readable_desk) g.elements

  -- every row is what is written of some element
  records : all (record_words desk) rs ≡ true
  unfolding records_sound elements_of
  records =
      and_left (all (record_words desk) rs) (blank_words (drop (n * 36) es))
      (sym (records_same desk (lit≤ tt) n es g.element_room long)
      ∙ ap (λ (l : List Element). alike eqb (pad 0 18432 (joined (map (element_words desk) l))) es) read_back ∙ eq_alike es)

  corners_same : corners_in_order t ≡ corners_sound desk n (length t.points) es
  unfolding corners_in_order corners_sound
  corners_same =
      let v = length t.points in
      ap (λ (l : List Element). alike eqb (map vertex_of (keep is_corner l)) (up_to v)) (sym read_back) ∙ order_same rs 0 v v (let q : 0 + v ≡ v = omega arith in q)

  apart_same : distinct same_element t.elements ≡ rows_distinct desk n es
  unfolding rows_distinct
  apart_same = ap (distinct same_element) (sym read_back) ∙ distinct_same desk rs (records_own desk (lit≤ tt) rs (rows_wide 36 n 512 es g.element_room long) records)

  pub elements_told : elements_fit t ≡ rows_fit t
  elements_told =
      middle (corners_in_order t) (all_from 0 (sound_element t) t.elements) (distinct same_element t.elements) (elements_sound desk t.dimension n (length t.planes) es)
      (elements_same t es n long g.element_room (sym read_back) (length t.planes) refl g.plane_room)
      ∙ (λ i. (sym records i && corners_same i && elements_sound desk t.dimension n (length t.planes) es) && apart_same i)

-- ---- the parts of the test

-- the same tests in another order
regrouped : (k w v h p o a d : Bool) → (k && w && v && h && p && o && a && d) ≡ ((k && p) && w && v && h && (o && a && d))
regrouped true true true true true o a d = refl
regrouped true true true true false o a d = refl
regrouped true true true false true o a d = refl
regrouped true true true false false o a d = refl
regrouped true true false h true o a d = refl
regrouped true true false h false o a d = refl
regrouped true false v h true o a d = refl
regrouped true false v h false o a d = refl
regrouped false w v h p o a d = refl

module _ (bs : List ℕ) (l : Laid) (t : Table) (w : Whole bs l t) where
  rows_same : rows_fit t ≡ laid_rows l t
  rows_same =
      let e = elements_of desk t in
      λ i. rows_in_use desk (w.dimension i) (w.element_counted i) (w.vertex_counted i) (w.plane_counted i) e && rows_distinct desk (w.element_counted i) e

  pub sound_parts : sound desk t ≡ (laid_fits l && widths_fit t && vertices_sound t && hyperplanes_sound t && laid_rows l t)
  unfolding sound room_fits counts_fit
  sound_parts =
      let K = leb 1 t.dimension && leb t.dimension 4 && leb (length t.points) 256 && leb (element_count t) 512 && leb (length t.planes) 64 in
      let c = laid_fits l in
      let f = widths_fit t in
      let v = vertices_sound t in
      let h = hyperplanes_sound t in
      regrouped K f v h (leb (primordials t.dimension) (length t.planes)) (corners_in_order t) (all_from 0 (sound_element t) t.elements) (distinct same_element t.elements)
      ∙ ap (λ (x : Bool). x && f && v && h && elements_fit t) (counts_same bs l t w)
      ∙ and_when (c && f && v && h) (elements_fit t) (laid_rows l t)
      (λ k.
      let cf = and_left (c && f) v (and_left (c && f && v) h k) in
      elements_told t (said_shaped bs l t w (and_left c f cf) (and_right c f cf)) ∙ rows_same)

-- ---- what is told

module _ (bs : List ℕ) (l : Laid) where
  -- a part that every sound table has
  no_sound : (test : Table → Bool) {reply : Bool} → ((t : Table) → Whole bs l t → sound desk t ≡ true → test t ≡ true) → Judged bs l test reply → reply ≡ false → Judged bs l (sound desk) false
  no_sound test h j e = record { told = λ t w. sym (refute (sound desk t) (λ s. true≢false (sym (h t w s) ∙ sym (j.told t w) ∙ e))) }

  pub counts_not : {reply : Bool} → reply ≡ laid_fits l → reply ≡ false → Judged bs l (sound desk) false
  counts_not r e =
      no_sound (λ t. laid_fits l)
      (λ t w s.
      let c = laid_fits l in
      let f = widths_fit t in
      let v = vertices_sound t in
      let h = hyperplanes_sound t in
      and_left c f (and_left (c && f) v (and_left (c && f && v) h (and_left (c && f && v && h) (laid_rows l t) (sym (sound_parts bs l t w) ∙ s)))))
      (record { told = λ t w. r }) e

  pub widths_not : {reply : Bool} → Judged bs l widths_fit reply → reply ≡ false → Judged bs l (sound desk) false
  widths_not = no_sound widths_fit (λ t w s. (sound_good desk t s).boundary_room)

  pub vertices_not : {reply : Bool} → Judged bs l vertices_sound reply → reply ≡ false → Judged bs l (sound desk) false
  vertices_not = no_sound vertices_sound (λ t w s. (sound_good desk t s).points)

  pub hyperplanes_not : {reply : Bool} → Judged bs l hyperplanes_sound reply → reply ≡ false → Judged bs l (sound desk) false
  hyperplanes_not = no_sound hyperplanes_sound (λ t w s. (sound_good desk t s).planes)

  -- where all but the rows are sound, it is they that tell
  pub by_rows : {c f v h reply : Bool} → c ≡ laid_fits l → Judged bs l widths_fit f → Judged bs l vertices_sound v → Judged bs l hyperplanes_sound h → c ≡ true → f ≡ true → v ≡ true → h ≡ true
      → Judged bs l (laid_rows l) reply → Judged bs l (sound desk) reply
  by_rows c f v h p q r s j = record {
    told = λ t w.
        j.told t w
        ∙ sym (sound_parts bs l t w ∙ (λ i. (sym c ∙ p) i && (sym (f.told t w) ∙ q) i && (sym (v.told t w) ∙ r) i && (sym (h.told t w) ∙ s) i && laid_rows l t));
  }
