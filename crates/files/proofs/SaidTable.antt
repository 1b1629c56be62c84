-- A table that a file says, and whose counts and boundaries fit the room: its rows fit, and those of its elements stand in the file, record by record.
use Rattle.std.specs.Prelude.{if◌then◌else◌}
use Prim.Native.Nat.{ℕ, ◌+◌, ◌*◌, ◌-◌, ◌<◌}
use mathlib.Core.Bool.{Bool, true, false}
use mathlib.Core.List.{List, [], map}
use mathlib.Core.Path.{◌≡◌, refl, sym, ap, subst, ◌∙◌}
use native.Mathlib.Omega.{arith}
use lib.Dec.{eqb}
use lib.ListN.{length, get_or, take, drop, replicate, length-map, get_or-map}
use lib.Seq.{drop-cons}
use Rattle.rules.specs.Limits.{desk}
use Rattle.rules.specs.Lists.{pad, joined, rows}
use Rattle.rules.specs.Table.{Element, corner, polytope, Table, element, element_count}
use Rattle.rules.specs.Memory.{read_element, plane_named}
use Rattle.rules.specs.Held.{Fits, element_words, elements_of, fitting}
use Rattle.rules.specs.Files.{plane_in, element_in}
use Rattle.rules.proofs.Each.{all_each, all_get_d}
use Rattle.rules.proofs.Indexed.{rows_from_lem, rows_on}
use Rattle.rules.proofs.Laws.{le_test, test_eq, unlike_eq}
use Rattle.rules.proofs.RoundTrip.{Shaped, element_long}
use Rattle.rules.proofs.Rows.{rows_back}
use Rattle.space.specs.Chains.{stored_row}
use Rattle.space.proofs.PolytopeMemo.{fits_row}
use Rattle.space.proofs.Room.{shaped_fits}
use Rattle.space.proofs.RowAdds.{readable_desk}
use Rattle.soundness.specs.Words.{counts_fit}
use Rattle.soundness.proofs.SoundWhole.{CountsLow, fit_counts}
use Rattle.files.specs.Runs.{Run}
use Rattle.files.specs.Laid.{header_size, Whole}
use Rattle.files.specs.Entries.{count_at, row_at, RowReady}
use Rattle.files.specs.Judged.{width_fits, widths_fit, laid_fits, no_plane_there}
use Rattle.files.specs.declared.layout.Laid.{Laid}
use Rattle.files.proofs.Runs.{run_at, run_within}
use Rattle.files.proofs.EntriesRead.{element_read}
use Rattle.files.proofs.Standing.{point_here, points_from, plane_here, planes_from, element_here, element_row_lem, boundary_fits}

-- ---- its rows fit the room

-- a polytope that was read has a rank, and names no hyperplane FFFF
row_fitting : (t : Table) (row : List ℕ) → width_fits (read_element row) ≡ true → fitting desk (read_element row) ≡ true
unfolding read_element
row_fitting t row = go (eqb (get_or row 0 0) 0) refl
  where
    read : Bool → Element
    read b = if b then corner (get_or row 4 0) else polytope (get_or row 0 0) (take (get_or row 3 0) (drop 4 row)) (plane_named (get_or row 2 0)) (eqb (get_or row 1 0) 1)

    go : (b : Bool) → eqb (get_or row 0 0) 0 ≡ b → width_fits (read b) ≡ true → fitting desk (read b) ≡ true
    go true e w = refl
    go false e w =
        let some = unlike_eq (get_or row 0 0) 0 e in
        fits_row desk (get_or row 0 0) (take (get_or row 3 0) (drop 4 row)) (plane_named (get_or row 2 0)) (eqb (get_or row 1 0) 1) t (omega (arith, some)) (le_test _ 32 w) (get_or row 2 0) refl

module _ (bs : List ℕ) (l : Laid) (t : Table) (w : Whole bs l t) where
  -- the header's numbers are the table's own
  pub counts_same : counts_fit desk t.dimension (element_count t) (length t.points) (length t.planes) ≡ laid_fits l
  counts_same = λ i. counts_fit desk (w.dimension i) (w.element_counted i) (w.vertex_counted i) (w.plane_counted i)

  pub counts_low : laid_fits l ≡ true → CountsLow t.dimension (element_count t) (length t.points) (length t.planes)
  counts_low c = fit_counts t.dimension (element_count t) (length t.points) (length t.planes) (counts_same ∙ c)

  point_axes : (i : ℕ) → i < length t.points → eqb (length (get_or t.points i [])) t.dimension ≡ true
  point_axes i h =
      let here = point_here l.dimension bs t.points l.planes_at (points_from l.dimension bs t.points l.planes_at header_size w.points i (omega (arith, h))) h in
      test_eq _ _ (here.long ∙ sym w.dimension)

  plane_axes : (i : ℕ) → i < length t.planes → eqb (length (get_or t.planes i no_plane_there).normal) t.dimension ≡ true
  plane_axes i h =
      let here = plane_here l.dimension bs t.planes l.elements_at (planes_from l.dimension bs t.planes l.elements_at l.planes_at w.planes i (omega (arith, h))) h in
      test_eq _ _ (here.long ∙ sym w.dimension)

  element_fitting : widths_fit t ≡ true → (i : ℕ) → i < element_count t → fitting desk (element t i) ≡ true
  element_fitting f i h =
      let from = run_within (plane_in l.dimension) bs l.planes_at t.planes l.elements_at w.planes in
      let a = run_at element_in bs l.elements_at t.elements (length bs) i (corner 0) from w.elements h in
      let v = (element_read bs a.start (element t i) a.next a.one).value in
      let narrow = all_get_d width_fits t.elements i (corner 0) refl f in
      subst (λ (x : Element). fitting desk x ≡ true) (sym v) (row_fitting t (row_at a.start bs) (subst (λ (x : Element). width_fits x ≡ true) v narrow))

  pub said_shaped : laid_fits l ≡ true → widths_fit t ≡ true → Shaped desk readable_desk t
  said_shaped c f =
      let low = counts_low c in
      record {
        dimension = low.dimension;
        point_room = low.vertices;
        element_room = low.elements;
        plane_room = low.hyperplanes;
        points = all_each (λ p. eqb (length p) t.dimension) [] t.points point_axes;
        elements = all_each (fitting desk) (corner 0) t.elements (element_fitting f);
        planes = all_each (λ h. eqb (length h.normal) t.dimension) no_plane_there t.planes plane_axes;
      }

  pub said_fits : laid_fits l ≡ true → widths_fit t ≡ true → Fits desk t
  said_fits c f = shaped_fits desk readable_desk t (said_shaped c f)

-- ---- the rows of its elements

module _ (t : Table) (F : Fits desk t) where
  pub rows_are : rows (element_count t) 36 (elements_of desk t) ≡ map (element_words desk) t.elements
  unfolding elements_of
  rows_are =
      let es = map (element_words desk) t.elements in
      ap (λ (n : ℕ). rows n 36 (elements_of desk t)) (sym (length-map t.elements (element_words desk)))
      ∙ rows_back 36 es (replicate (18432 - length (joined es)) 0) F.elements

  -- row i in the room is the row of element i
  pub stored_is : (i : ℕ) → i < element_count t → stored_row (elements_of desk t) i ≡ element_words desk (element t i)
  stored_is i h =
      let n = element_count t in
      let es = elements_of desk t in
      let there = length-map t.elements (element_words desk) in
      ap (λ (rs : List (List ℕ)). get_or rs 0 [])
      (sym (rows_on 36 i n es h) ∙ sym (rows_from_lem 36 i n es) ∙ ap (drop i) rows_are ∙ drop-cons (map (element_words desk) t.elements) i (element_words desk (corner 0)) (omega (arith, there, h)))
      ∙ get_or-map (element_words desk) t.elements i (corner 0)

-- ---- and where they stand in the file

-- from the record of element i on: it is read as row i of the room, and behind it the others stand
pub record RowHere (bs : List ℕ) (t : Table) (at i : ℕ) : Type 0 where
  pub ready : RowReady bs at
  pub row : pad 0 36 (row_at at bs) ≡ stored_row (elements_of desk t) i
  pub rest : Run element_in bs (at + 8 + 2 * count_at at bs) (drop (i + 1) t.elements) (length bs)

pub row_here : (bs : List ℕ) (t : Table) → Fits desk t → {at i : ℕ} → Run element_in bs at (drop i t.elements) (length bs) → i < element_count t → RowHere bs t at i
row_here bs t F {at} {i} r h =
    let here = element_here bs t.elements (length bs) r h in
    let wide = element_long desk readable_desk (element t i) (all_get_d (fitting desk) t.elements i (corner 0) refl F.kinds) in
    record {
      ready = record { boundary = boundary_fits bs t.elements (length bs) here wide; within = here.within };
      row = element_row_lem bs t.elements (length bs) here ∙ sym (stored_is t F i h);
      rest = here.rest;
    }
