-- The four slices together: a table that fits is what each part of `put` asks, and its memory is what they make.
-- For the caller: a sound table's file can be put (`sound-ready`), and then the memory is what is written of the table (`put-memory`).
use Prim.Native.Nat.{ℕ, ◌≤◌}
use mathlib.Core.Bool.{true}
use mathlib.Core.List.{List, [], ◌∷◌}
use mathlib.Core.Path.{◌≡◌, sym, subst, ◌∙◌}
use native.Mathlib.Omega.{arith}
use lib.ListN.{length}
use lib.Ieee.{Float}
use Rattle.rules.specs.Limits.{desk}
use Rattle.rules.specs.Lists.{pad}
use Rattle.rules.specs.Floats.{plus_zero}
use Rattle.rules.specs.Table.{Table}
use Rattle.rules.specs.Sound.{sound}
use Rattle.rules.specs.Memory.{plane_row, right_size, encode}
use Rattle.rules.specs.Held.{Holds, element_words, counts_of, points_of, planes_of, elements_of, memory_of}
use Rattle.rules.specs.Files.{got, layout, point_in, plane_in, element_in}
use Rattle.rules.proofs.ByteLaws.{got_value}
use Rattle.rules.proofs.Good.{sound_good}
use Rattle.rules.proofs.Laws.{le_test}
use Rattle.space.proofs.Lent.{holds_memory}
use Rattle.space.proofs.Room.{good_fits}
use Rattle.space.proofs.RowAdds.{readable_desk}
use Rattle.space.proofs.Sizes.{size_known}
use Rattle.files.specs.Passed.{Together}
use Rattle.files.specs.Laid.{Whole}
use Rattle.files.specs.Putting.{RecordsReady, RecordsPut, CountsReady, PutReady, TablePut}
use Rattle.files.specs.declared.layout.Laid.{Laid}

-- ---- the records of a table

module _ {bs : List ℕ} {l : Laid} {t : Table} (w : Whole bs l t) where
  abbrev vertices : Together (point_in l.dimension) bs 10 l.vertices l.planes_at
  vertices = record { list = t.points; counted = w.vertex_counted; run = w.points }

  abbrev hyperplanes : Together (plane_in l.dimension) bs l.planes_at l.hyperplanes l.elements_at
  hyperplanes = record { list = t.planes; counted = w.plane_counted; run = w.planes }

  abbrev elements : Together element_in bs l.elements_at l.elements (length bs)
  elements = record { list = t.elements; counted = w.element_counted; run = w.elements }

-- ---- what each part asks

module _ {bs : List ℕ} {l : Laid} {cs : List ℕ} {ps hs : List Float} {es : List ℕ} (r : PutReady bs l cs ps hs es) where
  pub counts_ready : CountsReady l cs
  counts_ready =
      let w = r.whole in
      let d = w.dimension in
      let e = w.element_counted in
      let v = w.vertex_counted in
      let h = w.plane_counted in
      let f = r.fits in
      let low = r.dimension in
      let fe = f.element_room in
      let fv = f.point_room in
      let fh = f.plane_room in
      record {
        dimension = omega (arith, d, low);
        elements = omega (arith, e, fe);
        vertices = omega (arith, v, fv);
        hyperplanes = omega (arith, h, fh);
        long = r.counts;
      }

  pub points_ready : (l.dimension ≤ 4) × RecordsReady (point_in l.dimension) (pad plus_zero 4) 4 1024 bs 10 l.vertices ps
  points_ready =
      let few = counts_ready.vertices in (
        counts_ready.dimension,
        record { end = l.planes_at; records = vertices r.whole; wide = r.fits.points; place = omega (arith, few); long = r.points },
      )

  pub planes_ready : (l.dimension ≤ 4) × RecordsReady (plane_in l.dimension) (plane_row desk) 5 320 bs l.planes_at l.hyperplanes hs
  planes_ready =
      let few = counts_ready.hyperplanes in (
        counts_ready.dimension,
        record { end = l.elements_at; records = hyperplanes r.whole; wide = r.fits.planes; place = omega (arith, few); long = r.planes },
      )

  pub elements_ready : RecordsReady element_in (element_words desk) 36 18432 bs l.elements_at l.elements es
  elements_ready =
      let few = counts_ready.elements in
      record { end = length bs; records = elements r.whole; wide = r.fits.elements; place = omega (arith, few); long = r.elements }

  -- ---- what they make

  pub table_put : {cs' : List ℕ} {ps' hs' : List Float} {es' : List ℕ} → cs' ≡ l.dimension ∷ l.elements ∷ l.vertices ∷ l.hyperplanes ∷ []
      → RecordsPut (point_in l.dimension) (pad plus_zero 4) plus_zero 1024 bs 10 l.vertices ps'
      → RecordsPut (plane_in l.dimension) (plane_row desk) plus_zero 320 bs l.planes_at l.hyperplanes hs'
      → RecordsPut element_in (element_words desk) 0 18432 bs l.elements_at l.elements es'
      → TablePut bs cs' ps' hs' es'
  unfolding counts_of points_of planes_of elements_of
  table_put {cs'} {ps'} {hs'} {es'} c p h e = record {
    of = λ t q. subst (Holds desk cs' ps' hs' es') (got_value r.table t [] [] (sym r.whole.says ∙ q)) held;
  }
    where
      w : Whole bs l r.table
      w = r.whole

      held : Holds desk cs' ps' hs' es' r.table
      held = record {
        counts = c ∙ (λ i. sym w.dimension i ∷ sym w.element_counted i ∷ sym w.vertex_counted i ∷ sym w.plane_counted i ∷ []);
        points = p.rows l.planes_at (vertices w);
        planes = h.rows l.elements_at (hyperplanes w);
        elements = e.rows (length bs) (elements w);
        fits = r.fits;
      }

-- ---- for the caller

pub sound_ready : {bs : List ℕ} {l : Laid} (cs : List ℕ) (ps hs : List Float) (es : List ℕ) (t : Table) → Whole bs l t → sound desk t ≡ true → right_size desk (memory_of cs ps hs es) ≡ true
    → PutReady bs l cs ps hs es
sound_ready cs ps hs es t w s z =
    let g = sound_good desk t s in
    let k = size_known cs ps hs es z in
    record {
      table = t;
      whole = w;
      dimension = le_test t.dimension 4 g.high;
      fits = good_fits desk readable_desk t g;
      counts = k.counts;
      points = k.points;
      planes = k.planes;
      elements = k.elements;
    }

pub put_memory : {bs cs : List ℕ} {ps hs : List Float} {es : List ℕ} → TablePut bs cs ps hs es → (t : Table) → layout bs ≡ got t [] → memory_of cs ps hs es ≡ encode desk t
put_memory p t q = holds_memory desk readable_desk (p.of t q)
