-- The layout of a whole file: its header, then as many records of each kind as it says, one run after another, and no byte more.
use Prim.Native.Nat.{ℕ, ◌≤◌, ◌<◌}
use mathlib.Core.Bool.{true, false}
use mathlib.Core.List.{List}
use mathlib.Core.Path.{◌≡◌, refl, sym, ap, subst, ◌∙◌}
use native.Mathlib.Omega.{arith}
use lib.ListN.{length, drop}
use lib.Seq.{drop-cons, drop-length}
use Rattle.rules.specs.Bytes.{number_at}
use Rattle.rules.specs.Table.{Table}
use Rattle.rules.specs.Files.{broken, got, and_then, many, point_in, plane_in, element_in, records_in, table_after, layout, judged, table_in}
use Rattle.rules.proofs.ByteLaws.{and_then_lem}
use Rattle.files.specs.Runs.{Run}
use Rattle.files.specs.Passed.{begins, Together}
use Rattle.files.specs.Laid.{header_size, LayoutTold}
use Rattle.std.specs.Prelude.{Some, None}
use Rattle.files.proofs.Runs.{broken_then, run_within}
use Rattle.files.proofs.Passes.{together_reads}
use Rattle.files.proofs.Sizes.{Wants, then_wants, first_wants, number_takes, then_number, not_begun, begun_within, begun}

-- ---- 13

module _ (bs : List ℕ) where
  pub broken_told : layout bs ≡ broken → LayoutTold bs None
  unfolding table_in
  broken_told e = LayoutTold.breaks (λ L. ap (judged L) e) refl

  -- bytes are left over
  pub more_told : (t : Table) (end : ℕ) → layout bs ≡ got t (drop end bs) → end < length bs → LayoutTold bs None
  unfolding table_in
  more_told t end e h = LayoutTold.breaks (λ L. ap (judged L) (e ∙ ap (got t) (drop-cons bs end 0 h))) refl

-- ---- the header

-- a mark and four numbers
table_wants : Wants 8 table_after
table_wants =
    then_wants 2 6 _ (number_takes 2) (λ d. then_wants 2 4 _ (number_takes 2) (λ ne. then_wants 2 2 _ (number_takes 2) (λ nv. first_wants 2 _ (number_takes 2))))

module _ (bs : List ℕ) where
  pub no_header : begins 0x48 0x44 8 bs ≡ false → LayoutTold bs None
  unfolding layout
  no_header h = broken_told bs (not_begun 0x48 0x44 8 table_after bs table_wants h)

  -- what was read of it
  pub record Header (d ne nv nh : ℕ) : Type 0 where
    pub begun : begins 0x48 0x44 8 bs ≡ true
    pub dimension : d ≡ number_at 2 2 bs
    pub elements : ne ≡ number_at 2 4 bs
    pub vertices : nv ≡ number_at 2 6 bs
    pub hyperplanes : nh ≡ number_at 2 8 bs

  module _ (d ne nv nh : ℕ) (H : Header d ne nv nh) where
    pub header_within : header_size ≤ length bs
    header_within = begun_within 0x48 0x44 8 bs 0 H.begun

    header_read : layout bs ≡ records_in d ne nv nh (drop header_size bs)
    unfolding layout
    header_read =
        let w = header_within in
        begun 0x48 0x44 8 table_after bs 0 H.begun
        ∙ then_number bs 2 2 4 _ refl (omega (arith, w))
        ∙ then_number bs 2 4 6 _ refl (omega (arith, w))
        ∙ then_number bs 2 6 8 _ refl (omega (arith, w))
        ∙ then_number bs 2 8 10 _ refl (omega (arith, w))
        ∙ (λ i. records_in (sym H.dimension i) (sym H.elements i) (sym H.vertices i) (sym H.hyperplanes i) (drop header_size bs))

    -- ---- the records, kind by kind

    pub no_points : many nv (point_in d) (drop header_size bs) ≡ broken → LayoutTold bs None
    no_points h = broken_told bs (header_read ∙ broken_then (many nv (point_in d) (drop header_size bs)) _ h)

    module _ (planesAt : ℕ) (ps : Together (point_in d) bs header_size nv planesAt) where
      points_read : layout bs ≡ and_then (many nh (plane_in d) (drop planesAt bs)) (λ hs b₂. and_then (many ne element_in b₂) (λ es b₃.
          got (record { dimension = d; points = ps.list; elements = es; planes = hs }) b₃))
      points_read = header_read ∙ and_then_lem (many nv (point_in d) (drop header_size bs)) _ ps.list (drop planesAt bs) (together_reads (point_in d) bs header_size nv planesAt ps)

      pub no_planes : many nh (plane_in d) (drop planesAt bs) ≡ broken → LayoutTold bs None
      no_planes h = broken_told bs (points_read ∙ broken_then (many nh (plane_in d) (drop planesAt bs)) _ h)

      module _ (elementsAt : ℕ) (hs : Together (plane_in d) bs planesAt nh elementsAt) where
        planes_read : layout bs ≡ and_then (many ne element_in (drop elementsAt bs)) (λ es b₃. got (record { dimension = d; points = ps.list; elements = es; planes = hs.list }) b₃)
        planes_read = points_read ∙ and_then_lem (many nh (plane_in d) (drop planesAt bs)) _ hs.list (drop elementsAt bs) (together_reads (plane_in d) bs planesAt nh elementsAt hs)

        pub no_elements : many ne element_in (drop elementsAt bs) ≡ broken → LayoutTold bs None
        no_elements h = broken_told bs (planes_read ∙ broken_then (many ne element_in (drop elementsAt bs)) _ h)

        module _ (end : ℕ) (es : Together element_in bs elementsAt ne end) where
          abbrev said : Table
          said = record { dimension = d; points = ps.list; elements = es.list; planes = hs.list }

          elements_read : layout bs ≡ got said (drop end bs)
          elements_read = planes_read ∙ and_then_lem (many ne element_in (drop elementsAt bs)) _ es.list (drop end bs) (together_reads element_in bs elementsAt ne end es)

          pub bytes_more : (end ≡ length bs → ⊥) → LayoutTold bs None
          bytes_more h =
              let k = run_within element_in bs elementsAt es.list end es.run in
              more_told bs said end elements_read (omega (arith, k, h))

          pub all_told : end ≡ length bs
              → LayoutTold bs (Some (record { dimension = d; elements = ne; vertices = nv; hyperplanes = nh; planes_at = planesAt; elements_at = elementsAt }))
          all_told h =
              LayoutTold.stands _ said
              (record {
                says = elements_read ∙ ap (got said) (ap (λ (i : ℕ). drop i bs) h ∙ drop-length bs);
                dimension = refl;
                element_counted = es.counted;
                vertex_counted = ps.counted;
                plane_counted = hs.counted;
                points = ps.run;
                planes = hs.run;
                elements = subst (λ (i : ℕ). Run element_in bs elementsAt es.list i) h es.run;
              })
              refl
