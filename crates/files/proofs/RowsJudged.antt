-- The loop over the rows of a file's elements. Its laws are those of the rows of a memory, for the element slice that the table would have: what is asked
-- of all rows is asked of those that are left, and what is kept tells the same of earlier elements as that slice would.
use Prim.Native.Nat.{ℕ, ◌+◌, ◌*◌, ◌≤◌, ◌<◌}
use mathlib.Core.Bool.{Bool, true, false, cond, ◌&&◌}
use mathlib.Core.List.{List}
use mathlib.Core.Path.{◌≡◌, refl, sym, ap, ap₂, subst, ◌∙◌}
use native.Mathlib.Nat.{le_of_eq}
use native.Mathlib.Omega.{arith}
use lib.Dec.{eqb}
use lib.ListN.{length, get_or, take, drop, replicate}
use lib.Seq.{take_all}
use Rattle.rules.specs.Held.{Fits, elements_of}
use Rattle.rules.specs.Limits.{desk}
use Rattle.rules.specs.Lists.{pad}
use Rattle.rules.specs.Table.{Table}
use Rattle.rules.specs.Files.{element_in}
use Rattle.rules.proofs.Laws.{eq_test, unlike_eq}
use Rattle.space.specs.Chains.{Indexed, index_words, stored_row}
use Rattle.space.specs.Closed.{Unmet}
use Rattle.space.proofs.Indexing.{index_blank}
use Rattle.space.proofs.Meetings.{unmet_new}
use Rattle.space.proofs.Room.{elements_size}
use Rattle.soundness.specs.declared.row.Spacing.{Spacing}
use Rattle.soundness.specs.Known.{known_rows, KnownAlike, Spaced}
use Rattle.soundness.specs.Tests.{RowReady, NewTested}
use Rattle.soundness.specs.Words.{blank_words, past_blank, Mask, EdgesLow, stamp_of, row_sound, rows_in_use, PastSeen}
use Rattle.soundness.proofs.BoundaryLoops.{edges_none, edges_on}
use Rattle.soundness.proofs.Distinct.{apart, apart_go, apart_no, apart_is}
use Rattle.soundness.proofs.KnownRows.{alike_back, edges_alike, row_alike}
use Rattle.soundness.proofs.OnePass.{rows_left, pass_start, pass_go, pass_no, pass_short, pass_end, row_head, row_element, no_first, no_second, both}
use Rattle.files.specs.Entries.{count_at, row_at}
use Rattle.files.specs.Judged.{SaysFitting, Judged, laid_rows}
use Rattle.files.specs.Kept.{kept_with, KeptTo, RowReadyToKeep}
use Rattle.files.specs.Laid.{Whole}
use Rattle.files.specs.Runs.{Run}
use Rattle.files.specs.declared.layout.Laid.{Laid}
use Rattle.files.proofs.KeptRows.{one_table, says_fits, says_room, kept_none, kept_known, kept_go, read_long, read_blank}
use Rattle.files.proofs.SaidTable.{RowHere, row_here}

-- rows up to i were judged: what is left of a table that the bytes say
pub record Passed (bs : List ℕ) (l : Laid) (t : Table) (kept index : List ℕ) (k at i : ℕ) : Type 0 where
  pub same : rows_in_use desk l.dimension l.elements l.vertices l.hyperplanes (elements_of desk t)
      ≡ rows_left (elements_of desk t) l.dimension l.elements l.vertices l.hyperplanes k i
  pub edges : EdgesLow (elements_of desk t) i
  pub distinct : apart (elements_of desk t) i ≡ true
  pub indexed : Indexed (elements_of desk t) i index
  pub keeps : KeptTo bs l t i kept
  pub stands : Run element_in bs at (drop i t.elements) (length bs)

pub record SoFar (bs : List ℕ) (l : Laid) (past : List ℕ) (sp : Spacing) (end : ℕ) (met seen kept index : List ℕ) (k at i : ℕ) : Type 0 where
  pub last : end ≡ l.elements
  pub within : i ≤ l.elements
  pub few : k ≤ i
  pub width : sp.width ≡ 4
  pub ends : sp.ends ≡ 1
  pub long : length kept ≡ 2048
  pub mask : Mask past
  pub places : length seen ≡ 32
  pub clear : blank_words seen ≡ true
  pub unmet : Unmet (stamp_of i) met
  pub from : l.elements_at ≤ at
  pub near : at ≤ l.elements_at + i * 72
  pub of : (t : Table) → Whole bs l t → Passed bs l t kept index k at i

pub judged_start : (bs : List ℕ) (l : Laid) (past : List ℕ) (sp : Spacing) → Mask past → sp.width ≡ 4 → sp.ends ≡ 1
    → SoFar bs l past sp l.elements (replicate 512 0) (replicate 32 0) (replicate 2048 0) (replicate index_words 0) 0 l.elements_at 0
judged_start bs l past sp m w e = record {
  last = refl;
  within = omega arith;
  few = omega arith;
  width = w;
  ends = e;
  long = refl;
  mask = m;
  places = refl;
  clear = refl;
  unmet = unmet_new;
  from = omega arith;
  near = omega arith;
  of = λ t v. record {
    same = pass_start (elements_of desk t) l.dimension l.elements l.vertices l.hyperplanes;
    edges = edges_none (elements_of desk t);
    distinct = refl;
    indexed = index_blank (elements_of desk t);
    keeps = kept_none bs l t;
    stands = v.elements;
  };
}

-- ---- a row that was read

module _ {bs : List ℕ} {l : Laid} (S : SaysFitting bs l) {past : List ℕ} {sp : Spacing} {end : ℕ} {met seen kept index : List ℕ} {k at i : ℕ} (P : SoFar bs l past sp end met seen kept index k at i)
    (more : i < end) where
  less : i < l.elements
  less = let e = P.last in omega (arith, more, e)

  pub in_room_lem : i < 512
  in_room_lem = let r = says_room S less in omega (arith, r)

  fits : (t : Table) → Whole bs l t → Fits desk t
  fits t w = subst (Fits desk) (one_table S.whole w) (says_fits S)

  here : (t : Table) (w : Whole bs l t) → RowHere bs t at i
  here t w = row_here bs t (fits t w) (P.of t w).stands (let e = w.element_counted in let h = less in omega (arith, h, e))

  pub judged_here : RowHere bs S.table at i
  judged_here = here S.table S.whole

  known : (t : Table) (w : Whole bs l t) → KnownAlike (known_rows kept sp) (elements_of desk t) i
  known t w = kept_known bs l t (P.of t w).keeps sp P.width P.ends (let r = in_room_lem in omega (arith, r))

  spaced : Spaced kept sp
  spaced =
      let n = P.long in
      let w = P.width in
      let e = P.ends in
      record { long = omega (arith, n, w); ends = omega (arith, w, e); width = omega (arith, w) }

  -- how far its record stands behind the first
  pub place_low : at ≤ l.elements_at + 36864
  place_low = let n = P.near in let r = in_room_lem in omega (arith, n, r)

  module _ (row : List ℕ) (read : row ≡ pad 0 36 (row_at at bs)) where
    pub judged_long : length row ≡ 36
    judged_long = ap length read ∙ read_long judged_here.ready

    own : (t : Table) → Whole bs l t → row ≡ stored_row (elements_of desk t) i
    own t w = read ∙ (here t w).row

    whole : (t : Table) → Whole bs l t → take 36 row ≡ stored_row (elements_of desk t) i
    whole t w = take_all 36 row (le_of_eq judged_long) ∙ own t w

    pub judged_count : get_or row 3 0 ≡ count_at at bs
    judged_count = ap (λ (r : List ℕ). get_or r 3 0) read

    pub judged_ready : RowReady row 0 kept sp i met past seen
    judged_ready = record {
      there = record { row = (let n = judged_long in omega (arith, n)); spaced = spaced; in_room = in_room_lem; mask = P.mask; places = P.places };
      edges = edges_alike (alike_back (known S.table S.whole)) (P.of S.table S.whole).edges;
      unmet = P.unmet;
    }

    pub judged_keep : RowReadyToKeep bs l kept i row index
    judged_keep = record {
      search = record { says = S; few = P.within; long = judged_long; keeps = λ t w. (P.of t w).keeps; earlier = λ t w. (P.of t w).indexed };
      more = less;
      own = own;
    }

    -- the test by what is kept is the test in the slice
    sound_is : {r : Bool} → r ≡ row_sound desk (known_rows kept sp) l.dimension l.hyperplanes k i (take 36 row) → (t : Table) → Whole bs l t
        → row_sound desk (elements_of desk t) l.dimension l.hyperplanes k i (stored_row (elements_of desk t) i) ≡ r
    sound_is told t w =
        row_alike (alike_back (known t w)) (let r = in_room_lem in omega (arith, r)) (P.of t w).edges l.dimension l.hyperplanes k (stored_row (elements_of desk t) i)
        ∙ ap (row_sound desk (known_rows kept sp) l.dimension l.hyperplanes k i) (sym (whole t w)) ∙ sym told

    module _ {r : Bool} (told : r ≡ row_sound desk (known_rows kept sp) l.dimension l.hyperplanes k i (take 36 row)) where
      pub judged_not_sound : r ≡ false → Judged bs l (laid_rows l) false
      judged_not_sound fails = record {
        told = λ t w.
            no_first _ _ (pass_no (elements_of desk t) l.dimension l.elements l.vertices l.hyperplanes true k i (P.of t w).same less (sound_is told t w ∙ fails));
      }

      module _ {new : Bool} {index' : List ℕ} (N : (t : Table) → Whole bs l t → NewTested (elements_of desk t) i index new index') where
        pub judged_not_new : new ≡ false → Judged bs l (laid_rows l) false
        judged_not_new fails = record {
          told = λ t w.
              let es = elements_of desk t in
              no_second (rows_in_use desk l.dimension l.elements l.vertices l.hyperplanes es) _
              (sym (apart_is es l.elements) ∙ apart_no es l.elements i less (sym (N t w).told ∙ fails));
        }

        module _ (yes : r ≡ true) (fresh : new ≡ true) (seen' met' : List ℕ) (past-seen : PastSeen (take 36 row) seen seen') (unmet' : Unmet (stamp_of (i + 1)) met')
            (place o count : ℕ) (e : l.elements_at + place ≡ at) (one : o ≡ cond (eqb (get_or (take 36 row) 0 0) 0) 1 0) (most : o ≤ 1) (c : count ≡ get_or row 3 0) where
          counted : count ≡ count_at at bs
          counted = c ∙ judged_count

          next : (t : Table) (w : Whole bs l t) → Passed bs l t (kept_with kept i row place) index' (k + o) (at + 8 + 2 * count) (i + 1)
          next t w =
              let es = elements_of desk t in
              let Q = P.of t w in
              let sound = sound_is told t w ∙ yes in
              let n = l.elements in
              record {
                same = pass_go es l.dimension n l.vertices l.hyperplanes true true k i o Q.same less sound
                    (sym (ap past_blank (sym (whole t w) ∙ take_all 36 row (le_of_eq judged_long) ∙ read) ∙ read_blank bs at)) (one ∙ ap (λ (q : List ℕ). cond (eqb (get_or q 0 0) 0) 1 0) (whole t w));
                edges = edges_on es i l.dimension l.hyperplanes (elements_size desk t (fits t w)) in_room_lem (row_head es l.dimension l.hyperplanes k i (stored_row es i) sound)
                    (row_element es l.dimension l.hyperplanes k i (stored_row es i) sound) Q.edges;
                distinct = apart_go es i Q.distinct (sym (N t w).told ∙ fresh);
                indexed = (N t w).indexed fresh;
                keeps = kept_go bs l t Q.keeps row place in_room_lem (own t w) (subst (λ (p : ℕ). Run element_in bs p (drop i t.elements) (length bs)) (sym e) Q.stands);
                stands = subst (λ (m : ℕ). Run element_in bs (at + 8 + 2 * m) (drop (i + 1) t.elements) (length bs)) (sym counted) (here t w).rest;
              }

          goes_on : SoFar bs l past sp end met' seen' (kept_with kept i row place) index' (k + o) (at + 8 + 2 * count) (i + 1)
          goes_on =
              let h = less in
              let few = P.few in
              let from = P.from in
              let near = P.near in
              let narrow = judged_here.ready.boundary in
              let q = counted in
              record {
                last = P.last;
                within = omega (arith, h);
                few = omega (arith, few, most);
                width = P.width;
                ends = P.ends;
                long = (next S.table S.whole).keeps.long;
                mask = P.mask;
                places = past-seen.long;
                clear = past-seen.clear
                    ∙ ap₂ (λ (a b : Bool). a && b) P.clear (ap past_blank (take_all 36 row (le_of_eq judged_long) ∙ read) ∙ read_blank bs at);
                unmet = unmet';
                from = omega (arith, from);
                near = omega (arith, near, narrow, q);
                of = next;
              }

          pub judged_on : (kept' : List ℕ) → kept' ≡ kept_with kept i row place → SoFar bs l past sp end met' seen' kept' index' (k + o) (at + 8 + 2 * count) (i + 1)
          judged_on kept' q = subst (λ (ks : List ℕ). SoFar bs l past sp end met' seen' ks index' (k + o) (at + 8 + 2 * count) (i + 1)) (sym q) goes_on

-- ---- after the last row

pub judged_end : {bs : List ℕ} {l : Laid} {past : List ℕ} {sp : Spacing} {end : ℕ} {met seen kept index : List ℕ} {k at i : ℕ} → SoFar bs l past sp end met seen kept index k at i → end ≤ i
    → Judged bs l (laid_rows l) (eqb k l.vertices)
judged_end {bs} {l} {end = end} {k = k} {i = i} P over = record {
  told = λ t w.
      let es = elements_of desk t in
      both _ _ (named t w (eqb k l.vertices) refl) (sym (apart_is es l.elements) ∙ ap (apart es) (sym all) ∙ (P.of t w).distinct);
}
  where
    all : i ≡ l.elements
    all = let e = P.last in let h = P.within in let z : i ≡ l.elements = omega (arith, e, h, over) in z

    named : (t : Table) (w : Whole bs l t) (b : Bool) → eqb k l.vertices ≡ b → b ≡ rows_in_use desk l.dimension l.elements l.vertices l.hyperplanes (elements_of desk t)
    named t w true q = pass_end (elements_of desk t) l.dimension l.elements l.vertices l.hyperplanes true k i (P.of t w).same (let a = all in omega (arith, a)) (eq_test k l.vertices q)
    named t w false q = pass_short (elements_of desk t) l.dimension l.elements l.vertices l.hyperplanes true k i (P.of t w).same (let a = all in omega (arith, a)) (unlike_eq k l.vertices q)
