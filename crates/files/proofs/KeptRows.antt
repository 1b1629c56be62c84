-- What is kept of the elements that were judged: their ranks and ends are those of the table's rows, and their records can be found and read again.
-- One element more is kept by four words behind the others, which leave those as they are.
use Rattle.std.specs.Prelude.{Option, Some, None, is_some}
use Prim.Native.Nat.{ℕ, zero, suc, ◌+◌, ◌*◌, ◌-◌, ◌≤◌, ◌<◌}
use mathlib.Core.Bool.{Bool, true, false, false≢true}
use mathlib.Core.List.{List, []}
use mathlib.Core.Path.{◌≡◌, refl, sym, ap, subst, ◌∙◌}
use native.Mathlib.Nat.{not-suc-le-zero}
use native.Mathlib.Omega.{arith}
use lib.Dec.{eqb, lit≤}
use lib.ListN.{length, get_or, set, drop, replicate, length-set}
use lib.Seq.{get_or-set_same, get_or-set_other, drop_at}
use Rattle.rules.specs.Held.{Fits, elements_of}
use Rattle.rules.specs.Limits.{desk}
use Rattle.rules.specs.Lists.{pad}
use Rattle.rules.specs.Table.{Table, element_count}
use Rattle.rules.specs.Files.{element_in}
use Rattle.rules.proofs.ByteLaws.{got_value}
use Rattle.rules.proofs.Laws.{eq_test, unlike_eq}
use Rattle.space.specs.Chains.{stored_row, number_of}
use Rattle.space.proofs.Laid.{length_padded}
use Rattle.soundness.specs.declared.row.Spacing.{Spacing}
use Rattle.soundness.specs.Known.{known_rows, KnownAlike}
use Rattle.soundness.specs.Words.{blank_words, past_blank}
use Rattle.soundness.proofs.KnownRows.{rank_is, first_is, second_is}
use Rattle.soundness.proofs.RowLoops.{row_first, row_word}
use Rattle.files.specs.Entries.{count_at, numbers_at, row_at, RowReady}
use Rattle.files.specs.Kept.{kept_row, kept_with, KeptTo, RowKept}
use Rattle.files.specs.Judged.{SaysFitting}
use Rattle.files.specs.Laid.{Whole}
use Rattle.files.specs.Runs.{Run}
use Rattle.files.specs.declared.layout.Laid.{Laid}
use Rattle.files.proofs.EntriesRead.{numbers_long}
use Rattle.files.proofs.SaidTable.{said_fits, row_here}

-- what was met as a number of the index: one more than its row's, or 0
abbrev pub link_of : Option ℕ → ℕ
link_of None = 0
link_of (Some i) = suc i

pub link_named : (p : Option ℕ) → p ≡ number_of (link_of p)
link_named None = refl
link_named (Some i) = refl

-- whether anything was met
abbrev pub row_of : Option ℕ → ℕ
row_of None = 0
row_of (Some i) = i

pub met_some : (p : Option ℕ) → true ≡ is_some p → Some (row_of p) ≡ p
met_some None h = absurd (false≢true (sym h))
met_some (Some i) h = refl

pub met_none : (p : Option ℕ) → false ≡ is_some p → p ≡ None
met_none None h = refl
met_none (Some i) h = absurd (false≢true h)

-- the bytes say one table only
pub one_table : {bs : List ℕ} {l : Laid} {t u : Table} → Whole bs l t → Whole bs l u → t ≡ u
one_table {t = t} {u = u} w v = got_value t u [] [] (sym w.says ∙ v.says)

-- a table that fits the room: its rows do, and as many elements as the header counts
module _ {bs : List ℕ} {l : Laid} (S : SaysFitting bs l) where
  pub says_fits : Fits desk S.table
  says_fits = said_fits bs l S.table S.whole S.counts S.widths

  pub says_few : {n : ℕ} → n ≤ l.elements → n ≤ element_count S.table
  says_few {n} h = let e = S.whole.element_counted in let z : n ≤ element_count S.table = omega (arith, h, e) in z

  pub says_room : {n : ℕ} → n ≤ l.elements → n ≤ 512
  says_room {n} h = let e = says_few h in let r = says_fits.element_room in let z : n ≤ 512 = omega (arith, e, r) in z

-- ---- four words more

module _ (kept : List ℕ) (n : ℕ) (row : List ℕ) (place : ℕ) where
  abbrev one : List ℕ
  one = set kept (n * 4) (get_or row 0 0)

  abbrev two : List ℕ
  two = set one (n * 4 + 1) (get_or row 4 0)

  abbrev three : List ℕ
  three = set two (n * 4 + 2) (get_or row 5 0)

  pub kept_before : (y : ℕ) → y < n * 4 → get_or (kept_with kept n row place) y 0 ≡ get_or kept y 0
  unfolding kept_with
  kept_before y l =
      get_or-set_other three (n * 4 + 3) y place 0 (λ e. (let z : ⊥ = omega (arith, l, e) in z)) ∙ get_or-set_other two (n * 4 + 2) y (get_or row 5 0) 0 (λ e. (let z : ⊥ = omega (arith, l, e) in z))
      ∙ get_or-set_other one (n * 4 + 1) y (get_or row 4 0) 0 (λ e. (let z : ⊥ = omega (arith, l, e) in z)) ∙ get_or-set_other kept (n * 4) y (get_or row 0 0) 0 (λ e. (let z : ⊥ = omega (arith, l, e) in z))

  pub kept_long : length (kept_with kept n row place) ≡ length kept
  unfolding kept_with
  kept_long = length-set three (n * 4 + 3) place ∙ length-set two (n * 4 + 2) (get_or row 5 0) ∙ length-set one (n * 4 + 1) (get_or row 4 0) ∙ length-set kept (n * 4) (get_or row 0 0)

  module _ (long : length kept ≡ 2048) (room : n < 512) where
    long_one : length one ≡ 2048
    long_one = length-set kept (n * 4) (get_or row 0 0) ∙ long

    long_two : length two ≡ 2048
    long_two = length-set one (n * 4 + 1) (get_or row 4 0) ∙ long_one

    long_three : length three ≡ 2048
    long_three = length-set two (n * 4 + 2) (get_or row 5 0) ∙ long_two

    pub kept_rank : get_or (kept_with kept n row place) (n * 4) 0 ≡ get_or row 0 0
    unfolding kept_with
    kept_rank =
        get_or-set_other three (n * 4 + 3) (n * 4) place 0 (λ e. (let z : ⊥ = omega (arith, e) in z)) ∙ get_or-set_other two (n * 4 + 2) (n * 4) (get_or row 5 0) 0 (λ e. (let z : ⊥ = omega (arith, e) in z))
        ∙ get_or-set_other one (n * 4 + 1) (n * 4) (get_or row 4 0) 0 (λ e. (let z : ⊥ = omega (arith, e) in z)) ∙ get_or-set_same kept (n * 4) (get_or row 0 0) 0 (let z : n * 4 < length kept = omega (arith, long, room) in z)

    pub kept_first : get_or (kept_with kept n row place) (n * 4 + 1) 0 ≡ get_or row 4 0
    unfolding kept_with
    kept_first =
        get_or-set_other three (n * 4 + 3) (n * 4 + 1) place 0 (λ e. (let z : ⊥ = omega (arith, e) in z))
        ∙ get_or-set_other two (n * 4 + 2) (n * 4 + 1) (get_or row 5 0) 0 (λ e. (let z : ⊥ = omega (arith, e) in z))
        ∙ get_or-set_same one (n * 4 + 1) (get_or row 4 0) 0 (let k = long_one in let z : n * 4 + 1 < length one = omega (arith, k, room) in z)

    pub kept_second : get_or (kept_with kept n row place) (n * 4 + 2) 0 ≡ get_or row 5 0
    unfolding kept_with
    kept_second =
        get_or-set_other three (n * 4 + 3) (n * 4 + 2) place 0 (λ e. (let z : ⊥ = omega (arith, e) in z))
        ∙ get_or-set_same two (n * 4 + 2) (get_or row 5 0) 0 (let k = long_two in let z : n * 4 + 2 < length two = omega (arith, k, room) in z)

    pub kept_place : get_or (kept_with kept n row place) (n * 4 + 3) 0 ≡ place
    unfolding kept_with
    kept_place = get_or-set_same three (n * 4 + 3) place 0 (let k = long_three in let z : n * 4 + 3 < length three = omega (arith, k, room) in z)

-- ---- what is kept of a table

module _ (bs : List ℕ) (l : Laid) (t : Table) where
  abbrev es : List ℕ
  es = elements_of desk t

  pub kept_none : KeptTo bs l t 0 (replicate 2048 0)
  kept_none = record {
    long = refl;
    ranks = λ x h. absurd (not-suc-le-zero h);
    first = λ x h. absurd (not-suc-le-zero h);
    second = λ x h. absurd (not-suc-le-zero h);
    stands = λ x h. absurd (not-suc-le-zero h);
  }

  module _ {kept : List ℕ} {n : ℕ} (K : KeptTo bs l t n kept) where
    -- the elements before row n are known by it
    pub kept_known : (sp : Spacing) → sp.width ≡ 4 → sp.ends ≡ 1 → n ≤ 512 → KnownAlike (known_rows kept sp) es n
    kept_known sp w k room = record {
      ranks = λ x h. rank_is kept sp x (in_room_lem x h) ∙ ap (λ (m : ℕ). get_or kept (x * m) 0) w ∙ K.ranks x h;
      first = λ x h. first_is kept sp x (in_room_lem x h) ∙ (λ i. get_or kept (x * w i + k i) 0) ∙ K.first x h;
      second = λ x h.
          second_is kept sp x (in_room_lem x h) ∙ (λ i. get_or kept (x * w i + k i + 1) 0) ∙ ap (λ (m : ℕ). get_or kept m 0) (let z : x * 4 + 1 + 1 ≡ x * 4 + 2 = omega arith in z) ∙ K.second x h;
    }
      where
        in_room_lem : (x : ℕ) → x < n → x < 512
        in_room_lem x h = (let z : x < 512 = omega (arith, h, room) in z)

    -- an element that is kept is read again as its row
    module _ (F : Fits desk t) {x : ℕ} (h : x < n) (few : n ≤ element_count t) where
      inside : x < element_count t
      inside = (let z : x < element_count t = omega (arith, h, few) in z)

      pub kept_own : kept_row bs l kept x ≡ stored_row es x
      kept_own = (row_here bs t F (K.stands x h) inside).row

      pub kept_ready : (row : List ℕ) → length row ≡ 36 → RowKept bs l kept x row
      kept_ready row wide = record {
        long = wide;
        room = (let r = F.element_room in let i = inside in let z : x < 512 = omega (arith, r, i) in z);
        ready = (row_here bs t F (K.stands x h) inside).ready;
        first = K.first x h ∙ sym (row_word (x * 36) 4 es (lit≤ tt)) ∙ ap (λ (r : List ℕ). get_or r 4 0) (sym kept_own);
      }

    -- row n and the place of its record are kept too
    module _ (row : List ℕ) (place : ℕ) (room : n < 512) (own : row ≡ stored_row es n) (here : Run element_in bs (l.elements_at + place) (drop n t.elements) (length bs)) where
      abbrev more : List ℕ
      more = kept_with kept n row place

      same : (x : ℕ) → x < n → (j : ℕ) → j < 4 → get_or more (x * 4 + j) 0 ≡ get_or kept (x * 4 + j) 0
      same x h j k = kept_before kept n row place (x * 4 + j) (let z : x * 4 + j < n * 4 = omega (arith, h, k) in z)

      same_first : (x : ℕ) → x < n → get_or more (x * 4) 0 ≡ get_or kept (x * 4) 0
      same_first x h = kept_before kept n row place (x * 4) (let z : x * 4 < n * 4 = omega (arith, h) in z)

      by_number : {P : ℕ → Type 0} → ((x : ℕ) → x < n → P x) → P n → (x : ℕ) → x < n + 1 → P x
      by_number {P} old new x h = go (eqb x n) refl
        where
          go : (b : Bool) → eqb x n ≡ b → P x
          go true e = subst P (sym (eq_test x n e)) new
          go false e = let u = unlike_eq x n e in old x (let z : x < n = omega (arith, h, u) in z)

      pub kept_go : KeptTo bs l t (n + 1) more
      kept_go = record {
        long = kept_long kept n row place ∙ K.long;
        ranks = by_number (λ x h. same_first x h ∙ K.ranks x h) (kept_rank kept n row place K.long room ∙ ap (λ (r : List ℕ). get_or r 0 0) own ∙ row_first (n * 36) es);
        first = by_number (λ x h. same x h 1 (lit≤ tt) ∙ K.first x h) (kept_first kept n row place K.long room ∙ ap (λ (r : List ℕ). get_or r 4 0) own ∙ row_word (n * 36) 4 es (lit≤ tt));
        second = by_number (λ x h. same x h 2 (lit≤ tt) ∙ K.second x h) (kept_second kept n row place K.long room ∙ ap (λ (r : List ℕ). get_or r 5 0) own ∙ row_word (n * 36) 5 es (lit≤ tt));
        stands = by_number (λ x h. subst (λ (p : ℕ). Run element_in bs (l.elements_at + p) (drop x t.elements) (length bs)) (sym (same x h 3 (lit≤ tt))) (K.stands x h))
            (subst (λ (p : ℕ). Run element_in bs (l.elements_at + p) (drop n t.elements) (length bs)) (sym (kept_place kept n row place K.long room)) here);
      }

-- ---- a row as it is read

pub read_long : {bs : List ℕ} {at : ℕ} → RowReady bs at → length (pad 0 36 (row_at at bs)) ≡ 36
read_long {bs} {at} R =
    let n = numbers_long bs (count_at at bs) (at + 8) in
    let b = R.boundary in
    length_padded 0 36 (row_at at bs) (let z : length (row_at at bs) ≤ 36 = omega (arith, n, b) in z)

-- nothing stands past its boundary
pub read_blank : (bs : List ℕ) (at : ℕ) → past_blank (pad 0 36 (row_at at bs)) ≡ true
unfolding past_blank
read_blank bs at =
    let n = count_at at bs in
    ap blank_words (drop_at (numbers_at n (at + 8) bs) (replicate (36 - length (row_at at bs)) 0) n (numbers_long bs n (at + 8))) ∙ zeros (36 - length (row_at at bs))
  where
    zeros : (m : ℕ) → blank_words (replicate m 0) ≡ true
    zeros zero = refl
    zeros (suc m) = zeros m
