-- A test of every record of a kind, one after another: until one fails it, the records that are left meet it exactly where all do.
-- Then what is told of the records holds of the table that the bytes say, since they say one table only.
use Prim.Native.Nat.{ℕ, zero, suc, ◌+◌, ◌*◌, ◌-◌, ◌≤◌, ◌<◌}
use mathlib.Core.Bool.{Bool, true, false, ◌&&◌}
use mathlib.Core.List.{List, []}
use mathlib.Core.Path.{◌≡◌, refl, sym, ap, ap₂, subst, ◌∙◌}
use native.Mathlib.Numerals.{add-one}
use native.Mathlib.Omega.{arith}
use lib.Dec.{leb}
use lib.Ieee.{Float}
use lib.ListN.{length, get_or, take, drop, replicate, length-append, drop_of_length-le}
use lib.Seq.{take_at, drop_at, drop-cons}
use Rattle.std.specs.List.{list_all, range_with_len}
use Rattle.rules.specs.Lists.{all, pad}
use Rattle.rules.specs.Floats.{plus_zero, same_bits, within, farthest, farthest_plane, unit}
use Rattle.rules.specs.Bytes.{floats_at}
use Rattle.rules.specs.Table.{Table, Element, corner, polytope, Plane}
use Rattle.rules.specs.Sound.{sound_point, sound_plane}
use Rattle.rules.specs.Memory.{element_row}
use Rattle.rules.specs.Files.{Reading, many, element_in}
use Rattle.rules.specs.declared.Hyperplane.{Hyperplane}
use Rattle.rules.proofs.ByteLaws.{got_value}
use Rattle.rules.proofs.Indexed.{all_go, all_no, all_end}
use Rattle.rules.proofs.Laws.{test_le, test_above, test_eq}
use Rattle.rules.proofs.Selves.{bits_self}
use Rattle.hypermath.specs.Answers.{unit_normal}
use Rattle.soundness.proofs.ReadBack.{and_one}
use Rattle.soundness.proofs.SoundWhole.{fit_counts}
use Rattle.files.specs.Runs.{Run}
use Rattle.files.specs.Laid.{header_size, Whole}
use Rattle.files.specs.Entries.{plane_at, count_at}
use Rattle.files.specs.Judged.{SaysFitting, Judged, no_plane_there, width_fits, widths_fit}
use Rattle.files.specs.declared.layout.Laid.{Laid}
use Rattle.files.proofs.Runs.{run_many}
use Rattle.files.proofs.EntriesRead.{floats_long}
use Rattle.files.proofs.Standing.{PointHere, PlaneHere, ElementHere, point_here, points_from, plane_here, planes_from}

-- ---- a test of every record of a run

module _ {A : Type 0} (f : List ℕ → Reading A) (p : A → Bool) (bs : List ℕ) where
  -- n records from a start on, of which i are passed: the next one's place, and what the others tell
  pub record Left (start n at i : ℕ) : Type 0 where
    pub list : List A
    pub end : ℕ
    pub counted : length list ≡ n
    pub run : Run f bs start list end
    pub most : i ≤ n
    pub stands : Run f bs at (drop i list) end
    pub rest : all p list ≡ all p (drop i list)

  pub all_left : (start n end : ℕ) (xs : List A) → length xs ≡ n → Run f bs start xs end → Left start n start 0
  all_left start n end xs e r = record { list = xs; end = end; counted = e; run = r; most = omega arith; stands = r; rest = refl }

  module _ {start n at i : ℕ} (s : Left start n at i) where
    pub inside : i < n → i < length s.list
    inside h = let e = s.counted in omega (arith, e, h)

    pub left_on : (next : ℕ) (x₀ : A) → i < n → p (get_or s.list i x₀) ≡ true → Run f bs next (drop (i + 1) s.list) s.end → Left start n next (i + 1)
    left_on next x₀ h q r = record {
      list = s.list;
      end = s.end;
      counted = s.counted;
      run = s.run;
      most = omega (arith, h);
      stands = r;
      rest = all_go p x₀ s.list i s.rest (inside h) q;
    }

    pub left_no : (x₀ : A) → i < n → p (get_or s.list i x₀) ≡ false → false ≡ all p s.list
    left_no x₀ h q = all_no p x₀ s.list i s.rest (inside h) q

    pub left_none : (x₀ : A) → n ≤ i → true ≡ all p s.list
    left_none x₀ h = all_end p x₀ s.list i s.rest (let e = s.counted in omega (arith, e, h))

    -- as many records that stand there are these
    pub left_are : (xs : List A) (end : ℕ) → length xs ≡ n → Run f bs start xs end → s.list ≡ xs
    left_are xs end e r =
        got_value s.list xs (drop s.end bs) (drop end bs)
        (sym (run_many f bs start s.list s.end s.run) ∙ ap (λ (k : ℕ). many k f (drop start bs)) (s.counted ∙ sym e) ∙ run_many f bs start xs end r)

-- ---- what is told of the table

module _ (bs : List ℕ) (l : Laid) {at i : ℕ} {reply : Bool} where
  pub widths_told : (s : Left element_in width_fits bs l.elements_at l.elements at i) → reply ≡ all width_fits s.list → Judged bs l widths_fit reply
  widths_told s e = record {
    told = λ t w. e ∙ ap (all width_fits) (left_are element_in width_fits bs s t.elements (length bs) w.element_counted w.elements);
  }

-- ---- the vertex and the hyperplane of a number

module _ (bs : List ℕ) (l : Laid) (t : Table) (w : Whole bs l t) where
  pub vertex_here : (v : ℕ) → v < l.vertices → PointHere l.dimension bs t.points l.planes_at (header_size + v * (2 + 8 * l.dimension)) v
  vertex_here v h =
      let e = w.vertex_counted in
      let q : v < length t.points = omega (arith, e, h) in
      point_here l.dimension bs t.points l.planes_at (points_from l.dimension bs t.points l.planes_at header_size w.points v (omega (arith, q))) q

  pub plane_here_lem : (h : ℕ) → h < l.hyperplanes → PlaneHere l.dimension bs t.planes l.elements_at (l.planes_at + h * (10 + 8 * l.dimension)) h
  plane_here_lem h k =
      let e = w.plane_counted in
      let q : h < length t.planes = omega (arith, e, k) in
      plane_here l.dimension bs t.planes l.elements_at (planes_from l.dimension bs t.planes l.elements_at l.planes_at w.planes h (omega (arith, q))) q

-- a test of the entries by their numbers
module _ {A : Type 0} (p : A → Bool) (d : A) (xs : List A) where
  numbered : (n k : ℕ) → k + n ≡ length xs → list_all (λ v. p (get_or xs v d)) (range_with_len k n) ≡ all p (drop k xs)
  numbered zero k e = sym (ap (all p) (drop_of_length-le xs {i = k} (omega (arith, e))))
  numbered (suc n) k e =
      let h : k < length xs = omega (arith, e) in
      ap (λ (b : Bool). p (get_or xs k d) && b) (numbered n (k + 1) (omega (arith, e)) ∙ ap (λ (j : ℕ). all p (drop j xs)) (add-one k))
      ∙ sym (ap (all p) (drop-cons xs k d h))

  pub by_numbers : (n : ℕ) → length xs ≡ n → list_all (λ v. p (get_or xs v d)) (range_with_len 0 n) ≡ all p xs
  by_numbers n e = numbered n 0 (omega (arith, e))

-- a row of the room has a place for each axis of a table that fits it
pub axes_fit : (bs : List ℕ) (l : Laid) → SaysFitting bs l → l.dimension ≤ 4
axes_fit bs l s = (fit_counts l.dimension l.elements l.vertices l.hyperplanes s.counts).dimension

-- ---- one record

-- its count is that of its boundary, but for a corner, whose boundary is empty
module _ (bs : List ℕ) (es : List Element) (end : ℕ) {at i : ℕ} (here : ElementHere bs es end at i) where
  width_is : leb (count_at at bs) 32 ≡ width_fits (get_or es i (corner 0))
  unfolding element_row
  width_is = go (get_or es i (corner 0)) (ap (λ (r : List ℕ). get_or r 3 0) here.row)
    where
      go : (x : Element) → count_at at bs ≡ get_or (element_row x) 3 0 → leb (count_at at bs) 32 ≡ width_fits x
      go (corner v) e = ap (λ (n : ℕ). leb n 32) e
      go (polytope r b h m) e = ap (λ (n : ℕ). leb n 32) e

  pub width_fits_lem : {n : ℕ} → n ≡ count_at at bs → n ≤ 32 → width_fits (get_or es i (corner 0)) ≡ true
  width_fits_lem {n} e h = sym width_is ∙ test_le (count_at at bs) 32 (omega (arith, e, h))

  pub too_wide : {n : ℕ} → n ≡ count_at at bs → 32 < n → width_fits (get_or es i (corner 0)) ≡ false
  too_wide {n} e h = sym width_is ∙ test_above (count_at at bs) 32 (omega (arith, e, h))

  -- behind the numbers that it counts the next one stands
  pub stands_next : {n : ℕ} → n ≡ count_at at bs → Run element_in bs (at + 8 + 2 * n) (drop (i + 1) es) end
  stands_next e = subst (λ (k : ℕ). Run element_in bs (at + 8 + 2 * k) (drop (i + 1) es) end) (sym e) here.rest

-- the row that is read of a vertex has all its coordinates
pub row_holds : (d : ℕ) (bs : List ℕ) (at : ℕ) {row : List Float} → row ≡ pad plus_zero 4 (floats_at d (at + 2) bs) → d ≤ length row
row_holds d bs at e =
    let fs = floats_at d (at + 2) bs in
    let l = ap length e ∙ length-append fs (replicate (4 - length fs) plus_zero) in
    let k = floats_long bs d (at + 2) in
    omega (arith, l, k)

-- and they are the vertex's own
pub vertex_is : (d : ℕ) (bs : List ℕ) (ps : List (List Float)) (end : ℕ) {at i : ℕ} → PointHere d bs ps end at i → (row : List Float) → row ≡ pad plus_zero 4 (floats_at d (at + 2) bs)
    → all (within farthest) (drop 0 (take d row)) ≡ sound_point d (get_or ps i [])
unfolding sound_point
vertex_is d bs ps end {at} {i} here row e =
    let p = get_or ps i [] in
    ap (λ (q : List Float). all (within farthest) (take d q)) (e ∙ ap (pad plus_zero 4) here.floats)
    ∙ ap (all (within farthest)) (take_at p (replicate (4 - length p) plus_zero) d here.long)
    ∙ ap (λ (b : Bool). b && all (within farthest) p) (sym (test_eq (length p) d here.long))

zeros_blank : (n : ℕ) → all (same_bits plus_zero) (replicate n plus_zero) ≡ true
zeros_blank zero = refl
zeros_blank (suc n) = ap₂ ◌&&◌ (bits_self plus_zero) (zeros_blank n)

-- a normal filled up with zeros is unit where it is itself
padded_unit : (d : ℕ) (n : List Float) → length n ≡ d → unit_normal d (pad plus_zero 4 n) ≡ unit n
padded_unit d n e =
    let zs = replicate (4 - length n) plus_zero in
    ap₂ (λ (x y : List Float). unit x && all (same_bits plus_zero) y) (take_at n zs d e) (drop_at n zs d e)
    ∙ ap (λ (b : Bool). unit n && b) (zeros_blank (4 - length n))
    ∙ and_one (unit n)

-- the hyperplane that is read is the table's own
pub hyperplane_is : (d : ℕ) (bs : List ℕ) (hs : List Plane) (end : ℕ) {at i : ℕ} → PlaneHere d bs hs end at i → (h : Hyperplane) → h ≡ plane_at at d bs
    → (unit_normal d h.normal && within farthest_plane h.distance) ≡ sound_plane d (get_or hs i no_plane_there)
unfolding sound_plane
hyperplane_is d bs hs end {at} {i} here h e =
    let g = get_or hs i no_plane_there in
    ap (λ (x : Hyperplane). unit_normal d x.normal && within farthest_plane x.distance) e
    ∙ ap₂ (λ (n : List Float) (x : Float). unit_normal d (pad plus_zero 4 n) && within farthest_plane x) here.normal here.distance
    ∙ ap (λ (b : Bool). b && within farthest_plane g.distance) (padded_unit d g.normal here.long)
    ∙ ap (λ (b : Bool). b && unit g.normal && within farthest_plane g.distance) (sym (test_eq (length g.normal) d here.long))
