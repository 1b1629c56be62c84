-- Where the records of a run stand, and what each of them is, for loops over a kind of records: another loop cites the same.
-- From its i-th record on (`point-here`, `plane-here`, `element-here`): the record's bytes are there, what it says is entry i, and the run goes on behind it.
-- The i-th vertex and the i-th hyperplane stand at a place that is known without the ones before (`points-from`, `planes-from`).
-- Its row in the lent room is the row of entry i (`point-row`, `plane-row`, `element-row`); an element's row has room for its boundary (`boundary-fits`).
use Prim.Native.Nat.{ℕ, zero, suc, ◌+◌, ◌*◌, ◌-◌, ◌≤◌, ◌<◌}
use mathlib.Core.List.{List, [], ◌∷◌, ◌++◌}
use mathlib.Core.Path.{◌≡◌, sym, ap, ap₂, subst, ◌∙◌}
use native.Mathlib.Nat.{zero-mul, suc-mul}
use native.Mathlib.Numerals.{add-one}
use native.Mathlib.Omega.{arith}
use lib.ListN.{length, get_or, drop, replicate, length-append, length-replicate}
use lib.Ieee.{Float}
use Rattle.rules.specs.Limits.{desk}
use Rattle.rules.specs.Lists.{pad}
use Rattle.rules.specs.Floats.{plus_zero}
use Rattle.rules.specs.Bytes.{float_at, floats_at}
use Rattle.rules.specs.Table.{Element, corner, Plane}
use Rattle.rules.specs.Memory.{element_row, plane_row}
use Rattle.rules.specs.Held.{element_words}
use Rattle.rules.specs.Files.{point_in, plane_in, element_in}
use Rattle.space.specs.Shared.{row_of}
use Rattle.space.proofs.Laid.{length_padded}
use Rattle.space.proofs.VertexMemo.{four_is}
use Rattle.files.specs.Runs.{Run}
use Rattle.files.specs.Judged.{no_plane_there}
use Rattle.files.specs.Entries.{plane_at, count_at, row_at}
use Rattle.files.proofs.Runs.{run_next}
use Rattle.files.proofs.EntriesRead.{numbers_long, point_read, plane_read, element_read}

-- a record of a known size behind i others
further : (at i size : ℕ) → at + i * size + size ≡ at + suc i * size
further at i size = let m = suc-mul i size in omega (arith, m)

-- ---- vertices

module _ (d : ℕ) (bs : List ℕ) (ps : List (List Float)) (end : ℕ) where
  pub record PointHere (at i : ℕ) : Type 0 where
    pub within : at + 2 + 8 * d ≤ length bs
    pub floats : floats_at d (at + 2) bs ≡ get_or ps i []
    pub long : length (get_or ps i []) ≡ d
    pub rest : Run (point_in d) bs (at + 2 + 8 * d) (drop (i + 1) ps) end

  pub point_here : {at i : ℕ} → Run (point_in d) bs at (drop i ps) end → i < length ps → PointHere at i
  point_here {at} {i} r h =
      let n = run_next (point_in d) bs at ps end i [] r h in
      let p = point_read bs at d (get_or ps i []) n.next n.one in
      record {
        within = p.within;
        floats = sym p.list;
        long = p.long;
        rest = subst (λ (k : ℕ). Run (point_in d) bs k (drop (i + 1) ps) end) p.ends (subst (λ (k : ℕ). Run (point_in d) bs n.next (drop k ps) end) (sym (add-one i)) n.rest);
      }

  pub points_from : (at : ℕ) → Run (point_in d) bs at ps end → (i : ℕ) → i ≤ length ps → Run (point_in d) bs (at + i * (2 + 8 * d)) (drop i ps) end
  points_from at r zero h = subst (λ (k : ℕ). Run (point_in d) bs k ps end) (let m = zero-mul (2 + 8 * d) in let q : at ≡ at + 0 * (2 + 8 * d) = omega (arith, m) in q) r
  points_from at r (suc i) h =
      let p = point_here (points_from at r i (omega (arith, h))) h in
      let here = at + i * (2 + 8 * d) in
      subst (λ (k : ℕ). Run (point_in d) bs k (drop (suc i) ps) end) (let q : here + 2 + 8 * d ≡ here + (2 + 8 * d) = omega arith in q ∙ further at i (2 + 8 * d))
      (subst (λ (k : ℕ). Run (point_in d) bs (here + 2 + 8 * d) (drop k ps) end) (add-one i) p.rest)

  pub point_row : {at i : ℕ} → PointHere at i → pad plus_zero 4 (floats_at d (at + 2) bs) ≡ pad plus_zero 4 (get_or ps i [])
  point_row p = ap (pad plus_zero 4) p.floats

-- ---- hyperplanes

module _ (d : ℕ) (bs : List ℕ) (hs : List Plane) (end : ℕ) where
  pub record PlaneHere (at i : ℕ) : Type 0 where
    pub within : at + 2 + (8 * d + 8) ≤ length bs
    pub normal : floats_at d (at + 2) bs ≡ (get_or hs i no_plane_there).normal
    pub distance : float_at (at + 2 + 8 * d) bs ≡ (get_or hs i no_plane_there).distance
    pub long : length (get_or hs i no_plane_there).normal ≡ d
    pub rest : Run (plane_in d) bs (at + 10 + 8 * d) (drop (i + 1) hs) end

  pub plane_here : {at i : ℕ} → Run (plane_in d) bs at (drop i hs) end → i < length hs → PlaneHere at i
  plane_here {at} {i} r h =
      let n = run_next (plane_in d) bs at hs end i no_plane_there r h in
      let p = plane_read bs at d (get_or hs i no_plane_there) n.next n.one in
      record {
        within = p.within;
        normal = sym p.normal;
        distance = sym p.distance;
        long = p.long;
        rest =
            subst (λ (k : ℕ). Run (plane_in d) bs k (drop (i + 1) hs) end) (p.ends ∙ (let q : at + 2 + (8 * d + 8) ≡ at + 10 + 8 * d = omega arith in q))
            (subst (λ (k : ℕ). Run (plane_in d) bs n.next (drop k hs) end) (sym (add-one i)) n.rest);
      }

  pub planes_from : (at : ℕ) → Run (plane_in d) bs at hs end → (i : ℕ) → i ≤ length hs → Run (plane_in d) bs (at + i * (10 + 8 * d)) (drop i hs) end
  planes_from at r zero h = subst (λ (k : ℕ). Run (plane_in d) bs k hs end) (let m = zero-mul (10 + 8 * d) in let q : at ≡ at + 0 * (10 + 8 * d) = omega (arith, m) in q) r
  planes_from at r (suc i) h =
      let p = plane_here (planes_from at r i (omega (arith, h))) h in
      let here = at + i * (10 + 8 * d) in
      subst (λ (k : ℕ). Run (plane_in d) bs k (drop (suc i) hs) end) (let q : here + 10 + 8 * d ≡ here + (10 + 8 * d) = omega arith in q ∙ further at i (10 + 8 * d))
      (subst (λ (k : ℕ). Run (plane_in d) bs (here + 10 + 8 * d) (drop k hs) end) (add-one i) p.rest)

  pub plane_row_lem : {at i : ℕ} → PlaneHere at i → d ≤ 4 → row_of (plane_at at d bs) ≡ plane_row desk (get_or hs i no_plane_there)
  unfolding plane_row
  plane_row_lem {at} {i} p low =
      let n = pad plus_zero 4 (floats_at d (at + 2) bs) in
      let x = float_at (at + 2 + 8 * d) bs in
      let l = ap length p.normal ∙ p.long in
      ap (λ (r : List Float). r ++ x ∷ []) (four_is n (length_padded plus_zero 4 (floats_at d (at + 2) bs) (omega (arith, l, low))))
      ∙ ap₂ (λ (r : List Float) (y : Float). pad plus_zero 4 r ++ y ∷ []) p.normal p.distance

-- ---- elements

module _ (bs : List ℕ) (es : List Element) (end : ℕ) where
  pub record ElementHere (at i : ℕ) : Type 0 where
    pub within : at + 8 + 2 * count_at at bs ≤ length bs
    pub row : row_at at bs ≡ element_row (get_or es i (corner 0))
    pub rest : Run element_in bs (at + 8 + 2 * count_at at bs) (drop (i + 1) es) end

  pub element_here : {at i : ℕ} → Run element_in bs at (drop i es) end → i < length es → ElementHere at i
  element_here {at} {i} r h =
      let n = run_next element_in bs at es end i (corner 0) r h in
      let p = element_read bs at (get_or es i (corner 0)) n.next n.one in
      record {
        within = p.within;
        row = sym p.row;
        rest = subst (λ (k : ℕ). Run element_in bs k (drop (i + 1) es) end) p.ends (subst (λ (k : ℕ). Run element_in bs n.next (drop k es) end) (sym (add-one i)) n.rest);
      }

  pub element_row_lem : {at i : ℕ} → ElementHere at i → pad 0 36 (row_at at bs) ≡ element_words desk (get_or es i (corner 0))
  element_row_lem p = ap (pad 0 36) p.row

  -- how many words its row has
  pub row_words : {at i : ℕ} → ElementHere at i → length (element_row (get_or es i (corner 0))) ≡ 4 + count_at at bs
  row_words {at} p = let l = numbers_long bs (count_at at bs) (at + 8) in let e = ap length p.row in omega (arith, l, e)

  pub boundary_fits : {at i : ℕ} → ElementHere at i → length (element_words desk (get_or es i (corner 0))) ≡ 36 → count_at at bs ≤ 32
  boundary_fits {at} {i} p w =
      let ws = element_row (get_or es i (corner 0)) in
      let a = length-append ws (replicate (36 - length ws) 0) in
      let b = length-replicate {A = ℕ} (36 - length ws) 0 in
      let l = row_words p in
      omega (arith, a, b, l, w)
