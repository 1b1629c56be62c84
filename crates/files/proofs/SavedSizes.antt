-- The size of a file. The elements' records are counted row by row: what is counted, and the records that are left, make all of it.
use Prim.Native.Nat.{ℕ, zero, suc, ◌+◌, ◌*◌, ◌≤◌, ◌<◌}
use mathlib.Core.List.{List}
use mathlib.Core.Path.{◌≡◌, refl, ap, subst, ◌∙◌}
use native.Mathlib.Nat.{le_trans, mul-le-mul_right}
use native.Mathlib.Numerals.{add-one}
use native.Mathlib.Omega.{arith}
use lib.ListN.{length, get_or, length-append}
use Rattle.files.specs.Saved.{count_fits, row_saved, row_at, saved, file_size, RowsUsed}
use Rattle.files.proofs.SavedRows.{saved_from, saved_first, saved_on, saved_none, row_stored, row_clear}
use Rattle.files.proofs.SavedRecords.{count_low, element_size}

pub record SizeSoFar (es : List ℕ) (n size e : ℕ) : Type 0 where
  pub within : e ≤ n
  pub counted : size + length (saved_from row_saved 36 n es e) ≡ length (saved row_saved 36 n es)
  pub most : size ≤ 72 * e

module _ (es : List ℕ) (n : ℕ) where
  pub no_size : SizeSoFar es n 0 0
  no_size = record { within = omega arith; counted = (let q = ap length (saved_first row_saved 36 n es) in omega (arith, q)); most = omega arith }

  module _ (u : RowsUsed es n) (e : ℕ) (h : e < n) where
    stored : e * 36 + 36 ≤ length es
    stored = row_stored row_saved 36 n es e (let l = u.elements in let r = u.room in omega (arith, l, r)) h

    pub count_most : get_or es (e * 36 + 3) 0 ≤ 32
    count_most = count_low e es stored (row_clear row_saved 36 n es count_fits e u.clear h)

    pub next_size : {size : ℕ} (c : ℕ) → c ≡ get_or es (e * 36 + 3) 0 → SizeSoFar es n size e → SizeSoFar es n (size + 8 + 2 * c) (e + 1)
    next_size c k s =
        let q = ap length (saved_on row_saved 36 n es e h) in
        let a = length-append (row_saved (row_at 36 e es)) (saved_from row_saved 36 n es (e + 1)) in
        let l = element_size e es stored (row_clear row_saved 36 n es count_fits e u.clear h) in
        let z = s.counted in
        let m = s.most in
        let t = count_most in
        record { within = omega (arith, h); counted = omega (arith, q, a, l, z, k); most = omega (arith, m, t, k) }

  pub whole_size : {size e : ℕ} → n ≤ e → SizeSoFar es n size e → size ≡ length (saved row_saved 36 n es)
  whole_size {size} {e} h s = let q = ap length (saved_none row_saved 36 n es e h) in let z = s.counted in omega (arith, q, z)

  -- the records of elements have few bytes
  pub elements_few : RowsUsed es n → length (saved row_saved 36 n es) ≤ 72 * n
  elements_few u = let c = go n (omega arith) in let q = whole_size (omega arith) c.1 in let m = c.1.most in omega (arith, q, m)
    where
      go : (e : ℕ) → e ≤ n → (size : ℕ) × SizeSoFar es n size e
      go zero h = (0, no_size)
      go (suc e) h =
          let c = go e (omega (arith, h)) in
          let k = get_or es (e * 36 + 3) 0 in
          (c.0 + 8 + 2 * k, subst (SizeSoFar es n (c.0 + 8 + 2 * k)) (add-one e) (next_size u e h k refl c.1))

-- ---- the whole

-- and so have those of vertices and of hyperplanes
pub points_few : (v d : ℕ) → v ≤ 256 → d ≤ 4 → v * (2 + 8 * d) ≤ 8704
points_few v d h k = le_trans (mul-le-mul_right (2 + 8 * d) h) (let z : 256 * (2 + 8 * d) ≤ 8704 = omega (arith, k) in z)

pub planes_few : (h d : ℕ) → h ≤ 64 → d ≤ 4 → h * (10 + 8 * d) ≤ 2688
planes_few h d l k = le_trans (mul-le-mul_right (10 + 8 * d) l) (let z : 64 * (10 + 8 * d) ≤ 2688 = omega (arith, k) in z)

pub size_told : (cs es : List ℕ) {d n v h r : ℕ} → d ≡ get_or cs 0 0 → n ≡ get_or cs 1 0 → v ≡ get_or cs 2 0 → h ≡ get_or cs 3 0 → r ≡ length (saved row_saved 36 n es)
    → 10 + v * (2 + 8 * d) + h * (10 + 8 * d) + r ≡ file_size cs es
unfolding file_size
size_told cs es {n = n} a b c e f =
    let g = f ∙ ap (λ (k : ℕ). length (saved row_saved 36 k es)) b in
    λ i. 10 + c i * (2 + 8 * a i) + e i * (10 + 8 * a i) + g i
