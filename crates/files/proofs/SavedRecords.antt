-- The records of single rows: how long each is, and that its parts, put one behind another, make it.
use Prim.Native.Nat.{ℕ, zero, suc, ◌+◌, ◌*◌, ◌-◌, ◌≤◌, ◌<◌}
use mathlib.Core.Bool.{true, false, not}
use mathlib.Core.List.{List, [], ◌∷◌, ◌++◌}
use mathlib.Core.Path.{◌≡◌, refl, sym, ap, ap₂, ◌∙◌}
use native.Mathlib.Nat.{le_of_suc-le-suc, not-suc-le-zero}
use native.Mathlib.Omega.{arith}
use lib.ListN.{length, get_or, take, drop, length-append, length-drop}
use lib.Seq.{length-take-le, take-take, take_all, drop-drop, get_or-take, get_or-drop}
use lib.Ieee.{Float, nan, binary64, to_bits, is_nan}
use Rattle.rules.specs.Floats.{plus_zero}
use Rattle.rules.specs.Bytes.{bytes_of, number_bytes, float_byte8, float_bytes}
use Rattle.rules.specs.Memory.{read_plane}
use Rattle.rules.specs.Files.{point_record, plane_record, row_record}
use Rattle.rules.proofs.ByteLaws.{bytes_long}
use Rattle.rules.proofs.Laws.{and_left, and_right, not_true, le_test}
use Rattle.lent_bytes.specs.Lent.{Put, Part}
use Rattle.lent_bytes.proofs.Fronts.{drop_front}
use Rattle.lent_bytes.proofs.Puts.{then, put_as}
use Rattle.lent_bytes.proofs.Rests.{joined_long, part_long}
use Rattle.files.specs.Saved.{header_saved, point_saved, plane_saved, row_saved, are_numbers, point_clear, plane_clear, count_fits, row_at, RowReady}

-- ---- numbers and floats

pub numbers_long : (k : ℕ) (ns : List ℕ) → length (number_bytes k ns) ≡ length ns * k
numbers_long k ns = joined_long (bytes_of k) k (bytes_long k) ns

pub floats_long : (xs : List Float) → length (float_bytes xs) ≡ length xs * 8
floats_long xs = joined_long float_byte8 8 (λ x. bytes_long 8 (to_bits binary64 x)) xs

-- and of a part of a list
pub numbers_part : (k : ℕ) (ns : List ℕ) (from to : ℕ) → to ≤ length ns → length (number_bytes k (drop from (take to ns))) ≡ (to - from) * k
numbers_part k ns from to h = part_long (bytes_of k) k (bytes_long k) ns from to h

pub floats_part : (xs : List Float) (from to : ℕ) → to ≤ length xs → length (float_bytes (drop from (take to xs))) ≡ (to - from) * 8
floats_part xs from to h = part_long float_byte8 8 (λ x. bytes_long 8 (to_bits binary64 x)) xs from to h

-- what stands in a list does not hang on what stands for nothing
there : {A : Type 0} (xs : List A) (i : ℕ) (a b : A) → i < length xs → get_or xs i a ≡ get_or xs i b
there [] i a b h = absurd (not-suc-le-zero h)
there (x ∷ xs) zero a b h = refl
there (x ∷ xs) (suc i) a b h = there xs i a b (le_of_suc-le-suc h)

-- ---- rows

pub rows_front_long : {A : Type 0} (w d : ℕ) (row : List A) → length row ≡ w → d ≤ w → length (take d row) ≡ d
rows_front_long w d row e h = length-take-le d row (omega (arith, e, h))

module _ {A : Type 0} (w i : ℕ) (xs : List A) (s : i * w + w ≤ length xs) where
  pub row_long : length (row_at w i xs) ≡ w
  row_long = let l = length-drop (i * w) xs in length-take-le w (drop (i * w) xs) (omega (arith, l, s))

  -- an entry of a row
  pub row_entry : (k : ℕ) (a b : A) → k < w → get_or (row_at w i xs) k a ≡ get_or xs (i * w + k) b
  row_entry k a b h = get_or-take w (drop (i * w) xs) k a h ∙ get_or-drop (i * w) xs k a ∙ there xs (i * w + k) a b (omega (arith, h, s))

  module _ (d : ℕ) (h : d ≤ w) where
    pub front_long : length (take d (row_at w i xs)) ≡ d
    front_long = rows_front_long w d (row_at w i xs) row_long h

    -- the front of a row is a part of the list
    pub row_front_lem : drop (i * w) (take (i * w + d) xs) ≡ take d (row_at w i xs)
    row_front_lem = drop_front (i * w) d xs ∙ sym (take-take d w (drop (i * w) xs) h)

    pub front_part : Part xs (i * w) (i * w + d)
    front_part = record { rising = omega arith; within = omega (arith, s, h) }

-- ---- a header

pub header_put : (cs : List ℕ) {room mid after : List ℕ} {at p end : ℕ} → length cs ≡ 4 → Put room at (0x48 ∷ 0x44 ∷ []) p mid → Put mid p (number_bytes 2 (drop 0 (take 4 cs))) end after
    → Put room at (header_saved cs) end after
unfolding header_saved
header_put cs e a b = put_as (ap (λ (xs : List ℕ). 0x48 ∷ 0x44 ∷ number_bytes 2 xs) (take_all 4 cs (omega (arith, e)))) (then a b)

pub header_long : (cs : List ℕ) → length cs ≡ 4 → length (header_saved cs) ≡ 10
unfolding header_saved
header_long cs e = let l = numbers_long 2 cs in omega (arith, l, e)

-- ---- a vertex

pub point_long : (d : ℕ) (row : List Float) → length (take d row) ≡ d → length (point_saved d row) ≡ 2 + 8 * d
unfolding point_saved point_record
point_long d row e = let l = floats_long (take d row) in omega (arith, l, e)

module _ (d i : ℕ) (ps : List Float) (low : d ≤ 4) {room : List ℕ} {at : ℕ} (r : RowReady (point_clear d) (point_saved d) 4 i ps room at) where
  pub point_room_lem : at + (2 + 8 * d) ≤ length room
  point_room_lem =
      let l = point_long d (row_at 4 i ps) (front_long 4 i ps r.stored d low) in
      let z = r.fits in
      omega (arith, l, z)

  pub point_numbers : are_numbers (drop (i * 4) (take (i * 4 + d) ps)) ≡ true
  unfolding point_clear
  point_numbers = ap are_numbers (row_front_lem 4 i ps r.stored d low) ∙ r.clear

  pub point_put : {mid after : List ℕ} {p end : ℕ} → Put room at (0x56 ∷ 0x58 ∷ []) p mid → Put mid p (float_bytes (drop (i * 4) (take (i * 4 + d) ps))) end after
      → Put room at (point_saved d (row_at 4 i ps)) end after
  unfolding point_saved point_record
  point_put a b = put_as (ap (λ (xs : List Float). 0x56 ∷ 0x58 ∷ float_bytes xs) (row_front_lem 4 i ps r.stored d low)) (then a b)

-- ---- a hyperplane

pub plane_long : (d : ℕ) (row : List Float) → length (take d row) ≡ d → length (plane_saved d row) ≡ 10 + 8 * d
unfolding plane_saved plane_record read_plane
plane_long d row e =
    let l = floats_long (take d row) in
    let b = bytes_long 8 (to_bits binary64 (get_or row 4 plus_zero)) in
    let a = length-append (float_bytes (take d row)) (float_byte8 (get_or row 4 plus_zero)) in
    omega (arith, l, b, a, e)

module _ (d i : ℕ) (hs : List Float) (low : d ≤ 4) {room : List ℕ} {at : ℕ} (r : RowReady (plane_clear d) (plane_saved d) 5 i hs room at) where
  front : d ≤ 5
  front = omega (arith, low)

  distance_is : get_or (row_at 5 i hs) 4 plus_zero ≡ get_or hs (i * 5 + 4) nan
  distance_is = row_entry 5 i hs r.stored 4 plus_zero nan (omega arith)

  pub plane_room_lem : at + (10 + 8 * d) ≤ length room
  plane_room_lem =
      let l = plane_long d (row_at 5 i hs) (front_long 5 i hs r.stored d front) in
      let z = r.fits in
      omega (arith, l, z)

  pub plane_part : Part hs (i * 5) (i * 5 + d)
  plane_part = front_part 5 i hs r.stored d front

  pub plane_numbers : are_numbers (drop (i * 5) (take (i * 5 + d) hs)) ≡ true
  unfolding plane_clear
  plane_numbers = ap are_numbers (row_front_lem 5 i hs r.stored d front) ∙ and_left (are_numbers (take d (row_at 5 i hs))) (not (is_nan (get_or (row_at 5 i hs) 4 plus_zero))) r.clear

  pub distance_number : is_nan (get_or hs (i * 5 + 4) nan) ≡ false
  unfolding plane_clear
  distance_number =
      sym (ap is_nan distance_is)
      ∙ not_true (is_nan (get_or (row_at 5 i hs) 4 plus_zero)) (and_right (are_numbers (take d (row_at 5 i hs))) (not (is_nan (get_or (row_at 5 i hs) 4 plus_zero))) r.clear)

  pub plane_put : {mid last after : List ℕ} {p q end : ℕ} → Put room at (0x48 ∷ 0x50 ∷ []) p mid → Put mid p (float_bytes (drop (i * 5) (take (i * 5 + d) hs))) q last
      → Put last q (float_byte8 (get_or hs (i * 5 + 4) nan)) end after → Put room at (plane_saved d (row_at 5 i hs)) end after
  unfolding plane_saved plane_record read_plane
  plane_put a b c =
      put_as (ap₂ (λ (xs : List Float) (x : Float). 0x48 ∷ 0x50 ∷ (float_bytes xs ++ float_byte8 x)) (row_front_lem 5 i hs r.stored d front) (sym distance_is))
      (then a (then b c))

-- ---- an element

module _ (row : List ℕ) (n : ℕ) (e : get_or row 3 0 ≡ n) (h : 4 + n ≤ length row) where
  pub element_long : length (row_saved row) ≡ 8 + 2 * n
  unfolding row_saved
  element_long =
      let ws = take (4 + get_or row 3 0) row in
      let l : length ws ≡ 4 + get_or row 3 0 = length-take-le (4 + get_or row 3 0) row (omega (arith, e, h)) in
      let a = length-append (number_bytes 1 (take 2 ws)) (number_bytes 2 (drop 2 ws)) in
      let b = numbers_long 1 (take 2 ws) in
      let c = numbers_long 2 (drop 2 ws) in
      let f : length (take 2 ws) ≡ 2 = length-take-le 2 ws (omega (arith, l)) in
      let g = length-drop 2 ws in
      omega (arith, a, b, c, f, g, l, e)

module _ (e : ℕ) (es : List ℕ) (s : e * 36 + 36 ≤ length es) (k : count_fits (row_at 36 e es) ≡ true) where
  count_is : get_or (row_at 36 e es) 3 0 ≡ get_or es (e * 36 + 3) 0
  count_is = row_entry 36 e es s 3 0 0 (omega arith)

  pub count_low : get_or es (e * 36 + 3) 0 ≤ 32
  unfolding count_fits
  count_low = let q = count_is in let z = le_test (get_or (row_at 36 e es) 3 0) 32 k in omega (arith, q, z)

  pub element_size : length (row_saved (row_at 36 e es)) ≡ 8 + 2 * get_or es (e * 36 + 3) 0
  element_size =
      let l = row_long 36 e es s in
      let c = count_low in
      element_long (row_at 36 e es) (get_or es (e * 36 + 3) 0) count_is (omega (arith, l, c))

module _ (e : ℕ) (es : List ℕ) {room : List ℕ} {at : ℕ} (r : RowReady count_fits row_saved 36 e es room at) where
  pub element_room_lem : at + (8 + 2 * get_or es (e * 36 + 3) 0) ≤ length room
  element_room_lem = let q = element_size e es r.stored r.clear in let z = r.fits in omega (arith, q, z)

  pub element_put : (n : ℕ) → n ≡ get_or es (e * 36 + 3) 0 → {mid last after : List ℕ} {p q end : ℕ} → Put room at (0x45 ∷ 0x4C ∷ []) p mid
      → Put mid p (number_bytes 1 (drop (e * 36) (take (e * 36 + 2) es))) q last → Put last q (number_bytes 2 (drop (e * 36 + 2) (take (e * 36 + 4 + n) es))) end after
      → Put room at (row_saved (row_at 36 e es)) end after
  unfolding row_saved
  element_put n k a b c =
      put_as
      (ap₂ (λ (x y : List ℕ). 0x45 ∷ 0x4C ∷ (number_bytes 1 x ++ number_bytes 2 y)) first others
      ∙ ap (λ (m : ℕ). row_record (take (4 + m) (row_at 36 e es))) (k ∙ sym (count_is e es r.stored r.clear)))
      (then a (then b c))
    where
      low : 4 + n ≤ 36
      low = let q = count_low e es r.stored r.clear in omega (arith, q, k)

      first : drop (e * 36) (take (e * 36 + 2) es) ≡ take 2 (take (4 + n) (row_at 36 e es))
      first = row_front_lem 36 e es r.stored 2 (omega arith) ∙ sym (take-take 2 (4 + n) (row_at 36 e es) (omega arith))

      others : drop (e * 36 + 2) (take (e * 36 + 4 + n) es) ≡ drop 2 (take (4 + n) (row_at 36 e es))
      others =
          sym (drop-drop 2 (e * 36) (take (e * 36 + 4 + n) es))
          ∙ ap (λ (j : ℕ). drop 2 (drop (e * 36) (take j es))) (let q : e * 36 + 4 + n ≡ e * 36 + (4 + n) = omega arith in q)
          ∙ ap (drop 2) (row_front_lem 36 e es r.stored (4 + n) low)
