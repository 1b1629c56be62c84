-- What the reading of a record says of its bytes: the floats or the numbers that stand behind its mark, and that it ends behind them.
-- A record that is read had begun; and its bytes are there, or it would have broken.
use Rattle.std.specs.Prelude.{if◌then◌else◌}
use Prim.Native.Nat.{ℕ, zero, suc, ◌+◌, ◌*◌, ◌≤◌, ◌<◌}
use mathlib.Core.Bool.{Bool, true, false}
use mathlib.Core.List.{List, [], ◌∷◌, ◌++◌}
use mathlib.Core.Path.{◌≡◌, refl, sym, ap, ap₂, ◌∙◌}
use native.Mathlib.Numerals.{add-one}
use native.Mathlib.Omega.{arith}
use lib.Dec.{leb, ltb}
use lib.ListN.{length, set, drop, replicate}
use lib.Ieee.{Float, binary64, of_bits}
use Rattle.rules.specs.Lists.{pad}
use Rattle.rules.specs.Floats.{plus_zero}
use Rattle.rules.specs.Bytes.{number_at, float_at, floats_at}
use Rattle.rules.specs.Table.{Element, Plane}
use Rattle.rules.specs.Memory.{element_row, read_element}
use Rattle.rules.specs.Files.{Reading, got, after_mark, many, number, float, point_in, plane_after, plane_in, element_fits, element_in}
use Rattle.rules.proofs.ByteLaws.{got_value, got_rest, never, and_then_lem, chosen}
use Rattle.rules.proofs.FileRecords.{row_only}
use Rattle.rules.proofs.Laws.{le_test, not_le}
use Rattle.hypermath.proofs.Filling.{fill_next}
use Rattle.files.specs.Runs.{Read}
use Rattle.files.specs.Passed.{begins}
use Rattle.files.specs.Entries.{numbers_at, count_at, row_front, row_at}
use Rattle.files.proofs.Runs.{same_end}
use Rattle.files.proofs.Sizes.{Wants, floats_take, plane_takes, then_number, not_begun, begun_within, begun}
use Rattle.files.proofs.Passes.{one_broken, element_wants, Head, head_read, element_cut_off}

-- ---- floats and numbers one after another

module _ (bs : List ℕ) where
  float_read : (at : ℕ) → 8 + at ≤ length bs → float (drop at bs) ≡ got (float_at at bs) (drop (8 + at) bs)
  unfolding float
  float_read at h = then_number bs 8 at (8 + at) (λ n cs. got (of_bits binary64 n) cs) (omega arith) h

  floats_read : (n at end : ℕ) → at + 8 * n ≡ end → end ≤ length bs → many n float (drop at bs) ≡ got (floats_at n at bs) (drop end bs)
  floats_read zero at end e h = ap (λ (i : ℕ). got [] (drop i bs)) (let z : at ≡ end = omega (arith, e) in z)
  floats_read (suc n) at end e h =
      and_then_lem (float (drop at bs)) _ (float_at at bs) (drop (8 + at) bs) (float_read at (omega (arith, e, h)))
      ∙ and_then_lem (many n float (drop (8 + at) bs)) _ (floats_at n (8 + at) bs) (drop end bs) (floats_read n (8 + at) end (omega (arith, e)) h)

  numbers_read : (n at end : ℕ) → at + 2 * n ≡ end → end ≤ length bs → many n (number 2) (drop at bs) ≡ got (numbers_at n at bs) (drop end bs)
  numbers_read zero at end e h = ap (λ (i : ℕ). got [] (drop i bs)) (let z : at ≡ end = omega (arith, e) in z)
  numbers_read (suc n) at end e h =
      then_number bs 2 at (2 + at) _ (omega arith) (omega (arith, e, h))
      ∙ and_then_lem (many n (number 2) (drop (2 + at) bs)) _ (numbers_at n (2 + at) bs) (drop end bs) (numbers_read n (2 + at) end (omega (arith, e)) h)

  pub floats_long : (n at : ℕ) → length (floats_at n at bs) ≡ n
  floats_long zero at = refl
  floats_long (suc n) at = ap suc (floats_long n (8 + at))

  pub numbers_long : (n at : ℕ) → length (numbers_at n at bs) ≡ n
  numbers_long zero at = refl
  numbers_long (suc n) at = ap suc (numbers_long n (2 + at))

  -- one number more
  numbers_more : (n at : ℕ) → numbers_at (suc n) at bs ≡ numbers_at n at bs ++ number_at 2 (at + 2 * n) bs ∷ []
  numbers_more zero at = ap (λ (i : ℕ). number_at 2 i bs ∷ []) (let z : at ≡ at + 2 * 0 = omega arith in z)
  numbers_more (suc n) at =
      ap (λ (l : List ℕ). number_at 2 at bs ∷ l) (numbers_more n (2 + at))
      ∙ ap (λ (i : ℕ). number_at 2 at bs ∷ (numbers_at n (2 + at) bs ++ number_at 2 i bs ∷ [])) (let z : 2 + at + 2 * n ≡ at + 2 * suc n = omega arith in z)

-- ---- a record that was read

-- its mark stands there, and the bytes that it wants
read_begun : {A : Type 0} (a b k : ℕ) (f : List ℕ → Reading A) (bs : List ℕ) (at : ℕ) (x : A) (end : ℕ) → Wants k f → Read (after_mark a b f) bs at x end → begins a b k (drop at bs) ≡ true
read_begun a b k f bs at x end w r = go (begins a b k (drop at bs)) refl
  where
    go : (c : Bool) → begins a b k (drop at bs) ≡ c → begins a b k (drop at bs) ≡ true
    go true e = e
    go false e = never x (drop end bs) (sym (not_begun a b k f (drop at bs) w e) ∙ r.says)

-- what it says, and where it ends, by the bytes behind its mark
record Told {A : Type 0} (bs : List ℕ) (x y : A) (end last : ℕ) : Type 0 where
  pub value : x ≡ y
  pub ends : end ≡ last

told : {A : Type 0} (bs : List ℕ) (x y : A) (end last : ℕ) → end ≤ length bs → last ≤ length bs → got y (drop last bs) ≡ got x (drop end bs) → Told bs x y end last
told bs x y end last h l e = record {
  value = sym (got_value y x (drop last bs) (drop end bs) e);
  ends = same_end bs end last h l (sym (got_rest y x (drop last bs) (drop end bs) e));
}

-- ---- a vertex

pub record PointRead (bs : List ℕ) (at d : ℕ) (p : List Float) (end : ℕ) : Type 0 where
  pub within : at + 2 + 8 * d ≤ length bs
  pub ends : end ≡ at + 2 + 8 * d
  pub list : p ≡ floats_at d (at + 2) bs
  pub long : length p ≡ d

pub point_read : (bs : List ℕ) (at d : ℕ) (p : List Float) (end : ℕ) → Read (point_in d) bs at p end → PointRead bs at d p end
unfolding point_in
point_read bs at d p end r =
    let s : begins 0x56 0x58 (8 * d) (drop at bs) ≡ true = read_begun 0x56 0x58 (8 * d) (many d float) bs at p end (floats_take d).wants r in
    let w = begun_within 0x56 0x58 (8 * d) bs at s in
    let t = told bs p (floats_at d (at + 2) bs) end (at + 2 + 8 * d) r.within w
    (sym (begun 0x56 0x58 (8 * d) (many d float) bs at s ∙ floats_read bs d (at + 2) (at + 2 + 8 * d) refl w) ∙ r.says) in
    record { within = w; ends = t.ends; list = t.value; long = ap length t.value ∙ floats_long bs d (at + 2) }

-- ---- a hyperplane

pub record PlaneRead (bs : List ℕ) (at d : ℕ) (h : Plane) (end : ℕ) : Type 0 where
  pub within : at + 2 + (8 * d + 8) ≤ length bs
  pub ends : end ≡ at + 2 + (8 * d + 8)
  pub normal : h.normal ≡ floats_at d (at + 2) bs
  pub distance : h.distance ≡ float_at (at + 2 + 8 * d) bs
  pub long : length h.normal ≡ d

pub plane_read : (bs : List ℕ) (at d : ℕ) (h : Plane) (end : ℕ) → Read (plane_in d) bs at h end → PlaneRead bs at d h end
unfolding plane_in
plane_read bs at d h end r =
    let s : begins 0x48 0x50 (8 * d + 8) (drop at bs) ≡ true = read_begun 0x48 0x50 (8 * d + 8) (plane_after d) bs at h end (plane_takes d).wants r in
    let w = begun_within 0x48 0x50 (8 * d + 8) bs at s in
    let far = at + 2 + 8 * d in
    let last = at + 2 + (8 * d + 8) in
    let e : 8 + far ≡ last = omega arith in
    let t = told bs h (record { normal = floats_at d (at + 2) bs; distance = float_at far bs }) end last r.within w
    (sym (begun 0x48 0x50 (8 * d + 8) (plane_after d) bs at s
    ∙ and_then_lem (many d float (drop (at + 2) bs)) _ (floats_at d (at + 2) bs) (drop far bs) (floats_read bs d (at + 2) far refl (omega (arith, w)))
    ∙ and_then_lem (float (drop far bs)) _ (float_at far bs) (drop last bs) (float_read bs far (omega (arith, w)) ∙ ap (λ (i : ℕ). got (float_at far bs) (drop i bs)) e))
    ∙ r.says) in
    let n = ap (λ (g : Plane). g.normal) t.value in
    record { within = w; ends = t.ends; normal = n; distance = ap (λ (g : Plane). g.distance) t.value; long = ap length n ∙ floats_long bs d (at + 2) }

-- ---- an element

pub record ElementRead (bs : List ℕ) (at : ℕ) (x : Element) (end : ℕ) : Type 0 where
  pub within : at + 8 + 2 * count_at at bs ≤ length bs
  pub ends : end ≡ at + 8 + 2 * count_at at bs
  pub value : x ≡ read_element (row_at at bs)
  pub row : element_row x ≡ row_at at bs

module _ (bs : List ℕ) (at : ℕ) (x : Element) (end : ℕ) (r : Read element_in bs at x end) where
  abbrev rank : ℕ
  rank = number_at 1 (at + 2) bs

  abbrev mark : ℕ
  mark = number_at 1 (at + 3) bs

  abbrev plane : ℕ
  plane = number_at 2 (at + 4) bs

  abbrev count : ℕ
  count = count_at at bs

  headed : Head bs at rank mark plane count
  unfolding element_in
  headed = record { begun = read_begun 0x45 0x4C 6 _ bs at x end element_wants r; rank = refl; mark = refl; plane = refl; count = refl }

  inside : at + 8 + 2 * count ≤ length bs
  inside = go (leb (at + 8 + 2 * count) (length bs)) refl
    where
      go : (b : Bool) → leb (at + 8 + 2 * count) (length bs) ≡ b → at + 8 + 2 * count ≤ length bs
      go true e = le_test (at + 8 + 2 * count) (length bs) e
      go false e =
          never x (drop end bs)
          (sym (one_broken element_in bs at (element_cut_off bs at rank mark plane count headed (not_le (at + 8 + 2 * count) (length bs) e))) ∙ r.says)

  pub element_read : ElementRead bs at x end
  element_read =
      let b = numbers_at count (at + 8) bs in
      let c = chosen (element_fits rank mark plane count) (got (read_element (row_at at bs)) (drop (at + 8 + 2 * count) bs)) x (drop end bs)
      (sym (head_read bs at rank mark plane count headed
      ∙ and_then_lem (many count (number 2) (drop (at + 8) bs)) _ b (drop (at + 8 + 2 * count) bs) (numbers_read bs count (at + 8) (at + 8 + 2 * count) refl inside))
      ∙ r.says) in
      let t = told bs x (read_element (row_at at bs)) end (at + 8 + 2 * count) r.within inside c.1 in
      record { within = inside; ends = t.ends; value = t.value; row = ap element_row t.value ∙ row_only rank mark plane count b c.0 (numbers_long bs count (at + 8)) }

-- ---- for the code: a point axis by axis, a row number by number

pub zero_is : of_bits binary64 0 ≡ plus_zero
unfolding of_bits
zero_is = refl

abbrev component_at : ℕ → ℕ → ℕ → List ℕ → Float
component_at axis d from bs = if ltb axis d then float_at (from + 8 * axis) bs else plus_zero

pub point_is : (bs : List ℕ) (d from : ℕ) {a b c e : Float} → a ≡ component_at 0 d from bs → b ≡ component_at 1 d from bs → c ≡ component_at 2 d from bs → e ≡ component_at 3 d from bs → d ≤ 4
    → a ∷ b ∷ c ∷ e ∷ [] ≡ pad plus_zero 4 (floats_at d from bs)
point_is bs d from {a} {b} {c} {e} p q r s h = (λ i. p i ∷ q i ∷ r i ∷ s i ∷ []) ∙ by_axes d h
  where
    first : float_at (from + 8 * 0) bs ≡ float_at from bs
    first = ap (λ (n : ℕ). float_at n bs) (let z : from + 8 * 0 ≡ from = omega arith in z)

    second : float_at (from + 8 * 1) bs ≡ float_at (8 + from) bs
    second = ap (λ (n : ℕ). float_at n bs) (let z : from + 8 * 1 ≡ 8 + from = omega arith in z)

    third : float_at (from + 8 * 2) bs ≡ float_at (8 + (8 + from)) bs
    third = ap (λ (n : ℕ). float_at n bs) (let z : from + 8 * 2 ≡ 8 + (8 + from) = omega arith in z)

    fourth : float_at (from + 8 * 3) bs ≡ float_at (8 + (8 + (8 + from))) bs
    fourth = ap (λ (n : ℕ). float_at n bs) (let z : from + 8 * 3 ≡ 8 + (8 + (8 + from)) = omega arith in z)

    by_axes : (d : ℕ) → d ≤ 4 → component_at 0 d from bs ∷ component_at 1 d from bs ∷ component_at 2 d from bs ∷ component_at 3 d from bs ∷ [] ≡ pad plus_zero 4 (floats_at d from bs)
    by_axes zero h = refl
    by_axes (suc zero) h = λ i. first i ∷ plus_zero ∷ plus_zero ∷ plus_zero ∷ []
    by_axes (suc (suc zero)) h = λ i. first i ∷ second i ∷ plus_zero ∷ plus_zero ∷ []
    by_axes (suc (suc (suc zero))) h = λ i. first i ∷ second i ∷ third i ∷ plus_zero ∷ []
    by_axes (suc (suc (suc (suc zero)))) h = λ i. first i ∷ second i ∷ third i ∷ fourth i ∷ []
    by_axes (suc (suc (suc (suc (suc d))))) h = absurd (omega (arith, h))

pub row_head : (bs : List ℕ) (at : ℕ) {r m h n : ℕ} → r ≡ number_at 1 (at + 2) bs → m ≡ number_at 1 (at + 3) bs → h ≡ number_at 2 (at + 4) bs → n ≡ count_at at bs
    → set (set (set (set (replicate 36 0) 0 r) 1 m) 2 h) 3 n ≡ pad 0 36 (row_front 0 at bs)
row_head bs at p q r s = λ i. set (set (set (set (replicate 36 0) 0 (p i)) 1 (q i)) 2 (r i)) 3 (s i)

pub row_next : (bs : List ℕ) (at j : ℕ) {row : List ℕ} {x : ℕ} → row ≡ pad 0 36 (row_front j at bs) → x ≡ number_at 2 (at + 8 + 2 * j) bs → j < 32 → set row (4 + j) x ≡ pad 0 36 (row_front (j + 1) at bs)
row_next bs at j {row} {x} p q h =
    let l = numbers_long bs j (at + 8) in
    let here : 4 + j ≡ length (row_front j at bs) = omega (arith, l) in
    ap₂ (λ (r : List ℕ) (i : ℕ). set r i x) p here
    ∙ fill_next 0 36 (row_front j at bs) x (omega (arith, here, h))
    ∙ ap (λ (y : ℕ). pad 0 36 (row_front j at bs ++ y ∷ [])) q
    ∙ ap (λ (b : List ℕ). pad 0 36 (number_at 1 (at + 2) bs ∷ number_at 1 (at + 3) bs ∷ number_at 2 (at + 4) bs ∷ count_at at bs ∷ b)) (sym (numbers_more bs j (at + 8)))
    ∙ ap (λ (i : ℕ). pad 0 36 (row_front i at bs)) (sym (add-one j))
