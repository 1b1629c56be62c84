-- A loop over rows that puts a record for each: the records that are left, put behind those that stand there, make all of them.
use Prim.Native.Nat.{ℕ, ◌+◌, ◌*◌, ◌-◌, ◌≤◌, ◌<◌}
use mathlib.Core.Bool.{Bool, true}
use mathlib.Core.List.{List, [], ◌++◌, map}
use mathlib.Core.Path.{◌≡◌, refl, sym, ap, ap₂, ◌∙◌}
use native.Mathlib.Nat.{zero-mul, suc-mul, mul-le-mul_right}
use native.Mathlib.Omega.{arith}
use lib.ListN.{length, drop, length-append}
use Rattle.rules.specs.Lists.{all, joined, rows}
use Rattle.rules.proofs.Each.{all_drop}
use Rattle.rules.proofs.Indexed.{rows_from_lem, rows_on}
use Rattle.rules.proofs.Laws.{and_left}
use Rattle.lent_bytes.specs.Lent.{Put}
use Rattle.lent_bytes.proofs.Puts.{put_length}
use Rattle.lent_bytes.proofs.Rests.{Rest, all_left, less_left, none_left, left_as}
use Rattle.files.specs.Saved.{row_at, saved, RowReady, RowsReady}

module _ {A : Type 0} (f : List A → List ℕ) (w n : ℕ) (xs : List A) where
  -- the records from row i on
  unfoldable pub saved_from : ℕ → List ℕ
  saved_from i = joined (map f (rows (n - i) w (drop (i * w) xs)))

  pub saved_first : saved f w n xs ≡ saved_from 0
  unfolding saved saved_from
  saved_first = ap₂ (λ (m k : ℕ). joined (map f (rows m w (drop k xs)))) (let q : n ≡ n - 0 = omega arith in q) (sym (zero-mul w))

  pub saved_on : (i : ℕ) → i < n → saved_from i ≡ f (row_at w i xs) ++ saved_from (i + 1)
  unfolding saved_from
  saved_on i h = ap (λ (rs : List (List A)). joined (map f rs)) (rows_on w i n xs h)

  pub saved_none : (i : ℕ) → n ≤ i → saved_from i ≡ []
  unfolding saved_from
  saved_none i h = ap (λ (m : ℕ). joined (map f (rows m w (drop (i * w) xs)))) (let q : n - i ≡ 0 = omega (arith, h) in q)

  -- ---- rows that are there

  pub row_stored : (i : ℕ) → n * w ≤ length xs → i < n → i * w + w ≤ length xs
  row_stored i s h =
      let a = mul-le-mul_right w h in
      let b = suc-mul i w in
      omega (arith, a, b, s)

  pub row_clear : (p : List A → Bool) (i : ℕ) → all p (rows n w xs) ≡ true → i < n → p (row_at w i xs) ≡ true
  row_clear p i c h =
      and_left (p (row_at w i xs)) (all p (rows (n - (i + 1)) w (drop ((i + 1) * w) xs)))
      (sym (ap (all p) (rows_from_lem w i n xs ∙ rows_on w i n xs h)) ∙ all_drop p i (rows n w xs) c)

  -- ---- the loop

  pub record SavedSoFar (before : List ℕ) (at : ℕ) (room : List ℕ) (end i : ℕ) : Type 0 where
    pub within : i ≤ n
    pub long : length room ≡ length before
    pub rest : Rest before at (saved f w n xs) room end (saved_from i)

  pub none_saved : (room : List ℕ) (at : ℕ) → SavedSoFar room at room at 0
  none_saved room at = record { within = omega arith; long = refl; rest = left_as saved_first (all_left room at (saved f w n xs)) }

  module _ {before room : List ℕ} {at end i : ℕ} (s : SavedSoFar before at room end i) where
    pub row_ready : (p : List A → Bool) → RowsReady p f w n xs before at → i < n → RowReady p f w i xs room end
    row_ready p r h = record {
      stored = row_stored i r.stored h;
      clear = row_clear p i r.clear h;
      fits =
          let e = ap length (saved_on i h) in
          let a = length-append (f (row_at w i xs)) (saved_from (i + 1)) in
          let q = s.rest.place in
          let l = s.long in
          let z = r.fits in
          omega (arith, e, a, q, l, z);
    }

    pub one_saved : {next : List ℕ} {on : ℕ} → i < n → Put room end (f (row_at w i xs)) on next → SavedSoFar before at next on (i + 1)
    one_saved h p = record { within = omega (arith, h); long = put_length p ∙ s.long; rest = less_left (left_as (saved_on i h) s.rest) p }

    pub all_saved : n ≤ i → Put before at (saved f w n xs) end room
    all_saved h = none_left (left_as (saved_none i h) s.rest)
