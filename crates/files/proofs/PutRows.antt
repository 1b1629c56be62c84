-- A loop that puts a row for each record of a run: the rows so far are at the front of the slice, and the run goes on at the next record.
-- Once all are put and the remainder is filled up, the slice is the rows of the records, laid out in it.
use Prim.Native.Nat.{ℕ, zero, suc, ◌+◌, ◌*◌, ◌-◌, ◌≤◌, ◌<◌}
use mathlib.Core.List.{List, [], ◌∷◌, ◌++◌, map, append-nil}
use mathlib.Core.Path.{◌≡◌, sym, ap, ap₂, subst, ◌∙◌}
use native.Mathlib.Nat.{zero-mul, suc-mul, mul-le-mul_right, le_of_suc-le-suc, not-suc-le-zero}
use native.Mathlib.Numerals.{add-one}
use native.Mathlib.Omega.{arith}
use lib.ListN.{length, get_or, take, drop, replicate, length-append, length-replicate, drop_of_length-le}
use lib.Seq.{sets, length-sets, sets-eq, take-suc, take_all, take_at, length-take-le}
use borrow.Rule.Slice.PartMut.{put_mid, mid_of}
use Rattle.rules.specs.Lists.{joined}
use Rattle.rules.specs.Held.{laid, Wide}
use Rattle.rules.specs.Files.{Reading}
use Rattle.rules.proofs.ByteLaws.{got_value}
use Rattle.space.proofs.Zeros.{filled}
use Rattle.space.proofs.Laid.{map_append, concat_append, rows_size}
use Rattle.files.specs.Runs.{Run}
use Rattle.files.specs.Putting.{RecordsReady, RecordsPut}
use Rattle.files.proofs.Passes.{together_reads}

-- every row has the width
wide_at : {A B : Type 0} (w : ℕ) (g : A → List B) (xs : List A) (i : ℕ) (x₀ : A) → Wide w (map g xs) → i < length xs → length (g (get_or xs i x₀)) ≡ w
wide_at w g [] i x₀ v h = absurd (not-suc-le-zero h)
wide_at w g (x ∷ xs) zero x₀ v h = v.0
wide_at w g (x ∷ xs) (suc i) x₀ v h = wide_at w g xs i x₀ v.1 (le_of_suc-le-suc h)

-- row i is put behind i rows
rows_more : {A B : Type 0} (w : ℕ) (g : A → List B) (xs : List A) (i : ℕ) (x₀ : A) (ys : List B) → take (i * w) ys ≡ joined (map g (take i xs)) → i < length xs
    → length (g (get_or xs i x₀)) ≡ w → i * w + w ≤ length ys → take ((i + 1) * w) (sets ys (i * w) (g (get_or xs i x₀))) ≡ joined (map g (take (i + 1) xs))
rows_more {A} {B} w g xs i x₀ ys f h l p =
    ap (take ((i + 1) * w)) (sets-eq row ys (i * w) (omega (arith, l, p)))
    ∙ take_at (take (i * w) ys ++ row) (drop (i * w + length row) ys) ((i + 1) * w) long
    ∙ ap (λ (q : List B). q ++ row) f
    ∙ sym (ap (λ (k : ℕ). joined (map g (take k xs))) (add-one i)
    ∙ ap (λ (q : List A). joined (map g q)) (take-suc xs i x₀ h)
    ∙ ap joined (map_append g (take i xs) (get_or xs i x₀ ∷ []))
    ∙ concat_append (map g (take i xs)) (row ∷ [])
    ∙ ap (λ (q : List B). joined (map g (take i xs)) ++ q) (append-nil row))
  where
    row : List B
    row = g (get_or xs i x₀)

    long : length (take (i * w) ys ++ row) ≡ (i + 1) * w
    long =
        let a = length-append (take (i * w) ys) row in
        let b = length-take-le (i * w) ys (omega (arith, p)) in
        let m = suc-mul i w in
        let n = ap (λ (k : ℕ). k * w) (add-one i) in
        omega (arith, a, b, m, n, l)

-- the rows of all, and the remainder filled up
rows_filled : {A B : Type 0} (z : B) (w room : ℕ) (g : A → List B) (xs : List A) (ys : List B) → take (length xs * w) ys ≡ joined (map g xs) → Wide w (map g xs)
    → length xs * w ≤ room → length ys ≡ room → sets ys (length xs * w) (replicate (room - length xs * w) z) ≡ laid z room g xs
rows_filled {A} {B} z w room g xs ys f v p l =
    let n = length xs * w in
    let k = length-replicate (room - n) z in
    sets-eq (replicate (room - n) z) ys n (omega (arith, k, p, l))
    ∙ ap (λ (q : List B). (take n ys ++ replicate (room - n) z) ++ q) (drop_of_length-le ys (let q : length ys ≤ n + length (replicate (room - n) z) = omega (arith, k, p, l) in q))
    ∙ append-nil (take n ys ++ replicate (room - n) z)
    ∙ ap₂ (λ (q : List B) (m : ℕ). q ++ replicate (room - m) z) f (sym (rows_size w g xs v))

module _ {A B : Type 0} (f : List ℕ → Reading A) (g : A → List B) (w room : ℕ) (bs : List ℕ) (from n : ℕ) where
  pub record RowsSoFar (at i : ℕ) (xs : List B) : Type 0 where
    pub ready : RecordsReady f g w room bs from n xs
    pub within : i ≤ n
    pub rest : Run f bs at (drop i ready.records.list) ready.end
    pub front : take (i * w) xs ≡ joined (map g (take i ready.records.list))

  pub none_put : {xs : List B} → RecordsReady f g w room bs from n xs → RowsSoFar from 0 xs
  none_put {xs} r = record { ready = r; within = omega arith; rest = r.records.run; front = ap (λ (k : ℕ). take k xs) (zero-mul w) }

  module _ {at i : ℕ} {xs : List B} (s : RowsSoFar at i xs) where
    abbrev list : List A
    list = s.ready.records.list

    pub record_there : i < n → i < length list
    record_there h = let c = s.ready.records.counted in omega (arith, c, h)

    pub row_wide : i < n → (x₀ : A) → length (g (get_or list i x₀)) ≡ w
    row_wide h x₀ = wide_at w g list i x₀ s.ready.wide (record_there h)

    row_place : i < n → i * w + w ≤ length xs
    row_place h =
        let a = mul-le-mul_right w h in
        let b = suc-mul i w in
        let p = s.ready.place in
        let l = s.ready.long in
        omega (arith, a, b, p, l)

    -- one row more, and the run goes on behind its record
    pub row_put : i < n → (x₀ : A) {next : ℕ} {row new : List B} → row ≡ g (get_or list i x₀) → new ≡ sets xs (i * w) row → Run f bs next (drop (i + 1) list) s.ready.end
        → RowsSoFar next (i + 1) new
    row_put h x₀ {next} {row} {new} e q r =
        let p = s.ready in
        let stored : new ≡ sets xs (i * w) (g (get_or list i x₀)) = q ∙ ap (sets xs (i * w)) e in
        record {
          ready =
              record { end = p.end; records = p.records; wide = p.wide; place = p.place; long = ap length stored ∙ length-sets xs (i * w) (g (get_or list i x₀)) ∙ p.long };
          within = omega (arith, h);
          rest = r;
          front = ap (take ((i + 1) * w)) stored ∙ rows_more w g list i x₀ xs s.front (record_there h) (row_wide h x₀) (row_place h);
        }

    -- all rows, and z behind them
    pub all_put : n ≤ i → (z : B) (ys : List B) → ys ≡ replicate (length (mid_of (n * w) (length xs - n * w) xs)) z → RecordsPut f g z room bs from n (put_mid (n * w) (length xs - n * w) xs ys)
    all_put h z ys e = record {
      rows = λ end t. filled z xs (n * w) (length xs) ys within_room (let l : length xs ≤ length xs = omega arith in l) e
          ∙ ap₂ (λ (k m : ℕ). sets xs (k * w) (replicate (m - k * w) z)) (sym p.records.counted) p.long
          ∙ rows_filled z w room g list xs fronted p.wide (subst (λ (k : ℕ). k * w ≤ room) (sym p.records.counted) p.place) p.long
          ∙ ap (laid z room g) (got_value list t.list (drop p.end bs) (drop end bs) (sym (together_reads f bs from n p.end p.records) ∙ together_reads f bs from n end t));
    }
      where
        p : RecordsReady f g w room bs from n xs
        p = s.ready

        within_room : n * w ≤ length xs
        within_room = let r = p.place in let l = p.long in omega (arith, r, l)

        here : i ≡ length list
        here = let a = s.within in let c = p.records.counted in omega (arith, a, c, h)

        fronted : take (length list * w) xs ≡ joined (map g list)
        fronted =
            ap (λ (k : ℕ). take (k * w) xs) (sym here)
            ∙ s.front
            ∙ ap (λ (l : List A). joined (map g l)) (take_all i list (omega (arith, here)))
