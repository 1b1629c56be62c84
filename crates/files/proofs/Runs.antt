-- Records that stand one after another: how they are read, where a run goes on, and what stands at its i-th place.
use Prim.Native.Nat.{ℕ, zero, suc, ◌≤◌, ◌<◌}
use mathlib.Core.List.{List, [], ◌∷◌}
use mathlib.Core.Path.{◌≡◌, refl, sym, ap, ◌∙◌}
use native.Mathlib.Nat.{le_of_suc-le-suc, not-suc-le-zero}
use native.Mathlib.Omega.{arith}
use lib.ListN.{length, get_or, take, drop, length-drop}
use Rattle.rules.specs.Files.{Reading, broken, got, and_then, many}
use Rattle.rules.proofs.ByteLaws.{got_value, got_rest, and_then_lem}
use Rattle.files.specs.Runs.{Read, Run}

-- two ends within the bytes that leave the same bytes are one
pub same_end : (bs : List ℕ) (i j : ℕ) → i ≤ length bs → j ≤ length bs → drop i bs ≡ drop j bs → i ≡ j
same_end bs i j h k e =
    let a = length-drop i bs in
    let b = length-drop j bs in
    let c = ap length e in
    omega (arith, a, b, c)

pub broken_then : {A B : Type 0} (r : Reading A) (g : A → List ℕ → Reading B) → r ≡ broken → and_then r g ≡ broken
broken_then r g e = ap (λ q. and_then q g) e

module _ {A : Type 0} (f : List ℕ → Reading A) (bs : List ℕ) where
  -- ---- one record: what it says, and where it ends

  pub read_value : (at : ℕ) (x y : A) (i j : ℕ) → Read f bs at x i → Read f bs at y j → x ≡ y
  read_value at x y i j r s = got_value x y (drop i bs) (drop j bs) (sym r.says ∙ s.says)

  pub read_end : (at : ℕ) (x y : A) (i j : ℕ) → Read f bs at x i → Read f bs at y j → i ≡ j
  read_end at x y i j r s = same_end bs i j r.within s.within (got_rest x y (drop i bs) (drop j bs) (sym r.says ∙ s.says))

  -- ---- a run

  pub run_within : (at : ℕ) (xs : List A) (end : ℕ) → Run f bs at xs end → end ≤ length bs
  run_within at [] end r = r.1
  run_within at (x ∷ xs) end r = run_within r.0 xs end r.2

  pub run_many : (at : ℕ) (xs : List A) (end : ℕ) → Run f bs at xs end → many (length xs) f (drop at bs) ≡ got xs (drop end bs)
  run_many at [] end r = ap (λ (i : ℕ). got [] (drop i bs)) r.0
  run_many at (x ∷ xs) end r =
      and_then_lem (f (drop at bs)) _ x (drop r.0 bs) r.1.says
      ∙ and_then_lem (many (length xs) f (drop r.0 bs)) _ xs (drop end bs) (run_many r.0 xs end r.2)

  -- it has one end
  pub run_end : (at : ℕ) (xs : List A) (i j : ℕ) → Run f bs at xs i → Run f bs at xs j → i ≡ j
  run_end at xs i j r s =
      same_end bs i j (run_within at xs i r) (run_within at xs j s)
      (got_rest xs xs (drop i bs) (drop j bs) (sym (run_many at xs i r) ∙ run_many at xs j s))

  -- ---- what stands in a run

  -- the i-th record, what stands before it and what stands behind it; x₀ stands for one that is not there
  pub record Amid (at : ℕ) (xs : List A) (end i : ℕ) (x₀ : A) : Type 0 where
    pub start : ℕ
    pub next : ℕ
    pub front : Run f bs at (take i xs) start
    pub one : Read f bs start (get_or xs i x₀) next
    pub rest : Run f bs next (drop (suc i) xs) end

  pub run_at : (at : ℕ) (xs : List A) (end i : ℕ) (x₀ : A) → at ≤ length bs → Run f bs at xs end → i < length xs → Amid at xs end i x₀
  run_at at [] end i x₀ l r h = absurd (not-suc-le-zero h)
  run_at at (x ∷ xs) end zero x₀ l r h = record { start = at; next = r.0; front = (refl, l); one = r.1; rest = r.2 }
  run_at at (x ∷ xs) end (suc i) x₀ l r h =
      let a = run_at r.0 xs end i x₀ r.1.within r.2 (le_of_suc-le-suc h) in
      record { start = a.start; next = a.next; front = (r.0, r.1, a.front); one = a.one; rest = a.rest }

  -- what is left of a run from its i-th record on: that record, and what stands behind it
  pub record Next (at : ℕ) (xs : List A) (end i : ℕ) (x₀ : A) : Type 0 where
    pub next : ℕ
    pub one : Read f bs at (get_or xs i x₀) next
    pub rest : Run f bs next (drop (suc i) xs) end

  pub run_next : (at : ℕ) (xs : List A) (end i : ℕ) (x₀ : A) → Run f bs at (drop i xs) end → i < length xs → Next at xs end i x₀
  run_next at [] end i x₀ r h = absurd (not-suc-le-zero h)
  run_next at (x ∷ xs) end zero x₀ r h = record { next = r.0; one = r.1; rest = r.2 }
  run_next at (x ∷ xs) end (suc i) x₀ r h =
      let n = run_next at xs end i x₀ r (le_of_suc-le-suc h) in
      record { next = n.next; one = n.one; rest = n.rest }
