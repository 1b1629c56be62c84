-- Rows are read in turn up to the first that is not sound or not new, and each that is read joins the index.
use Rattle.std.specs.Prelude.{if◌then◌else◌}
use Prim.Native.Nat.{ℕ, suc, ◌+◌, ◌-◌, ◌≤◌, ◌<◌}
use mathlib.Core.Bool.{Bool, true, false, cond, ◌&&◌}
use mathlib.Core.List.{List}
use mathlib.Core.Path.{◌≡◌, sym, ap, ◌∙◌}
use native.Mathlib.Nat.{sub-zero}
use native.Mathlib.Numerals.{add-one}
use native.Mathlib.Omega.{arith}
use lib.Dec.{eqb}
use lib.Ieee.{Float}
use lib.ListN.{get_or}
use Rattle.rules.specs.Held.{memory_of}
use Rattle.rules.specs.Limits.{desk}
use Rattle.rules.specs.Memory.{right_size}
use Rattle.space.specs.Chains.{stored_row, key_of, new_start}
use Rattle.soundness.specs.Words.{counts_fit, floats_sound, row_sound, row_new}
use Rattle.soundness.specs.Tests.{read_to, rows_read, memory_read, with_rows}
use Rattle.soundness.proofs.ReadBack.{and_zero}

module _ (es : List ℕ) (d n h : ℕ) where
  -- all that are read, told by those that are left at row i
  abbrev pub read_from : ℕ → ℕ → ℕ
  read_from k i = read_to es d h (n - i) k i

  -- those after row i, by whether it is read
  abbrev next : ℕ → ℕ → Bool → ℕ
  next k i b = if b then read_to es d h (n - (i + 1)) (k + cond (eqb (get_or (stored_row es i) 0 0) 0) 1 0) (suc i) else i

  pub read_start : rows_read es d n h ≡ read_from 0 0
  unfolding rows_read
  read_start = ap (λ (m : ℕ). read_to es d h m 0 0) (sym (sub-zero n))

  module _ (k i : ℕ) (t : rows_read es d n h ≡ read_from k i) where
    pub read_end : n ≤ i → rows_read es d n h ≡ i
    read_end l = t ∙ ap (λ (m : ℕ). read_to es d h m k i) (let z : n - i ≡ 0 = omega arith in z)

    module _ (l : i < n) where
      on : rows_read es d n h ≡ next k i (row_sound desk es d h k i (stored_row es i) && row_new es i)
      on = t ∙ ap (λ (m : ℕ). read_to es d h m k i) (let z : n - i ≡ suc (n - (i + 1)) = omega arith in z)

      pub read_no : row_sound desk es d h k i (stored_row es i) ≡ false → rows_read es d n h ≡ i
      read_no s = on ∙ ap (λ (b : Bool). next k i (b && row_new es i)) s

      pub read_known : row_new es i ≡ false → rows_read es d n h ≡ i
      read_known q = on ∙ ap (next k i) (ap (λ (b : Bool). row_sound desk es d h k i (stored_row es i) && b) q ∙ and_zero (row_sound desk es d h k i (stored_row es i)))

      pub read_go : (o : ℕ) → row_sound desk es d h k i (stored_row es i) ≡ true → row_new es i ≡ true → o ≡ cond (eqb (get_or (stored_row es i) 0 0) 0) 1 0 → rows_read es d n h ≡ read_from (k + o) (i + 1)
      read_go o s q e = on ∙ (λ j. next k i (s j && q j)) ∙ (λ j. read_to es d h (n - (i + 1)) (k + sym e j) (sym (add-one i) j))

-- the row that is read joins the index
pub with_go : (es first index index' : List ℕ) (i : ℕ) → index ≡ with_rows es i first → index' ≡ new_start index (key_of (stored_row es i)) i → index' ≡ with_rows es (i + 1) first
with_go es first index index' i t q = q ∙ ap (λ (l : List ℕ). new_start l (key_of (stored_row es i)) i) t ∙ ap (λ (m : ℕ). with_rows es m first) (sym (add-one i))

-- of a memory, by the tests that come first
pub memory_read_lem : (cs : List ℕ) (ps hs : List Float) (es : List ℕ) (d n v h : ℕ) (s c f : Bool) → d ≡ get_or cs 0 0 → n ≡ get_or cs 1 0 → v ≡ get_or cs 2 0 → h ≡ get_or cs 3 0
    → right_size desk (memory_of cs ps hs es) ≡ s → counts_fit desk d n v h ≡ c → floats_sound desk d v h ps hs ≡ f → (if s && c && f then rows_read es d n h else 0) ≡ memory_read cs ps hs es
unfolding memory_read
memory_read_lem cs ps hs es d n v h s c f ed en ev eh p q r =
    sym ((λ i.
    if right_size desk (memory_of cs ps hs es) && counts_fit desk (sym ed i) (sym en i) (sym ev i) (sym eh i) && floats_sound desk (sym ed i) (sym ev i) (sym eh i) ps hs
    then rows_read es (sym ed i) (sym en i) (sym eh i) else 0)
    ∙ (λ i. if p i && q i && r i then rows_read es d n h else 0))
