-- The words of what a cut knows: the fields kept of an element are read back as digits of its word, and the words of the others stay.
use Prim.Native.Nat.{ℕ, zero, suc, ◌+◌, ◌-◌, ◌*◌, ◌/◌, ◌%◌, ◌<◌}
use mathlib.Core.Path.{◌≡◌, refl, sym, ap, ◌∙◌, subst}
use mathlib.Core.Bool.{true, false}
use mathlib.Core.List.{List}
use native.Mathlib.Omega.{arith}
use borrow.Author.Tests.{lt-ltb}
use lib.Arith.{digits_div, digits_mod}
use lib.Dec.{ltb, lit≤}
use lib.ListN.{length, get_or, length-set, replicate, get_or-replicate}
use lib.Seq.{get_or-set_same, get_or-set_other}
use Rattle.rules.specs.declared.ElementCutOutput.{ElementCutOutput}
use Rattle.rules.specs.declared.ElementCutOutput.TheVariants.{Flush, NonFlush}
use Rattle.rules.specs.declared.ElementId.{ElementId}
use Rattle.gathered.specs.Sets.{InRoom, SidesInRoom, OutputInRoom}
use Rattle.gathered.proofs.Gathering.{some_room}
use Rattle.space.specs.Numbers.{NumberBelow}
use Rattle.cut.specs.Known.{field_size, field_of, some_of, output_of, packed, output_in, known_at, output_at, fields_at, with_answer, with_reply, ReplyInRoom, asked_by}
use Rattle.std.specs.Prelude.{Option, Some, None, Ok, Err}
use Rattle.rules.specs.Refusals.{Reply}
use Rattle.rules.specs.declared.Refusal.{Refusal}

-- ---- a field and its element

pub field_none : (x : Option ElementId) → x ≡ None → NumberBelow 1 (field_of x) field_size
field_none x q = record { value = ap field_of (sym q); bound = lit≤ tt }

pub field_some : (x : Option ElementId) (e : ElementId) → x ≡ Some e → InRoom x → NumberBelow (e.0 + 2) (field_of x) field_size
field_some x e q h = record {
  value = (let z : e.0 + 2 ≡ suc (suc e.0) = omega arith in z) ∙ ap field_of (sym q);
  bound = (let l = some_room e q h in let z : e.0 + 2 < field_size = omega (arith, l) in z);
}

pub some_none : (w : ℕ) → w < 2 → None ≡ some_of w
some_none zero h = refl
some_none (suc zero) h = refl
some_none (suc (suc e)) h = absurd (omega arith)

pub some_is : (w n : ℕ) → 1 < w → n ≡ w - 2 → Some (record { 0 = n }) ≡ some_of w
some_is zero n h q = absurd (omega arith)
some_is (suc zero) n h q = absurd (omega arith)
some_is (suc (suc e)) n h q = let z : n ≡ e = omega (arith, q) in ap (λ (i : ℕ). Some (record { 0 = i })) z

some_field : (x : Option ElementId) → some_of (field_of x) ≡ x
some_field None = refl
some_field (Some e) = refl

field_above : (x : Option ElementId) → 0 < field_of x
field_above None = omega arith
field_above (Some e) = omega arith

field_below : (x : Option ElementId) → InRoom x → field_of x < field_size
field_below None h = lit≤ tt
field_below (Some e) h = omega (arith, h)

-- ---- what three fields say

flush_of : (a b c : ℕ) → b ≡ 0 → Flush ≡ output_of a b c
flush_of a zero c q = refl
flush_of a (suc b) c q = absurd (omega arith)

sides_of_lem : (a b c : ℕ) → 0 < b → NonFlush (some_of a) (some_of b) (some_of c) ≡ output_of a b c
sides_of_lem a zero c q = absurd (omega arith)
sides_of_lem a (suc b) c q = refl

field_output : (i o x : Option ElementId) → output_of (field_of i) (field_of o) (field_of x) ≡ NonFlush i o x
field_output i o x = sym (sides_of_lem (field_of i) (field_of o) (field_of x) (field_above o)) ∙ (λ l. NonFlush (some_field i l) (some_field o l) (some_field x l))

pub output_flush : (ms : List ℕ) (e : ℕ) → get_or ms e 0 / field_size % field_size ≡ 0 → Flush ≡ output_at ms e
unfolding output_at
output_flush ms e q = let w = get_or ms e 0 in flush_of (w % field_size) (w / field_size % field_size) (w / field_size / field_size) q

pub output_sides : (ms : List ℕ) (e : ℕ) (i o x : Option ElementId) → 0 < get_or ms e 0 / field_size % field_size → i ≡ some_of (get_or ms e 0 % field_size)
    → o ≡ some_of (get_or ms e 0 / field_size % field_size) → x ≡ some_of (get_or ms e 0 / field_size / field_size) → NonFlush i o x ≡ output_at ms e
unfolding output_at
output_sides ms e i o x q hi ho hx =
    let w = get_or ms e 0 in
    (λ l. NonFlush (hi l) (ho l) (hx l)) ∙ sides_of_lem (w % field_size) (w / field_size % field_size) (w / field_size / field_size) q

-- ---- nothing is kept yet

pub zeros_unknown : (e : ℕ) → e < 512 → known_at (replicate 512 0) e ≡ false
unfolding known_at
zeros_unknown e h = ap (ltb 0) (get_or-replicate {A = ℕ} 512 e 0 0 h)

-- ---- three fields are written

module _ (a b c : ℕ) (ha : a < field_size) (hb : b < field_size) where
  above : packed a b c / field_size ≡ c * field_size + b
  above = digits_div (c * field_size + b) ha

  -- what was packed is read back
  packed_output : output_in (packed a b c) ≡ output_of a b c
  packed_output = λ l. output_of (digits_mod (c * field_size + b) ha l) (second l) (third l)
    where
      second : packed a b c / field_size % field_size ≡ b
      second = ap (λ (w : ℕ). w % field_size) above ∙ digits_mod c hb

      third : packed a b c / field_size / field_size ≡ c
      third = ap (λ (w : ℕ). w / field_size) above ∙ digits_div c hb

module _ (ms : List ℕ) (e a b c : ℕ) where
  fields_long : length (fields_at ms e a b c) ≡ length ms
  unfolding fields_at
  fields_long = length-set ms e (packed a b c)

  fields_there : e < length ms → get_or (fields_at ms e a b c) e 0 ≡ packed a b c
  unfolding fields_at
  fields_there = get_or-set_same ms e (packed a b c) 0

  fields_beside : (j : ℕ) → (j ≡ e → ⊥) → get_or (fields_at ms e a b c) j 0 ≡ get_or ms j 0
  unfolding fields_at
  fields_beside j n = get_or-set_other ms e j (packed a b c) 0 n

  fields_other_known : (j : ℕ) → (j ≡ e → ⊥) → known_at (fields_at ms e a b c) j ≡ known_at ms j
  unfolding known_at
  fields_other_known j n = ap (ltb 0) (fields_beside j n)

  fields_other : (j : ℕ) → (j ≡ e → ⊥) → output_at (fields_at ms e a b c) j ≡ output_at ms j
  unfolding output_at
  fields_other j n = ap output_in (fields_beside j n)

  fields_same : a < field_size → b < field_size → e < length ms → output_at (fields_at ms e a b c) e ≡ output_of a b c
  unfolding output_at
  fields_same ha hb h = ap output_in (fields_there h) ∙ packed_output a b c ha hb

  fields_known : 0 < a → e < length ms → known_at (fields_at ms e a b c) e ≡ true
  unfolding known_at
  fields_known h l = ap (ltb 0) (fields_there l) ∙ lt-ltb 0 (packed a b c) (let z : 0 < packed a b c = omega (arith, h) in z)

-- ---- an answer is kept

module _ (ms : List ℕ) (e : ℕ) where
  pub kept_long : (a : ElementCutOutput) → length (with_answer ms e a) ≡ length ms
  kept_long Flush = fields_long ms e 1 0 0
  kept_long (NonFlush i o x) = fields_long ms e (field_of i) (field_of o) (field_of x)

  pub kept_same : (a : ElementCutOutput) → OutputInRoom a → e < length ms → output_at (with_answer ms e a) e ≡ a
  kept_same Flush r h = fields_same ms e 1 0 0 (lit≤ tt) (lit≤ tt) h
  kept_same (NonFlush i o x) r h =
      fields_same ms e (field_of i) (field_of o) (field_of x) (field_below i r.inside) (field_below o r.outside) h ∙ field_output i o x

  pub kept_other_known : (a : ElementCutOutput) (j : ℕ) → (j ≡ e → ⊥) → known_at (with_answer ms e a) j ≡ known_at ms j
  kept_other_known Flush j n = fields_other_known ms e 1 0 0 j n
  kept_other_known (NonFlush i o x) j n = fields_other_known ms e (field_of i) (field_of o) (field_of x) j n

  pub kept_other : (a : ElementCutOutput) (j : ℕ) → (j ≡ e → ⊥) → output_at (with_answer ms e a) j ≡ output_at ms j
  kept_other Flush j n = fields_other ms e 1 0 0 j n
  kept_other (NonFlush i o x) j n = fields_other ms e (field_of i) (field_of o) (field_of x) j n

  pub kept_known : (a : ElementCutOutput) → e < length ms → known_at (with_answer ms e a) e ≡ true
  kept_known Flush h = fields_known ms e 1 0 0 (lit≤ tt) h
  kept_known (NonFlush i o x) h = fields_known ms e (field_of i) (field_of o) (field_of x) (field_above i) h

  -- a reply, by what it is
  pub reply_refused : (x : Reply ElementCutOutput) (n : Refusal) → x ≡ Err n → ms ≡ with_reply ms e x
  reply_refused x n q = ap (with_reply ms e) (sym q)

  pub reply_answered : (x : Reply ElementCutOutput) (a : ElementCutOutput) (ms' : List ℕ) → x ≡ Ok a → ms' ≡ with_answer ms e a → ms' ≡ with_reply ms e x
  reply_answered x a ms' q h = h ∙ ap (with_reply ms e) (sym q)

  -- the fields of an answer, by what it is
  pub answer_flush_kept : (a : ElementCutOutput) (ms' : List ℕ) → a ≡ Flush → ms' ≡ fields_at ms e 1 0 0 → ms' ≡ with_answer ms e a
  answer_flush_kept a ms' p h = h ∙ ap (with_answer ms e) (sym p)

  pub answer_sides_kept : (a : ElementCutOutput) (i o y : Option ElementId) (u v w : ℕ) (ms' : List ℕ) → a ≡ NonFlush i o y → u ≡ field_of i → v ≡ field_of o → w ≡ field_of y
      → ms' ≡ fields_at ms e u v w → ms' ≡ with_answer ms e a
  answer_sides_kept a i o y u v w ms' p hu hv hw h = h ∙ (λ l. fields_at ms e (hu l) (hv l) (hw l)) ∙ ap (with_answer ms e) (sym p)

-- how asking ended, by what it is
pub asked_refused : (x : Reply ElementCutOutput) (n : Refusal) → x ≡ Err n → Err n ≡ asked_by x
asked_refused x n q = ap asked_by (sym q)

pub asked_done : (x : Reply ElementCutOutput) (a : ElementCutOutput) → x ≡ Ok a → Ok tt ≡ asked_by x
asked_done x a q = ap asked_by (sym q)

pub reply_room : (x : Reply ElementCutOutput) (a : ElementCutOutput) → x ≡ Ok a → ReplyInRoom x → OutputInRoom a
reply_room x a q h = subst ReplyInRoom q h

pub sides_room : (x : ElementCutOutput) (i o y : Option ElementId) → x ≡ NonFlush i o y → OutputInRoom x → SidesInRoom i o y
sides_room x i o y p h = subst OutputInRoom p h
