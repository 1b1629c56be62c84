-- Small laws of tests: from a Boolean that is true to the fact that it tests, and back.
-- Everything else cites them, so no file proves one again.
use Rattle.std.specs.Prelude.{if◌then◌else◌, Option, Some, None}
use Prim.Native.Nat.{ℕ, ◌≤◌, ◌<◌}
use mathlib.Core.Bool.{true, false, Bool, cond, false≢true, not, true≢false, ◌&&◌, ◌||◌, beq}
use mathlib.Core.Path.{◌≡◌, refl, subst, sym, ◌∙◌}
use native.Mathlib.Nat.{lt_irrefl, le_trans, suc-ne-zero}
use lib.Dec.{T, leb, leb→le, le→leb, nleb→lt, eqb, eqb_refl, eqb→eq}
use Rattle.std.specs.Prelude.{Ok, Err, is_err}
use Rattle.rules.specs.Refusals.{Reply}
use Rattle.rules.specs.declared.Refusal.{Refusal}

-- ---- true and false

pub holds : (b : Bool) → T b → b ≡ true
holds true t = refl
holds false t = absurd t

pub truly : (b : Bool) → b ≡ true → T b
truly true h = tt
truly false h = absurd (false≢true h)

pub falsely : (b : Bool) → b ≡ false → T (not b)
falsely true h = absurd (true≢false h)
falsely false h = tt

pub not_false : (b : Bool) → not b ≡ false → b ≡ true
not_false true h = refl
not_false false h = absurd (true≢false h)

pub not_true : (b : Bool) → not b ≡ true → b ≡ false
not_true true h = absurd (false≢true h)
not_true false h = refl

-- two tests that imply each other are one
pub both_ways : (a b : Bool) → (a ≡ true → b ≡ true) → (b ≡ true → a ≡ true) → a ≡ b
both_ways true b f g = sym (f refl)
both_ways false true f g = g refl
both_ways false false f g = refl

pub and_true : (a b : Bool) → a ≡ true → b ≡ true → (a && b) ≡ true
and_true true b p q = q
and_true false b p q = p

pub and_left : (a b : Bool) → (a && b) ≡ true → a ≡ true
and_left true b h = refl
and_left false b h = h

pub and_right : (a b : Bool) → (a && b) ≡ true → b ≡ true
and_right true b h = h
and_right false b h = absurd (false≢true h)

pub and_swap : (a b : Bool) → (a && b) ≡ (b && a)
and_swap true true = refl
and_swap true false = refl
and_swap false true = refl
and_swap false false = refl

-- the second is asked only where the first holds
pub and_when : (a b c : Bool) → (a ≡ true → b ≡ c) → (a && b) ≡ (a && c)
and_when true b c h = h refl
and_when false b c h = refl

-- a mark as a word, read back
pub mark_back : (b : Bool) → eqb (cond b 1 0) 1 ≡ b
mark_back true = refl
mark_back false = refl

pub or_left : (a b : Bool) → a ≡ true → (a || b) ≡ true
or_left true b h = refl
or_left false b h = absurd (false≢true h)

pub or_right : (a b : Bool) → b ≡ true → (a || b) ≡ true
or_right true b h = refl
or_right false b h = h

pub or_case : (a b : Bool) → (a || b) ≡ true → (A : Type 0) → (a ≡ true → A) → (b ≡ true → A) → A
or_case true b h A f g = f refl
or_case false b h A f g = g h

pub neither : (a b : Bool) → a ≡ false → b ≡ false → (a || b) ≡ false
neither true b h k = h
neither false b h k = k

pub or_false : (a b : Bool) → (a || b) ≡ false → (a ≡ false) × (b ≡ false)
or_false true b h = absurd (true≢false h)
or_false false b h = (refl, h)

pub or_none : (a : Bool) → (a || false) ≡ a
or_none true = refl
or_none false = refl

pub or_shift : (a b c : Bool) → ((a || b) || c) ≡ (a || (b || c))
or_shift true b c = refl
or_shift false b c = refl

pub beq_self : (b : Bool) → beq b b ≡ true
beq_self true = refl
beq_self false = refl

pub beq_same : (s t : Bool) → beq s t ≡ true → s ≡ t
beq_same true true h = refl
beq_same true false h = absurd (false≢true h)
beq_same false true h = absurd (false≢true h)
beq_same false false h = refl

pub refute : (b : Bool) → (b ≡ true → ⊥) → b ≡ false
refute true h = absurd (h refl)
refute false h = refl

-- ---- numbers

pub le_test : (m n : ℕ) → leb m n ≡ true → m ≤ n
le_test m n h = leb→le m n (truly (leb m n) h)

pub test_le : (m n : ℕ) → m ≤ n → leb m n ≡ true
test_le m n h = holds (leb m n) (le→leb m n h)

pub not_le : (m n : ℕ) → leb m n ≡ false → n < m
not_le m n h = nleb→lt m n (falsely (leb m n) h)

pub test_above : (m n : ℕ) → n < m → leb m n ≡ false
test_above m n h = refute (leb m n) (λ e. lt_irrefl n (le_trans h (le_test m n e)))

pub eqb_self : (n : ℕ) → eqb n n ≡ true
eqb_self n = holds (eqb n n) (eqb_refl n)

pub eq_test : (m n : ℕ) → eqb m n ≡ true → m ≡ n
eq_test m n h = eqb→eq m n (truly (eqb m n) h)

pub test_eq : (m n : ℕ) → m ≡ n → eqb m n ≡ true
test_eq m n h = subst (λ (k : ℕ). eqb m k ≡ true) h (eqb_self m)

pub not_eq : (m n : ℕ) → (m ≡ n → ⊥) → eqb m n ≡ false
not_eq m n h = refute (eqb m n) (λ e. h (eq_test m n e))

pub unlike_eq : (m n : ℕ) → eqb m n ≡ false → m ≡ n → ⊥
unlike_eq m n h e = true≢false (sym (test_eq m n e) ∙ h)

-- ---- a choice

module _ {A : Type 0} where
  pub if_true : (b : Bool) (x y : A) → b ≡ true → (if b then x else y) ≡ x
  if_true true x y h = refl
  if_true false x y h = absurd (false≢true h)

  pub if_false : (b : Bool) (x y : A) → b ≡ false → (if b then x else y) ≡ y
  if_false true x y h = absurd (true≢false h)
  if_false false x y h = refl

  pub either : (P : A → Type 0) (b : Bool) (x y : A) → P x → P y → P (if b then x else y)
  either P true x y p q = p
  either P false x y p q = q

-- ---- what a search gives

-- none is no some
pub none_some : {A B : Type 0} (x : A) → ◌≡◌ {A = Option A} None (Some x) → B
none_some x e = absurd (let z : ◌≡◌ {A = ℕ} 0 1 = cc in suc-ne-zero 0 (sym z))

abbrev pub IsSome : Option ℕ → Type 0
IsSome None = ⊥
IsSome (Some i) = Unit {0}

abbrev pub value_of : Option ℕ → ℕ
value_of None = 0
value_of (Some i) = i

abbrev pub is_found : Option ℕ → Bool
is_found None = false
is_found (Some i) = true

-- a reply is a refusal or an answer
pub not_both : {A B : Type 0} {x : Refusal} {a : A} → ◌≡◌ {A = Reply A} (Err x) (Ok a) → B
not_both {A} q = absurd (subst (λ (r : Reply A). T (is_err r)) q tt)
