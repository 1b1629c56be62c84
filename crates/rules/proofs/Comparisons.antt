-- How floats compare: at most is transitive among finite floats, and not below is at most the other way round.
-- A comparison of ±a / c and ±b / d is one of natural numbers, by four sign cases.
use Prim.Native.Nat.{◌≤◌, ℕ, zero, ◌+◌, ◌<◌, ◌*◌, suc, zero-le}
use mathlib.Core.Bool.{Bool, ◌||◌, false, true, ◌&&◌, false≢true, not, true≢false}
use mathlib.Core.Path.{◌≡◌, refl, ap, subst, sym, ◌∙◌}
use native.Mathlib.Nat.{le_of_eq, lt_irrefl, le_trans, mul-pos, zero-lt-suc, zero-mul}
use native.Mathlib.Omega.{arith}
use lib.Dec.{T, ltb, eqb, ltb→lt, eqb→eq, nltb→le, eqb_refl}
use lib.Ieee.{below, level, le, lt, eq, fin, up, down, Float, is_nan, nan, inf}
use lib.Ieee.Fits.{down_pos}
use lib.Ieee.Positive.{through}
use lib.IntN.{ℤ}
use Rattle.rules.proofs.Laws.{truly, and_true, holds, and_right, and_left, eqb_self}

-- ---- ±A ≤ ±B, as facts

abbrev pub signed : Bool → ℕ → Bool → ℕ → Bool
signed s A t B = below s A t B || level s A t B

abbrev pub SignedLe : Bool → ℕ → Bool → ℕ → Type 0
SignedLe false A false B = A ≤ B
SignedLe false A true B = (A ≡ 0) × (B ≡ 0)
SignedLe true A false B = Unit {0}
SignedLe true A true B = B ≤ A

below_or : (A B : ℕ) (c : Bool) → (ltb A B || (eqb A B && c)) ≡ true → A ≤ B
below_or A B c h = go (ltb A B) (eqb A B) refl refl h
  where
    go : (p q : Bool) → ltb A B ≡ p → eqb A B ≡ q → (p || (q && c)) ≡ true → A ≤ B
    go true q e f k = let l = ltb→lt A B (truly (ltb A B) e) in omega (arith, l)
    go false true e f k = le_of_eq (eqb→eq A B (truly (eqb A B) f))
    go false false e f k = absurd (false≢true k)

or_below : (A B : ℕ) → A ≤ B → (ltb A B || (eqb A B && true)) ≡ true
or_below A B h = go (ltb A B) refl
  where
    same : (b : Bool) → eqb A B ≡ b → (b && true) ≡ true → (eqb A B && true) ≡ true
    same true e k = ap (λ (b : Bool). b && true) e
    same false e k = absurd (false≢true k)

    go : (p : Bool) → ltb A B ≡ p → (p || (eqb A B && true)) ≡ true
    go true e = refl
    go false e =
        let n = nltb→le A B (subst (λ (b : Bool). T (not b)) (sym e) tt) in
        let q : A ≡ B = omega (arith, h, n) in
        and_true (eqb A B) true (subst (λ (k : ℕ). eqb A k ≡ true) q (holds (eqb A A) (eqb_refl A))) refl

zeros : (A B : ℕ) → (eqb A B && (false || eqb A 0)) ≡ true → (A ≡ 0) × (B ≡ 0)
zeros A B h =
    let a : A ≡ 0 = eqb→eq A 0 (truly (eqb A 0) (and_right (eqb A B) (eqb A 0) h)) in
    let b : A ≡ B = eqb→eq A B (truly (eqb A B) (and_left (eqb A B) (eqb A 0) h)) in
    (a, sym b ∙ a)

pub fact : (s t : Bool) (A B : ℕ) → signed s A t B ≡ true → SignedLe s A t B
fact false false A B h = below_or A B true h
fact false true A B h = zeros A B h
fact true false A B h = tt
fact true true A B h = go (ltb B A) (eqb A B) refl refl h
  where
    go : (p q : Bool) → ltb B A ≡ p → eqb A B ≡ q → (p || (q && true)) ≡ true → B ≤ A
    go true q e f k = let l = ltb→lt B A (truly (ltb B A) e) in omega (arith, l)
    go false true e f k = le_of_eq (sym (eqb→eq A B (truly (eqb A B) f)))
    go false false e f k = absurd (false≢true k)

pub test : (s t : Bool) (A B : ℕ) → SignedLe s A t B → signed s A t B ≡ true
test false false A B h = or_below A B h
test false true A B h =
    subst (λ (a : ℕ). (eqb a B && (false || eqb a 0)) ≡ true) (sym h.0) (subst (λ (b : ℕ). (eqb 0 b && true) ≡ true) (sym h.1) refl)
test true false A B h = go (ltb 0 (A + B)) refl
  where
    go : (p : Bool) → ltb 0 (A + B) ≡ p → (p || (eqb A B && (false || eqb A 0))) ≡ true
    go true e = refl
    go false e =
        let n = nltb→le 0 (A + B) (subst (λ (b : Bool). T (not b)) (sym e) tt) in
        let a : A ≡ 0 = omega (arith, n) in
        let b : B ≡ 0 = omega (arith, n) in
        subst (λ (x : ℕ). (eqb x B && (false || eqb x 0)) ≡ true) (sym a) (subst (λ (x : ℕ). (eqb 0 x && true) ≡ true) (sym b) refl)
test true true A B h = go (ltb B A) refl
  where
    go : (p : Bool) → ltb B A ≡ p → (p || (eqb A B && true)) ≡ true
    go true e = refl
    go false e =
        let n = nltb→le B A (subst (λ (b : Bool). T (not b)) (sym e) tt) in
        let q : A ≡ B = omega (arith, h, n) in
        and_true (eqb A B) true (subst (λ (k : ℕ). eqb A k ≡ true) q (eqb_self A)) refl

-- not below: at most, the other way round
pub turned : (s t : Bool) (A B : ℕ) → below s A t B ≡ false → SignedLe t B s A
turned false false A B h = nltb→le A B (subst (λ (b : Bool). T (not b)) (sym h) tt)
turned false true A B h = tt
turned true false A B h =
    let n = nltb→le 0 (A + B) (subst (λ (b : Bool). T (not b)) (sym h) tt) in (let b : B ≡ 0 = omega (arith, n) in b, let a : A ≡ 0 = omega (arith, n) in a)
turned true true A B h = nltb→le B A (subst (λ (b : Bool). T (not b)) (sym h) tt)

-- ---- fractions: ±x / p ≤ ±y / q ≤ ±z / r

zero_factor : (x q : ℕ) → 0 < q → x * q ≤ 0 → x ≡ 0
zero_factor zero q l h = refl
zero_factor (suc x) q l h = absurd (lt_irrefl 0 (le_trans (mul-pos (zero-lt-suc x) l) h))

zero_times : (x q : ℕ) → x ≡ 0 → x * q ≡ 0
zero_times x q h = ap (λ (k : ℕ). k * q) h ∙ zero-mul q

chain : (s t u : Bool) (x y z p q r : ℕ) → 0 < p → 0 < q → 0 < r → SignedLe s (x * q) t (y * p) → SignedLe t (y * r) u (z * q) → SignedLe s (x * r) u (z * p)
chain false false false x y z p q r P Q R h k = through x y z p q r Q h k
chain false false true x y z p q r P Q R h k =
    let y0 = zero_factor y r R (le_of_eq k.0) in
    let x0 = zero_factor x q Q (le_trans h (le_of_eq (zero_times y p y0))) in
    (zero_times x r x0, zero_times z p (zero_factor z q Q (le_of_eq k.1)))
chain false true false x y z p q r P Q R h k = subst (λ (n : ℕ). n ≤ z * p) (sym (zero_times x r (zero_factor x q Q (le_of_eq h.0)))) zero-le
chain false true true x y z p q r P Q R h k =
    let y0 = zero_factor y p P (le_of_eq h.1) in
    (zero_times x r (zero_factor x q Q (le_of_eq h.0)), zero_times z p (zero_factor z q Q (le_trans k (le_of_eq (zero_times y r y0)))))
chain true false false x y z p q r P Q R h k = tt
chain true false true x y z p q r P Q R h k = subst (λ (n : ℕ). n ≤ x * r) (sym (zero_times z p (zero_factor z q Q (le_of_eq k.1)))) zero-le
chain true true false x y z p q r P Q R h k = tt
chain true true true x y z p q r P Q R h k = through z y x r q p Q k h

-- ---- floats

pub fin_chain : (s t u : Bool) (m n k : ℕ) (e d c : ℤ) → le (fin s m e) (fin t n d) ≡ true → le (fin t n d) (fin u k c) ≡ true → le (fin s m e) (fin u k c) ≡ true
unfolding le lt eq
fin_chain s t u m n k e d c h g =
    test s u (m * up e * down c) (k * up c * down e)
    (chain s t u (m * up e) (n * up d) (k * up c) (down e) (down d) (down c) (down_pos e) (down_pos d) (down_pos c)
    (fact s t (m * up e * down d) (n * up d * down e) h) (fact t u (n * up d * down c) (k * up c * down d) g))

-- not below is at most, the other way round
pub not_below : (x y : Float) → is_nan x ≡ false → is_nan y ≡ false → lt x y ≡ false → le y x ≡ true
unfolding le lt eq is_nan
not_below nan y a b h = absurd (true≢false a)
not_below (inf s) nan a b h = absurd (true≢false b)
not_below (inf true) (inf true) a b h = refl
not_below (inf true) (inf false) a b h = absurd (true≢false h)
not_below (inf false) (inf true) a b h = refl
not_below (inf false) (inf false) a b h = refl
not_below (inf true) (fin t n d) a b h = absurd (true≢false h)
not_below (inf false) (fin t n d) a b h = refl
not_below (fin s m e) nan a b h = absurd (true≢false b)
not_below (fin s m e) (inf true) a b h = refl
not_below (fin s m e) (inf false) a b h = absurd (true≢false h)
not_below (fin s m e) (fin t n d) a b h =
    test t s (n * up d * down e) (m * up e * down d) (turned s t (m * up e * down d) (n * up d * down e) h)

pub below_at_most : (x y : Float) → lt x y ≡ true → le x y ≡ true
unfolding le
below_at_most x y h = ap (λ (b : Bool). b || eq x y) h

pub le_self : (x : Float) → is_nan x ≡ false → le x x ≡ true
unfolding le lt eq is_nan
le_self nan a = absurd (true≢false a)
le_self (inf true) a = refl
le_self (inf false) a = refl
le_self (fin true m e) a = test true true (m * up e * down e) (m * up e * down e) (le_of_eq refl)
le_self (fin false m e) a = test false false (m * up e * down e) (m * up e * down e) (le_of_eq refl)
