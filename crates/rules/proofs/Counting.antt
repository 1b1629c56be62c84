-- The numbers below n that pass a test: how many there are, and what holds of a list made over the numbers from k up.
-- By induction on n; a count grows at its last number.
use Rattle.std.specs.Prelude.{if◌then◌else◌}
use Prim.Native.Nat.{ℕ, zero, suc, ◌+◌, ◌*◌, ◌-◌, ◌≤◌, ◌<◌}
use mathlib.Core.Bool.{Bool, true, false, not}
use mathlib.Core.List.{List, [], ◌∷◌, ◌++◌, map}
use mathlib.Core.Path.{◌≡◌, refl, sym, ap, ◌∙◌, subst, fun_ext}
use native.Mathlib.Nat.{add-zero, zero-add, le_of_eq, le_refl, le_of_suc-le-suc, not-suc-le-zero}
use native.Mathlib.Omega.{arith}
use lib.ListN.{length, get_or, length-append}
use Rattle.rules.specs.Lists.{all, any, keep, all_from, distinct, up_from, up_to}
use Rattle.rules.proofs.Growing.{keep_append, up_from_snoc}
use Rattle.rules.proofs.Laws.{and_true, neither}

-- ---- how many numbers below n pass a test

-- shut, so that omega takes a count as one unknown
unfoldable pub before : (ℕ → Bool) → ℕ → ℕ
before p n = length (keep p (up_to n))

abbrev pub bit : Bool → ℕ
bit b = if b then 1 else 0

pub up_to_suc : (n : ℕ) → up_to (suc n) ≡ up_to n ++ n ∷ []
up_to_suc n = up_from_snoc 0 n ∙ ap (λ (m : ℕ). up_to n ++ m ∷ []) (zero-add n)

pub before_zero : (p : ℕ → Bool) → before p 0 ≡ 0
unfolding before
before_zero p = refl

pub before_suc : (p : ℕ → Bool) (n : ℕ) → before p (suc n) ≡ before p n + bit (p n)
unfolding before
before_suc p n =
    ap (λ (l : List ℕ). length (keep p l)) (up_to_suc n) ∙ ap length (keep_append p (up_to n) (n ∷ []))
    ∙ length-append (keep p (up_to n)) (keep p (n ∷ [])) ∙ ap (λ (m : ℕ). before p n + m) (last (p n))
  where
    last : (b : Bool) → length (if b then n ∷ [] else []) ≡ bit b
    last true = refl
    last false = refl

pub before_same : (p q : ℕ → Bool) (n : ℕ) → ((m : ℕ) → p m ≡ q m) → before p n ≡ before q n
before_same p q n h = ap (λ (f : ℕ → Bool). before f n) (fun_ext h)

pub before_none : (n : ℕ) → before (λ m. false) n ≡ 0
before_none zero = before_zero (λ m. false)
before_none (suc n) = before_suc (λ m. false) n ∙ add-zero (before (λ m. false) n) ∙ before_none n

-- one that passes counts for all later numbers
pub before_less : (p : ℕ → Bool) (m n : ℕ) → p m ≡ true → m < n → before p m < before p n
before_less p m n h l =
    let e : suc m + (n - suc m) ≡ n = omega arith in
    let s : before p (suc m) ≡ before p m + 1 = before_suc p m ∙ ap (λ (b : Bool). before p m + bit b) h in
    let q = more (suc m) (n - suc m) in
    subst (λ (k : ℕ). before p m < before p k) e (omega arith)
  where
    more : (i k : ℕ) → before p i ≤ before p (i + k)
    more i zero = le_of_eq (ap (before p) (sym (add-zero i)))
    more i (suc k) =
        let e : suc (i + k) ≡ i + suc k = omega arith in
        let g = more i k in
        let s = before_suc p (i + k) in
        subst (λ (j : ℕ). before p i ≤ before p j) e (omega arith)

-- by the remainder at division by 3
pub before_thrice : (p : ℕ → Bool) (n : ℕ)
    → before p (3 * n) ≡ before (λ m. p (0 + 3 * m)) n + before (λ m. p (1 + 3 * m)) n + before (λ m. p (2 + 3 * m)) n
before_thrice p zero =
    let a = before_zero p in
    let b = before_zero (λ m. p (0 + 3 * m)) in
    let c = before_zero (λ m. p (1 + 3 * m)) in
    let d = before_zero (λ m. p (2 + 3 * m)) in
    omega arith
before_thrice p (suc n) =
    let x : 0 + 3 * n ≡ 3 * n = omega arith in
    let y : 1 + 3 * n ≡ suc (3 * n) = omega arith in
    let z : 2 + 3 * n ≡ suc (suc (3 * n)) = omega arith in
    let e : 3 * suc n ≡ suc (suc (suc (3 * n))) = omega arith in
    let a = before_suc (λ m. p (0 + 3 * m)) n ∙ ap (λ (k : ℕ). before (λ m. p (0 + 3 * m)) n + bit (p k)) x in
    let b = before_suc (λ m. p (1 + 3 * m)) n ∙ ap (λ (k : ℕ). before (λ m. p (1 + 3 * m)) n + bit (p k)) y in
    let c = before_suc (λ m. p (2 + 3 * m)) n ∙ ap (λ (k : ℕ). before (λ m. p (2 + 3 * m)) n + bit (p k)) z in
    let s₁ = before_suc p (3 * n) in
    let s₂ = before_suc p (suc (3 * n)) in
    let s₃ = before_suc p (suc (suc (3 * n))) in
    let h = before_thrice p n in
    ap (before p) e ∙ omega arith

-- ---- a list made over the numbers from k up

pub length_up : (k n : ℕ) → length (up_from k n) ≡ n
length_up k zero = refl
length_up k (suc n) = ap suc (length_up (suc k) n)

module _ {A : Type 0} (f : ℕ → A) where
  pub getD_up : (z : A) (k n i : ℕ) → i < n → get_or (map f (up_from k n)) i z ≡ f (k + i)
  getD_up z k zero i l = absurd (not-suc-le-zero l)
  getD_up z k (suc n) zero l = ap f (sym (add-zero k))
  getD_up z k (suc n) (suc i) l = let e : suc k + i ≡ k + suc i = omega arith in getD_up z (suc k) n i (le_of_suc-le-suc l) ∙ ap f e

  pub all_up : (p : A → Bool) (k n : ℕ) → ((i : ℕ) → i < k + n → p (f i) ≡ true) → all p (map f (up_from k n)) ≡ true
  all_up p k zero h = refl
  all_up p k (suc n) h =
      and_true (p (f k)) (all p (map f (up_from (suc k) n))) (h k (omega arith)) (all_up p (suc k) n (λ i l. h i (omega arith)))

  pub all_from_up : (q : ℕ → A → Bool) (k n : ℕ) → ((i : ℕ) → i < k + n → q i (f i) ≡ true) → all_from k q (map f (up_from k n)) ≡ true
  all_from_up q k zero h = refl
  all_from_up q k (suc n) h =
      and_true (q k (f k)) (all_from (suc k) q (map f (up_from (suc k) n))) (h k (omega arith)) (all_from_up q (suc k) n (λ i l. h i (omega arith)))

  pub distinct_up : (p : A → A → Bool) (k n : ℕ) → ((i j : ℕ) → i < j → j < k + n → p (f j) (f i) ≡ false) → distinct p (map f (up_from k n)) ≡ true
  distinct_up p k zero h = refl
  distinct_up p k (suc n) h =
      and_true (not (any (λ y. p y (f k)) (map f (up_from (suc k) n)))) (distinct p (map f (up_from (suc k) n)))
      (ap not (none (suc k) n (λ j l m. h k j l (omega arith)))) (distinct_up p (suc k) n (λ i j l m. h i j l (omega arith)))
    where
      none : (j m : ℕ) → ((i : ℕ) → j ≤ i → i < j + m → p (f i) (f k) ≡ false) → any (λ y. p y (f k)) (map f (up_from j m)) ≡ false
      none j zero g = refl
      none j (suc m) g =
          neither (p (f j) (f k)) (any (λ y. p y (f k)) (map f (up_from (suc j) m)))
          (g j (le_refl j) (omega arith)) (none (suc j) m (λ i a b. g i (omega arith) (omega arith)))

  -- a test of what is made over the numbers kept
  pub all_kept : (q : A → Bool) (p : ℕ → Bool) (ns : List ℕ) → ((n : ℕ) → p n ≡ true → q (f n) ≡ true) → all q (map f (keep p ns)) ≡ true
  all_kept q p [] h = refl
  all_kept q p (n ∷ ns) h = go (p n) refl (all_kept q p ns h)
    where
      go : (b : Bool) → p n ≡ b → all q (map f (keep p ns)) ≡ true → all q (map f (if b then n ∷ keep p ns else keep p ns)) ≡ true
      go true e k = and_true (q (f n)) (all q (map f (keep p ns))) (h n e) k
      go false e k = k
