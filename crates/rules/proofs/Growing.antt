-- Lists that grow by one, and what a search says of them: what is found stays found, and what is not found and then appended is found there.
-- All by induction over the list.
use Rattle.std.specs.Prelude.{if◌then◌else◌, Option, Some, None}
use Prim.Native.Nat.{ℕ, ◌<◌, ◌+◌, suc, zero, ◌≤◌}
use mathlib.Core.Bool.{Bool, true, false, not}
use mathlib.Core.List.{List, ◌++◌, [], ◌∷◌, map}
use mathlib.Core.Path.{◌≡◌, subst, ap, refl, sym, ◌∙◌}
use native.Mathlib.Nat.{add-zero, not-suc-le-zero, le_of_suc-le-suc}
use native.Mathlib.Omega.{arith}
use lib.ListN.{length, get_or}
use Rattle.rules.specs.Lists.{find_from, all, all_from, keep, distinct, any, up_from}
use Rattle.rules.proofs.Laws.{value_of, IsSome, and_true, and_left, and_right, not_true, neither, or_false}

-- ---- a search in a longer list

pub if_found : (b : Bool) (n i : ℕ) (r s : Option ℕ) → (r ≡ Some i → s ≡ Some i) → (if b then Some n else r) ≡ Some i → (if b then Some n else s) ≡ Some i
if_found true n i r s k h = h
if_found false n i r s k h = k h

pub if_bound : (b : Bool) (n i m : ℕ) (r : Option ℕ) → n < m → (r ≡ Some i → i < m) → (if b then Some n else r) ≡ Some i → i < m
if_bound true n i m r l k h = subst (λ (j : ℕ). j < m) (ap value_of h) l
if_bound false n i m r l k h = k h

pub if_none : (b : Bool) (n : ℕ) (r : Option ℕ) → (if b then Some n else r) ≡ None → (b ≡ false) × (r ≡ None)
if_none true n r h = absurd (subst IsSome h tt)
if_none false n r h = (refl, h)

module _ {A : Type 0} (p : A → Bool) where
  -- what is found stays found
  pub find_found : (n i : ℕ) (xs zs : List A) → find_from n p xs ≡ Some i → find_from n p (xs ++ zs) ≡ Some i
  find_found n i [] zs h = absurd (subst IsSome (sym h) tt)
  find_found n i (x ∷ xs) zs h = if_found (p x) n i (find_from (suc n) p xs) (find_from (suc n) p (xs ++ zs)) (find_found (suc n) i xs zs) h

  pub find_bound : (n i : ℕ) (xs : List A) → find_from n p xs ≡ Some i → i < n + length xs
  find_bound n i [] h = absurd (subst IsSome (sym h) tt)
  find_bound n i (x ∷ xs) h =
      if_bound (p x) n i (n + suc (length xs)) (find_from (suc n) p xs) (omega arith)
      (λ k. let j : i < suc n + length xs = find_bound (suc n) i xs k in omega arith) h

  -- what is not found, and then appended, is found there
  pub find_new : (n : ℕ) (e : A) (xs zs : List A) → p e ≡ true → find_from n p xs ≡ None → find_from n p (xs ++ e ∷ zs) ≡ Some (n + length xs)
  find_new n e [] zs k h = ap (λ (b : Bool). if b then Some n else find_from (suc n) p zs) k ∙ ap {B = Option ℕ} Some (sym (add-zero n))
  find_new n e (x ∷ xs) zs k h =
      let q = if_none (p x) n (find_from (suc n) p xs) h in
      let s : suc n + length xs ≡ n + suc (length xs) = omega arith in
      ap (λ (b : Bool). if b then Some n else find_from (suc n) p (xs ++ e ∷ zs)) q.0 ∙ find_new (suc n) e xs zs k q.1 ∙ ap {B = Option ℕ} Some s

-- ---- tests of a longer list

module _ {A : Type 0} where
  pub all_snoc : (p : A → Bool) (xs : List A) (x : A) → all p xs ≡ true → p x ≡ true → all p (xs ++ x ∷ []) ≡ true
  all_snoc p [] x h k = and_true (p x) true k refl
  all_snoc p (y ∷ ys) x h k = and_true (p y) (all p (ys ++ x ∷ [])) (and_left (p y) (all p ys) h) (all_snoc p ys x (and_right (p y) (all p ys) h) k)

  pub all_from_snoc : (q : ℕ → A → Bool) (n : ℕ) (xs : List A) (x : A) → all_from n q xs ≡ true → q (n + length xs) x ≡ true → all_from n q (xs ++ x ∷ []) ≡ true
  all_from_snoc q n [] x h k = and_true (q n x) true (subst (λ (m : ℕ). q m x ≡ true) (add-zero n) k) refl
  all_from_snoc q n (y ∷ ys) x h k =
      let e : n + suc (length ys) ≡ suc n + length ys = omega arith in
      and_true (q n y) (all_from (suc n) q (ys ++ x ∷ [])) (and_left (q n y) (all_from (suc n) q ys) h)
      (all_from_snoc q (suc n) ys x (and_right (q n y) (all_from (suc n) q ys) h) (subst (λ (m : ℕ). q m x ≡ true) e k))

  -- one test for another, entry by entry
  pub all_from_step : (q r : ℕ → A → Bool) (n m : ℕ) (xs : List A) → n + length xs ≤ m → ((k : ℕ) (x : A) → k < m → q k x ≡ true → r k x ≡ true) → all_from n q xs ≡ true → all_from n r xs ≡ true
  all_from_step q r n m [] l f h = refl
  all_from_step q r n m (x ∷ xs) l f h =
      let l₀ : n < m = omega arith in
      let l₁ : suc n + length xs ≤ m = omega arith in
      and_true (r n x) (all_from (suc n) r xs) (f n x l₀ (and_left (q n x) (all_from (suc n) q xs) h))
      (all_from_step q r (suc n) m xs l₁ f (and_right (q n x) (all_from (suc n) q xs) h))

  pub all_at : (q : ℕ → A → Bool) (n : ℕ) (xs : List A) (i : ℕ) (d : A) → i < length xs → all_from n q xs ≡ true → q (n + i) (get_or xs i d) ≡ true
  all_at q n [] i d l h = absurd (not-suc-le-zero l)
  all_at q n (x ∷ xs) zero d l h = subst (λ (m : ℕ). q m x ≡ true) (sym (add-zero n)) (and_left (q n x) (all_from (suc n) q xs) h)
  all_at q n (x ∷ xs) (suc i) d l h =
      let e : suc n + i ≡ n + suc i = omega arith in
      subst (λ (m : ℕ). q m (get_or xs i d) ≡ true) e (all_at q (suc n) xs i d (le_of_suc-le-suc l) (and_right (q n x) (all_from (suc n) q xs) h))

  pub all_get : (p : A → Bool) (xs : List A) (i : ℕ) (d : A) → i < length xs → all p xs ≡ true → p (get_or xs i d) ≡ true
  all_get p [] i d l h = absurd (not-suc-le-zero l)
  all_get p (x ∷ xs) zero d l h = and_left (p x) (all p xs) h
  all_get p (x ∷ xs) (suc i) d l h = all_get p xs i d (le_of_suc-le-suc l) (and_right (p x) (all p xs) h)

  pub if_same : (b : Bool) (x : A) → (if b then x else x) ≡ x
  if_same true x = refl
  if_same false x = refl

  pub keep_append : (p : A → Bool) (xs ys : List A) → keep p (xs ++ ys) ≡ keep p xs ++ keep p ys
  keep_append p [] ys = refl
  keep_append p (x ∷ xs) ys = go (p x) (keep_append p xs ys)
    where
      go : (b : Bool) → keep p (xs ++ ys) ≡ keep p xs ++ keep p ys
          → (if b then x ∷ keep p (xs ++ ys) else keep p (xs ++ ys)) ≡ (if b then x ∷ keep p xs else keep p xs) ++ keep p ys
      go true e = ap (λ (l : List A). x ∷ l) e
      go false e = e

  -- what is not found is apart from all
  pub apart_snoc : (p : A → A → Bool) (n : ℕ) (xs : List A) (e : A) → distinct p xs ≡ true → find_from n (p e) xs ≡ None → distinct p (xs ++ e ∷ []) ≡ true
  apart_snoc p n [] e h k = refl
  apart_snoc p n (x ∷ xs) e h k =
      let q = if_none (p e x) n (find_from (suc n) (p e) xs) k in
      and_true (not (any (λ y. p y x) (xs ++ e ∷ []))) (distinct p (xs ++ e ∷ []))
      (ap not (any_snoc xs (not_true (any (λ y. p y x) xs) (and_left (not (any (λ y. p y x) xs)) (distinct p xs) h)) q.0))
      (apart_snoc p (suc n) xs e (and_right (not (any (λ y. p y x) xs)) (distinct p xs) h) q.1)
    where
      any_snoc : (ys : List A) → any (λ y. p y x) ys ≡ false → p e x ≡ false → any (λ y. p y x) (ys ++ e ∷ []) ≡ false
      any_snoc [] g g' = neither (p e x) false g' refl
      any_snoc (y ∷ ys) g g' =
          let s = or_false (p y x) (any (λ z. p z x) ys) g in neither (p y x) (any (λ z. p z x) (ys ++ e ∷ [])) s.0 (any_snoc ys s.1 g')

  -- what a search finds passes the test
  pub find_holds : (p : A → Bool) (n i : ℕ) (xs : List A) (d : A) → find_from n p xs ≡ Some i → (j : ℕ) × (n + j ≡ i) × (p (get_or xs j d) ≡ true)
  find_holds p n i [] d h = absurd (subst IsSome (sym h) tt)
  find_holds p n i (x ∷ xs) d h = go (p x) refl h (λ k. find_holds p (suc n) i xs d k)
    where
      go : (b : Bool) → p x ≡ b → (if b then Some n else find_from (suc n) p xs) ≡ Some i
          → (find_from (suc n) p xs ≡ Some i → (j : ℕ) × (suc n + j ≡ i) × (p (get_or xs j d) ≡ true))
          → (j : ℕ) × (n + j ≡ i) × (p (get_or (x ∷ xs) j d) ≡ true)
      go true e g r = (zero, add-zero n ∙ ap value_of g, e)
      go false e g r =
          let s = r g in
          let q : n + suc s.0 ≡ i = (let z = s.1 in omega arith) in
          (suc s.0, q, s.2)

pub map_append : {A B : Type 0} (f : A → B) (xs ys : List A) → map f (xs ++ ys) ≡ map f xs ++ map f ys
map_append f [] ys = refl
map_append {B = B} f (x ∷ xs) ys = ap (λ (l : List B). f x ∷ l) (map_append f xs ys)

pub up_from_snoc : (k n : ℕ) → up_from k (suc n) ≡ up_from k n ++ (k + n) ∷ []
up_from_snoc k zero = ap (λ (m : ℕ). m ∷ []) (sym (add-zero k))
up_from_snoc k (suc n) =
    let e : suc k + n ≡ k + suc n = omega arith in
    ap (λ (l : List ℕ). k ∷ l) (up_from_snoc (suc k) n ∙ ap (λ (m : ℕ). up_from (suc k) n ++ m ∷ []) e)

pub length_snoc : {A : Type 0} (xs : List A) (x : A) → length (xs ++ x ∷ []) ≡ suc (length xs)
length_snoc [] x = refl
length_snoc (y ∷ ys) x = ap suc (length_snoc ys x)
