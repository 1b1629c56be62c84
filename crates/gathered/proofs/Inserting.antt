-- A number put into a set. A search passes the numbers below x; at its place x stands already, or the rest moves up by one.
use Rattle.std.specs.Prelude.{if◌then◌else◌, Option, Some, None}
use Prim.Native.Nat.{ℕ, zero, suc, ◌+◌, ◌-◌, ◌≤◌, ◌<◌}
use mathlib.Core.Path.{◌≡◌, refl, sym, ap, ap₂, ◌∙◌, subst}
use mathlib.Core.Bool.{Bool}
use mathlib.Core.List.{List, [], ◌∷◌, ◌++◌}
use mathlib.Core.Logic.{inl, inr}
use native.Mathlib.Nat.{le_trans, le_of_eq, eq-or-lt_of_le}
use native.Mathlib.Numerals.{add-one}
use native.Mathlib.Omega.{arith}
use borrow.Author.Tests.{lt-ltb, le-ltb, eq-eqb, ne_eqb}
use lib.Dec.{eqb}
use lib.ListN.{length, get_or, take, drop, set, length-drop, length-set, take-append-drop}
use lib.Seq.{drop-cons, take-suc, get_or-take, length-take-le, take-take, append_snoc, take-set-lt, take-paste, length-paste}
use Rattle.rules.specs.Lists.{with_member}
use Rattle.gathered.specs.Sets.{size_in, numbers_in, SizedSet, Included, Passed, Place, shifted}
use Rattle.gathered.specs.declared.sets.Set.{Set}
use Rattle.std.specs.List.{AllWithin, HoldsAt, copy_within}
use Rattle.std.specs.Option.{MatchOption, unwrap_or}
use Rattle.std.proofs.lemmas.List.{drop-take}
use Rattle.rules.specs.declared.ElementId.{ElementId}

-- ---- in a list

with_after : (x y : ℕ) (ys : List ℕ) → y < x → with_member x (y ∷ ys) ≡ y ∷ with_member x ys
with_after x y ys h =
    ap₂ (λ (a b : Bool). if a then x ∷ y ∷ ys else if b then y ∷ ys else (y ∷ with_member x ys)) (le-ltb x y (let q : y ≤ x = omega arith in q))
    (ne_eqb x y (λ e. (let z : ⊥ = omega (arith, e) in z)))

with_before : (x y : ℕ) (ys : List ℕ) → x < y → with_member x (y ∷ ys) ≡ x ∷ y ∷ ys
with_before x y ys h = ap (λ (a : Bool). if a then x ∷ y ∷ ys else if eqb x y then y ∷ ys else (y ∷ with_member x ys)) (lt-ltb x y h)

with_same : (x y : ℕ) (ys : List ℕ) → y ≡ x → with_member x (y ∷ ys) ≡ y ∷ ys
with_same x y ys h =
    ap₂ (λ (a b : Bool). if a then x ∷ y ∷ ys else if b then y ∷ ys else (y ∷ with_member x ys)) (le-ltb x y (le_of_eq h)) (eq-eqb x y (sym h))

pub passed_none : (x : ℕ) (xs : List ℕ) → Passed x xs 0
passed_none x xs = record { so = refl }

module _ {x : ℕ} {xs : List ℕ} {at : ℕ} (P : Passed x xs at) where
  passed_more : at < length xs → get_or xs at 0 < x → Passed x xs (at + 1)
  passed_more h k = record {
    so = P.so ∙ ap (λ (l : List ℕ). take at xs ++ l) (ap (with_member x) (drop-cons xs at 0 h) ∙ with_after x (get_or xs at 0) (drop (suc at) xs) k)
        ∙ sym (append_snoc (take at xs) (get_or xs at 0) (with_member x (drop (suc at) xs)))
        ∙ ap₂ (λ (p : List ℕ) (n : ℕ). p ++ with_member x (drop n xs)) (sym (take-suc xs at 0 h)) (sym (add-one at))
        ∙ ap (λ (n : ℕ). take n xs ++ with_member x (drop (at + 1) xs)) (sym (add-one at));
  }

  passed_there : at < length xs → get_or xs at 0 ≡ x → with_member x xs ≡ xs
  passed_there h k =
      P.so ∙ ap (λ (l : List ℕ). take at xs ++ l) (ap (with_member x) (drop-cons xs at 0 h) ∙ with_same x (get_or xs at 0) (drop (suc at) xs) k ∙ sym (drop-cons xs at 0 h))
      ∙ take-append-drop at xs

  passed_new : (at < length xs → x < get_or xs at 0) → with_member x xs ≡ take at xs ++ x ∷ drop at xs
  passed_new f = P.so ∙ ap (λ (m : List ℕ). take at xs ++ m) (go (drop at xs) refl)
    where
      go : (m : List ℕ) → drop at xs ≡ m → with_member x m ≡ x ∷ m
      go [] e = refl
      go (y ∷ ys) e =
          let n = length-drop at xs in
          let m = ap length e in
          let h : at < length xs = omega (arith, n, m) in
          let v : get_or xs at 0 ≡ y = ap (λ (r : List ℕ). get_or r 0 0) (sym (drop-cons xs at 0 h) ∙ e) in
          with_before x y ys (subst (λ (r : ℕ). x < r) v (f h))

-- the element behind a list that is at long
set_there : (u t : List ℕ) (y x at : ℕ) → length u ≡ at → set (u ++ y ∷ t) at x ≡ u ++ x ∷ t
set_there u t y x at e = ap (λ (k : ℕ). set (u ++ y ∷ t) k x) (sym e) ∙ go u
  where
    go : (u : List ℕ) → set (u ++ y ∷ t) (length u) x ≡ u ++ x ∷ t
    go [] = refl
    go (a ∷ u) = ap (λ (l : List ℕ). a ∷ l) (go u)

-- ---- in the set

module _ (s : Set) (x : ℕ) (Z : SizedSet s 32) (long : length s.numbers ≡ 33) where
  abbrev xs : List ℕ
  xs = numbers_in s

  xs_long : length xs ≡ size_in s
  xs_long = length-take-le (size_in s) s.numbers (let a = Z.most in omega (arith, a, long))

  entry : (at : ℕ) → at < size_in s → get_or xs at 0 ≡ get_or s.numbers at 0
  entry at h = get_or-take (size_in s) s.numbers at 0 h

  inside_xs : (at : ℕ) → at < size_in s → at < length xs
  inside_xs at h = le_trans h (le_of_eq (sym xs_long))

  -- a search passes all numbers below x
  passed_all : (i : ℕ) → i ≤ size_in s → ((k : ℕ) → k < i → get_or xs k 0 < x) → Passed x xs i
  passed_all zero l f = passed_none x xs
  passed_all (suc i) l f = subst (Passed x xs) (add-one i) (passed_more (passed_all i (omega (arith, l)) (λ k h. f k (omega (arith, h)))) (inside_xs i l) (f i (omega arith)))

  -- and ends at the first other, or at the end
  pub placed : (all : List ℕ) → all ≡ xs → (r : Option ℕ)
      → MatchOption r (AllWithin (λ y. y < x) all 0 (length all)) (λ i. (i < length all) × HoldsAt (λ y. x ≤ y) all i × AllWithin (λ y. y < x) all 0 i) → Place s x (unwrap_or r s.size)
  placed all e r m =
      go r (subst (λ (l : List ℕ). MatchOption r (AllWithin (λ y. y < x) l 0 (length l)) (λ i. (i < length l) × HoldsAt (λ y. x ≤ y) l i × AllWithin (λ y. y < x) l 0 i)) e m)
    where
      go : (r : Option ℕ) → MatchOption r (AllWithin (λ y. y < x) xs 0 (length xs)) (λ i. (i < length xs) × HoldsAt (λ y. x ≤ y) xs i × AllWithin (λ y. y < x) xs 0 i) → Place s x (unwrap_or r s.size)
      go None f = record {
        passed = passed_all s.size (omega arith) (λ k h. f k 0 (omega arith) (inside_xs k h));
        within = omega arith;
        stop = λ h. absurd (omega (arith, h));
      }
      go (Some i) f =
          let low : i < size_in s = le_trans f.0 (le_of_eq xs_long) in
          record {
            passed = passed_all i (omega (arith, low)) (λ k h. f.2 k 0 (omega arith) h);
            within = omega (arith, low);
            stop = λ h. subst (λ (y : ℕ). x ≤ y) (entry i low) (f.1 0);
          }

  -- the numbers from the place on have moved up, and x stands there
  put_numbers : (at : ℕ) → at ≤ size_in s → take (size_in s + 1) (shifted s x at) ≡ take at xs ++ x ∷ drop at xs
  put_numbers at l =
      let a = Z.most in
      let d = s.numbers in
      let n = size_in s in
      let rest = length-drop at d in
      take-set-lt (n + 1) (copy_within d at n (at + 1)) at x (omega (arith, l))
      ∙ ap (λ (m : ℕ). set (take m (copy_within d at n (at + 1))) at x) (let q : n + 1 ≡ at + 1 + (n - at) = omega (arith, l) in q)
      ∙ ap (λ (m : List ℕ). set m at x)
      (take-paste d (at + 1) (drop at d) (n - at) (omega (arith, a, long, l)) (omega (arith, a, long, rest))
      ∙ ap (λ (m : List ℕ). m ++ take (n - at) (drop at d)) (ap (λ (m : ℕ). take m d) (add-one at) ∙ take-suc d at 0 (omega (arith, a, long, l)))
      ∙ append_snoc (take at d) (get_or d at 0) (take (n - at) (drop at d)))
      ∙ set_there (take at d) (take (n - at) (drop at d)) (get_or d at 0) x at (length-take-le at d (omega (arith, a, long, l)))
      ∙ ap₂ (λ (m k : List ℕ). m ++ x ∷ k) (sym (take-take at n d l)) (sym (ap (λ (m : ℕ). drop at (take m d)) (let q : n ≡ at + (n - at) = omega (arith, l) in q) ∙ drop-take at (n - at) d))

  put_long : (at : ℕ) → at ≤ size_in s → length (shifted s x at) ≡ 33
  put_long at l =
      let a = Z.most in
      length-set _ at x ∙ length-paste s.numbers (at + 1) (drop at s.numbers) (size_in s - at) (omega (arith, a, long, l)) (let d = length-drop at s.numbers in omega (arith, a, long, d)) ∙ long

  -- ---- at the place that the search gives

  module _ (at : ℕ) (P : Place s x at) where
    -- x stands there already
    pub insert_same : at < size_in s → get_or s.numbers at 0 ≡ x → Included s (Some (record { 0 = x })) s
    insert_same h k = record {
      of = sym (passed_there P.passed (inside_xs at h) (entry at h ∙ k));
      long = long;
      sized = λ m z. record { most = (let q = z.most in omega (arith, q)) };
    }

    -- or belongs there
    pub insert_new : (at < size_in s → get_or s.numbers at 0 ≡ x → ⊥) → (r : Set) → r.numbers ≡ shifted s x at → r.size ≡ size_in s + 1 → Included s (Some (record { 0 = x })) r
    insert_new k r words size = record {
      of = ap₂ (λ (n : ℕ) (l : List ℕ). take n l) size words ∙ put_numbers at P.within ∙ sym (passed_new P.passed above);
      long = ap length words ∙ put_long at P.within;
      sized = λ m z. record { most = (let q = z.most in omega (arith, size, q)) };
    }
      where
        less : (b : ℕ) → x ≤ b → (b ≡ x → ⊥) → x < b
        less b l n = elim (eq-or-lt_of_le l) [ inl q ↦ absurd (n (sym q)) | inr q ↦ q ]

        above : at < length xs → x < get_or xs at 0
        above h =
            let q : at < size_in s = le_trans h (le_of_eq xs_long) in
            subst (λ (y : ℕ). x < y) (sym (entry at q)) (less (get_or s.numbers at 0) (P.stop q) (k q))

pub include_none : (s : Set) → length s.numbers ≡ 33 → Included s None s
include_none s long = record {
  of = refl;
  long = long;
  sized = λ m z. record { most = (let q = z.most in omega (arith, q)) };
}

pub included_is : {s : Set} {p : Option ElementId} {r : Set} (q : Option ElementId) → p ≡ q → Included s q r → Included s p r
included_is {s} {r = r} q e I = subst (λ (x : Option ElementId). Included s x r) (sym e) I
