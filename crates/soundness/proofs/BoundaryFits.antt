-- The loop over the numbers of a boundary. It keeps the least that the next one may be, and each is tested for that, for
-- standing before the element and for its rank. What is left fits, from that least number on, exactly when all of it does.
use Prim.Native.Nat.{ℕ, suc, ◌+◌, ◌*◌, ◌≤◌, ◌<◌}
use mathlib.Core.Bool.{Bool, true, false, ◌&&◌, true≢false}
use mathlib.Core.List.{List, [], ◌∷◌}
use mathlib.Core.Path.{◌≡◌, refl, sym, ap, ap₂, ◌∙◌}
use native.Mathlib.Numerals.{add-one}
use native.Mathlib.Omega.{arith}
use lib.Dec.{eqb, leb, ltb}
use lib.ListN.{length, get_or, drop, drop_of_length-le}
use lib.Seq.{drop-cons}
use Rattle.rules.specs.Limits.{desk}
use Rattle.rules.specs.Lists.{all, rises}
use Rattle.rules.proofs.Laws.{and_left, and_right, test_le, and_when}
use Rattle.soundness.specs.Words.{number_fits, numbers_fit}
use Rattle.soundness.proofs.ReadBack.{and_assoc}
use borrow.Author.Tests.{ltb-true, lt-ltb}

-- each above the one before it is enough
abbrev climbs : ℕ → List ℕ → Bool
climbs low [] = true
climbs low (x ∷ xs) = leb low x && climbs (suc x) xs

over : (x y : ℕ) (ys : List ℕ) → ltb x y ≡ true → all (ltb y) ys ≡ true → all (ltb x) ys ≡ true
over x y [] h k = refl
over x y (z ∷ zs) h k =
    let a = ltb-true x y h in
    let b = ltb-true y z (and_left (ltb y z) (all (ltb y) zs) k) in
    ap₂ (λ (p q : Bool). p && q) (lt-ltb x z (let w : x < z = omega (arith, a, b) in w)) (over x y zs h (and_right (ltb y z) (all (ltb y) zs) k))

rises_climbs : (x : ℕ) (ys : List ℕ) → rises (x ∷ ys) ≡ climbs (suc x) ys
rises_climbs x [] = refl
rises_climbs x (y ∷ ys) =
    sym (and_assoc (ltb x y) (all (ltb x) ys) (rises (y ∷ ys)))
    ∙ and_when (ltb x y) (all (ltb x) ys && rises (y ∷ ys)) (rises (y ∷ ys)) (λ h. drop_it (all (ltb x) ys) (all (ltb y) ys) (rises ys) (over x y ys h))
    ∙ ap (λ (b : Bool). ltb x y && b) (rises_climbs y ys)
  where
    drop_it : (a b c : Bool) → (b ≡ true → a ≡ true) → (a && (b && c)) ≡ (b && c)
    drop_it true b c h = refl
    drop_it false true c h = absurd (true≢false (sym (h refl)))
    drop_it false false c h = refl

rises_all : (xs : List ℕ) → rises xs ≡ climbs 0 xs
rises_all [] = refl
rises_all (x ∷ xs) = rises_climbs x xs ∙ sym (ap (λ (b : Bool). b && climbs (suc x) xs) (test_le 0 x (let q : 0 ≤ x = omega arith in q)))

-- three tests of what is first, and of what is left
pub by_three : (l a k b m c : Bool) → ((l && a) && (k && b) && (m && c)) ≡ ((l && k && m) && (a && b && c))
by_three false a k b m c = refl
by_three true true true true true c = refl
by_three true true true false true c = refl
by_three true true true true false c = refl
by_three true true true false false c = refl
by_three true true false b m c = refl
by_three true false true b true c = refl
by_three true false true b false c = refl
by_three true false false b m c = refl

-- the tests of one number
pub number_is : (es : List ℕ) (e r low x : ℕ) (A B C : Bool) → leb low x ≡ A → ltb x e ≡ B → eqb (suc (get_or es (x * 36) 0)) r ≡ C → (A && B && C) ≡ number_fits desk es e r low x
number_is es e r low x A B C a b c = sym (λ i. a i && b i && c i)

-- three tests of a list, number by number
module _ (p q : ℕ → Bool) where
  abbrev pub fits : ℕ → List ℕ → Bool
  fits low [] = true
  fits low (x ∷ xs) = (leb low x && p x && q x) && fits (suc x) xs

  together : (low : ℕ) (xs : List ℕ) → (climbs low xs && all p xs && all q xs) ≡ fits low xs
  together low [] = refl
  together low (x ∷ xs) =
      by_three (leb low x) (climbs (suc x) xs) (p x) (all p xs) (q x) (all q xs)
      ∙ ap (λ (b : Bool). (leb low x && p x && q x) && b) (together (suc x) xs)

module _ (es b : List ℕ) (e r : ℕ) where
  -- those from place i on, where the next may be low
  abbrev pub left : ℕ → ℕ → Bool
  left low i = fits (λ x. ltb x e) (λ x. eqb (suc (get_or es (x * 36) 0)) r) low (drop i b)

  pub fits_start : numbers_fit desk es e r b ≡ left 0 0
  fits_start =
      ap (λ (c : Bool). c && all (λ x. ltb x e) b && all (λ x. eqb (suc (get_or es (x * 36) 0)) r) b) (rises_all b)
      ∙ together (λ x. ltb x e) (λ x. eqb (suc (get_or es (x * 36) 0)) r) 0 b

  on : (low i x : ℕ) (F : Bool) → x ≡ get_or b i 0 → i < length b → number_fits desk es e r low x ≡ F → left low i ≡ (F && left (x + 1) (i + 1))
  on low i x F s h f =
      ap (fits (λ y. ltb y e) (λ y. eqb (suc (get_or es (y * 36) 0)) r) low) (drop-cons b i 0 h ∙ ap (λ (y : ℕ). y ∷ drop (suc i) b) (sym s))
      ∙ (λ j. f j && left (sym (add-one x) j) (sym (add-one i) j))

  pub fits_go : {reply : Bool} (low i x : ℕ) → reply ≡ left low i → x ≡ get_or b i 0 → i < length b → number_fits desk es e r low x ≡ true → reply ≡ left (x + 1) (i + 1)
  fits_go low i x t s h f = t ∙ on low i x true s h f

  pub fits_no : {reply : Bool} (low i x : ℕ) → reply ≡ left low i → x ≡ get_or b i 0 → i < length b → number_fits desk es e r low x ≡ false → false ≡ reply
  fits_no low i x t s h f = sym (t ∙ on low i x false s h f)

  pub fits_end : {reply : Bool} (low i : ℕ) → reply ≡ left low i → length b ≤ i → true ≡ reply
  fits_end low i t h = sym (t ∙ ap (fits (λ y. ltb y e) (λ y. eqb (suc (get_or es (y * 36) 0)) r) low) (drop_of_length-le b h))
