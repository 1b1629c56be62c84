-- The boundary of an element of the cube, as numbers: how many, that they rise and are below the element's own, their ranks, and that they tell the element.
-- By induction on the digits: a digit in front multiplies the numbers by 3, and a 2 in front adds two at the end.
use Rattle.std.specs.Prelude.{if◌then◌else◌}
use Prim.Native.Nat.{ℕ, ◌+◌, ◌*◌, ◌<◌, zero, suc}
use mathlib.Core.Bool.{true, Bool, false}
use mathlib.Core.List.{List, map, ◌∷◌, [], append-nil, ◌++◌}
use mathlib.Core.Path.{ap, ◌≡◌, refl, ◌∙◌, subst, sym}
use native.Mathlib.Omega.{arith}
use lib.Dec.{ltb, eqb}
use lib.ListN.{length, length-map, length-append}
use Rattle.rules.specs.Lists.{rises, all, keep}
use Rattle.rules.specs.Cube.{digits, of_digits, faces, twos}
use Rattle.rules.specs.Held.{AllOf}
use Rattle.rules.proofs.CubeDigits.{digits_step, digits_of}
use Rattle.rules.proofs.Extends.{Below}
use Rattle.rules.proofs.Growing.{map_append}
use Rattle.rules.proofs.Laws.{le_test, and_left, and_true, test_le, and_right}

-- an element's boundary, from its digits
unfoldable pub face_numbers : List ℕ → List ℕ
face_numbers ks = map of_digits (faces ks)

-- ---- a digit in front

-- the numbers with the digit k in front
abbrev pub front : ℕ → List ℕ → List ℕ
front k xs = map (λ v. k + 3 * v) xs

-- what the digit 2 in front of n becomes
abbrev pub pair : ℕ → List ℕ
pair n = (0 + 3 * n) ∷ (1 + 3 * n) ∷ []

map_front : (k : ℕ) (fs : List (List ℕ)) → map of_digits (map (λ f. k ∷ f) fs) ≡ front k (map of_digits fs)
map_front k [] = refl
map_front k (f ∷ fs) = ap (λ (l : List ℕ). (k + 3 * of_digits f) ∷ l) (map_front k fs)

-- a digit that is no 2 adds nothing
pub faces_low : (k : ℕ) (ks : List ℕ) → k < 2 → face_numbers (k ∷ ks) ≡ front k (face_numbers ks)
unfolding face_numbers
faces_low zero ks l = ap (map of_digits) (append-nil (map (λ f. 0 ∷ f) (faces ks))) ∙ map_front 0 (faces ks)
faces_low (suc zero) ks l = ap (map of_digits) (append-nil (map (λ f. 1 ∷ f) (faces ks))) ∙ map_front 1 (faces ks)
faces_low (suc (suc k)) ks l = absurd (omega arith)

pub faces_two : (ks : List ℕ) → face_numbers (2 ∷ ks) ≡ front 2 (face_numbers ks) ++ pair (of_digits ks)
unfolding face_numbers
faces_two ks =
    map_append of_digits (map (λ f. 2 ∷ f) (faces ks)) ((0 ∷ ks) ∷ (1 ∷ ks) ∷ [])
    ∙ ap (λ (l : List ℕ). l ++ pair (of_digits ks)) (map_front 2 (faces ks))

pub twos_low : (k : ℕ) (ks : List ℕ) → k < 2 → twos (k ∷ ks) ≡ twos ks
twos_low zero ks l = refl
twos_low (suc zero) ks l = refl
twos_low (suc (suc k)) ks l = absurd (omega arith)

-- what holds of digits and face numbers, by the digits
faces_induct : (P : List ℕ → List ℕ → Type 0) → P [] []
    → ((k : ℕ) (ks xs : List ℕ) → k < 2 → P ks xs → P (k ∷ ks) (front k xs))
    → ((ks xs : List ℕ) → Below 3 ks → P ks xs → P (2 ∷ ks) (front 2 xs ++ pair (of_digits ks)))
    → (ks : List ℕ) → Below 3 ks → P ks (face_numbers ks)
unfolding face_numbers
faces_induct P a b c [] l = a
faces_induct P a b c (zero ∷ ks) l =
    let s : zero < 2 = omega arith in
    subst (P (0 ∷ ks)) (sym (faces_low 0 ks s)) (b 0 ks (face_numbers ks) s (faces_induct P a b c ks l.1))
faces_induct P a b c (suc zero ∷ ks) l =
    let s : suc zero < 2 = omega arith in
    subst (P (1 ∷ ks)) (sym (faces_low 1 ks s)) (b 1 ks (face_numbers ks) s (faces_induct P a b c ks l.1))
faces_induct P a b c (suc (suc zero) ∷ ks) l = subst (P (2 ∷ ks)) (sym (faces_two ks)) (c ks (face_numbers ks) l.1 (faces_induct P a b c ks l.1))
faces_induct P a b c (suc (suc (suc k)) ∷ ks) l = absurd (omega arith)

-- ---- the facts

-- below the element, and of the rank below
pub record Face (ks : List ℕ) (x : ℕ) : Type 0 where
  pub under : x < of_digits ks
  pub rank : suc (twos (digits (length ks) x)) ≡ twos ks

-- the first two lie as far apart as the second and n: so they tell n
abbrev pub Tells : ℕ → List ℕ → Type 0
Tells n [] = Unit {0}
Tells n (x ∷ []) = ⊥
Tells n (x ∷ y ∷ ys) = n + x ≡ y + y

pub record Faces (ks xs : List ℕ) : Type 0 where
  pub count : length xs ≡ 2 * twos ks
  pub rising : rises xs ≡ true
  pub each : AllOf (Face ks) xs
  pub tells : Tells (of_digits ks) xs

all_front : (k x : ℕ) (xs : List ℕ) → all (ltb x) xs ≡ true → all (ltb (k + 3 * x)) (front k xs) ≡ true
all_front k x [] h = refl
all_front k x (y ∷ ys) h =
    let l = le_test (suc x) y (and_left (ltb x y) (all (ltb x) ys) h) in
    and_true (ltb (k + 3 * x) (k + 3 * y)) _ (test_le (suc (k + 3 * x)) (k + 3 * y) (omega arith)) (all_front k x ys (and_right (ltb x y) (all (ltb x) ys) h))

rises_front : (k : ℕ) (xs : List ℕ) → rises xs ≡ true → rises (front k xs) ≡ true
rises_front k [] h = refl
rises_front k (x ∷ xs) h =
    and_true _ _ (all_front k x xs (and_left (all (ltb x) xs) (rises xs) h)) (rises_front k xs (and_right (all (ltb x) xs) (rises xs) h))

-- the two numbers at the end are above the others
rises_two : (ks xs : List ℕ) → AllOf (Face ks) xs → rises xs ≡ true → rises (front 2 xs ++ pair (of_digits ks)) ≡ true
rises_two ks [] f h = and_true _ _ (and_true _ _ (test_le (suc (0 + 3 * of_digits ks)) (1 + 3 * of_digits ks) (omega arith)) refl) refl
rises_two ks (x ∷ xs) f h =
    let u = f.0.under in
    and_true _ _
    (both (front 2 xs) (all_front 2 x xs (and_left (all (ltb x) xs) (rises xs) h)) (omega arith) (omega arith))
    (rises_two ks xs f.1 (and_right (all (ltb x) xs) (rises xs) h))
  where
    both : (ys : List ℕ) → all (ltb (2 + 3 * x)) ys ≡ true → 2 + 3 * x < 0 + 3 * of_digits ks → 2 + 3 * x < 1 + 3 * of_digits ks
        → all (ltb (2 + 3 * x)) (ys ++ pair (of_digits ks)) ≡ true
    both [] g a b = and_true _ _ (test_le (suc (2 + 3 * x)) (0 + 3 * of_digits ks) a) (and_true _ _ (test_le (suc (2 + 3 * x)) (1 + 3 * of_digits ks) b) refl)
    both (y ∷ ys) g a b =
        let p : ℕ → Bool = ltb (2 + 3 * x) in
        and_true (p y) (all p (ys ++ pair (of_digits ks))) (and_left (p y) (all p ys) g) (both ys (and_right (p y) (all p ys) g) a b)

face_front : (k : ℕ) (ks : List ℕ) (x : ℕ) → k < 3 → Face ks x → Face (k ∷ ks) (k + 3 * x)
face_front k ks x l f = record {
  under = let u = f.under in omega arith;
  rank = ap (λ (js : List ℕ). suc (twos js)) (digits_step (length ks) k x l) ∙ go (eqb 2 k) f.rank;
}
  where
    go : (b : Bool) → suc (twos (digits (length ks) x)) ≡ twos ks
        → suc (length (if b then k ∷ keep (eqb 2) (digits (length ks) x) else keep (eqb 2) (digits (length ks) x)))
        ≡ length (if b then k ∷ keep (eqb 2) ks else keep (eqb 2) ks)
    go true e = ap suc e
    go false e = e

faces_front : (k : ℕ) (ks xs : List ℕ) → k < 3 → AllOf (Face ks) xs → AllOf (Face (k ∷ ks)) (front k xs)
faces_front k ks [] l f = tt
faces_front k ks (x ∷ xs) l f = (face_front k ks x l f.0, faces_front k ks xs l f.1)

-- a 2 in front becomes k
face_less : (k : ℕ) (ks : List ℕ) → k < 2 → Below 3 ks → Face (2 ∷ ks) (k + 3 * of_digits ks)
face_less k ks l b = record {
  under = omega arith;
  rank =
      ap (λ (js : List ℕ). suc (twos js)) (digits_step (length ks) k (of_digits ks) (omega arith))
      ∙ ap (λ (js : List ℕ). suc (twos (k ∷ js))) (digits_of ks b) ∙ ap suc (twos_low k ks l);
}

each_append : (P : ℕ → Type 0) (xs ys : List ℕ) → AllOf P xs → AllOf P ys → AllOf P (xs ++ ys)
each_append P [] ys f g = g
each_append P (x ∷ xs) ys f g = (f.0, each_append P xs ys f.1 g)

tells_front : (k n : ℕ) (xs : List ℕ) → Tells n xs → Tells (k + 3 * n) (front k xs)
tells_front k n [] t = tt
tells_front k n (x ∷ []) t = t
tells_front k n (x ∷ y ∷ ys) t = omega arith

tells_two : (n : ℕ) (xs : List ℕ) → Tells n xs → Tells (2 + 3 * n) (front 2 xs ++ pair n)
tells_two n [] t = omega arith
tells_two n (x ∷ []) t = absurd t
tells_two n (x ∷ y ∷ ys) t = omega arith

pub faces_known : (ks : List ℕ) → Below 3 ks → Faces ks (face_numbers ks)
faces_known = faces_induct Faces (record { count = refl; rising = refl; each = tt; tells = tt }) low two
  where
    low : (k : ℕ) (ks xs : List ℕ) → k < 2 → Faces ks xs → Faces (k ∷ ks) (front k xs)
    low k ks xs l f = record {
      count = length-map xs (λ v. k + 3 * v) ∙ f.count ∙ ap (λ (n : ℕ). 2 * n) (sym (twos_low k ks l));
      rising = rises_front k xs f.rising;
      each = faces_front k ks xs (omega arith) f.each;
      tells = tells_front k (of_digits ks) xs f.tells;
    }

    two : (ks xs : List ℕ) → Below 3 ks → Faces ks xs → Faces (2 ∷ ks) (front 2 xs ++ pair (of_digits ks))
    two ks xs b f = record {
      count =
          let c = f.count in
          let e = length-map xs (λ v. 2 + 3 * v) in
          length-append (front 2 xs) (pair (of_digits ks)) ∙ omega arith;
      rising = rises_two ks xs f.each f.rising;
      each = each_append (Face (2 ∷ ks)) (front 2 xs) (pair (of_digits ks))
          (faces_front 2 ks xs (omega arith) f.each) (face_less 0 ks (omega arith) b, (face_less 1 ks (omega arith) b, tt));
      tells = tells_two (of_digits ks) xs f.tells;
    }

-- a vertex has no boundary
pub no_faces : (ks : List ℕ) → Below 3 ks → twos ks ≡ 0 → face_numbers ks ≡ []
no_faces ks l e = go (face_numbers ks) (faces_known ks l).count
  where
    go : (xs : List ℕ) → length xs ≡ 2 * twos ks → xs ≡ []
    go [] h = refl
    go (x ∷ xs) h = absurd (omega arith)
