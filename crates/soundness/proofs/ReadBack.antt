-- Rows read and written again are the same memory exactly when each row is, and the room past them is blank.
use Prim.Native.Nat.{◌-◌, zero, ◌≤◌, ◌+◌, suc, ℕ, ◌*◌}
use mathlib.Core.Bool.{Bool, ◌&&◌, true, false}
use mathlib.Core.List.{List, ◌++◌, [], ◌∷◌, map, append_assoc}
use mathlib.Core.Path.{◌≡◌, refl, ap, sym, ◌∙◌, ap₂}
use native.Mathlib.Nat.{not-suc-le-zero, le_of_suc-le-suc, le_trans, le_of_eq, zero-mul, suc-mul, min-le_left, min-le_right}
use native.Mathlib.Omega.{arith}
use lib.ListN.{length, take, drop, replicate, length-take, length-drop, length-append}
use lib.Seq.{length-take-le, drop-drop}
use Rattle.rules.specs.Held.{Wide}
use Rattle.rules.specs.Lists.{alike, all, pad, joined, rows}

pub and_assoc : (a b c : Bool) → (a && (b && c)) ≡ (a && b && c)
and_assoc true b c = refl
and_assoc false b c = refl

pub and_one : (a : Bool) → (a && true) ≡ a
and_one true = refl
and_one false = refl

pub and_zero : (a : Bool) → (a && false) ≡ false
and_zero true = refl
and_zero false = refl

-- a part from the front is no longer than the list, and no longer than it was asked to be
module _ {A : Type 0} (n : ℕ) (l : List A) where
  pub take_short : length (take n l) ≤ length l
  take_short = le_trans (le_of_eq (length-take n l)) (min-le_right n (length l))

  pub take_few : length (take n l) ≤ n
  take_few = le_trans (le_of_eq (length-take n l)) (min-le_left n (length l))

module _ {A : Type 0} (p : A → A → Bool) where
  pub alike_split : (xs ys zs : List A) → length xs ≤ length zs → alike p (xs ++ ys) zs ≡ (alike p xs (take (length xs) zs) && alike p ys (drop (length xs) zs))
  alike_split [] ys zs h = refl
  alike_split (x ∷ xs) ys [] h = absurd (not-suc-le-zero h)
  alike_split (x ∷ xs) ys (z ∷ zs) h = ap (λ (b : Bool). p x z && b) (alike_split xs ys zs (le_of_suc-le-suc h)) ∙ and_assoc (p x z) _ _

  pub alike_fill : (z : A) (n : ℕ) (zs : List A) → length zs ≡ n → alike p (replicate n z) zs ≡ all (p z) zs
  alike_fill z zero [] h = refl
  alike_fill z zero (x ∷ xs) h = absurd (let q : ⊥ = omega (arith, h) in q)
  alike_fill z (suc n) [] h = absurd (let q : ⊥ = omega (arith, h) in q)
  alike_fill z (suc n) (x ∷ xs) h = ap (λ (b : Bool). p z x && b) (alike_fill z n xs (let q : length xs ≡ n = omega (arith, h) in q))

  -- a front that is the list's own
  pub alike_front : ((x : A) → p x x ≡ true) → (z : A) (w d : ℕ) (r : List A) → length r ≡ w → d ≤ w → alike p (pad z w (take d r)) r ≡ all (p z) (drop d r)
  alike_front s z w d r e l =
      let k = length-take-le d r (le_trans l (le_of_eq (sym e))) in
      let g = length-drop d r in
      alike_split (take d r) (replicate (w - length (take d r)) z) r (let q : length (take d r) ≤ length r = omega (arith, k, e, l) in q)
      ∙ ap (λ (n : ℕ). alike p (take d r) (take n r) && alike p (replicate (w - n) z) (drop n r)) k
      ∙ ap (λ (b : Bool). b && alike p (replicate (w - d) z) (drop d r)) (self (take d r))
      ∙ alike_fill z (w - d) (drop d r) (let q : length (drop d r) ≡ w - d = omega (arith, g, e) in q)
    where
      self : (xs : List A) → alike p xs xs ≡ true
      self [] = refl
      self (x ∷ xs) = ap₂ (λ (a b : Bool). a && b) (s x) (self xs)

  pub laid_alike : (f : List A → List A) (z : A) (w : ℕ) → ((r : List A) → length r ≡ w → length (f r) ≡ w) → (v room : ℕ) (l : List A) → v ≤ room → length l ≡ room * w
      → alike p (pad z (room * w) (joined (map f (rows v w l)))) l ≡ (all (λ (r : List A). alike p (f r) r) (rows v w l) && all (p z) (drop (v * w) l))
  laid_alike f z w long zero room l h e =
      alike_fill z (room * w - 0) l (let q : length l ≡ room * w - 0 = omega (arith, e) in q)
      ∙ ap (λ (k : ℕ). all (p z) (drop k l)) (sym (zero-mul w))
  laid_alike f z w long (suc v) zero l h e = absurd (not-suc-le-zero h)
  laid_alike f z w long (suc v) (suc room) l h e =
      let m = suc-mul room w in
      let m' = suc-mul v w in
      let r = take w l in
      let lr : length r ≡ w = length-take-le w l (let q : w ≤ length l = omega (arith, e, m) in q) in
      let lf = long r lr in
      let C = joined (map f (rows v w (drop w l))) in
      let lc = length-append (f r) C in
      let ld = length-drop w l in
      let rest = replicate (room * w - length C) z in
      let same : pad z (suc room * w) (f r ++ C) ≡ f r ++ (C ++ rest) =
      ap (λ (n : ℕ). (f r ++ C) ++ replicate n z) (let q : suc room * w - length (f r ++ C) ≡ room * w - length C = omega (arith, lc, lf, m) in q)
      ∙ append_assoc (f r) C rest in
      ap (λ (k : List A). alike p k l) same
      ∙ alike_split (f r) (C ++ rest) l (let q : length (f r) ≤ length l = omega (arith, lf, e, m) in q)
      ∙ ap (λ (n : ℕ). alike p (f r) (take n l) && alike p (C ++ rest) (drop n l)) lf
      ∙ ap (λ (b : Bool). alike p (f r) r && b) (laid_alike f z w long v room (drop w l) (le_of_suc-le-suc h) (let q : length (drop w l) ≡ room * w = omega (arith, ld, e, m) in q))
      ∙ and_assoc (alike p (f r) r) (all (λ (y : List A). alike p (f y) y) (rows v w (drop w l))) (all (p z) (drop (v * w) (drop w l)))
      ∙ ap (λ (k : List A). (alike p (f r) r && all (λ (y : List A). alike p (f y) y) (rows v w (drop w l))) && all (p z) k) (drop-drop (v * w) w l ∙ ap (λ (n : ℕ). drop n l) (let q : w + v * w ≡ suc v * w = omega (arith, m') in q))

module _ {A : Type 0} where
  pub rows_length : (n w : ℕ) (l : List A) → length (rows n w l) ≡ n
  rows_length zero w l = refl
  rows_length (suc n) w l = ap suc (rows_length n w (drop w l))

  pub rows_wide : (w v room : ℕ) (l : List A) → v ≤ room → length l ≡ room * w → Wide w (rows v w l)
  rows_wide w zero room l h e = tt
  rows_wide w (suc v) zero l h e = absurd (not-suc-le-zero h)
  rows_wide w (suc v) (suc room) l h e =
      let m = suc-mul room w in
      let ld = length-drop w l in
      (length-take-le w l (let q : w ≤ length l = omega (arith, e, m) in q), rows_wide w v room (drop w l) (le_of_suc-le-suc h) (let q : length (drop w l) ≡ room * w = omega (arith, ld, e, m) in q))

  -- two tests that agree on rows of a width
  pub all_same : (w : ℕ) (p q : List A → Bool) → ((r : List A) → length r ≡ w → p r ≡ q r) → (rs : List (List A)) → Wide w rs → all p rs ≡ all q rs
  all_same w p q h [] k = refl
  all_same w p q h (r ∷ rs) k = ap₂ (λ (a b : Bool). a && b) (h r k.0) (all_same w p q h rs k.1)

  pub all_and : (p q : List A → Bool) (rs : List (List A)) → (all p rs && all q rs) ≡ all (λ r. p r && q r) rs
  all_and p q [] = refl
  all_and p q (r ∷ rs) = shuffle (p r) (all p rs) (q r) (all q rs) ∙ ap (λ (b : Bool). (p r && q r) && b) (all_and p q rs)
    where
      shuffle : (a b c d : Bool) → ((a && b) && (c && d)) ≡ ((a && c) && (b && d))
      shuffle true true c d = refl
      shuffle true false true d = refl
      shuffle true false false d = refl
      shuffle false b c d = refl

module _ {A B : Type 0} where
  pub all_map : (p : B → Bool) (f : A → B) (xs : List A) → all p (map f xs) ≡ all (λ x. p (f x)) xs
  all_map p f [] = refl
  all_map p f (x ∷ xs) = ap (λ (b : Bool). p (f x) && b) (all_map p f xs)

pub map_map : {A B C : Type 0} (f : B → C) (g : A → B) (xs : List A) → map f (map g xs) ≡ map (λ x. f (g x)) xs
map_map f g [] = refl
map_map {C = C} f g (x ∷ xs) = ap (λ (l : List C). f (g x) ∷ l) (map_map f g xs)
