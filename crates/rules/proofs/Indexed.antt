-- Lists by index, for loops that go over them: what is left from i on is the entry at i, and what is left from i + 1 on.
-- A loop's invariant says that what is asked of the whole list is asked of what is left.
use Rattle.std.specs.Prelude.{if◌then◌else◌, Option, Some, None}
use Prim.Native.Nat.{ℕ, zero, suc, ◌+◌, ◌-◌, ◌*◌, ◌≤◌, ◌<◌}
use mathlib.Core.Path.{◌≡◌, refl, sym, ap, ap₂, ◌∙◌}
use mathlib.Core.Bool.{Bool, true, false, ◌&&◌}
use mathlib.Core.List.{List, [], ◌∷◌, map}
use native.Mathlib.Nat.{le_trans, le_of_eq, zero-mul, suc-mul}
use native.Mathlib.Numerals.{add-one}
use native.Mathlib.Omega.{arith}
use lib.ListN.{length, get_or, take, drop, drop_of_length-le}
use lib.Seq.{drop-cons, drop-drop, get_or-take, length-take-le}
use Rattle.rules.specs.Lists.{all, find_from, alike, rows}
use Rattle.rules.proofs.Laws.{if_true, if_false}

-- ---- a test of every entry

module _ {A : Type 0} (p : A → Bool) (z : A) (l : List A) where
  all_on : (i : ℕ) → i < length l → all p (drop i l) ≡ (p (get_or l i z) && all p (drop (i + 1) l))
  all_on i h = ap (all p) (drop-cons l i z h) ∙ ap (λ (k : ℕ). p (get_or l i z) && all p (drop k l)) (sym (add-one i))

  pub all_go : {b : Bool} (i : ℕ) → b ≡ all p (drop i l) → i < length l → p (get_or l i z) ≡ true → b ≡ all p (drop (i + 1) l)
  all_go i e h q = e ∙ all_on i h ∙ ap (λ (c : Bool). c && all p (drop (i + 1) l)) q

  pub all_no : {b : Bool} (i : ℕ) → b ≡ all p (drop i l) → i < length l → p (get_or l i z) ≡ false → false ≡ b
  all_no i e h q = sym (e ∙ all_on i h ∙ ap (λ (c : Bool). c && all p (drop (i + 1) l)) q)

  pub all_end : {b : Bool} (i : ℕ) → b ≡ all p (drop i l) → length l ≤ i → true ≡ b
  all_end i e h = sym (e ∙ ap (all p) (drop_of_length-le l h))

-- the same of the first n entries
module _ {A : Type 0} (p : A → Bool) (z : A) (n : ℕ) (l : List A) (fit : n ≤ length l) where
  within_front : (i : ℕ) → i < n → i < length (take n l)
  within_front i h = le_trans h (le_of_eq (sym (length-take-le n l fit)))

  pub all_front_go : {b : Bool} (i : ℕ) → b ≡ all p (drop i (take n l)) → i < n → p (get_or l i z) ≡ true → b ≡ all p (drop (i + 1) (take n l))
  all_front_go i e h q = all_go p z (take n l) i e (within_front i h) (ap p (get_or-take n l i z h) ∙ q)

  pub all_front_no : {b : Bool} (i : ℕ) → b ≡ all p (drop i (take n l)) → i < n → p (get_or l i z) ≡ false → false ≡ b
  all_front_no i e h q = all_no p z (take n l) i e (within_front i h) (ap p (get_or-take n l i z h) ∙ q)

  pub all_front_end : {b : Bool} (i : ℕ) → b ≡ all p (drop i (take n l)) → n ≤ i → true ≡ b
  all_front_end i e h = all_end p z (take n l) i e (le_trans (le_of_eq (length-take-le n l fit)) h)

-- ---- a comparison of two lists, entry by entry

module _ {A : Type 0} (p : A → A → Bool) (z : A) (xs ys : List A) where
  alike_on : (i : ℕ) → i < length xs → i < length ys
      → alike p (drop i xs) (drop i ys) ≡ (p (get_or xs i z) (get_or ys i z) && alike p (drop (i + 1) xs) (drop (i + 1) ys))
  alike_on i h k =
      ap₂ (alike p) (drop-cons xs i z h) (drop-cons ys i z k)
      ∙ ap (λ (n : ℕ). p (get_or xs i z) (get_or ys i z) && alike p (drop n xs) (drop n ys)) (sym (add-one i))

  pub alike_go : {b : Bool} (i : ℕ) → b ≡ alike p (drop i xs) (drop i ys) → i < length xs → i < length ys
      → p (get_or xs i z) (get_or ys i z) ≡ true → b ≡ alike p (drop (i + 1) xs) (drop (i + 1) ys)
  alike_go i e h k q = e ∙ alike_on i h k ∙ ap (λ (c : Bool). c && alike p (drop (i + 1) xs) (drop (i + 1) ys)) q

  pub alike_no : {b : Bool} (i : ℕ) → b ≡ alike p (drop i xs) (drop i ys) → i < length xs → i < length ys
      → p (get_or xs i z) (get_or ys i z) ≡ false → false ≡ b
  alike_no i e h k q = sym (e ∙ alike_on i h k ∙ ap (λ (c : Bool). c && alike p (drop (i + 1) xs) (drop (i + 1) ys)) q)

  pub alike_end : {b : Bool} (i : ℕ) → b ≡ alike p (drop i xs) (drop i ys) → length xs ≤ i → length ys ≤ i → true ≡ b
  alike_end i e h k = sym (e ∙ ap₂ (alike p) (drop_of_length-le xs h) (drop_of_length-le ys k))

-- the same of the first n entries
module _ {A : Type 0} (p : A → A → Bool) (z : A) (n : ℕ) (xs ys : List A) (fx : n ≤ length xs) (fy : n ≤ length ys) where
  in_front : (l : List A) → n ≤ length l → (i : ℕ) → i < n → i < length (take n l)
  in_front l f i h = le_trans h (le_of_eq (sym (length-take-le n l f)))

  same_at : (i : ℕ) → i < n → p (get_or (take n xs) i z) (get_or (take n ys) i z) ≡ p (get_or xs i z) (get_or ys i z)
  same_at i h = ap₂ p (get_or-take n xs i z h) (get_or-take n ys i z h)

  pub alike_front_go : {b : Bool} (i : ℕ) → b ≡ alike p (drop i (take n xs)) (drop i (take n ys)) → i < n
      → p (get_or xs i z) (get_or ys i z) ≡ true → b ≡ alike p (drop (i + 1) (take n xs)) (drop (i + 1) (take n ys))
  alike_front_go i e h q = alike_go p z (take n xs) (take n ys) i e (in_front xs fx i h) (in_front ys fy i h) (same_at i h ∙ q)

  pub alike_front_no : {b : Bool} (i : ℕ) → b ≡ alike p (drop i (take n xs)) (drop i (take n ys)) → i < n
      → p (get_or xs i z) (get_or ys i z) ≡ false → false ≡ b
  alike_front_no i e h q = alike_no p z (take n xs) (take n ys) i e (in_front xs fx i h) (in_front ys fy i h) (same_at i h ∙ q)

  pub alike_front_end : {b : Bool} (i : ℕ) → b ≡ alike p (drop i (take n xs)) (drop i (take n ys)) → n ≤ i → true ≡ b
  alike_front_end i e h =
      alike_end p z (take n xs) (take n ys) i e (le_trans (le_of_eq (length-take-le n xs fx)) h) (le_trans (le_of_eq (length-take-le n ys fy)) h)

-- ---- rows

module _ {A : Type 0} (w : ℕ) where
  past : (i : ℕ) (l : List A) → drop w (drop (i * w) l) ≡ drop ((i + 1) * w) l
  past i l =
      drop-drop w (i * w) l
      ∙ ap (λ (k : ℕ). drop k l) (let e = suc-mul i w in let f = ap (λ (k : ℕ). k * w) (add-one i) in let q : i * w + w ≡ (i + 1) * w = omega (arith, e, f) in q)

  -- the rows from i on
  pub rows_from_lem : (i n : ℕ) (l : List A) → drop i (rows n w l) ≡ rows (n - i) w (drop (i * w) l)
  rows_from_lem zero n l =
      ap₂ (λ (m k : ℕ). rows m w (drop k l)) (let q : n ≡ n - 0 = omega arith in q) (sym (zero-mul w))
  rows_from_lem (suc i) zero l = ap (λ (m : ℕ). rows m w (drop (suc i * w) l)) (let q : 0 ≡ 0 - suc i = omega arith in q)
  rows_from_lem (suc i) (suc n) l =
      rows_from_lem i n (drop w l)
      ∙ ap₂ (λ (m : ℕ) (k : List A). rows m w k) (let q : n - i ≡ suc n - suc i = omega arith in q)
      (drop-drop (i * w) w l ∙ ap (λ (k : ℕ). drop k l) (let e = suc-mul i w in let q : w + i * w ≡ suc i * w = omega (arith, e) in q))

  pub rows_on : (i n : ℕ) (l : List A) → i < n → rows (n - i) w (drop (i * w) l) ≡ take w (drop (i * w) l) ∷ rows (n - (i + 1)) w (drop ((i + 1) * w) l)
  rows_on i n l h =
      ap (λ (m : ℕ). rows m w (drop (i * w) l)) (let q : n - i ≡ suc (n - (i + 1)) = omega arith in q)
      ∙ ap (λ (k : List A). take w (drop (i * w) l) ∷ rows (n - (i + 1)) w k) (past i l)

-- ---- a search over what g makes of n rows of a list

module _ {A B : Type 0} (g : List A → B) (p : B → Bool) (w n : ℕ) (l : List A) where
  -- what a search from row i on gives
  unfoldable pub sought_from : ℕ → Option ℕ
  sought_from i = find_from i p (map g (rows (n - i) w (drop (i * w) l)))

  pub sought_start : (i : ℕ) → find_from i p (drop i (map g (rows n w l))) ≡ sought_from i
  unfolding sought_from
  sought_start i = ap (find_from i p) (drop_map i (rows n w l) ∙ ap (map g) (rows_from_lem w i n l))
    where
      drop_map : (k : ℕ) (xs : List (List A)) → drop k (map g xs) ≡ map g (drop k xs)
      drop_map zero xs = refl
      drop_map (suc k) [] = refl
      drop_map (suc k) (x ∷ xs) = drop_map k xs

  sought_at : (i : ℕ) → i < n → sought_from i ≡ (if p (g (take w (drop (i * w) l))) then Some i else sought_from (i + 1))
  unfolding sought_from
  sought_at i h =
      ap (λ (rs : List (List A)). find_from i p (map g rs)) (rows_on w i n l h)
      ∙ ap (λ (k : ℕ). if p (g (take w (drop (i * w) l))) then Some i else find_from k p (map g (rows (n - (i + 1)) w (drop ((i + 1) * w) l)))) (sym (add-one i))

  pub sought_on : {o : Option ℕ} (i : ℕ) → i < n → o ≡ sought_from i → p (g (take w (drop (i * w) l))) ≡ false → o ≡ sought_from (i + 1)
  sought_on i h e q = e ∙ sought_at i h ∙ if_false (p (g (take w (drop (i * w) l)))) (Some i) (sought_from (i + 1)) q

  pub sought_here : {o : Option ℕ} (i : ℕ) → i < n → o ≡ sought_from i → p (g (take w (drop (i * w) l))) ≡ true → Some i ≡ o
  sought_here i h e q = sym (e ∙ sought_at i h ∙ if_true (p (g (take w (drop (i * w) l)))) (Some i) (sought_from (i + 1)) q)

  pub sought_none : {o : Option ℕ} (i : ℕ) → n ≤ i → o ≡ sought_from i → None ≡ o
  unfolding sought_from
  sought_none i h e = sym (e ∙ ap (λ (m : ℕ). find_from i p (map g (rows m w (drop (i * w) l)))) (let q : n - i ≡ 0 = omega arith in q))
