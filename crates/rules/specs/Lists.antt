-- Tests, searches and sets over lists; a set of numbers is a list that rises strictly. Definitions only.
-- A recursive call stands in a `let` where a test may do without it: antt computes an argument before the call.
use Rattle.std.specs.Prelude.{ℕ, zero, suc, ◌-◌, Bool, true, false, not, ◌&&◌, ◌||◌, List, [], ◌∷◌, ◌++◌, ltb, eqb, length, take, drop, replicate, if◌then◌else◌, Option, Some, None}

module _ {A : Type 0} where
  -- p holds of every entry
  abbrev pub all : (A → Bool) → List A → Bool
  all p [] = true
  all p (x ∷ xs) = p x && all p xs

  -- p holds of some entry
  abbrev pub any : (A → Bool) → List A → Bool
  any p [] = false
  any p (x ∷ xs) = p x || any p xs

  -- the entries of which p holds
  abbrev pub keep : (A → Bool) → List A → List A
  keep p [] = []
  keep p (x ∷ xs) = let r = keep p xs in if p x then x ∷ r else r

  -- p holds of every number and the entry that stands there, numbers starting at n
  abbrev pub all_from : ℕ → (ℕ → A → Bool) → List A → Bool
  all_from n p [] = true
  all_from n p (x ∷ xs) = p n x && all_from (suc n) p xs

  -- the lowest number, counted from n, of an entry of which p holds
  abbrev pub find_from : ℕ → (A → Bool) → List A → Option ℕ
  find_from n p [] = None
  find_from n p (x ∷ xs) = let r = find_from (suc n) p xs in if p x then Some n else r

  abbrev pub find : (A → Bool) → List A → Option ℕ
  find p xs = find_from 0 p xs

  -- the entries agree, by a test of two
  abbrev pub alike : (A → A → Bool) → List A → List A → Bool
  alike p [] [] = true
  alike p [] (y ∷ ys) = false
  alike p (x ∷ xs) [] = false
  alike p (x ∷ xs) (y ∷ ys) = p x y && alike p xs ys

  -- no two entries agree: no later one with an earlier
  abbrev pub distinct : (A → A → Bool) → List A → Bool
  distinct p [] = true
  distinct p (x ∷ xs) = not (any (λ y. p y x) xs) && distinct p xs

  -- filled up to n entries with z
  abbrev pub pad : A → ℕ → List A → List A
  pad z n xs = xs ++ replicate (n - length xs) z

  -- the lists one after another
  abbrev pub joined : List (List A) → List A
  joined [] = []
  joined (x ∷ xs) = x ++ joined xs

  -- the first n rows of w entries each
  abbrev pub rows : ℕ → ℕ → List A → List (List A)
  rows zero w xs = []
  rows (suc n) w xs = take w xs ∷ rows n w (drop w xs)

-- ---- numbers

-- n numbers from k up
abbrev pub up_from : ℕ → ℕ → List ℕ
up_from k zero = []
up_from k (suc n) = k ∷ up_from (suc k) n

-- the numbers below n
abbrev pub up_to : ℕ → List ℕ
up_to n = up_from 0 n

abbrev pub member : ℕ → List ℕ → Bool
member x xs = any (eqb x) xs

-- how often x stands in a list
abbrev pub occurrences : ℕ → List ℕ → ℕ
occurrences x xs = length (keep (eqb x) xs)

-- the set with x in it
abbrev pub with_member : ℕ → List ℕ → List ℕ
with_member x [] = x ∷ []
with_member x (y ∷ ys) = let r = with_member x ys in if ltb x y then x ∷ y ∷ ys else if eqb x y then y ∷ ys else (y ∷ r)

-- each number is above the one before
abbrev pub rises : List ℕ → Bool
rises [] = true
rises (x ∷ xs) = all (ltb x) xs && rises xs
