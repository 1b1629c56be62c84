-- A set of numbers below 512 as eight words of 64 marks. Definitions only.
use Rattle.std.specs.Prelude.{ℕ, zero, suc, ◌+◌, ◌*◌, ◌/◌, ◌%◌, ◌^◌, ◌<◌, ◌≤◌, Bool, true, false, ◌&&◌, ◌≡◌, List, [], ◌∷◌, ◌++◌, eqb, length, get_or, set}
use Rattle.std.specs.Int.Bits.{bit_or}
use Rattle.std.specs.Int.Count.{count_leading_zeros, count_trailing_zeros}
use Rattle.std.proofs.lemmas.List.Edits.{sets}

-- the digit of w at b
abbrev pub bit : ℕ → ℕ → ℕ
bit w b = w / 2 ^ b % 2

-- whether x is in the set
unfoldable pub is_marked : List ℕ → ℕ → Bool
is_marked ws x = eqb (bit (get_or ws (x / 64) 0) (x % 64)) 1

-- the set with x in it
unfoldable pub marking : List ℕ → ℕ → List ℕ
marking ws x = set ws (x / 64) (bit_or (get_or ws (x / 64) 0) (2 ^ (x % 64)))

-- the set with every number of a list in it
unfoldable pub marking_all : List ℕ → List ℕ → List ℕ
marking_all ws [] = ws
marking_all ws (x ∷ xs) = marking_all (marking ws x) xs

-- nothing is in the set
pub record NoneMarked (ws : List ℕ) : Type 0 where
  pub of : (x : ℕ) → is_marked ws x ≡ false

-- exactly what is in both sets
pub record Both (a b out : List ℕ) : Type 0 where
  pub of : (x : ℕ) → is_marked out x ≡ (is_marked a x && is_marked b x)

-- from i down to r: the highest number of the set from i down within i's word, or the word's first number where there is none
pub record DownTo (ws : List ℕ) (i r : ℕ) : Type 0 where
  pub low : r ≤ i
  pub within : i / 64 * 64 ≤ r
  pub none : (x : ℕ) → r < x → x ≤ i → is_marked ws x ≡ false
  pub stops : i / 64 * 64 < r → is_marked ws r ≡ true

-- ---- the numbers of a set, rising

-- x in front of a list where the digit is 1
abbrev pub put : ℕ → ℕ → List ℕ → List ℕ
put zero x xs = xs
put (suc d) x xs = x ∷ xs

-- the numbers base + b of the digits b that are 1 among the k lowest of w
unfoldable pub bits_from : ℕ → ℕ → ℕ → List ℕ
bits_from zero w base = []
bits_from (suc k) w base = put (w % 2) base (bits_from k (w / 2) (base + 1))

-- those of n words, the first of them word j
unfoldable pub words_from : ℕ → ℕ → List ℕ → List ℕ
words_from zero j ws = []
words_from (suc n) j ws = bits_from 64 (get_or ws j 0) (j * 64) ++ words_from n (j + 1) ws

-- those of all eight
unfoldable pub marked_numbers : List ℕ → List ℕ
marked_numbers ws = words_from 8 0 ws

-- how many numbers a word has, wherever it stands
pub record CountOf (w n : ℕ) : Type 0 where
  pub of : (base : ℕ) → n ≡ length (bits_from 64 w base)
  pub most : n ≤ 64

-- how many zeros a word has below its lowest digit that is 1, and above its highest
pub record ZerosBelow (w r : ℕ) : Type 0 where
  pub zeros : r ≡ count_trailing_zeros 64 w
  pub most : r ≤ 64

pub record ZerosAbove (w r : ℕ) : Type 0 where
  pub zeros : r ≡ count_leading_zeros 64 w
  pub most : r ≤ 64

-- ---- a word's numbers in a list

-- from a place on there is room for them
pub record WordFits (list : List ℕ) (from word base : ℕ) : Type 0 where
  pub low : base ≤ 448
  pub room : from + length (bits_from 64 word base) ≤ length list

-- they stand there, and r is the place behind them
pub record WordListed (list : List ℕ) (from word base r : ℕ) (list' : List ℕ) : Type 0 where
  pub next : r ≡ from + length (bits_from 64 word base)
  pub written : list' ≡ sets list from (bits_from 64 word base)
