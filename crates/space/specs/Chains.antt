-- Chains of rows with one key: the index leads from a key to the last row that has it, and from a row to the one before it. Definitions only.
use Rattle.std.specs.Prelude.{ℕ, zero, suc, ◌+◌, ◌*◌, ◌-◌, ◌%◌, ◌≤◌, ◌<◌, List, ◌≡◌, length, get_or, take, drop, set, Option, Some, None}
use Rattle.rules.specs.Limits.{desk}
use Rattle.space.specs.Numbers.{row_width}

-- how many keys there are, and how far a first number is spread over them
abbrev pub keys : ℕ
keys = 512

-- the words of the index: a chain's start for each key, and a link for each row
abbrev pub index_words : ℕ
index_words = keys + desk.elements

abbrev pub spread : ℕ
spread = 91

-- the row of element j, as the memory has it
abbrev pub stored_row : List ℕ → ℕ → List ℕ
stored_row es j = take row_width (drop (j * row_width) es)

-- a row's first two boundary numbers, mixed: equal rows have equal keys, and other rows seldom do
unfoldable pub key_of : List ℕ → ℕ
key_of row = (get_or row 4 0 * spread + get_or row 5 0) % keys

-- the row that a number of the index names: one less than it, or none
abbrev pub number_of : ℕ → Option ℕ
number_of zero = None
number_of (suc i) = Some i

-- x names the last of the first m rows with key k, or none where none of them has it
pub record Last (es : List ℕ) (m k x : ℕ) : Type 0 where
  pub there : 0 < x → (x ≤ m) × (key_of (stored_row es (x - 1)) ≡ k)
  pub over : (j : ℕ) → j < m → key_of (stored_row es j) ≡ k → j < x

-- the index of the first n rows
pub record Indexed (es : List ℕ) (n : ℕ) (ix : List ℕ) : Type 0 where
  pub long : length ix ≡ index_words
  pub starts : (k : ℕ) → k < keys → Last es n k (get_or ix k 0)
  pub links : (j : ℕ) → j < n → Last es j (key_of (stored_row es j)) (get_or ix (keys + j) 0)

-- the index with row n as the start of the chain of key k
abbrev pub new_start : List ℕ → ℕ → ℕ → List ℕ
new_start ix k n = set (set ix (keys + n) (get_or ix k 0)) k (n + 1)
