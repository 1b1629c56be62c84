-- Numbers as bytes, floats by their bits, and numbers in decimal: what files and the session program read and write. Definitions only.
use Rattle.std.specs.Prelude.{ℕ, zero, suc, ◌+◌, ◌*◌, ◌/◌, ◌%◌, Bool, List, [], ◌∷◌, ◌++◌, map, eqb, ltb, take, drop, Float, if◌then◌else◌}
use Rattle.std.specs.Float.{binary64}
use Rattle.std.specs.Float.Ieee.{of_bits, to_bits}
use Rattle.rules.specs.Lists.{all, joined}

-- what a list of bytes is
abbrev pub are_bytes : List ℕ → Bool
are_bytes bs = all (λ b. ltb b 256) bs

-- ---- read: the lowest byte first

abbrev pub little_endian : List ℕ → ℕ
little_endian [] = 0
little_endian (b ∷ bs) = b + 256 * little_endian bs

-- the number in the k bytes from an offset on
abbrev pub number_at : ℕ → ℕ → List ℕ → ℕ
number_at k at bs = little_endian (take k (drop at bs))

abbrev pub float_at : ℕ → List ℕ → Float
float_at at bs = of_bits binary64 (number_at 8 at bs)

-- n floats one after another
abbrev pub floats_at : ℕ → ℕ → List ℕ → List Float
floats_at zero at bs = []
floats_at (suc n) at bs = float_at at bs ∷ floats_at n (8 + at) bs

-- ---- written: the lowest byte first

-- a number in k bytes
abbrev pub bytes_of : ℕ → ℕ → List ℕ
bytes_of zero n = []
bytes_of (suc k) n = n % 256 ∷ bytes_of k (n / 256)

-- numbers of k bytes each
abbrev pub number_bytes : ℕ → List ℕ → List ℕ
number_bytes k ns = joined (map (bytes_of k) ns)

-- a float's 8 bytes; it is asked of no NaN, whose bits are open
abbrev pub float_byte8 : Float → List ℕ
float_byte8 x = bytes_of 8 (to_bits binary64 x)

abbrev pub float_bytes : List Float → List ℕ
float_bytes xs = joined (map float_byte8 xs)

-- ---- written in decimal

-- a number's digits, the lowest first; at most n of them
abbrev pub low_digits : ℕ → ℕ → List ℕ
low_digits zero k = []
low_digits (suc n) k = let rest = low_digits n (k / 10) in (48 + k % 10) ∷ (if eqb (k / 10) 0 then [] else rest)

-- the highest first
abbrev pub backwards : List ℕ → List ℕ
backwards [] = []
backwards (x ∷ xs) = backwards xs ++ x ∷ []

-- a number in decimal has no more digits than its size, and one for 0
unfoldable pub decimal : ℕ → List ℕ
decimal k = backwards (low_digits (suc k) k)
