-- Primordial facets, as the lent memory has them. Definitions only.
use Rattle.std.specs.Prelude.{ℕ, ◌+◌, ◌*◌, Bool, List, eqb, get_or}

-- element b's row has the primordial mark
abbrev pub row_primordial : List ℕ → ℕ → Bool
row_primordial es b = eqb (get_or es (b * 36 + 1) 0) 1
