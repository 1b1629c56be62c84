-- What restoring gives: the old counts, zeros from the old entries' end to the end of those in use, and so the memory of the table that the present one goes on from.
-- Definitions only.
use Rattle.std.specs.Prelude.{ℕ, ◌*◌, ◌-◌, ◌≡◌, List, length, get_or, set, replicate, Float}
use Rattle.std.proofs.lemmas.List.Edits.{sets}
use Rattle.rules.specs.Limits.{desk}
use Rattle.rules.specs.Floats.{plus_zero}
use Rattle.rules.specs.Memory.{plane_width}
use Rattle.rules.specs.Table.{Table, element_count}
use Rattle.rules.specs.Held.{Extends, Holds}
use Rattle.space.specs.Numbers.{row_width}

-- zeros over the rows of width w from number k up to number n
abbrev pub zeros_from : {A : Type 0} → A → ℕ → List A → ℕ → ℕ → List A
zeros_from z w xs k n = sets xs (k * w) (replicate (n * w - k * w) z)

-- `of`: whatever table the memory holds, and whatever table it goes on from, whose counts are e, v and h
pub record Restored (cs : List ℕ) (ps hs : List Float) (es : List ℕ) (e v h : ℕ) (cs' : List ℕ) (ps' hs' : List Float) (es' : List ℕ) : Type 0 where
  pub counts : cs' ≡ set (set (set cs 1 e) 2 v) 3 h
  pub points : ps' ≡ zeros_from plus_zero desk.dimensions ps v (get_or cs 2 0)
  pub planes : hs' ≡ zeros_from plus_zero (plane_width desk) hs h (get_or cs 3 0)
  pub elements : es' ≡ zeros_from 0 row_width es e (get_or cs 1 0)
  pub of : (t u : Table) → Extends t u → Holds desk cs ps hs es u → e ≡ element_count t → v ≡ length t.points → h ≡ length t.planes → Holds desk cs' ps' hs' es' t
