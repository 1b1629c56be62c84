-- The invariant: the four head words and the boundary so far, filled up with zeros.
use Prim.Native.Nat.{ℕ, ◌-◌, ◌≤◌}
use mathlib.Core.List.{List}
use mathlib.Core.Path.{◌≡◌}
use Rattle.rules.specs.Lists.{pad}
use Rattle.space.specs.Numbers.{row_width}
use Rattle.files.specs.Entries.{count_at, row_front}
use Rattle.files.proofs.entries.row_at.Given as goal

pub record Filled (bytes : List ℕ) (at n : ℕ) (row : List ℕ) (j : ℕ) : Type 0 where
  pub most : j ≤ n
  pub count : n ≡ count_at at bytes
  pub words : row ≡ pad 0 row_width (row_front j at bytes)

abbrev pub invariant-loop-j : goal.invariant-loop-j
invariant-loop-j l = Filled l.bytes l.at l.n l.row l.j

abbrev pub decreases-loop-j : goal.decreases-loop-j
decreases-loop-j l = l.n - l.j
