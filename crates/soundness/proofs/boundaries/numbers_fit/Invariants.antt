-- The numbers that are left fit, from the least that the next may be, exactly when all do, until one does not.
use Rattle.soundness.proofs.BoundaryFits.{left}
use Rattle.soundness.specs.Known.{known_rows}
use Rattle.soundness.specs.Words.{numbers_fit}
use Rattle.rules.specs.Limits.{desk}
use lib.ListN.{length}
use mathlib.Core.Path.{◌≡◌}
use Prim.Native.Nat.{ℕ, ◌-◌, ◌≤◌}
use mathlib.Core.List.{List}
use Rattle.soundness.proofs.boundaries.numbers_fit.Given as goal

-- from place i of a boundary on they fit exactly when all do
pub record SoFar (es b : List ℕ) (e rank low i : ℕ) : Type 0 where
  pub bound : i ≤ length b
  pub rest : numbers_fit desk es e rank b ≡ left es b e rank low i

abbrev pub invariant-loop-word : goal.invariant-loop-word
invariant-loop-word l = SoFar (known_rows l.earlier l.spacing) l.word-items l.e.0 l.rank l.low l.word-index

abbrev pub decreases-loop-word : goal.decreases-loop-word
decreases-loop-word l = l.word-index-end - l.word-index
