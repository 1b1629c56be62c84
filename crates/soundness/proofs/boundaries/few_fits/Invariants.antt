-- The numbers that are left fit exactly when all do, until one does not; the ends of those before are met.
use Prim.Native.Nat.{ℕ, ◌-◌}
use mathlib.Core.List.{List}
use Rattle.space.proofs.EndsCounted.{Round}
use Rattle.soundness.specs.Known.{known_rows}
use Rattle.soundness.specs.Words.{stamp_of}
use Rattle.soundness.proofs.EdgesRead.{Numbers}
use Rattle.soundness.proofs.boundaries.few_fits.Given as goal

-- up to place i the numbers fit, and the ends of their edges are met
pub record SoFar (es edges : List ℕ) (e : ℕ) (met : List ℕ) (stamp low twice i : ℕ) : Type 0 where
  pub numbers : Numbers es edges e stamp low i
  pub round : Round es edges (stamp_of e) met twice i

abbrev pub invariant-loop-word : goal.invariant-loop-word
invariant-loop-word l = SoFar (known_rows l.earlier l.spacing) l.edges l.e.0 l.met l.stamp l.low l.twice l.word-index

abbrev pub decreases-loop-word : goal.decreases-loop-word
decreases-loop-word l = l.word-index-end - l.word-index
