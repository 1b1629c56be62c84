-- The invariant: the rows are alike exactly when no bit has differed yet and the words that are left are alike.
use Prim.Native.Nat.{ℕ, ◌≤◌, ◌-◌}
use mathlib.Core.Bool.{◌&&◌}
use mathlib.Core.List.{List}
use mathlib.Core.Path.{◌≡◌}
use lib.Dec.{eqb}
use lib.ListN.{take, drop}
use Rattle.rules.specs.Lists.{alike}
use Rattle.space.specs.Numbers.{row_width}
use Rattle.space.proofs.chains.same_row.Given as goal

pub record Compared (row stored : List ℕ) (differ j : ℕ) : Type 0 where
  pub most : j ≤ row_width
  pub so_far : alike eqb row stored ≡ (eqb differ 0 && alike eqb (drop j row) (drop j stored))

abbrev pub invariant-loop-j : goal.invariant-loop-j
invariant-loop-j l = Compared (take row_width (drop l.from l.words)) (take row_width (drop l.at l.elements)) l.differ l.j

abbrev pub decreases-loop-j : goal.decreases-loop-j
decreases-loop-j l = row_width - l.j
