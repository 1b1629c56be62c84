-- The invariant: the count so far and the triangles of the faces that are left make all, and no face has more than 30.
use Prim.Native.Nat.{ℕ, ◌+◌, ◌*◌, ◌-◌, ◌≤◌}
use mathlib.Core.List.{List, map}
use mathlib.Core.Path.{◌≡◌}
use lib.ListN.{get_or, drop}
use Rattle.rules.specs.Print.{total_of}
use Rattle.walk.specs.Boundaries.{row_boundary}
use Rattle.print.specs.Pieces.{edges_in, count_in}
use Rattle.print.proofs.triangle_count.Given as goal

pub record SoFar (es : List ℕ) (root n count i : ℕ) : Type 0 where
  pub within : i ≤ n
  pub size : n ≡ get_or es (root * 36 + 3) 0
  pub few : count ≤ 30 * i
  pub total : count + total_of (map (λ f. edges_in es f - 2) (drop i (row_boundary es root))) ≡ count_in es root

abbrev pub invariant-loop-i : goal.invariant-loop-i
invariant-loop-i l = SoFar l.elements l.root.0 l.n l.count l.i

abbrev pub decreases-loop-i : goal.decreases-loop-i
decreases-loop-i l = l.n - l.i
