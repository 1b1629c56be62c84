-- The invariant: the search is asked from the row at hand on.
use mathlib.Core.Path.{◌≡◌}
use Prim.Native.Nat.{◌-◌, ◌+◌}
use lib.ListN.{drop}
use Rattle.rules.specs.Lists.{find_from}
use Rattle.rules.specs.Cut.{plane_matches}
use Rattle.rules.specs.Replies.{divider_of}
use Rattle.rules.proofs.Indexed.{sought_from}
use Rattle.hypermath.specs.Axes.{axes}
use Rattle.hypermath.specs.Answers.{hyperplane_of, planes_in}
use Rattle.hypermath.proofs.find_hyperplane.Given as goal

abbrev pub invariant-loop-k : goal.invariant-loop-k
invariant-loop-k l = find_from l.fn.first.0 (λ g. plane_matches g (divider_of l.d l.h)) (drop l.fn.first.0 (planes_in l.d l.n l.planes)) ≡ sought_from (λ row. divider_of l.d (hyperplane_of row))
    (λ g. plane_matches g (divider_of l.d l.h)) (1 + axes) l.n l.planes l.k

abbrev pub decreases-loop-k : goal.decreases-loop-k
decreases-loop-k l = l.n - l.k
