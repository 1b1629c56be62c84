-- The dimension is the number that it was compared with.
use Prim.Native.Nat.{ℕ}
use mathlib.Core.Path.{◌≡◌, subst}
use native.Mathlib.Omega.{arith}
use mathlib.Core.List.{List}
use lib.Ieee.{Float}
use lib.ListN.{take}
use Rattle.rules.specs.Floats.{point_matches}
use Rattle.rules.specs.Lists.{find}
use Rattle.hypermath.specs.Answers.{points_in}
use Rattle.hypermath.proofs.find_vertex.Goals as goal
use Rattle.std.specs.Prelude.{Option}

for_dimension : (d e n : ℕ) (p points : List Float) (found : Option ℕ) → d ≡ e → found ≡ find (λ q. point_matches q (take d p)) (points_in d n points)
    → found ≡ find (λ q. point_matches q (take e p)) (points_in e n points)
for_dimension d e n p points found q h = subst (λ (c : ℕ). found ≡ find (λ r. point_matches r (take c p)) (points_in c n points)) q h

pub returns-then-d-eq2 : goal.returns-then-d-eq2
returns-then-d-eq2 c = for_dimension 2 c.args.d c.args.n c.args.p c.args.points.now _ (omega arith) c.search_vertices.ensures

pub returns-then-d-eq3 : goal.returns-then-d-eq3
returns-then-d-eq3 c = for_dimension 3 c.args.d c.args.n c.args.p c.args.points.now _ (omega arith) c.search_vertices-then-d-eq3.ensures
