-- The invariant: the search is asked from the row at hand on.
use mathlib.Core.Path.{sym, ap, ◌∙◌}
use Prim.Native.Nat.{◌+◌}
use native.Mathlib.Omega.{arith}
use Rattle.rules.specs.Cut.{plane_matches}
use Rattle.rules.specs.Replies.{divider_of}
use Rattle.rules.specs.declared.Hyperplane.{Hyperplane}
use Rattle.rules.proofs.Indexed.{sought_start, sought_on, sought_here, sought_none}
use Rattle.hypermath.specs.Axes.{axes}
use Rattle.hypermath.specs.Answers.{hyperplane_of}
use Rattle.hypermath.proofs.find_hyperplane.Goals as goal

pub loop-k-init : goal.loop-k-init
loop-k-init c = sought_start (λ row. divider_of c.args.d (hyperplane_of row)) (λ g. plane_matches g (divider_of c.args.d c.args.h)) (1 + axes) c.args.n c.args.planes.now c.args.first.0

pub returns-then-hyperplanes_match : goal.returns-then-hyperplanes_match
returns-then-hyperplanes_match c = let same = sym (ap (λ (g : Hyperplane). plane_matches (divider_of c.args.d g) (divider_of c.args.d c.args.h)) c.hyperplane_at-g.ensures) ∙ sym c.hyperplanes_match.ensures in
    sought_here (λ row. divider_of c.args.d (hyperplane_of row)) (λ g. plane_matches g (divider_of c.args.d c.args.h)) (1 + axes) c.args.n c.args.planes.now c.loop-k.k c.loop-k-test.true c.loop-k.invariant
    (same ∙ c.if-hyperplanes_match.true)

pub loop-k-preserved : goal.loop-k-preserved
loop-k-preserved c = let same = sym (ap (λ (g : Hyperplane). plane_matches (divider_of c.args.d g) (divider_of c.args.d c.args.h)) c.hyperplane_at-g.ensures) ∙ sym c.hyperplanes_match.ensures in
    sought_on (λ row. divider_of c.args.d (hyperplane_of row)) (λ g. plane_matches g (divider_of c.args.d c.args.h)) (1 + axes) c.args.n c.args.planes.now c.loop-k.k c.loop-k-test.true c.loop-k.invariant
    (same ∙ c.if-hyperplanes_match.false)

pub returns : goal.returns
returns c = sought_none (λ row. divider_of c.args.d (hyperplane_of row)) (λ g. plane_matches g (divider_of c.args.d c.args.h)) (1 + axes) c.args.n c.args.planes.now c.loop-k.k (omega arith) c.loop-k.invariant
