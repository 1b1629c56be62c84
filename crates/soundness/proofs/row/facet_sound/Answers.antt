-- The answer is read off the tests that were taken.
use Prim.Native.Nat.{suc}
use mathlib.Core.Bool.{true, false}
use mathlib.Core.Path.{refl, ◌∙◌}
use native.Mathlib.Omega.{arith}
use Rattle.rules.proofs.Laws.{test_eq, not_eq}
use Rattle.soundness.proofs.BoundaryLoops.{facet_are}
use Rattle.soundness.proofs.row.facet_sound.Goals as goal

pub returns-then-d-rank-eq1 : goal.returns-then-d-rank-eq1
returns-then-d-rank-eq1 c = facet_are c.args.d c.args.h c.args.rank c.args.plane c.args.mark true _ _ _
    (test_eq (suc c.args.rank) c.args.d (omega (arith, c.requires, c.if-d-rank-eq1.true))) refl refl refl

pub returns-then-plane : goal.returns-then-plane
returns-then-plane c = facet_are c.args.d c.args.h c.args.rank c.args.plane c.args.mark false _ true _
    (not_eq (suc c.args.rank) c.args.d (λ q. c.if-d-rank-eq1.false (omega (arith, q, c.requires)))) refl (test_eq c.args.plane 65535 c.if-plane.true) refl

pub returns-else-plane : goal.returns-else-plane
returns-else-plane c = not_eq c.args.plane 65535 c.if-plane.false ∙ facet_are c.args.d c.args.h c.args.rank c.args.plane c.args.mark false _ false _
    (not_eq (suc c.args.rank) c.args.d (λ q. c.if-d-rank-eq1.false (omega (arith, q, c.requires)))) refl (not_eq c.args.plane 65535 c.if-plane.false) refl
