-- The dimension is the number that it was compared with.
use Prim.Native.Nat.{ℕ}
use mathlib.Core.Path.{ap, ◌∙◌}
use native.Mathlib.Omega.{arith}
use Rattle.rules.specs.Limits.{desk}
use Rattle.soundness.specs.Words.{floats_sound}
use Rattle.soundness.proofs.floats.floats_sound.Goals as goal

pub returns-then-d-eq2 : goal.returns-then-d-eq2
returns-then-d-eq2 c = c.floats_along.ensures ∙ ap (λ (d : ℕ). floats_sound desk d c.args.v c.args.h c.args.points.now c.args.planes.now) (omega arith)

pub returns-then-d-eq3 : goal.returns-then-d-eq3
returns-then-d-eq3 c = c.floats_along-then-d-eq3.ensures ∙ ap (λ (d : ℕ). floats_sound desk d c.args.v c.args.h c.args.points.now c.args.planes.now) (omega arith)
