-- The word of the row is the vertex number of the point that is read, and the side is that of its distance.
use Prim.Native.Nat.{ℕ}
use mathlib.Core.List.{List}
use mathlib.Core.Path.{ap, ◌∙◌}
use lib.Ieee.{Float}
use Rattle.rules.specs.Floats.{side_of}
use Rattle.rules.specs.declared.SideTest.{SideTest}
use Rattle.hypermath.specs.Answers.{distance_to}
use Rattle.space.specs.Shared.{stored_point}
use Rattle.elements.proofs.touch.corner_side.Goals as goal

pub returns : goal.returns
returns c = ap (λ (t : SideTest). t.side) c.side_of-test.ensures
    ∙ ap side_of c.signed_distance.ensures
    ∙ ap (λ (p : List Float). side_of (distance_to c.args.d c.args.h p)) c.read_point-p.ensures
    ∙ ap (λ (v : ℕ). side_of (distance_to c.args.d c.args.h (stored_point c.args.points.now v))) (c.wide.ensures.value ∙ c.boundary_at.ensures)
