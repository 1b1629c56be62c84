-- The lent row is the hyperplane that is read of it.
use Prim.Native.Nat.{◌*◌}
use mathlib.Core.Bool.{◌&&◌}
use mathlib.Core.Path.{ap, ◌∙◌}
use native.Mathlib.Omega.{arith}
use lib.ListN.{take, drop}
use Rattle.rules.specs.Floats.{within, farthest_plane}
use Rattle.rules.specs.declared.Hyperplane.{Hyperplane}
use Rattle.hypermath.specs.Answers.{unit_normal}
use Rattle.soundness.proofs.PlaneLoops.{plane_is}
use Rattle.soundness.proofs.floats.plane_sound.Goals as goal

pub hyperplane_at-requires : goal.hyperplane_at-requires
hyperplane_at-requires c = omega arith

pub returns : goal.returns
returns c = c.hyperplane_sound.ensures
    ∙ ap (λ (h : Hyperplane). unit_normal c.args.d h.normal && within farthest_plane h.distance) c.hyperplane_at.ensures
    ∙ plane_is c.args.d (take 5 (drop (c.args.k.0 * 5) c.args.planes.now)) c.requires.dimension
