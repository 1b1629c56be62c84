-- The two tests are those of the definition.
use mathlib.Core.Bool.{false, true}
use mathlib.Core.Path.{sym, ◌∙◌, refl}
use Rattle.soundness.proofs.ElementLoops.{floats_are}
use Rattle.soundness.proofs.floats.floats_along.Goals as goal

pub returns-then-points_sound : goal.returns-then-points_sound
returns-then-points_sound c = floats_are c.args.d c.args.v c.args.h c.args.points.now c.args.planes.now true _ (sym c.points_sound.ensures ∙ c.if-points_sound.true)
    (sym c.planes_sound.ensures)

pub returns-else-points_sound : goal.returns-else-points_sound
returns-else-points_sound c = c.if-points_sound.false ∙ floats_are c.args.d c.args.v c.args.h c.args.points.now c.args.planes.now false _ (sym c.points_sound.ensures ∙ c.if-points_sound.false) refl
