-- The two parts of a row are those of the definition.
use mathlib.Core.Bool.{false, true}
use mathlib.Core.Path.{sym, ◌∙◌, refl}
use Rattle.soundness.proofs.RowLoops.{point_is}
use Rattle.soundness.proofs.floats.point_sound.Goals as goal

pub returns-then-coordinates_fit : goal.returns-then-coordinates_fit
returns-then-coordinates_fit c = point_is c.args.d c.args.at c.args.points.now true _ c.requires.dimension
    (sym c.if-coordinates_fit.true ∙ c.coordinates_fit.ensures) c.blank_floats.ensures

pub returns-else-coordinates_fit : goal.returns-else-coordinates_fit
returns-else-coordinates_fit c = c.if-coordinates_fit.false ∙ point_is c.args.d c.args.at c.args.points.now false _ c.requires.dimension
    (sym c.if-coordinates_fit.false ∙ c.coordinates_fit.ensures) refl
