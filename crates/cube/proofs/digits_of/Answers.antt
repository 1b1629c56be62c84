-- The invariant: the digits so far stand in the front, and the remaining ones are those of what is left.
use mathlib.Core.Path.{refl}
use native.Mathlib.Omega.{arith}
use Rattle.cube.proofs.CubeRows.{reading_start, reading_next, reading_end}
use borrow.Author.Rules.{rules}
use Rattle.cube.proofs.digits_of.Goals as goal

pub loop-axis-init : goal.loop-axis-init
loop-axis-init c = record { so_far = omega arith; axes = search rules; long = refl; reading = reading_start _ _ }

pub loop-axis-preserved : goal.loop-axis-preserved
loop-axis-preserved c = record { so_far = search rules; axes = search rules; long = search rules; reading = reading_next _ _ _ _ _ c.loop-axis.invariant.axes (omega arith) c.loop-axis.invariant.reading }

pub returns : goal.returns
returns c = reading_end _ _ _ _ _ (omega arith) c.loop-axis.invariant.reading
