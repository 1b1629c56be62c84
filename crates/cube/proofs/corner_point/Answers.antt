-- The invariant: the axes so far are worked out, whatever element the digits are of, and the others are zeros.
use mathlib.Core.Path.{refl}
use native.Mathlib.Omega.{arith}
use lib.Ieee
use lib.Ieee.{Float}
use Rattle.rules.specs.Cube.{cube_point}
use Rattle.cube.specs.Cubes.{coordinate_at}
use Rattle.cube.proofs.CubeEntries.{worked_next, worked_end}
use borrow.Author.Rules.{rules}
use Rattle.cube.proofs.corner_point.Goals as goal

pub loop-axis-init : goal.loop-axis-init
unfolding lib.Ieee.of_bits
loop-axis-init c = record { so_far = omega arith; axes = search rules; digits_long = search rules; long = search rules; done = λ e q. refl }

pub loop-axis-preserved : goal.loop-axis-preserved
loop-axis-preserved c = record {
  so_far = search rules;
  axes = search rules;
  digits_long = search rules;
  long = search rules;
  done = λ e q. worked_next _ _ e _ _ _ _ c.loop-axis.invariant.axes (omega arith) q (c.loop-axis.invariant.done e q) c.coordinate_at.ensures;
}

pub returns : goal.returns
unfolding cube_point
returns c = worked_end (coordinate_at c.args.radius) c.args.d c.args.e c.loop-axis.axis _ (omega arith) (c.loop-axis.invariant.done c.args.e c.digits_of-ks.ensures)
