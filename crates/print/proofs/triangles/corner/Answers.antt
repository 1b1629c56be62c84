-- A part of the slice: three floats of a row, none of them a NaN.
use native.Mathlib.Omega.{arith}
use Rattle.print.proofs.Fanning.{corner_part, corner_numbers}
use Rattle.print.proofs.triangles.corner.Goals as goal

pub corner-requires : goal.corner-requires
corner-requires c = record {
  part = corner_part c.args.points.now c.requires.points c.args.v.0 c.requires.low;
  are_numbers = corner_numbers c.args.points.now c.requires.points c.args.v.0 c.requires.low;
  fits_room = omega
      (arith, c.requires.fits);
}
