-- The room is cleared, and nothing is the first no elements.
use lib.Ieee
use mathlib.Core.Path.{◌∙◌}
use Prim.Native.Nat.{◌^◌}
use native.Mathlib.Omega.{arith}
use Rattle.rules.specs.Floats.{plus_zero}
use Rattle.rules.specs.Lists.{pad}
use Rattle.rules.specs.Cube.{is_vertex}
use Rattle.cube.proofs.CubeRows.{power_low}
use Rattle.cube.proofs.CubeEntries.{cleared, chosen_few}
use borrow.Author.Rules.{rules}
use Rattle.cube.proofs.put_points.Goals as goal

pub put_corners-requires : goal.put_corners-requires
unfolding lib.Ieee.of_bits
put_corners-requires c = record { room = record { axes = c.requires.axes; long = search rules }; clear = c.fill.ensures.after (λ y q. q) ∙ cleared plus_zero (pad plus_zero 4) _ 1024 c.requires.long }

pub overflow_cast-result : goal.overflow_cast-result
overflow_cast-result c = let k = chosen_few is_vertex c.args.d (3 ^ c.args.d) in
    let l = power_low c.args.d c.requires.axes in
    omega (arith, k, l, c.put_corners.ensures.count)
