-- The room is cleared, and nothing is the first no elements.
use lib.Ieee
use mathlib.Core.Path.{◌∙◌}
use Prim.Native.Nat.{◌^◌}
use native.Mathlib.Omega.{arith}
use Rattle.rules.specs.Floats.{plus_zero}
use Rattle.rules.specs.Limits.{desk}
use Rattle.rules.specs.Memory.{plane_row}
use Rattle.rules.specs.Cube.{is_facet}
use Rattle.cube.proofs.CubeRows.{power_low}
use Rattle.cube.proofs.CubeEntries.{cleared, chosen_few}
use borrow.Author.Rules.{rules}
use Rattle.cube.proofs.put_planes.Goals as goal

pub put_facets-requires : goal.put_facets-requires
unfolding lib.Ieee.of_bits
put_facets-requires c = record { room = record { axes = c.requires.axes; long = search rules }; clear = c.fill.ensures.after (λ y q. q) ∙ cleared plus_zero (plane_row desk) _ 320 c.requires.long }

pub overflow_cast-result : goal.overflow_cast-result
overflow_cast-result c = let k = chosen_few is_facet c.args.d (3 ^ c.args.d) in
    let l = power_low c.args.d c.requires.axes in
    omega (arith, k, l, c.put_facets.ensures.count)
