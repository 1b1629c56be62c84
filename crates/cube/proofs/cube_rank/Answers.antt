-- Each digit 2 gives two faces.
use Rattle.cube.proofs.CubeEntries.{rank_half, rank_low}
use native.Mathlib.Omega.{arith}
use Rattle.cube.proofs.cube_rank.Goals as goal

pub returns : goal.returns
returns c = let r = rank_half c.args.d c.args.e c.faces_of-f.result c.faces_of-f.ensures in
    let l = rank_low c.args.d c.args.e c.requires.axes in
    record { rank = r; low = omega (arith, r, l) }
