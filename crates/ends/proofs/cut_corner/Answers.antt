-- The distance that is read is the rules', and `corner-cut` puts the side and the warning behind it.
use native.Mathlib.Omega.{arith}
use Rattle.space.proofs.Slices.{slices}
use Rattle.ends.proofs.Vertices.{point_asked, corner_cut}
use Rattle.ends.proofs.cut_corner.Goals as goal

pub bounds-counts-0 : goal.bounds-counts-0
bounds-counts-0 c = omega (arith, (slices c.requires.ready.fit.holds).counts)

pub corner_point-p-requires : goal.corner_point-p-requires
corner_point-p-requires c = point_asked c.requires.ready.fit

pub returns : goal.returns
returns c = corner_cut _ _ _ _ c.wide-d.ensures.value c.corner_point-p.ensures c.signed_distance-s.ensures c.side_of-test.ensures c.note.ensures c.corner_output.ensures
