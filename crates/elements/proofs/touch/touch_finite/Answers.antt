-- The marks are the corners of the root, so the vertices tested are those of its vertex set.
use native.Mathlib.Omega.{arith}
use Rattle.space.proofs.Slices.{slices}
use Rattle.elements.proofs.TouchLoops.{ready_corners, finite_touched}
use Rattle.elements.proofs.touch.touch_finite.Goals as goal

pub bounds-counts-0 : goal.bounds-counts-0
bounds-counts-0 c = omega (arith, (slices c.requires.holds).counts)

pub test_corners-tested-requires : goal.test_corners-tested-requires
test_corners-tested-requires c = ready_corners c.requires c.level-s.ensures

pub returns : goal.returns
returns c = finite_touched _ _ _ c.level-s.ensures c.wide-d.ensures.value c.test_corners-tested.ensures c.told.ensures
