-- The invariant: the hyperplanes of the elements so far.
use Prim.Native.Nat.{◌-◌}
use Rattle.rules.specs.Cube.{is_facet}
use Rattle.cube.specs.Writing.{cube_planes}
use Rattle.cube.proofs.Written.{Written}
use Rattle.cube.proofs.put_facets.Given as goal

abbrev pub invariant-loop-e : goal.invariant-loop-e
invariant-loop-e l = Written is_facet (cube_planes l.d l.radius) 320 l.d l.size l.initial.planes l.planes l.h.0 l.e

abbrev pub decreases-loop-e : goal.decreases-loop-e
decreases-loop-e l = l.size - l.e
