-- The invariant: the points of the elements so far.
use Prim.Native.Nat.{◌-◌}
use Rattle.rules.specs.Cube.{is_vertex}
use Rattle.cube.specs.Writing.{cube_points}
use Rattle.cube.proofs.Written.{Written}
use Rattle.cube.proofs.put_corners.Given as goal

abbrev pub invariant-loop-e : goal.invariant-loop-e
invariant-loop-e l = Written is_vertex (cube_points l.d l.radius) 1024 l.d l.size l.initial.points l.points l.v.0 l.e

abbrev pub decreases-loop-e : goal.decreases-loop-e
decreases-loop-e l = l.size - l.e
