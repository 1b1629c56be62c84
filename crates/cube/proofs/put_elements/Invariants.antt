-- The invariant: the rows of the elements so far, and how many of those are corners and facets.
use Prim.Native.Nat.{ℕ, ◌≤◌, ◌-◌}
use mathlib.Core.Path.{◌≡◌}
use mathlib.Core.List.{List}
use lib.ListN.{length}
use Rattle.rules.specs.Cube.{is_vertex, is_facet, chosen}
use Rattle.cube.specs.Cubes.{CubeSize}
use Rattle.cube.specs.Writing.{cube_elements}
use Rattle.cube.proofs.put_elements.Given as goal

pub record Written (d size : ℕ) (old new : List ℕ) (v h e : ℕ) : Type 0 where
  pub so_far : e ≤ size
  pub axes : d ≤ 4
  pub all : CubeSize d size
  pub long : length new ≡ 18432
  pub room : length old ≡ 18432
  pub vertices : v ≡ length (chosen is_vertex d e)
  pub hyperplanes : h ≡ length (chosen is_facet d e)
  pub slice : new ≡ cube_elements d e

abbrev pub invariant-loop-e : goal.invariant-loop-e
invariant-loop-e l = Written l.d l.size l.initial.elements l.elements l.v l.h l.e

abbrev pub decreases-loop-e : goal.decreases-loop-e
decreases-loop-e l = l.size - l.e
