-- One call of rule 8, at the rank below.
use Rattle.gathered.proofs.IntersectionAdded.{plane_asks, intersection_asks, intersection_made}
use native.Mathlib.Omega.{arith}
use borrow.Author.Rules.{rules}
use Rattle.gathered.proofs.answer.new_intersection.Goals as goal

pub plane_of_intersection-plane-requires : goal.plane_of_intersection-plane-requires
plane_of_intersection-plane-requires c = plane_asks c.requires

pub overflow_sub-rank : goal.overflow_sub-rank
overflow_sub-rank c = search rules

pub as_slice-numbers-requires : goal.as_slice-numbers-requires
as_slice-numbers-requires c = record { most = (let most = c.requires.fit.sized.most in omega (arith, most)) }

pub add_polytope-requires : goal.add_polytope-requires
add_polytope-requires c = intersection_asks c.requires (search rules) _ c.as_slice-numbers.ensures

pub returns : goal.returns
returns c = intersection_made _ _ c.as_slice-numbers.ensures c.plane_of_intersection-plane.ensures c.add_polytope.ensures.added c.add_polytope.ensures.index
