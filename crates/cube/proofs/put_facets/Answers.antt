-- The invariant: the hyperplanes of the elements so far.
use native.Mathlib.Omega.{arith}
use borrow.Author.Rules.{rules}
use Rattle.cube.proofs.Written.{begun, in_cube_lem, one_more_lem, complete}
use Rattle.cube.proofs.put_facets.Goals as goal

pub loop-e-init : goal.loop-e-init
loop-e-init c = begun c.cube_size-size.ensures (search rules) (search rules) c.requires.clear

pub put_facet-h-requires : goal.put_facet-h-requires
put_facet-h-requires c = record { in_cube = in_cube_lem c.loop-e.invariant (omega arith); long = c.loop-e.invariant.kept; count = c.loop-e.invariant.count }

pub loop-e-preserved : goal.loop-e-preserved
loop-e-preserved c = one_more_lem c.loop-e.invariant (omega arith) (search rules) c.put_facet-h.ensures.count (c.put_facet-h.ensures.planes c.loop-e.invariant.there)

pub returns : goal.returns
returns c = let all = complete c.loop-e.invariant (omega arith) in record { count = all.0; planes = all.1 }
