-- What is left to write, put behind what is written, makes up the whole walk.
use mathlib.Core.Path.{refl}
use native.Mathlib.Nat.{le_trans, le_of_eq}
use native.Mathlib.Omega.{arith}
use borrow.Author.Rules.{rules}
use lib.ListN.{length-set}
use Rattle.walk.specs.Boundaries.{row_boundary}
use Rattle.walk.proofs.Boundaries.{row_size}
use Rattle.walk.proofs.EdgeLoops.{beside_fits, across_fits}
use Rattle.walk.proofs.Pairs.{pairs_start, pairs_go, pairs_end}
use Rattle.walk.proofs.walk_round.Goals as goal

pub loop-k-init : goal.loop-k-init
loop-k-init c = let long = row_size c.args.elements.now c.args.f.0 _ c.requires.face.bounds c.size_of-n.ensures in
    record {
      low = search rules;
      size = c.size_of-n.ensures;
      few = le_trans (le_of_eq c.size_of-n.ensures) c.requires.face.bounds.sized;
      enough = omega (arith, c.requires.enough, long);
      long = refl;
      corner = c.requires.corner;
      edge = c.requires.edge;
      same = pairs_start c.args.elements.now (row_boundary c.args.elements.now c.args.f.0) _ _ c.args.start.0 c.args.first.0 long;
    }

pub end_across-w-requires : goal.end_across-w-requires
end_across-w-requires c = record { elements = c.requires.face.bounds.long; room = c.loop-k.invariant.edge.used }

pub vertex_of-from-requires : goal.vertex_of-from-requires
vertex_of-from-requires c = record { elements = c.requires.face.bounds.long; room = c.loop-k.invariant.corner }

pub vertex_of-to-requires : goal.vertex_of-to-requires
vertex_of-to-requires c = record { elements = c.requires.face.bounds.long; room = across_fits _ _ _ _ c.loop-k.invariant.edge c.end_across-w.ensures }

pub bounds-list-k-in-loop-k : goal.bounds-list-k-in-loop-k
bounds-list-k-in-loop-k c = simp length-set (omega (arith, c.loop-k.invariant.enough, c.loop-k.invariant.long))

pub loop-k-preserved : goal.loop-k-preserved
loop-k-preserved c = record {
  low = search rules;
  size = c.loop-k.invariant.size;
  few = c.loop-k.invariant.few;
  enough = c.loop-k.invariant.enough;
  long = simp length-set c.loop-k.invariant.long;
  corner = across_fits _ _ _ _ c.loop-k.invariant.edge c.end_across-w.ensures;
  edge = beside_fits _ _ _ _ _ c.requires.face c.edge_beside-e.ensures;
  same = pairs_go c.args.elements.now (row_boundary c.args.elements.now c.args.f.0) _ _ c.loop-k.list c.loop-k.v.0 c.loop-k.e.0 c.loop-k.k _ _ _ _ (search rules) c.end_across-w.ensures c.edge_beside-e.ensures
      c.vertex_of-from.ensures.named c.vertex_of-to.ensures.named c.loop-k.invariant.same;
}

pub returns : goal.returns
returns c = pairs_end c.args.elements.now (row_boundary c.args.elements.now c.args.f.0) _ _ c.loop-k.list c.loop-k.v.0 c.loop-k.e.0 c.loop-k.k (search rules) c.loop-k.invariant.same
