-- The walk from the lowest corner by the first edge is the whole.
use Prim.Native.Nat.{suc}
use mathlib.Core.Path.{ap, ◌∙◌}
use native.Mathlib.Nat.{le_trans, le_of_eq}
use lib.Seq.{sets}
use Rattle.walk.specs.Boundaries.{row_boundary}
use Rattle.walk.proofs.EdgeLoops.{way_fits}
use Rattle.walk.proofs.Orders.{whole_walk}
use Rattle.walk.proofs.walk_face.Goals as goal

pub walk_round-requires : goal.walk_round-requires
walk_round-requires c = record {
  face = c.requires.face;
  edge = way_fits c.args.elements.now c.args.f.0 _ _ c.requires.face c.first_way-first.ensures;
  corner = le_trans (le_of_eq (ap suc c.lowest_end-start.ensures)) c.requires.face.start;
  enough = c.requires.enough;
}

pub returns : goal.returns
returns c = c.walk_round.ensures
    ∙ ap (sets c.args.list.now 0) (whole_walk c.args.elements.now (row_boundary c.args.elements.now c.args.f.0) _ _ c.lowest_end-start.ensures c.first_way-first.ensures)
