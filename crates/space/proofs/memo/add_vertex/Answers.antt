-- The search over the memory is the search over the table, and `vertex-added` puts the step behind it.
use native.Mathlib.Nat.{le_trans, le_of_eq}
use Rattle.space.proofs.VertexMemo.{found_in_room, vertex_added}
use Rattle.space.proofs.memo.add_vertex.Goals as goal

pub share_vertex-requires : goal.share_vertex-requires
share_vertex-requires c = let few = le_trans (le_of_eq c.wide-n.ensures.value) c.requires.vertex_room in
    record {
      counts = c.requires.counts;
      points = c.requires.points;
      elements = c.requires.elements;
      room = c.requires.room;
      found = found_in_room c.find_vertex-m.result c.wide-d.result c.wide-n.result _ c.args.points.now c.find_vertex-m.ensures few;
      index = c.requires.index;
    }

pub returns : goal.returns
returns c = record {
  added = vertex_added _ _ c.wide-d.ensures.value c.wide-n.ensures.value c.find_vertex-m.ensures c.share_vertex.ensures.shared;
  index = c.share_vertex.ensures.index;
}
