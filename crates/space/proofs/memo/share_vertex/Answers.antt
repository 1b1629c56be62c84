-- A vertex found, no room, or a new vertex: each is the step of the rules with what was found.
use Prim.Native.Nat.{◌+◌}
use mathlib.Core.Path.{sym, ◌∙◌}
use native.Mathlib.Omega.{arith}
use lib.ListN.{length-set}
use lib.Seq.{get_or-set_other}
use Rattle.space.proofs.VertexMemo.{in_room_lem, row_long, shared_full, shared_old, shared_new}
use Rattle.space.proofs.Indexing.{index_count}
use borrow.Author.Rules.{rules}
use Rattle.space.proofs.memo.share_vertex.Goals as goal

pub corner_row-row-requires : goal.corner_row-row-requires
corner_row-row-requires c = in_room_lem _ _ c.in-Some.is c.requires.found

pub add_row-requires : goal.add_row-requires
add_row-requires c = record { counts = c.requires.counts; elements = c.requires.elements; room = c.requires.room; row = search rules; index = c.requires.index }

pub returns-then-n-ge-VERTICES : goal.returns-then-n-ge-VERTICES
returns-then-n-ge-VERTICES c = record { shared = shared_full _ c.wide-n.ensures.value c.in-None.is c.if-n-ge-VERTICES.true; index = c.requires.index }

pub add_row-requires-in-None : goal.add_row-requires-in-None
add_row-requires-in-None c = let kept = get_or-set_other c.args.counts.now 2 1 (c.wide-n.result + 1) 0 (λ z. omega (arith, z)) in
    record {
      counts = length-set c.args.counts.now 2 (c.wide-n.result + 1) ∙ c.requires.counts;
      elements = c.requires.elements;
      room = omega (arith, kept, c.requires.room);
      row = row_long c.wide-n.result c.corner_row-row-in-None.ensures;
      index = index_count _ _ _ _ (sym kept) c.requires.index;
    }

pub returns-in-Some : goal.returns-in-Some
returns-in-Some c = record { shared = shared_old _ c.in-Some.is c.corner_row-row.ensures c.add_row.ensures.added; index = c.add_row.ensures.index }

pub returns-else-n-ge-VERTICES : goal.returns-else-n-ge-VERTICES
returns-else-n-ge-VERTICES c = record {
  shared = shared_new _ c.wide-n.ensures.value c.in-None.is c.if-n-ge-VERTICES.false c.put_point.ensures c.corner_row-row-in-None.ensures c.add_row-in-None.ensures.added;
  index = c.add_row-in-None.ensures.index;
}
