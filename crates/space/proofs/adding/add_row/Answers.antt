-- An equal row, no room, or the row stored behind the last: each is the step that adds the element.
use Prim.Native.Nat.{ℕ, ◌+◌}
use mathlib.Core.List.{List}
use mathlib.Core.Path.{sym, ap, ◌∙◌}
use native.Mathlib.Omega.{arith}
use lib.ListN.{get_or}
use lib.Seq.{get_or-set_same}
use Rattle.space.proofs.Indexing.{index_count}
use Rattle.space.proofs.RowAdds.{row_whole, row_found, row_full, row_new_lem}
use Rattle.space.proofs.adding.add_row.Goals as goal

pub find_row-requires : goal.find_row-requires
find_row-requires c = record {
  elements = c.requires.elements;
  room = omega (arith, c.wide-n.ensures.value, c.requires.room);
  row = omega (arith, c.requires.row);
  index = index_count _ _ _ _
      (sym c.wide-n.ensures.value) c.requires.index;
}

pub returns-then-n-ge-ELEMENTS : goal.returns-then-n-ge-ELEMENTS
returns-then-n-ge-ELEMENTS c = let q = row_whole c.args.elements.now c.args.row.now c.wide-n.result c.requires.row c.find_row.ensures in
    record {
      added = row_full c.args.counts.now c.args.elements.now c.args.row.now c.wide-n.result c.find_row.result c.wide-n.ensures.value q c.in_default.is c.if-n-ge-ELEMENTS.true;
      index = c.requires.index;
    }

pub append_row-requires : goal.append_row-requires
append_row-requires c = record { counts = c.requires.counts; elements = c.requires.elements; room = omega (arith, c.if-n-ge-ELEMENTS.false); row = c.requires.row; index = index_count _ _ _ _ (sym c.wide-n.ensures.value) c.requires.index }

pub returns-in-Some : goal.returns-in-Some
returns-in-Some c = let q = row_whole c.args.elements.now c.args.row.now c.wide-n.result c.requires.row c.find_row.ensures in
    record {
      added = row_found c.args.counts.now c.args.elements.now c.args.row.now c.wide-n.result c.find_row.result c.wide-n.ensures.value q _ c.in-Some.is;
      index = c.requires.index;
    }

pub returns : goal.returns
returns c = let q = row_whole c.args.elements.now c.args.row.now c.wide-n.result c.requires.row c.find_row.ensures in
    record {
      added = row_new_lem c.args.counts.now c.args.elements.now c.args.row.now c.wide-n.result c.find_row.result c.wide-n.ensures.value q _ _ c.in_default.is (omega (arith, c.if-n-ge-ELEMENTS.false)) c.append_row.ensures.count
          c.append_row.ensures.stored;
      index = index_count _ _ _ _ (sym (ap (λ (cs : List ℕ). get_or cs 1 0) c.append_row.ensures.count ∙ get_or-set_same c.args.counts.now 1 (c.wide-n.result + 1) 0 (omega (arith, c.requires.counts)))) c.append_row.ensures.index;
    }
