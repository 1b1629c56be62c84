-- 12 by the room, and else the pairs are written.
use Prim.Native.Nat.{ℕ, ◌*◌}
use mathlib.Core.Path.{ap}
use native.Mathlib.Nat.{le_trans, le_of_eq}
use borrow.Author.Rules.{rules}
use Rattle.walk.proofs.Boundaries.{row_size}
use Rattle.walk.proofs.Orders.{no_room, list_done}
use Rattle.walk.proofs.face_in_order.Goals as goal

pub overflow_mul-n : goal.overflow_mul-n
overflow_mul-n c = search (rules, c.requires.bounds.sized, c.size_of-n.ensures)

pub returns-then-list-n : goal.returns-then-list-n
returns-then-list-n c = no_room _ _ _ _ c.requires.bounds c.size_of-n.ensures c.if-list-n.true

pub walk_face-requires : goal.walk_face-requires
walk_face-requires c = record {
  face = c.requires;
  enough = le_trans (le_of_eq (ap (λ (k : ℕ). 2 * k) (row_size c.args.elements.now c.args.f.0 _ c.requires.bounds c.size_of-n.ensures))) c.if-list-n.false;
}

pub overflow_mul-result : goal.overflow_mul-result
overflow_mul-result c = search (rules, c.requires.bounds.sized, c.size_of-n.ensures)

pub returns : goal.returns
returns c = list_done _ _ _ _ c.requires.bounds c.size_of-n.ensures _ c.if-list-n.false c.walk_face.ensures
