-- 3 or 4 as asked, then 6, and then the walk: each way the code goes is a case of the reply.
use Rattle.std.proofs.lemmas.Result.{err_from_is_err_and}
use mathlib.Core.List.{[]}
use Rattle.walk.proofs.Asking.{rank_asked}
use Rattle.walk.proofs.Orders.{refused, no_face, face_asked, face_replied}
use Rattle.walk.proofs.edges_in_order.Goals as goal

pub returns-in_err-root_asked : goal.returns-in_err-root_asked
returns-in_err-root_asked c = let x = err_from_is_err_and c.from_residual.result c.from_residual.ensures.1 in
    rw (x.1, x.2) (refused _ _ _ _ _ _ _ c.root_asked.ensures _ c.in_err-root_asked.was)

pub rank_of-requires : goal.rank_of-requires
rank_of-requires c = rank_asked _ _ _ _ _ _ c.root_asked.ensures c.in_ok-root_asked.was

pub returns-then-rank_of-ne2 : goal.returns-then-rank_of-ne2
returns-then-rank_of-ne2 c = no_face _ _ _ _ _ _ _ c.root_asked.ensures c.in_ok-root_asked.was _ c.rank_of.ensures c.if-rank_of-ne2.true

pub face_in_order-requires : goal.face_in_order-requires
face_in_order-requires c = face_asked _ _ _ _ _ [] _ c.root_asked.ensures c.in_ok-root_asked.was _ c.rank_of.ensures c.if-rank_of-ne2.false

pub returns : goal.returns
returns c = face_replied _ _ _ _ _ _ _ c.root_asked.ensures c.in_ok-root_asked.was _ c.rank_of.ensures c.if-rank_of-ne2.false c.face_in_order.ensures
