-- 3 or 4 as asked, then 6, and then the boundary: each way the code goes is a case of the reply.
use Rattle.std.proofs.lemmas.Result.{err_from_is_err_and}
use native.Mathlib.Omega.{arith}
use Rattle.walk.proofs.Asking.{counts_four, rank_asked}
use Rattle.walk.proofs.Facets.{refused, another_rank, facets_fit, has}
use Rattle.walk.proofs.facet.has_primordial_facet.Goals as goal

pub returns-in_err-root_asked : goal.returns-in_err-root_asked
returns-in_err-root_asked c = let x = err_from_is_err_and c.from_residual.result c.from_residual.ensures.1 in
    rw (x.1, x.2) (refused _ _ _ _ _ _ c.root_asked.ensures _ c.in_err-root_asked.was)

pub rank_of-requires : goal.rank_of-requires
rank_of-requires c = rank_asked _ _ _ _ _ _ c.root_asked.ensures c.in_ok-root_asked.was

pub bounds-memory-0 : goal.bounds-memory-0
bounds-memory-0 c = omega (arith, counts_four _ _ _ _ _ _ c.root_asked.ensures c.in_ok-root_asked.was)

pub returns-then-rank_of-wide : goal.returns-then-rank_of-wide
returns-then-rank_of-wide c = another_rank _ _ _ _ _ _ c.root_asked.ensures c.in_ok-root_asked.was _ _ c.rank_of.ensures c.wide.ensures.value c.if-rank_of-wide.true

pub any_primordial-requires : goal.any_primordial-requires
any_primordial-requires c = facets_fit _ _ _ _ _ _ c.root_asked.ensures c.in_ok-root_asked.was _ _ c.rank_of.ensures c.wide.ensures.value c.if-rank_of-wide.false

pub returns : goal.returns
returns c = has _ _ _ _ _ _ c.root_asked.ensures c.in_ok-root_asked.was _ _ c.rank_of.ensures c.wide.ensures.value c.if-rank_of-wide.false _ c.any_primordial.ensures
