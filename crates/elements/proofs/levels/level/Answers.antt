-- The root alone, and a rank lower with each turn.
use Prim.Native.Nat.{◌<◌}
use mathlib.Core.Path.{subst}
use native.Mathlib.Omega.{arith}
use Rattle.elements.proofs.BelowLoops.{lent_long, in_room_lem}
use Rattle.elements.proofs.LevelLoops.{no_level, root_first, lowered_start, lowered_ready, lowered_next, lowered_end}
use borrow.Author.Rules.{rules}
use Rattle.elements.proofs.levels.level.Goals as goal

pub rank_of-top-requires : goal.rank_of-top-requires
rank_of-top-requires c = record { elements = lent_long _ _ c.requires.lent; room = in_room_lem _ _ c.requires.lent _ c.requires.used }

pub returns-then-top-rank : goal.returns-then-top-rank
returns-then-top-rank c = no_level _ _ _ _ c.none.ensures (subst (λ n. n < c.args.rank) c.rank_of-top.ensures c.if-top-rank.true)

pub mark-requires : goal.mark-requires
mark-requires c = in_room_lem _ _ c.requires.lent _ c.requires.used

pub loop-i-init : goal.loop-i-init
loop-i-init c = lowered_start _ _ _ _ (search rules)

pub one_under-s-requires : goal.one_under-s-requires
one_under-s-requires c = let f = root_first _ _ _ _ _ c.requires (search rules) c.none-s.ensures c.mark.ensures c.rank_of-top.ensures in
    lowered_ready _ _ _ _ _ _ c.loop-i.invariant c.loop-i-test.true _ f

pub loop-i-preserved : goal.loop-i-preserved
loop-i-preserved c = lowered_next _ _ _ _ _ _ c.loop-i.invariant c.loop-i-test.true _ c.one_under-s.ensures

pub returns : goal.returns
returns c = let f = root_first _ _ _ _ _ c.requires (search rules) c.none-s.ensures c.mark.ensures c.rank_of-top.ensures in
    lowered_end _ _ _ _ _ _ c.loop-i.invariant (omega arith) _ f
