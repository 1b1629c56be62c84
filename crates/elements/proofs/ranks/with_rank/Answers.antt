-- Those from what is left on are as they should be, and before it none is marked: what is not in the set is passed over.
use native.Mathlib.Omega.{arith}
use Rattle.elements.proofs.RankLoops.{ranking_start, ranking_next, ranking_end}
use borrow.Author.Rules.{rules}
use Rattle.elements.proofs.ranks.with_rank.Goals as goal

pub loop-left-init : goal.loop-left-init
loop-left-init c = record { low = search rules; long = search rules; ranking = ranking_start _ _ _ _ (search rules) (search rules) c.none-some.ensures }

pub loop-left-preserved : goal.loop-left-preserved
loop-left-preserved c = record {
  low = search rules;
  long = search rules;
  ranking = ranking_next _ _ _ _ _ c.loop-left.invariant.ranking _ _ (search rules) (search rules) c.down_to-e.ensures c.add_ranked.ensures;
}

pub returns : goal.returns
returns c = ranking_end _ _ _ _ _ c.loop-left.invariant.ranking (omega arith)
