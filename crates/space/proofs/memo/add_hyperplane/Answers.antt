-- The search over the memory is the search over the table, and `hyperplane-added` puts the step behind it.
use Rattle.space.proofs.HyperplaneMemo.{hyperplane_added}
use borrow.Author.Rules.{rules}
use Rattle.space.proofs.memo.add_hyperplane.Goals as goal

pub returns : goal.returns
returns c = hyperplane_added _ _ _ c.wide-d.ensures.value c.primordials.ensures
    c.wide-n.ensures.value (search rules) c.hyperplane_row-row.ensures c.find_hyperplane-m.ensures c.share_hyperplane.ensures
