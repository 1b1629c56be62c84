-- The hyperplane is refused, or has a number, and the root is cut, with the counts in an array; nothing is known before, and its answer is after.
use Rattle.std.proofs.lemmas.Result.{err_from_is_err_and}
use mathlib.Core.Path.{◌∙◌}
use Rattle.cut.proofs.WholeCuts.{counts_ready, plane_asked, rank_asked, root_low, root_ready, plane_refused, root_refused, root_answered, counts_lent, counts_back}
use Rattle.cut.proofs.whole.cut_named.Goals as goal

pub add_hyperplane-requires : goal.add_hyperplane-requires
add_hyperplane-requires c = plane_asked c.requires

pub rank_of-rank-requires : goal.rank_of-rank-requires
rank_of-rank-requires c = rank_asked c.requires

pub counts_of-used-requires : goal.counts_of-used-requires
counts_of-used-requires c = c.add_hyperplane.auto.counts ∙ counts_ready c.requires

pub cut_element-asked-requires : goal.cut_element-asked-requires
cut_element-asked-requires c = root_ready c.args.params (counts_lent c.counts_of-used.ensures c.add_hyperplane.ensures) _ c.in_ok-number.was _ c.rank_of-rank.ensures c.new-room.ensures c.requires

pub put_counts-requires : goal.put_counts-requires
put_counts-requires c = c.add_hyperplane.auto.counts ∙ counts_ready c.requires

pub returns-in_err-asked : goal.returns-in_err-asked
returns-in_err-asked c = let x = err_from_is_err_and c.from_residual-in_err-asked.result c.from_residual-in_err-asked.ensures.1 in
    rw (x.1, x.2) (counts_back c.put_counts.ensures
    (root_refused c.args.params (counts_lent c.counts_of-used.ensures c.add_hyperplane.ensures) _ c.in_ok-number.was _ c.rank_of-rank.ensures c.new-room.ensures c.cut_element-asked.ensures _ c.in_err-asked.was))

pub output_at-output-requires : goal.output_at-output-requires
output_at-output-requires c = root_low c.requires

pub returns-in_err-number : goal.returns-in_err-number
returns-in_err-number c = let x = err_from_is_err_and c.from_residual.result c.from_residual.ensures.1 in
    rw (x.1, x.2) (plane_refused c.args.params c.add_hyperplane.ensures _ c.in_err-number.was)

pub shape_of-counts : goal.shape_of-counts
shape_of-counts c = c.put_counts.auto.counts ∙ c.add_hyperplane.auto.counts

pub shape_of-planes : goal.shape_of-planes
shape_of-planes c = c.add_hyperplane.auto.planes

pub returns : goal.returns
returns c = counts_back c.put_counts.ensures
    (root_answered c.args.params (counts_lent c.counts_of-used.ensures c.add_hyperplane.ensures) _ c.in_ok-number.was _ c.rank_of-rank.ensures c.new-room.ensures c.cut_element-asked.ensures
    c.in_ok-asked.was _ _ c.output_at-output.ensures c.has_warning-warning.ensures)
