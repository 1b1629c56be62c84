-- Of the two edges at the corner, the one to the lower corner.
use mathlib.Core.Path.{sym, ◌∙◌}
use Rattle.walk.proofs.EdgeLoops.{is_less, not_less, beside_fits, second_way, other_way}
use Rattle.walk.proofs.first_way.Goals as goal

pub end_across-p-requires : goal.end_across-p-requires
end_across-p-requires c = record { elements = c.requires.bounds.long; room = (beside_fits _ _ _ _ _ c.requires c.edge_beside-a.ensures).used }

pub end_across-q-requires : goal.end_across-q-requires
end_across-q-requires c = record { elements = c.requires.bounds.long; room = (beside_fits _ _ _ _ _ c.requires c.edge_beside-b.ensures).used }

pub returns-then-lt : goal.returns-then-lt
returns-then-lt c = second_way c.args.elements.now c.args.f.0 c.args.v.0 _ _ _ _ c.edge_beside-a.ensures c.edge_beside-b.ensures
    c.end_across-p.ensures c.end_across-q.ensures (is_less _ _ (sym c.lt.ensures ∙ c.if-lt.true))

pub returns : goal.returns
returns c = other_way c.args.elements.now c.args.f.0 c.args.v.0 _ _ _ _ c.edge_beside-a.ensures c.edge_beside-b.ensures
    c.end_across-p.ensures c.end_across-q.ensures (not_less _ _ (sym c.lt.ensures ∙ c.if-lt.false))
