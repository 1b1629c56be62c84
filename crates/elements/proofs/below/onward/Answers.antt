-- What is not below the root, and a vertex, leave the marks; any other element hands them to its boundary.
use mathlib.Core.Path.{sym, ◌∙◌}
use Rattle.elements.proofs.BelowLoops.{lent_long, in_room_lem, polytope_ranked, boundary_ready, not_below, a_vertex, go_on}
use Rattle.elements.proofs.below.onward.Goals as goal

pub returns-then-not-has : goal.returns-then-not-has
returns-then-not-has c = record { of = λ t l u root P. not_below _ t l _ u root _ P (sym c.has.ensures ∙ c.if-not-has.true) }

pub rank_of-requires : goal.rank_of-requires
rank_of-requires c = record { elements = lent_long _ _ c.requires.lent; room = in_room_lem _ _ c.requires.lent _ c.requires.used }

pub returns-then-rank_of-eq0 : goal.returns-then-rank_of-eq0
returns-then-rank_of-eq0 c = record { of = λ t l u root P. a_vertex _ t l _ u root _ P (sym c.rank_of.ensures ∙ c.if-rank_of-eq0.true) }

pub mark_boundary-requires : goal.mark_boundary-requires
mark_boundary-requires c = boundary_ready _ _ c.requires.lent _ c.requires.used (polytope_ranked _ _ c.requires.lent _ c.requires.used (λ q. c.if-rank_of-eq0.false (c.rank_of.ensures ∙ q)))

pub returns : goal.returns
returns c = let m = sym c.has.ensures ∙ c.if-not-has.false in
    record { of = λ t l u root P. go_on _ t l _ u root _ P m (λ q. c.if-rank_of-eq0.false (c.rank_of.ensures ∙ q)) _ c.mark_boundary.ensures }
