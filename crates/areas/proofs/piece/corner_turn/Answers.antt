-- The two products and their difference are small enough, so each is read back as it is.
use Rattle.std.proofs.Common.{List, get_or, ap, ◌∙◌}
use lib.Ieee.{Float, nan}
use Rattle.rules.specs.Floats.{within, farthest}
use Rattle.rules.specs.Areas.{units}
use Rattle.rules.proofs.AreaSizes.{units_few}
use Rattle.areas.proofs.Small.{product_fits, turn_fits, turn_told}
use Rattle.areas.proofs.piece.corner_turn.Goals as goal

pub units_of-requires : goal.units_of-requires
units_of-requires c = ap (λ (p : List Float). within farthest (get_or p 0 nan)) c.read_point-p.ensures ∙ c.requires.from.first

pub units_of-requires-2 : goal.units_of-requires-2
units_of-requires-2 c = ap (λ (p : List Float). within farthest (get_or p 1 nan)) c.read_point-q.ensures ∙ c.requires.to.second

pub overflow_mul-result : goal.overflow_mul-result
overflow_mul-result c = product_fits _ _ _ _ (c.units_of.ensures ∙ ap (λ (p : List Float). units (get_or p 0 nan)) c.read_point-p.ensures) (c.units_of-2.ensures ∙ ap (λ (p : List Float). units (get_or p 1 nan)) c.read_point-q.ensures)
    (units_few _ c.requires.from.first) (units_few _ c.requires.to.second)

pub units_of-requires-3 : goal.units_of-requires-3
units_of-requires-3 c = ap (λ (p : List Float). within farthest (get_or p 0 nan)) c.read_point-q.ensures ∙ c.requires.to.first

pub units_of-requires-4 : goal.units_of-requires-4
units_of-requires-4 c = ap (λ (p : List Float). within farthest (get_or p 1 nan)) c.read_point-p.ensures ∙ c.requires.from.second

pub overflow_mul-result-2 : goal.overflow_mul-result-2
overflow_mul-result-2 c = product_fits _ _ _ _ (c.units_of-3.ensures ∙ ap (λ (p : List Float). units (get_or p 0 nan)) c.read_point-q.ensures) (c.units_of-4.ensures ∙ ap (λ (p : List Float). units (get_or p 1 nan)) c.read_point-p.ensures)
    (units_few _ c.requires.to.first) (units_few _ c.requires.from.second)

pub overflow_sub-result : goal.overflow_sub-result
overflow_sub-result c = turn_fits _ _ _ _ _ _ _ _ (c.units_of.ensures ∙ ap (λ (p : List Float). units (get_or p 0 nan)) c.read_point-p.ensures) (c.units_of-2.ensures ∙ ap (λ (p : List Float). units (get_or p 1 nan)) c.read_point-q.ensures)
    (c.units_of-3.ensures ∙ ap (λ (p : List Float). units (get_or p 0 nan)) c.read_point-q.ensures) (c.units_of-4.ensures ∙ ap (λ (p : List Float). units (get_or p 1 nan)) c.read_point-p.ensures)
    (units_few _ c.requires.from.first) (units_few _ c.requires.to.second) (units_few _ c.requires.to.first) (units_few _ c.requires.from.second)

pub returns : goal.returns
returns c = turn_told _ _ _ _ _ _ _ _ (c.units_of.ensures ∙ ap (λ (p : List Float). units (get_or p 0 nan)) c.read_point-p.ensures) (c.units_of-2.ensures ∙ ap (λ (p : List Float). units (get_or p 1 nan)) c.read_point-q.ensures)
    (c.units_of-3.ensures ∙ ap (λ (p : List Float). units (get_or p 0 nan)) c.read_point-q.ensures) (c.units_of-4.ensures ∙ ap (λ (p : List Float). units (get_or p 1 nan)) c.read_point-p.ensures)
    (units_few _ c.requires.from.first) (units_few _ c.requires.to.second) (units_few _ c.requires.to.first) (units_few _ c.requires.from.second)
