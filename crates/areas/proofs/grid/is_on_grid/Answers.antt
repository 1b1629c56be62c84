-- The units as a float are exact, and equal the product exactly where nothing was left off.
use Rattle.std.proofs.Common.{◌≡◌, T, ℤ, sym, ap, ◌∙◌, subst, rules}
use lib.Ieee.{binary64, eq, of_int, in_float, mul, of_bits}
use Rattle.rules.specs.Areas.{on_grid}
use Rattle.areas.proofs.UnitLaws.{scale, units_float, grid_told}
use Rattle.areas.proofs.grid.is_on_grid.Goals as goal

pub int_to_float-result : goal.int_to_float-result
int_to_float-result c = let h : T (in_float binary64 c.units_of-n.result) = subst (λ (z : ℤ). T (in_float binary64 z)) (sym c.units_of-n.ensures) (units_float c.args.x c.requires) in
    search (rules, h)

pub returns : goal.returns
unfolding of_bits
returns c = let h : eq (of_int binary64 c.units_of-n.result) (mul binary64 c.args.x scale) ≡ on_grid c.args.x =
    ap (λ (z : ℤ). eq (of_int binary64 z) (mul binary64 c.args.x scale)) c.units_of-n.ensures ∙ grid_told c.args.x c.well_formed.0.1 c.requires in
    search (rules, h)
