-- The product with 1,024 is in the range of the cast, and its whole part is the units.
use Rattle.std.proofs.Common.{◌∙◌, le_trans, lit≤}
use lib.Ieee.{of_bits}
use Rattle.rules.proofs.AreaSizes.{units_few}
use Rattle.areas.proofs.Small.{told}
use Rattle.areas.proofs.UnitLaws.{scaled_low, scaled_high, scaled_units}
use Rattle.areas.proofs.grid.units_of.Goals as goal

pub truncating_f64_to_i64-requires : goal.truncating_f64_to_i64-requires
unfolding of_bits
truncating_f64_to_i64-requires c = record { lower_bound = scaled_low c.args.x c.well_formed.0.1 c.requires; upper_bound = scaled_high c.args.x c.well_formed.0.1 c.requires }

pub returns : goal.returns
unfolding of_bits
returns c = told _ _ (c.truncating_f64_to_i64.ensures ∙ scaled_units c.args.x c.well_formed.0.1 c.requires) (le_trans (units_few c.args.x c.requires) (lit≤ tt))
