-- The normals on every axis, then the distances.
use mathlib.Core.Bool.{true, false}
use mathlib.Core.Path.{refl, sym, ◌∙◌}
use Rattle.rules.specs.Cut.{plane_matches}
use Rattle.hypermath.proofs.Tests.{both_are}
use Rattle.hypermath.proofs.hyperplanes_match.Goals as goal

pub returns-then-not-points_match : goal.returns-then-not-points_match
unfolding plane_matches
returns-then-not-points_match c = both_are false _ _ _ (sym c.points_match.ensures ∙ c.if-not-points_match.true) refl

pub returns : goal.returns
unfolding plane_matches
returns c = c.coordinates_match.ensures ∙ both_are true _ _ _ (sym c.points_match.ensures ∙ c.if-not-points_match.false) refl
