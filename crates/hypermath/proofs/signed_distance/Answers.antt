-- The dot product of the normal and the point, less the distance.
use mathlib.Core.Path.{ap}
use lib.Ieee.{Float, binary64, sub}
use Rattle.rules.specs.Floats.{signed_distance}
use Rattle.hypermath.proofs.signed_distance.Goals as goal

pub returns : goal.returns
unfolding signed_distance
returns c = ap (λ (s : Float). sub binary64 s c.args.h.distance) c.dot.ensures
