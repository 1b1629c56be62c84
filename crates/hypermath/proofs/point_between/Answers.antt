-- The invariant: the axes so far are worked out, and the others are zeros.
use mathlib.Core.Path.{◌≡◌, refl, ap, ap₂, ◌∙◌}
use native.Mathlib.Omega.{arith}
use lib.Ieee
use mathlib.Core.List.{List}
use lib.Ieee.{Float}
use Rattle.rules.specs.Lists.{pad}
use Rattle.rules.specs.Floats.{plus_zero, crossing_point}
use Rattle.hypermath.specs.Axes.{axes}
use Rattle.hypermath.proofs.Crossings.{begun, begun_go}
use borrow.Author.Rules.{rules}
use Rattle.hypermath.proofs.point_between.Goals as goal

pub loop-axis-init : goal.loop-axis-init
unfolding lib.Ieee.of_bits crossing_point
loop-axis-init c = record { here = search rules; few = c.axes_of-n.ensures.few; a_long = search rules; b_long = search rules; out_long = search rules; filled = refl }

pub loop-axis-preserved : goal.loop-axis-preserved
loop-axis-preserved c = let more = begun_go _ _ _ axes c.loop-axis.axis _ c.loop-axis.invariant.filled (omega arith) (omega (arith, c.loop-axis.invariant.a_long)) (omega (arith, c.loop-axis.invariant.b_long)) c.clamp.ensures.is in
    record { here = search rules; few = search rules; a_long = search rules; b_long = search rules; out_long = search rules; filled = more }

pub returns : goal.returns
returns c = let whole : c.loop-axis.axis ≡ c.axes_of-n.result = omega arith in
    c.loop-axis.invariant.filled ∙ ap (begun _ _ _ axes) whole
    ∙ ap₂ (λ (x y : List Float). pad plus_zero axes (crossing_point c.args.t x y)) (c.axes_of-n.ensures.front _ c.loop-axis.invariant.a_long) (c.axes_of-n.ensures.front _ c.loop-axis.invariant.b_long)
