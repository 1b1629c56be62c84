-- The invariant: the whole sum is the sum so far with the products still to come.
use mathlib.Core.Path.{refl, sym, ap₂, ◌∙◌}
use native.Mathlib.Omega.{arith}
use native.Mathlib.Nat.{le_trans, le_of_eq}
use lib.Ieee
use lib.Ieee.{Float}
use Rattle.rules.specs.Floats.{dot}
use Rattle.hypermath.proofs.Products.{dot_go, dot_end}
use borrow.Author.Rules.{rules}
use Rattle.hypermath.proofs.dot.Goals as goal

pub loop-axis-init : goal.loop-axis-init
unfolding lib.Ieee.of_bits dot
loop-axis-init c = record { here = search rules; few = c.axes_of-n.ensures.few; a_long = search rules; b_long = search rules; sum = refl }

pub loop-axis-preserved : goal.loop-axis-preserved
loop-axis-preserved c = let a-fits = le_trans c.loop-axis.invariant.few (le_of_eq (sym c.loop-axis.invariant.a_long)) in
    let b-fits = le_trans c.loop-axis.invariant.few (le_of_eq (sym c.loop-axis.invariant.b_long)) in
    record {
      here = search rules;
      few = search rules;
      a_long = search rules;
      b_long = search rules;
      sum = dot_go _ _ _ a-fits b-fits _ c.loop-axis.axis c.loop-axis.invariant.sum c.loop-axis-test.true;
    }

pub returns : goal.returns
returns c = let a-fits = le_trans c.loop-axis.invariant.few (le_of_eq (sym c.loop-axis.invariant.a_long)) in
    let b-fits = le_trans c.loop-axis.invariant.few (le_of_eq (sym c.loop-axis.invariant.b_long)) in
    dot_end _ _ _ a-fits b-fits _ c.loop-axis.axis c.loop-axis.invariant.sum (omega arith) ∙ ap₂ dot (c.axes_of-n.ensures.front _ c.loop-axis.invariant.a_long) (c.axes_of-n.ensures.front _ c.loop-axis.invariant.b_long)
