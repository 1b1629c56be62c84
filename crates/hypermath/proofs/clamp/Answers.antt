-- By the three tests: above both, below both, not a number.
use mathlib.Core.Bool.{true, false}
use mathlib.Core.Path.{refl, sym, ◌∙◌}
use Rattle.hypermath.proofs.Crossings.{clamp_is, clamped}
use Rattle.hypermath.proofs.clamp.Goals as goal

pub returns-then-above_both : goal.returns-then-above_both
returns-then-above_both c = clamped (c.greater.ensures ∙ clamp_is c.args.a c.args.b c.args.x true _ _ (sym c.if-above_both.true ∙ c.above_both.ensures) refl refl)

pub returns-then-below_both : goal.returns-then-below_both
returns-then-below_both c = let above = sym c.if-above_both.false ∙ c.above_both.ensures in
    let below = sym c.if-below_both.true ∙ c.below_both.ensures in
    clamped (c.lesser.ensures ∙ clamp_is c.args.a c.args.b c.args.x false true _ above below refl)

pub returns-then-x : goal.returns-then-x
returns-then-x c = let above = sym c.if-above_both.false ∙ c.above_both.ensures in
    let below = sym c.if-below_both.false ∙ c.below_both.ensures in
    clamped (c.lesser-then-x.ensures ∙ clamp_is c.args.a c.args.b c.args.x false false true above below c.if-x.true)

pub returns : goal.returns
returns c = let above = sym c.if-above_both.false ∙ c.above_both.ensures in
    let below = sym c.if-below_both.false ∙ c.below_both.ensures in
    clamped (clamp_is c.args.a c.args.b c.args.x false false false above below c.if-x.false)
