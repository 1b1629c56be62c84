-- Two ways: the rank is the dimension, or not.
use Rattle.std.specs.Prelude.{if◌then◌else◌}
use mathlib.Core.Path.{sym, ap, ◌∙◌}
use mathlib.Core.Bool.{Bool}
use borrow.Author.Tests.{eq-eqb, ne_eqb}
use Rattle.rules.specs.Limits.{no_plane}
use Rattle.gathered.proofs.answer.plane_of_intersection.Goals as goal

pub returns-then-rank-wide : goal.returns-then-rank-wide
returns-then-rank-wide c = sym (ap (λ (b : Bool). if b then c.args.number.0 else no_plane) (eq-eqb _ _ (c.if-rank-wide.true ∙ c.wide.ensures.value)))

pub returns-else-rank-wide : goal.returns-else-rank-wide
returns-else-rank-wide c = sym (ap (λ (b : Bool). if b then c.args.number.0 else no_plane) (ne_eqb _ _ (λ q. c.if-rank-wide.false (q ∙ sym c.wide.ensures.value))))
