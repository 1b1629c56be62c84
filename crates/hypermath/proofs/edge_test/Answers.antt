-- Both signed distances are known, and with them both sides and both warnings.
use mathlib.Core.Path.{refl, ap, ap₂, ◌∙◌}
use Rattle.rules.specs.Floats.{edge_test}
use Rattle.rules.specs.declared.SideTest.{SideTest}
use Rattle.hypermath.proofs.Crossings.{tested_is}
use Rattle.hypermath.proofs.edge_test.Goals as goal

pub crossing_of-crossing-requires : goal.crossing_of-crossing-requires
crossing_of-crossing-requires c = record {
  first = ap (λ (s : SideTest). s.side) c.side_of-first.ensures;
  second = ap (λ (s : SideTest). s.side) c.side_of-second.ensures;
}

pub returns-then-first : goal.returns-then-first
returns-then-first c = tested_is _ _ _ _ _ _ c.crossing_of-crossing.ensures c.side_of-first.ensures c.side_of-second.ensures (rw c.if-first.true refl)
    ∙ ap₂ edge_test c.signed_distance-sa.ensures c.signed_distance-sb.ensures

pub returns-else-first : goal.returns-else-first
returns-else-first c = tested_is _ _ _ _ _ _ c.crossing_of-crossing.ensures c.side_of-first.ensures c.side_of-second.ensures (rw c.if-first.false refl)
    ∙ ap₂ edge_test c.signed_distance-sa.ensures c.signed_distance-sb.ensures
