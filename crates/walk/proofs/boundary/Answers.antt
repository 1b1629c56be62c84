-- As many words as the count says.
use Rattle.std.proofs.Common.{ℕ, ap, take, drop, ◌∙◌, ◌+◌, ◌*◌, ◌-◌, ◌≡◌, arith}
use Rattle.walk.specs.Boundaries.{row_boundary}
use Rattle.walk.proofs.boundary.Goals as goal

pub returns : goal.returns
unfolding row_boundary
returns c =
    let at = c.args.e.0 * 36 + 4 in
    let n : at + c.size_of.result - at ≡ c.size_of.result = omega arith in
    ap (λ (k : ℕ). take k (drop at c.args.elements.now)) (n ∙ c.size_of.ensures)
