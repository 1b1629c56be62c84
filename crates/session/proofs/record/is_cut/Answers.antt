-- Too short; a kept byte above 3; then the mark tells.
use Prim.Native.Nat.{ℕ, ◌≤◌, ◌<◌}
use mathlib.Core.Path.{◌≡◌, subst}
use mathlib.Core.Bool.{false}
use native.Mathlib.Omega.{arith}
use Rattle.rules.specs.Session.{is_cut}
use Rattle.session.proofs.Records.{cut_short, cut_unkept, cut_marked}
use Rattle.session.proofs.record.is_cut.Goals as goal

pub returns-then-input-d : goal.returns-then-input-d
returns-then-input-d c = subst (λ (d : ℕ). false ≡ is_cut d c.args.input.now) c.dimension_of-d.ensures.value (cut_short c.args.input.now c.dimension_of-d.result (omega arith))

pub returns-then-number-gt3 : goal.returns-then-number-gt3
returns-then-number-gt3 c = cut_unkept c.args.input.now _ (subst (λ (k : ℕ). 3 < k) c.number.ensures.value (omega arith))

pub returns : goal.returns
returns c = subst (λ (d : ℕ). c.is_marked.result ≡ is_cut d c.args.input.now) c.dimension_of-d.ensures.value
    (cut_marked c.args.input.now c.dimension_of-d.result (omega arith) (subst (λ (k : ℕ). k ≤ 3) c.number.ensures.value (omega arith)) c.is_marked.ensures)
