-- The dimension is the number that it was compared with.
use Prim.Native.Nat.{ℕ}
use mathlib.Core.Bool.{Bool}
use mathlib.Core.List.{List}
use mathlib.Core.Path.{◌≡◌, ap, ◌∙◌}
use native.Mathlib.Omega.{arith}
use Rattle.rules.specs.Limits.{desk}
use Rattle.soundness.specs.Words.{rows_sound}
use Rattle.soundness.specs.Tests.{RowsTested, rows_read, with_rows}
use Rattle.soundness.proofs.sound.rows_sound.Goals as goal

-- the answer for the dimension that was compared is that for the dimension
same_test : {d' : ℕ} (d n v h : ℕ) (es index : List ℕ) {reply : Bool} {index' : List ℕ} → d' ≡ d
    → RowsTested (rows_sound desk d' n v h es) es d' n h index reply index' → RowsTested (rows_sound desk d n v h es) es d n h index reply index'
same_test d n v h es index e t = record {
  told = t.told ∙ ap (λ (x : ℕ). rows_sound desk x n v h es) e;
  indexed = t.indexed;
  read = t.read ∙ ap (λ (x : ℕ). with_rows es (rows_read es x n h) index) e;
}

pub returns-then-d-eq2 : goal.returns-then-d-eq2
returns-then-d-eq2 c = same_test c.args.d c.args.n c.args.v c.args.h c.args.elements.now c.args.index.now (omega arith) c.rows_along.ensures

pub returns-then-d-eq3 : goal.returns-then-d-eq3
returns-then-d-eq3 c = same_test c.args.d c.args.n c.args.v c.args.h c.args.elements.now c.args.index.now (omega arith) c.rows_along-then-d-eq3.ensures

pub returns : goal.returns
returns c = c.rows_along-2.ensures
