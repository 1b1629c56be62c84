-- A part that is not sound gives the answer; where all are, the rows do.
use Prim.Native.Nat.{ℕ}
use mathlib.Core.Bool.{Bool, true}
use mathlib.Core.List.{List}
use mathlib.Core.Path.{◌≡◌, sym, ◌∙◌}
use Rattle.rules.specs.Table.{Table}
use Rattle.files.specs.Laid.{Whole}
use Rattle.files.specs.declared.layout.Laid.{Laid}
use Rattle.files.specs.Judged.{SaysFitting, Judged, laid_fits, widths_fit}
use Rattle.files.proofs.JudgedTable.{counts_not, widths_not, vertices_not, hyperplanes_not, by_rows}
use Rattle.files.proofs.judge.table_sound.Goals as goal

-- what both tests say, once neither refuses
fitting : (bytes : List ℕ) (laid : Laid) (t : Table) (w : Whole bytes laid t) {counts widths : Bool} → counts ≡ laid_fits laid → counts ≡ true
    → Judged bytes laid widths_fit widths → widths ≡ true → SaysFitting bytes laid
fitting bytes laid t w counts so widths all = record { table = t; whole = w; counts = sym counts ∙ so; widths = sym (widths.told t w) ∙ all }

pub returns-then-not-counts_fit : goal.returns-then-not-counts_fit
returns-then-not-counts_fit c = counts_not _ _ c.counts_fit.ensures c.if-not-counts_fit.true

pub returns-then-not-widths_fit : goal.returns-then-not-widths_fit
returns-then-not-widths_fit c = widths_not _ _ c.widths_fit.ensures c.if-not-widths_fit.true

pub returns-then-not-vertices_sound : goal.returns-then-not-vertices_sound
returns-then-not-vertices_sound c = vertices_not _ _ c.vertices_sound.ensures c.if-not-vertices_sound.true

pub returns-then-not-hyperplanes_sound : goal.returns-then-not-hyperplanes_sound
returns-then-not-hyperplanes_sound c = hyperplanes_not _ _ c.hyperplanes_sound.ensures c.if-not-hyperplanes_sound.true

pub returns : goal.returns
returns c = by_rows _ _ c.counts_fit.ensures c.widths_fit.ensures c.vertices_sound.ensures c.hyperplanes_sound.ensures
    c.if-not-counts_fit.false c.if-not-widths_fit.false c.if-not-vertices_sound.false c.if-not-hyperplanes_sound.false c.rows_judged.ensures
