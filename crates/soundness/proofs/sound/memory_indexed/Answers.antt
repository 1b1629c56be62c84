-- The answer is read off the tests that were taken, and the words are sound exactly when the memory is.
use Prim.Native.Nat.{ℕ}
use mathlib.Core.Path.{refl, sym, ap, ◌∙◌}
use mathlib.Core.Bool.{false, true, false≢true}
use native.Mathlib.Omega.{arith}
use Rattle.space.proofs.Sizes.{size_known}
use Rattle.space.proofs.Indexing.{index_count}
use Rattle.soundness.specs.Tests.{with_rows}
use Rattle.soundness.proofs.ElementLoops.{memory_is}
use Rattle.soundness.proofs.RowsRead.{memory_read_lem}
use Rattle.soundness.proofs.SoundWhole.{fit_counts}
use Rattle.soundness.proofs.sound.memory_indexed.Goals as goal

pub returns-then-not-right_size : goal.returns-then-not-right_size
returns-then-not-right_size c = let no = sym c.right_size.ensures ∙ c.if-not-right_size.true in
    record {
      told = memory_is _ _ _ _ _ _ _ _ false _ _ _ refl refl refl refl no refl refl refl;
      indexed = λ t. absurd (false≢true t);
      read = ap (λ (m : ℕ). with_rows c.args.memory.elements.now m c.args.index.now)
          (memory_read_lem _ _ _ _ _ _ _ _ false _ _ refl refl refl refl no refl refl);
    }

pub bounds-memory-0 : goal.bounds-memory-0
bounds-memory-0 c = let long = (size_known _ _ _ _ (sym c.right_size.ensures ∙ c.if-not-right_size.false)).counts in
    omega (arith, long)

pub bounds-memory-1 : goal.bounds-memory-1
bounds-memory-1 c = let long = (size_known _ _ _ _ (sym c.right_size.ensures ∙ c.if-not-right_size.false)).counts in
    omega (arith, long)

pub bounds-memory-2 : goal.bounds-memory-2
bounds-memory-2 c = let long = (size_known _ _ _ _ (sym c.right_size.ensures ∙ c.if-not-right_size.false)).counts in
    omega (arith, long)

pub bounds-memory-3 : goal.bounds-memory-3
bounds-memory-3 c = let long = (size_known _ _ _ _ (sym c.right_size.ensures ∙ c.if-not-right_size.false)).counts in
    omega (arith, long)

pub returns-then-not-counts_fit : goal.returns-then-not-counts_fit
returns-then-not-counts_fit c = let size = sym c.right_size.ensures ∙ c.if-not-right_size.false in
    let no = sym c.counts_fit.ensures ∙ c.if-not-counts_fit.true in
    record {
      told = memory_is _ _ _ _ _ _ _ _ true false _ _
          c.wide-d.ensures.value c.wide-n.ensures.value c.wide-v.ensures.value c.wide-h.ensures.value size no refl refl;
      indexed = λ t. absurd (false≢true t);
      read = ap (λ (m : ℕ). with_rows c.args.memory.elements.now m c.args.index.now)
          (memory_read_lem _ _ _ _ _ _ _ _ true false _
          c.wide-d.ensures.value c.wide-n.ensures.value c.wide-v.ensures.value c.wide-h.ensures.value size no refl);
    }

pub floats_sound-requires : goal.floats_sound-requires
floats_sound-requires c = let long = size_known _ _ _ _ (sym c.right_size.ensures ∙ c.if-not-right_size.false) in
    let f = fit_counts _ _ _ _ (sym c.counts_fit.ensures ∙ c.if-not-counts_fit.false) in
    record { dimension = f.dimension; vertices = f.vertices; hyperplanes = f.hyperplanes; points = long.points; planes = long.planes }

pub returns-then-not-floats_sound : goal.returns-then-not-floats_sound
returns-then-not-floats_sound c = let size = sym c.right_size.ensures ∙ c.if-not-right_size.false in
    let fits = sym c.counts_fit.ensures ∙ c.if-not-counts_fit.false in
    let no = sym c.floats_sound.ensures ∙ c.if-not-floats_sound.true in
    record {
      told = memory_is _ _ _ _ _ _ _ _ true true false _
          c.wide-d.ensures.value c.wide-n.ensures.value c.wide-v.ensures.value c.wide-h.ensures.value size fits no refl;
      indexed = λ t. absurd (false≢true t);
      read = ap (λ (m : ℕ). with_rows c.args.memory.elements.now m c.args.index.now)
          (memory_read_lem _ _ _ _ _ _ _ _ true true false
          c.wide-d.ensures.value c.wide-n.ensures.value c.wide-v.ensures.value c.wide-h.ensures.value size fits no);
    }

pub rows_sound-requires : goal.rows_sound-requires
rows_sound-requires c = let long = size_known _ _ _ _ (sym c.right_size.ensures ∙ c.if-not-right_size.false) in
    let fits = fit_counts _ _ _ _ (sym c.counts_fit.ensures ∙ c.if-not-counts_fit.false) in
    record { long = long.elements; fits = fits.elements; empty = c.requires }

pub returns : goal.returns
returns c = let size = sym c.right_size.ensures ∙ c.if-not-right_size.false in
    let fits = sym c.counts_fit.ensures ∙ c.if-not-counts_fit.false in
    let floats = sym c.floats_sound.ensures ∙ c.if-not-floats_sound.false in
    record {
      told = memory_is _ _ _ _ _ _ _ _ true true true _
          c.wide-d.ensures.value c.wide-n.ensures.value c.wide-v.ensures.value c.wide-h.ensures.value size fits floats (sym c.rows_sound.ensures.told);
      indexed = λ t. index_count _ _ _ _ c.wide-n.ensures.value (c.rows_sound.ensures.indexed t);
      read = c.rows_sound.ensures.read
          ∙ ap (λ (m : ℕ). with_rows c.args.memory.elements.now m c.args.index.now)
          (memory_read_lem _ _ _ _ _ _ _ _ true true true
          c.wide-d.ensures.value c.wide-n.ensures.value c.wide-v.ensures.value c.wide-h.ensures.value size fits floats);
    }
