-- What is asked of the rows that are rowsLeft, with `k` as the vertex that is to be named next, is what is asked of all, where nothing is seen past a boundary so far; and the rows so far are in the index, no two of them equal.
use Prim.Native.Nat.{ℕ}
use mathlib.Core.Bool.{false≢true}
use mathlib.Core.Path.{◌≡◌, refl, sym, ap, ◌∙◌}
use native.Mathlib.Omega.{arith}
use Rattle.rules.specs.Limits.{desk}
use Rattle.space.proofs.Indexing.{index_count}
use Rattle.space.proofs.Meetings.{unmet_new}
use Rattle.soundness.specs.Words.{blank_words, rows_in_use}
use Rattle.soundness.specs.Tests.{with_rows}
use Rattle.soundness.proofs.BoundaryLoops.{edges_none, edges_on}
use Rattle.soundness.proofs.Distinct.{apart, apart_go, apart_no, apart_is}
use Rattle.soundness.proofs.RowLoops.{whole_room}
use Rattle.soundness.proofs.RowsRead.{read_start, read_no, read_known, read_go, read_end, with_go}
use Rattle.soundness.proofs.OnePass.{pass_start, pass_go, pass_no, pass_short, pass_end, row_head, row_element, no_first, no_second, both}
use borrow.Author.Rules.{rules}
use Rattle.soundness.proofs.sound.rows_in_use.Goals as goal

pub loop-i-init : goal.loop-i-init
loop-i-init c = record {
  within = search rules;
  few = search rules;
  mask = c.past_mask-past.ensures;
  same = pass_start c.args.elements.now c.args.d c.args.n c.args.v c.args.h;
  edges = edges_none c.args.elements.now;
  unmet = unmet_new;
  places = refl;
  distinct = refl;
  indexed = c.requires.empty;
  read = read_start c.args.elements.now c.args.d c.args.n c.args.h;
  joins = refl;
}

pub stored_row_sound-requires : goal.stored_row_sound-requires
stored_row_sound-requires c = record {
  long = c.requires.long;
  in_room = omega (arith, c.requires.fits, c.loop-i-test.true);
  edges = c.loop-i.invariant.edges;
  unmet = c.loop-i.invariant.unmet;
  mask =
      c.loop-i.invariant.mask;
  places = c.loop-i.invariant.places;
}

pub shape_of-index-then-not-stored_row_sound : goal.shape_of-index-then-not-stored_row_sound
shape_of-index-then-not-stored_row_sound c = c.loop-i.invariant.indexed.long ∙ sym c.requires.empty.long

pub returns-then-not-stored_row_sound : goal.returns-then-not-stored_row_sound
returns-then-not-stored_row_sound c = let no = sym c.stored_row_sound.ensures.told ∙ c.if-not-stored_row_sound.true in
    record {
      told = no_first _ _ (pass_no c.args.elements.now c.args.d c.args.n c.args.v c.args.h (blank_words c.loop-i.seen) c.loop-i.k c.loop-i.i c.loop-i.invariant.same c.loop-i-test.true no);
      indexed = λ t. absurd (false≢true t);
      read = c.loop-i.invariant.joins ∙ ap (λ (m : ℕ). with_rows c.args.elements.now m c.args.index.now) (sym (read_no c.args.elements.now c.args.d c.args.n c.args.h c.loop-i.k c.loop-i.i c.loop-i.invariant.read c.loop-i-test.true no));
    }

pub row_new-requires : goal.row_new-requires
row_new-requires c = record { long = c.requires.long; in_room = omega (arith, c.requires.fits, c.loop-i-test.true); earlier = c.loop-i.invariant.indexed }

pub returns-then-not-row_new : goal.returns-then-not-row_new
returns-then-not-row_new c = let known = c.if-not-row_new.true in
    let old = sym c.row_new.ensures.told ∙ known in
    record {
      told = no_second (rows_in_use desk c.args.d c.args.n c.args.v c.args.h c.args.elements.now) _ (sym (apart_is c.args.elements.now c.args.n) ∙ apart_no c.args.elements.now c.args.n c.loop-i.i c.loop-i-test.true old);
      indexed = λ t. absurd (false≢true t);
      read = c.row_new.ensures.stays known ∙ c.loop-i.invariant.joins
          ∙ ap (λ (m : ℕ). with_rows c.args.elements.now m c.args.index.now) (sym (read_known c.args.elements.now c.args.d c.args.n c.args.h c.loop-i.k c.loop-i.i c.loop-i.invariant.read c.loop-i-test.true old));
    }

pub loop-i-preserved : goal.loop-i-preserved
loop-i-preserved c = let yes = c.if-not-stored_row_sound.false in
    let new = c.if-not-row_new.false in
    let sound = sym c.stored_row_sound.ensures.told ∙ yes in
    let fresh = sym c.row_new.ensures.told ∙ new in
    let past = c.stored_row_sound.ensures.past yes in
    record {
      within = search rules;
      few = search rules;
      mask = c.loop-i.invariant.mask;
      same = pass_go c.args.elements.now c.args.d c.args.n c.args.v c.args.h (blank_words c.loop-i.seen) _ c.loop-i.k c.loop-i.i _ c.loop-i.invariant.same c.loop-i-test.true sound past.clear c.one_if_corner-k.ensures.corner;
      edges = edges_on c.args.elements.now c.loop-i.i c.args.d c.args.h c.requires.long (omega (arith, c.requires.fits, c.loop-i-test.true)) (row_head c.args.elements.now c.args.d c.args.h c.loop-i.k c.loop-i.i _ sound)
          (row_element c.args.elements.now c.args.d c.args.h c.loop-i.k c.loop-i.i _ sound) c.loop-i.invariant.edges;
      unmet = c.stored_row_sound.ensures.unmet yes;
      places = past.long;
      distinct = apart_go c.args.elements.now c.loop-i.i c.loop-i.invariant.distinct fresh;
      indexed = c.row_new.ensures.indexed new;
      read = read_go c.args.elements.now c.args.d c.args.n c.args.h c.loop-i.k c.loop-i.i c.loop-i.invariant.read c.loop-i-test.true _ sound fresh c.one_if_corner-k.ensures.corner;
      joins = with_go c.args.elements.now c.args.index.now c.loop-i.index _ c.loop-i.i c.loop-i.invariant.joins (c.row_new.ensures.joins new);
    }

pub shape_of-index-then-k-v : goal.shape_of-index-then-k-v
shape_of-index-then-k-v c = c.loop-i.invariant.indexed.long ∙ sym c.requires.empty.long

pub returns-then-k-v : goal.returns-then-k-v
returns-then-k-v c = record {
  told = no_first _ _ (pass_short c.args.elements.now c.args.d c.args.n c.args.v c.args.h (blank_words c.loop-i.seen) c.loop-i.k c.loop-i.i c.loop-i.invariant.same c.loop-i-test.false c.if-k-v.true);
  indexed = λ t. absurd (false≢true t);
  read = c.loop-i.invariant.joins
      ∙ ap (λ (m : ℕ). with_rows c.args.elements.now m c.args.index.now) (sym (read_end c.args.elements.now c.args.d c.args.n c.args.h c.loop-i.k c.loop-i.i c.loop-i.invariant.read c.loop-i-test.false));
}

pub blank_words-requires : goal.blank_words-requires
blank_words-requires c = record { order = search rules; end = search (rules, c.loop-i.invariant.places) }

pub shape_of-index : goal.shape_of-index
shape_of-index c = c.loop-i.invariant.indexed.long ∙ sym c.requires.empty.long

pub returns : goal.returns
returns c = let e : c.loop-i.i ≡ c.args.n = omega (arith, c.loop-i.invariant.within, c.loop-i-test.false) in
    record {
      told = both _ _
          (c.blank_words.ensures ∙ whole_room blank_words 0 32 c.loop-i.seen c.loop-i.invariant.places
          ∙ pass_end c.args.elements.now c.args.d c.args.n c.args.v c.args.h (blank_words c.loop-i.seen) c.loop-i.k c.loop-i.i c.loop-i.invariant.same c.loop-i-test.false c.if-k-v.false)
          (sym (apart_is c.args.elements.now c.args.n) ∙ ap (apart c.args.elements.now) (sym e) ∙ c.loop-i.invariant.distinct);
      indexed = λ t. index_count _ _ _ _ e c.loop-i.invariant.indexed;
      read = c.loop-i.invariant.joins ∙ ap (λ (m : ℕ). with_rows c.args.elements.now m c.args.index.now) (sym (read_end c.args.elements.now c.args.d c.args.n c.args.h c.loop-i.k c.loop-i.i c.loop-i.invariant.read c.loop-i-test.false));
    }
