-- The five ways of rule 8: too few, 11, 7, 9, and the element that was there or is new.
use mathlib.Core.Path.{refl, sym, ◌∙◌}
use lib.ListN.{length}
use Rattle.space.proofs.PolytopeMemo.{poly_few, poly_many, poly_open, poly_refused, poly_made}
use borrow.Author.Rules.{rules}
use Rattle.std.proofs.lemmas.Result.{err_from_is_err_and}
use Rattle.space.proofs.memo.add_polytope.Goals as goal

pub returns-then-n-rank : goal.returns-then-n-rank
returns-then-n-rank c = record { added = poly_few _ _ _ _ _ _ (length c.args.list.now) refl c.if-n-rank.true; index = c.requires.index }

pub returns-then-n-gt-BOUNDARY : goal.returns-then-n-gt-BOUNDARY
returns-then-n-gt-BOUNDARY c = record { added = poly_many _ _ _ _ _ _ (length c.args.list.now) refl c.if-n-rank.false c.if-n-gt-BOUNDARY.true; index = c.requires.index }

pub returns-then-not-is_closed : goal.returns-then-not-is_closed
returns-then-not-is_closed c = record {
  added = poly_open _ _ _ _ _ _ (length c.args.list.now) refl c.if-n-rank.false c.if-n-gt-BOUNDARY.false (sym c.is_closed.ensures ∙ c.if-not-is_closed.true);
  index = c.requires.index;
}

pub add_row-requires : goal.add_row-requires
add_row-requires c = record { counts = c.requires.counts; elements = c.requires.elements; room = c.requires.room; row = search rules; index = c.requires.index }

pub returns-in_err-e : goal.returns-in_err-e
returns-in_err-e c = let q = sym c.is_closed.ensures ∙ c.if-not-is_closed.false in
    let x = err_from_is_err_and c.from_residual.result c.from_residual.ensures.1 in
    rw (x.1, x.2)
    record {
      added = poly_refused _ _ _ _ _ _ (length c.args.list.now) refl c.if-n-rank.false c.if-n-gt-BOUNDARY.false q _ _ _ _ c.polytope_row-row.ensures c.add_row.ensures.added _ c.in_err-e.was;
      index = c.add_row.ensures.index;
    }

pub returns : goal.returns
returns c = let q = sym c.is_closed.ensures ∙ c.if-not-is_closed.false in
    record {
      added = poly_made _ _ _ _ _ _ (length c.args.list.now) refl c.if-n-rank.false c.if-n-gt-BOUNDARY.false q _ _ _ _ c.polytope_row-row.ensures c.add_row.ensures.added _ c.in_ok-e.was;
      index = c.add_row.ensures.index;
    }
