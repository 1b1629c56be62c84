-- What is left to write, put behind what is written, makes up the whole; so do the sizes.
use Rattle.std.proofs.Common.{◌≡◌, ◌+◌, ◌<◌, ◌≤◌, length, pos, nat_abs, sym, refl, ap, ◌∙◌, subst, zero-le, le_trans, le_of_eq, zero-add, arith, lit≤, length-set, rules}
use Rattle.areas.specs.Words.{word_area, PieceFits}
use Rattle.areas.proofs.Loops.{write_go, total_go, write_end, total_end}
use Rattle.areas.proofs.Small.{again, told, sized_fits, sized_sum, sized_few}
use Rattle.areas.proofs.Walked.{area_small}
use Rattle.areas.proofs.write_areas.Goals as goal

pub loop-i-init : goal.loop-i-init
loop-i-init c = record {
  low = search rules;
  end = refl;
  long = refl;
  same = refl;
  added = 0;
  is = refl;
  few = zero-le;
  total = sym (zero-add _);
}

pub twice_area-area-requires : goal.twice_area-area-requires
twice_area-area-requires c =
    let piece : PieceFits c.args.points.now c.args.elements.now c.wide.result =
    subst (PieceFits _ _) (sym c.wide.ensures.value) (c.requires.pieces.each c.loop-i.i c.loop-i-test.true) in
    piece

pub bounds-areas-i : goal.bounds-areas-i
bounds-areas-i c = omega (arith, c.loop-i.invariant.long, c.requires.enough, c.loop-i-test.true)

pub size_of-sum-requires : goal.size_of-sum-requires
size_of-sum-requires c =
    let piece : PieceFits c.args.points.now c.args.elements.now c.wide.result =
    subst (PieceFits _ _) (sym c.wide.ensures.value) (c.requires.pieces.each c.loop-i.i c.loop-i-test.true) in
    let area : again c.twice_area-area.result ≡ word_area c.args.points.now c.args.elements.now c.wide.result =
    told _ _ c.twice_area-area.ensures (le_trans (area_small _ _ _ piece) (lit≤ tt)) in
    record { size = le_trans (le_of_eq (ap nat_abs area)) (area_small _ _ _ piece) }

pub overflow_add-sum : goal.overflow_add-sum
overflow_add-sum c =
    let piece : PieceFits c.args.points.now c.args.elements.now c.wide.result =
    subst (PieceFits _ _) (sym c.wide.ensures.value) (c.requires.pieces.each c.loop-i.i c.loop-i-test.true) in
    let area : again c.twice_area-area.result ≡ word_area c.args.points.now c.args.elements.now c.wide.result =
    told _ _ c.twice_area-area.ensures (le_trans (area_small _ _ _ piece) (lit≤ tt)) in
    let below : c.loop-i.i < length c.args.pieces.now → c.loop-i.i ≤ 15 =
    (λ h. omega (arith, c.requires.pieces.few, h)) in
    sized_fits _ _ _ _ _ _ c.loop-i.invariant.is c.size_of-sum.ensures area (area_small _ _ _ piece) c.loop-i.invariant.few (below c.loop-i-test.true)

pub loop-i-preserved : goal.loop-i-preserved
loop-i-preserved c =
    let piece : PieceFits c.args.points.now c.args.elements.now c.wide.result =
    subst (PieceFits _ _) (sym c.wide.ensures.value) (c.requires.pieces.each c.loop-i.i c.loop-i-test.true) in
    let area : again c.twice_area-area.result ≡ word_area c.args.points.now c.args.elements.now c.wide.result =
    told _ _ c.twice_area-area.ensures (le_trans (area_small _ _ _ piece) (lit≤ tt)) in
    let below : c.loop-i.i < length c.args.pieces.now → c.loop-i.i ≤ 15 =
    (λ h. omega (arith, c.requires.pieces.few, h)) in
    let g = word_area c.args.points.now c.args.elements.now in
    let small = area_small _ _ _ piece in
    record {
      low = search rules;
      end = refl;
      long = length-set c.loop-i.areas c.loop-i.i _ ∙ c.loop-i.invariant.long;
      same = write_go g c.args.pieces.now c.loop-i.i _ c.wide.ensures.value c.loop-i-test.true _ c.loop-i.areas _ area c.loop-i.invariant.same;
      added = c.loop-i.invariant.added + nat_abs (g c.wide.result);
      is = sized_sum _ _ _ _ _ _ c.loop-i.invariant.is c.size_of-sum.ensures area small c.loop-i.invariant.few (below c.loop-i-test.true);
      few = sized_few _ _ _ _ _ _ c.loop-i.invariant.is c.size_of-sum.ensures area small c.loop-i.invariant.few (below c.loop-i-test.true);
      total = total_go g c.args.pieces.now c.loop-i.i _ c.wide.ensures.value c.loop-i-test.true _ _ c.loop-i.invariant.total;
    }

pub shape_of-areas : goal.shape_of-areas
shape_of-areas c = search (rules, c.loop-i.invariant.long)

pub returns : goal.returns
returns c = let g = word_area c.args.points.now c.args.elements.now in
    record {
      front = write_end g c.args.pieces.now c.loop-i.i c.loop-i-test.false _ _ c.loop-i.invariant.same;
      total = c.loop-i.invariant.is ∙ ap pos (total_end g c.args.pieces.now c.loop-i.i c.loop-i-test.false _ _ c.loop-i.invariant.total);
    }
