-- What is known is answered so. Otherwise the rank falls from an element to its boundary, and the round asks each element in turn.
use Rattle.std.proofs.lemmas.Result.{err_from_is_err_and}
use mathlib.Core.Path.{refl, ◌∙◌}
use native.Mathlib.Omega.{arith}
use borrow.Author.Rules.{rules}
use Rattle.cut.proofs.Rounds as round
use Rattle.cut.proofs.Higher.{element_refused, higher_ready, element_answered}
use Rattle.cut.proofs.StaysKnown.{ask_low, known_asked, still_refl, still_trans}
use Rattle.cut.proofs.elements.+cut_boundary_cut_element.Goals as goal

-- ---- the round

pub cut_boundary-size_of-n-requires : goal.cut_boundary-size_of-n-requires
cut_boundary-size_of-n-requires t c = let R = c.requires.ready in record { elements = round.ready_words R; room = ask_low R }

pub cut_boundary-loop-i-init : goal.cut_boundary-loop-i-init
cut_boundary-loop-i-init t c =
    let R = c.requires in
    record {
      most = search rules;
      points_long = refl;
      elements_long = refl;
      more = R.more;
      going = round.going_start R.more;
      indexed = R.ready.indexed;
      still = still_refl _;
    }

pub cut_boundary-boundary_at-requires : goal.cut_boundary-boundary_at-requires
cut_boundary-boundary_at-requires t c =
    let R = c.requires in
    let m = round.round_most R _ c.size_of-n.ensures in
    record { elements = c.loop-i.invariant.elements_long ∙ round.ready_words R.ready; room = ask_low R.ready; place = omega (arith, m, c.loop-i-test.true) }

pub cut_boundary-cut_element-requires : goal.cut_boundary-cut_element-requires
cut_boundary-cut_element-requires t c =
    let at = c.loop-i.invariant in (
      omega (arith, c.decreases),
      round.next_ready at.more at.going _ c.size_of-n.ensures refl refl c.requires.ready c.loop-i-test.true _ (c.wide.ensures.value ∙ c.boundary_at.ensures) at.indexed,
    )

pub cut_boundary-returns-in_err-cut_element : goal.cut_boundary-returns-in_err-cut_element
cut_boundary-returns-in_err-cut_element t c =
    let at = c.loop-i.invariant in
    let C = c.cut_element.ensures in
    let x = err_from_is_err_and c.from_residual.result c.from_residual.ensures.1 in
    rw (x.1, x.2)
    record {
      of = round.round_refused at.more at.going _ c.size_of-n.ensures c.loop-i-test.true _ (c.wide.ensures.value ∙ c.boundary_at.ensures) C.of _ c.in_err-cut_element.was;
      indexed = C.indexed;
      still = still_trans at.still C.still;
    }

pub cut_boundary-loop-i-preserved : goal.cut_boundary-loop-i-preserved
cut_boundary-loop-i-preserved t c =
    let at = c.loop-i.invariant in
    let C = c.cut_element.ensures in
    record {
      most = omega (arith, c.loop-i-test.true);
      points_long = c.cut_element.auto.points ∙ at.points_long;
      elements_long = c.cut_element.auto.elements ∙ at.elements_long;
      more = at.more;
      going = round.going_on_lem at.more at.going _ c.size_of-n.ensures c.loop-i-test.true _ (c.wide.ensures.value ∙ c.boundary_at.ensures) C.of c.in_ok-cut_element.was C.still;
      indexed = C.indexed;
      still = still_trans at.still C.still;
    }

pub cut_boundary-returns : goal.cut_boundary-returns
cut_boundary-returns t c =
    let at = c.loop-i.invariant in
    record {
      of = round.round_done at.more at.going _ c.size_of-n.ensures c.loop-i-test.false at.most;
      indexed = at.indexed;
      still = at.still;
    }

-- ---- the element

pub cut_element-returns-then-is_known : goal.cut_element-returns-then-is_known
cut_element-returns-then-is_known t c = known_asked _ c.requires c.is_known.ensures c.if-is_known.true

pub cut_element-returns-in_err-cut_boundary : goal.cut_element-returns-in_err-cut_boundary
cut_element-returns-in_err-cut_boundary t c = let x = err_from_is_err_and c.from_residual.result c.from_residual.ensures.1 in
    rw (x.1, x.2) (element_refused c.if-rank-lt2.false c.cut_boundary.ensures _ c.in_err-cut_boundary.was)

pub cut_element-answer_higher-requires : goal.cut_element-answer_higher-requires
cut_element-answer_higher-requires t c = higher_ready c.if-rank-lt2.false c.cut_boundary.ensures c.in_ok-cut_boundary.was c.requires

pub cut_element-returns : goal.cut_element-returns
cut_element-returns t c = element_answered c.if-rank-lt2.false c.cut_boundary.ensures c.in_ok-cut_boundary.was c.answer_higher.ensures
