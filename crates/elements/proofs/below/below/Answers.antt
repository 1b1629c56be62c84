-- The pass has come down to what is left: what is not marked is passed over. At the end the marks are what is below the root.
use native.Mathlib.Omega.{arith}
use Rattle.elements.proofs.BelowLoops.{in_room_lem, going_start, going_next, going_end, used_below}
use borrow.Author.Rules.{rules}
use Rattle.elements.proofs.below.below.Goals as goal

pub loop-left-init : goal.loop-left-init
loop-left-init c = let r = in_room_lem _ _ c.requires.lent _ c.requires.used in
    record {
      low = search rules;
      room = omega (arith, r);
      root = used_below _ _ _ (omega arith) c.requires;
      going = going_start _ _ _ _ (search rules) c.none-marks.ensures r c.mark.ensures;
    }

pub onward-requires : goal.onward-requires
onward-requires c = used_below _ _ _ (omega (arith, c.down_to-e.ensures.low)) c.loop-left.invariant.root

pub loop-left-preserved : goal.loop-left-preserved
loop-left-preserved c = record {
  low = search rules;
  room = c.loop-left.invariant.room;
  root = c.loop-left.invariant.root;
  going = going_next _ _ _ _ _ _ (search rules) (omega arith) c.down_to-e.ensures c.onward.ensures c.loop-left.invariant.going;
}

pub returns : goal.returns
returns c = going_end _ _ _ _ (omega arith) c.loop-left.invariant.going
