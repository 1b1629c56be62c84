-- The invariant: the faces across the axes from one on are gathered, the highest first.
use native.Mathlib.Omega.{arith}
use Rattle.cube.proofs.CubeRows.{descend_start, descend_ready, descend_next, descend_end}
use borrow.Author.Rules.{rules}
use Rattle.cube.proofs.faces_of.Goals as goal

pub loop-axis-init : goal.loop-axis-init
loop-axis-init c = record {
  left = search rules;
  axes = search rules;
  long = search rules;
  going = descend_start _ _ _ _ c.requires.used c.digits_of-ks.ensures c.cube_size-step.ensures.power;
}

pub faces_across-f-requires : goal.faces_across-f-requires
faces_across-f-requires c = descend_ready _ _ _ _ _ _ c.loop-axis.invariant.axes c.loop-axis.invariant.left (omega arith) c.loop-axis.invariant.going

pub loop-axis-preserved : goal.loop-axis-preserved
loop-axis-preserved c = record {
  left = search rules;
  axes = search rules;
  long = search rules;
  going = descend_next _ _ _ _ _ _ c.loop-axis.invariant.axes c.loop-axis.invariant.left (omega arith) c.loop-axis.invariant.going _ c.faces_across-f.ensures;
}

pub returns : goal.returns
returns c = descend_end _ _ _ _ _ _ (omega arith) c.loop-axis.invariant.going
