-- The marks, and the roots that are left, are all roots.
use Prim.Native.Nat.{◌+◌, ◌<◌}
use native.Mathlib.Omega.{arith}
use lib.ListN.{length}
use Rattle.elements.proofs.CommonLoops.{roots_used_at, root_behind, narrowing_start, narrowing_next, narrowing_end}
use borrow.Author.Rules.{rules}
use Rattle.elements.proofs.common.common.Goals as goal

pub below-s-requires : goal.below-s-requires
below-s-requires c = roots_used_at _ _ 0 _ c.requires.every c.requires.some c.wide.ensures.value

pub loop-root-init : goal.loop-root-init
loop-root-init c = record {
  low = search (rules, c.requires.some);
  used = c.requires.every;
  marks = narrowing_start _ _ _ _ c.requires.some c.wide.ensures.value c.below-s.ensures;
}

pub below-next-requires : goal.below-next-requires
below-next-requires c =
    let next : c.loop-root.root-index + 1 < length c.args.roots.now = search rules in
    roots_used_at _ _ (c.loop-root.root-index + 1) _ c.loop-root.invariant.used next (root_behind c.args.roots.now c.loop-root.root-index _ next c.wide-in-loop-root.ensures.value)

pub loop-root-preserved : goal.loop-root-preserved
loop-root-preserved c = let next : c.loop-root.root-index + 1 < length c.args.roots.now = search rules in
    record {
      low = search rules;
      used = c.loop-root.invariant.used;
      marks = narrowing_next _ _ _ _ _ _ _ next (root_behind c.args.roots.now c.loop-root.root-index _ next c.wide-in-loop-root.ensures.value) c.below-next.ensures c.both-s.ensures c.loop-root.invariant.marks;
    }

pub returns : goal.returns
returns c = narrowing_end _ _ _ _ (omega arith) c.loop-root.invariant.marks
