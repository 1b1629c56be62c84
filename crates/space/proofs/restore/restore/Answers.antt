-- Zeros over each list's rows behind the old ones, and the old counts: `restored` says of which table that is.
use lib.Ieee
use Rattle.space.proofs.Zeros.{filled, restored}
use Rattle.rules.specs.Floats.{plus_zero}
use borrow.Author.Rules.{rules}
use Prim.Native.Nat.{◌*◌}
use lib.ListN.{length-set}
use native.Mathlib.Omega.{arith}
use Rattle.space.proofs.restore.restore.Goals as goal

pub bounds-counts-2-2 : goal.bounds-counts-2-2
bounds-counts-2-2 c = simp length-set (omega (arith, c.requires.counts))

pub bounds-counts-3-2 : goal.bounds-counts-3-2
bounds-counts-3-2 c = simp length-set (omega (arith, c.requires.counts))

pub returns : goal.returns
unfolding lib.Ieee.of_bits
returns c =
    restored c.args.e c.args.v c.args.h c.wide-ne.result c.wide-nv.result c.wide-nh.result c.wide-ne.ensures.value c.wide-nv.ensures.value c.wide-nh.ensures.value
    (filled 0 c.args.elements.now (c.args.e * 36) (c.wide-ne.result * 36) _ (search rules) (search rules) (c.fill.ensures.after (λ y q. q)))
    (filled plus_zero c.args.points.now (c.args.v * 4) (c.wide-nv.result * 4) _ (search rules) (search rules) (c.fill-2.ensures.after (λ y q. q)))
    (filled plus_zero c.args.planes.now (c.args.h * 5) (c.wide-nh.result * 5) _ (search rules) (search rules) (c.fill-3.ensures.after (λ y q. q)))
