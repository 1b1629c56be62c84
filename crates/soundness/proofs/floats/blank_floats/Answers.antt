-- All floats are blank exactly when no bit of them has been seen and the floats that are left are.
use mathlib.Core.Path.{refl, sym, ap, ◌∙◌}
use lib.Ieee.{nan}
use Rattle.rules.specs.Floats.{same_bits, plus_zero}
use Rattle.soundness.proofs.Unseen.{unseen_go, unseen_end}
use borrow.Author.Rules.{rules}
use Rattle.std.proofs.lemmas.Slice.{between_is}
use Rattle.soundness.specs.Words.{blank_floats}
use Rattle.soundness.proofs.floats.blank_floats.Goals as goal

pub loop-x-init : goal.loop-x-init
loop-x-init c = record { within = search rules; same = refl }

pub loop-x-preserved : goal.loop-x-preserved
loop-x-preserved c = record {
  within = search rules;
  same = unseen_go (same_bits plus_zero) nan _ c.loop-x.seen _ c.loop-x.x-index c.loop-x.invariant.same (search rules) (sym c.bits_of-seen.ensures);
}

pub returns : goal.returns
returns c = unseen_end (same_bits plus_zero) nan _ c.loop-x.seen c.loop-x.x-index c.loop-x.invariant.same (search rules)
    ∙ ap blank_floats (between_is c.args.list.now c.args.from c.args.to)
