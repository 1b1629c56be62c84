-- The invariant: what is counted, and the records that are left, make all of it.
use native.Mathlib.Omega.{arith}
use borrow.Author.Rules.{rules}
use Rattle.files.proofs.SavedSizes.{no_size, next_size, whole_size}
use Rattle.files.proofs.save.elements_size.Goals as goal

pub loop-e-init : goal.loop-e-init
loop-e-init c = no_size _ _

pub loop-e-preserved : goal.loop-e-preserved
loop-e-preserved c = next_size c.args.elements.now c.args.n c.requires c.loop-e.e (search rules) _ c.wide.ensures.value c.loop-e.invariant

pub returns : goal.returns
returns c = record { value = whole_size c.args.elements.now c.args.n (search rules) c.loop-e.invariant; bound = omega (arith, c.loop-e.invariant.most, c.loop-e.invariant.within, c.requires.room) }
