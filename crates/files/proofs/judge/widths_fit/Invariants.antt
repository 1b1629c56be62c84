-- The elements whose boundaries are left fit exactly where all do, up to the first that does not.
use Prim.Native.Nat.{◌-◌}
use Rattle.rules.specs.Files.{element_in}
use Rattle.files.specs.Judged.{width_fits}
use Rattle.files.proofs.Judging.{Left}
use Rattle.files.proofs.judge.widths_fit.Given as goal

abbrev pub invariant-loop-e : goal.invariant-loop-e
invariant-loop-e l = Left element_in width_fits l.bytes l.initial.at l.e-end l.at l.e

abbrev pub decreases-loop-e : goal.decreases-loop-e
decreases-loop-e l = l.e-end - l.e
