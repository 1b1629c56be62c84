-- Place by place the words past the boundary join what was seen before.
use Prim.Native.Nat.{◌-◌}
use Rattle.soundness.proofs.PastLoops.{Joining}
use Rattle.soundness.proofs.row.gather_past.Given as goal

abbrev pub invariant-loop-j : goal.invariant-loop-j
invariant-loop-j l = Joining l.words l.at l.n l.initial.seen l.seen l.j

abbrev pub decreases-loop-j : goal.decreases-loop-j
decreases-loop-j l = 32 - l.j
