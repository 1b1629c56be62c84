-- The root alone, and a rank lower with each turn.
use Prim.Native.Nat.{◌-◌}
use Rattle.elements.proofs.LevelLoops.{Lowered}
use Rattle.elements.proofs.levels.level.Given as goal

abbrev pub invariant-loop-i : goal.invariant-loop-i
invariant-loop-i l = Lowered l.elements l.top l.rank l.initial.s.words l.s.words l.i

abbrev pub decreases-loop-i : goal.decreases-loop-i
decreases-loop-i l = l.top - l.i
