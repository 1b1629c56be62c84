-- The boundaries of the numbers that are left of the word are to come.
use Prim.Native.Nat.{◌+◌, ◌-◌}
use Rattle.elements.proofs.LevelLoops.{Passing}
use Rattle.elements.proofs.levels.mark_under_word.Given as goal

abbrev pub invariant-loop-left : goal.invariant-loop-left
invariant-loop-left l = Passing l.elements l.word l.base l.initial.marks.words l.marks.words l.x l.left

abbrev pub decreases-loop-left : goal.decreases-loop-left
decreases-loop-left l = l.base + 64 - l.x
