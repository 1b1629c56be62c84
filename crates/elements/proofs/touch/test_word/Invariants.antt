-- The numbers that are left of the word are to be tested; once both have been met, nothing more is told.
use Prim.Native.Nat.{◌+◌, ◌-◌}
use Rattle.elements.proofs.TouchLoops.{Testing}
use Rattle.elements.proofs.touch.test_word.Given as goal

abbrev pub invariant-loop-left : goal.invariant-loop-left
invariant-loop-left l = Testing l.d l.h l.points l.elements l.word l.base l.initial.s l.s l.x l.left

abbrev pub decreases-loop-left : goal.decreases-loop-left
decreases-loop-left l = l.base + 64 - l.x
