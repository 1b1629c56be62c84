-- The boundaries of the words that are left are to come.
use Prim.Native.Nat.{ℕ, ◌-◌, ◌≤◌}
use mathlib.Core.List.{List}
use mathlib.Core.Path.{◌≡◌}
use lib.ListN.{length}
use Rattle.elements.specs.Marks.{NoneMarked}
use Rattle.elements.specs.Levels.{SetReady}
use Rattle.elements.proofs.LevelLoops.{Passed}
use Rattle.elements.proofs.levels.one_under.Given as goal

pub record Marked (es set none ws : List ℕ) (w : ℕ) : Type 0 where
  pub so_far : w ≤ 8
  pub long : length set ≡ 8
  pub words : length none ≡ 8
  pub none_yet : NoneMarked none
  pub ready : SetReady es set
  pub passed : Passed es set none ws w

abbrev pub invariant-loop-w : goal.invariant-loop-w
invariant-loop-w l = Marked l.elements l.s.words l.initial.marks.words l.marks.words l.w

abbrev pub decreases-loop-w : goal.decreases-loop-w
decreases-loop-w l = 8 - l.w
