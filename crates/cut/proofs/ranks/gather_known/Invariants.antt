-- The invariant: what is left to gather, from what the rules have gathered so far, is the whole of it.
use Prim.Native.Nat.{ℕ, ◌-◌, ◌≤◌}
use mathlib.Core.Path.{◌≡◌}
use mathlib.Core.List.{List}
use Rattle.gathered.specs.Sets.{Sized, warning_in}
use Rattle.gathered.specs.declared.sets.Room.{Room}
use Rattle.cut.proofs.Higher.{Filling}
use Rattle.cut.proofs.ranks.gather_known.Given as goal

pub record Gathering (es ms : List ℕ) (s : Room) (e n i : ℕ) (r : Room) : Type 0 where
  pub most : i ≤ n
  pub sized : Sized r i
  pub filling : Filling es ms e i r
  pub warning : warning_in r ≡ warning_in s

abbrev pub invariant-loop-i : goal.invariant-loop-i
invariant-loop-i l = Gathering l.elements l.known l.initial.room l.e.0 l.n l.i l.room

abbrev pub decreases-loop-i : goal.decreases-loop-i
decreases-loop-i l = l.n - l.i
