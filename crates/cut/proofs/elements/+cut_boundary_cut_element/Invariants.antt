-- The rank falls from an element to its boundary; the round asks each element in turn, and its invariant says what is left to ask.
use Prim.Native.Nat.{◌+◌, ◌<◌, ◌≤◌}
use mathlib.Core.Path.{◌≡◌}
use lib.ListN.{length, get_or}
use Rattle.space.specs.Chains.{Indexed}
use Rattle.gathered.specs.Sets.{warning_in}
use Rattle.cut.specs.Known.{KnownStill}
use Rattle.cut.proofs.Rounds.{Going}
use Rattle.cut.proofs.elements.+cut_boundary_cut_element.Given as goal

abbrev pub decreases-cut_boundary : goal.decreases-cut_boundary
decreases-cut_boundary l = l.rank + l.rank

abbrev pub decreases-cut_element : goal.decreases-cut_element
decreases-cut_element l = l.rank + l.rank + 1

abbrev pub invariant-cut_boundary-loop-i : goal.invariant-cut_boundary-loop-i
invariant-cut_boundary-loop-i l =
    record {
      most : l.i ≤ l.n;
      points_long : length l.points ≡ length l.initial.points;
      elements_long : length l.elements ≡ length l.initial.elements;
      more : 1 < l.rank;
      going : Going l.rank more l.e.0 l.k l.initial.counts l.initial.points l.initial.elements l.initial.known (warning_in l.initial.room) l.i l.counts l.points l.elements l.known (warning_in l.room);
      indexed : Indexed l.elements (get_or l.counts 1 0) l.index;
      still : KnownStill l.initial.known l.known;
    }
