-- The invariant: what the cuts from here on give is what the whole list gives.
use Prim.Native.Nat.{◌-◌}
use mathlib.Core.Path.{◌≡◌}
use lib.ListN.{length}
use Rattle.cut.specs.Lists.{cut_list_of}
use Rattle.cut.proofs.Listing.{Running}
use Rattle.cut.proofs.lists.cuts_in_turn.Given as goal

abbrev pub invariant-loop-i : goal.invariant-loop-i
invariant-loop-i l = record {
  run : Running l.initial.counts l.initial.points l.initial.planes l.initial.elements (cut_list_of l.dividers l.kept l.roots) l.initial.answers l.counts l.points l.planes l.elements l.index l.answers l.i;
  counts_long : length l.counts ≡ length l.initial.counts;
  points_long : length l.points ≡ length l.initial.points;
  planes_long : length l.planes ≡ length l.initial.planes;
  elements_long : length l.elements ≡ length l.initial.elements;
  answers_long : length l.answers ≡ length l.initial.answers;
}

abbrev pub decreases-loop-i : goal.decreases-loop-i
decreases-loop-i l = length l.roots - l.i
