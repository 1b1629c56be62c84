-- Two invariants: the search is asked from the vertex at hand on, and its comparison from the axis at hand on.
use mathlib.Core.Path.{refl, sym, ◌∙◌}
use native.Mathlib.Omega.{arith}
use lib.ListN.{take}
use Rattle.rules.specs.Floats.{point_matches}
use Rattle.rules.proofs.Indexed.{sought_start, sought_on, sought_here, sought_none}
use Rattle.hypermath.specs.Axes.{axes}
use Rattle.hypermath.proofs.Searches.{left_go, left_no, left_end}
use borrow.Author.Rules.{rules}
use Rattle.hypermath.proofs.search_vertices.Goals as goal

pub vertices-init : goal.vertices-init
vertices-init c = record { few = search rules; sought = sought_start (take c.args.d) (λ r. point_matches r (take c.args.d c.args.p)) axes c.args.n c.args.points.now 0 }

pub loop-axis-init : goal.loop-axis-init
loop-axis-init c = record {
  same = refl;
  few = search rules;
  room = c.requires;
  long = search rules;
  in_use_lem = omega arith;
  uses = c.axes_of-used.ensures;
  left = refl;
  sought = c.vertices.invariant.sought;
}

pub vertices-preserved : goal.vertices-preserved
vertices-preserved c = let unlike =
    left_no c.args.d c.args.n c.args.points.now c.args.p _ c.loop-axis.v c.loop-axis.invariant.uses c.loop-axis.invariant.room c.loop-axis.invariant.long c.loop-axis.invariant.in_use_lem c.loop-axis.axis c.loop-axis.invariant.left
    c.loop-axis-test.true (sym c.coordinates_match.ensures ∙ c.if-not-coordinates_match.true) in
    record {
      few = search rules;
      sought = sought_on (take c.args.d) (λ r. point_matches r (take c.args.d c.args.p)) axes c.args.n c.args.points.now c.loop-axis.v c.loop-axis.invariant.in_use_lem c.loop-axis.invariant.sought unlike;
    }

pub loop-axis-preserved : goal.loop-axis-preserved
loop-axis-preserved c = let more =
    left_go c.args.d c.args.n c.args.points.now c.args.p _ c.loop-axis.v c.loop-axis.invariant.uses c.loop-axis.invariant.room c.loop-axis.invariant.long c.loop-axis.invariant.in_use_lem c.loop-axis.axis c.loop-axis.invariant.left
    c.loop-axis-test.true (sym c.coordinates_match.ensures ∙ c.if-not-coordinates_match.false) in
    record {
      same = search rules;
      few = search rules;
      room = c.loop-axis.invariant.room;
      long = c.loop-axis.invariant.long;
      in_use_lem = c.loop-axis.invariant.in_use_lem;
      uses = c.loop-axis.invariant.uses;
      left = more;
      sought = c.loop-axis.invariant.sought;
    }

pub returns-then-v-n : goal.returns-then-v-n
returns-then-v-n c = sought_none (take c.args.d) (λ r. point_matches r (take c.args.d c.args.p)) axes c.args.n c.args.points.now c.vertices.v (omega arith) c.vertices.invariant.sought

pub returns-after-loop-axis : goal.returns-after-loop-axis
returns-after-loop-axis c = let like = left_end c.args.d c.args.n c.args.points.now c.args.p _ c.loop-axis.v c.loop-axis.invariant.uses c.loop-axis.invariant.room c.loop-axis.invariant.long c.loop-axis.invariant.in_use_lem
    c.loop-axis.axis c.loop-axis.invariant.left (omega arith) in
    sought_here (take c.args.d) (λ r. point_matches r (take c.args.d c.args.p)) axes c.args.n c.args.points.now c.loop-axis.v c.loop-axis.invariant.in_use_lem c.loop-axis.invariant.sought like
