-- Two ways, by the edge test: rule 6 on what the ends answered, or the crossing first.
use native.Mathlib.Omega.{arith}
use Rattle.space.proofs.Slices.{slices}
use Rattle.ends.proofs.Edges.{ends_ready, ends_asked, missed_ready, missed_cut, crossing_ready, crossing_cut}
use Rattle.ends.proofs.cut_edge.Goals as goal

pub bounds-counts-0 : goal.bounds-counts-0
bounds-counts-0 c = omega (arith, (slices c.requires.ready.fit.holds).counts)

pub read_ends-ends-requires : goal.read_ends-ends-requires
read_ends-ends-requires c = ends_ready c.requires.ready

pub gather_ends-requires : goal.gather_ends-requires
gather_ends-requires c = ends_asked (ends_ready c.requires.ready) c.read_ends-ends.ensures

pub rule6-requires : goal.rule6-requires
rule6-requires c = missed_ready _ _ _ _ _ c.wide-d.ensures.value c.read_ends-ends.ensures c.signed_distance-sa.ensures c.signed_distance-sb.ensures
    c.edge_test-test.ensures c.note.ensures c.gather_ends.ensures
    c.requires

pub cut_crossed-requires : goal.cut_crossed-requires
cut_crossed-requires c = record {
  ready = crossing_ready _ _ _ _ _ c.wide-d.ensures.value c.read_ends-ends.ensures c.signed_distance-sa.ensures c.signed_distance-sb.ensures
      c.edge_test-test.ensures c.note.ensures c.gather_ends.ensures _ _
      c.crossing_point-at.ensures c.requires.ready;
  indexed = c.requires.indexed;
}

pub returns-in-None : goal.returns-in-None
returns-in-None c = missed_cut _ _ _ _ _ c.wide-d.ensures.value c.read_ends-ends.ensures c.signed_distance-sa.ensures c.signed_distance-sb.ensures
    c.edge_test-test.ensures c.note.ensures c.gather_ends.ensures
    c.in-None.is c.rule6.ensures

pub returns-in-Some : goal.returns-in-Some
returns-in-Some c = crossing_cut _ _ _ _ _ c.wide-d.ensures.value c.read_ends-ends.ensures c.signed_distance-sa.ensures c.signed_distance-sb.ensures
    c.edge_test-test.ensures c.note.ensures c.gather_ends.ensures _ _
    c.crossing_point-at.ensures c.in-Some.is c.cut_crossed.ensures
