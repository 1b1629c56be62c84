-- The vertex is refused, or is the flush one of the edge, and rule 6 goes on from its table.
use mathlib.Core.Path.{refl}
use Rattle.std.proofs.lemmas.Result.{err_from_is_err_and}
use Rattle.ends.proofs.EndsGathered.{crossed}
use Rattle.ends.proofs.Edges.{vertex_asked, crossed_refused, crossed_ready, crossed_done}
use Rattle.ends.proofs.cut_crossed.Goals as goal

pub add_vertex-requires : goal.add_vertex-requires
add_vertex-requires c = vertex_asked c.requires

pub rule6-requires : goal.rule6-requires
rule6-requires c = crossed_ready c.add_vertex.ensures.added _ c.in_ok-v.was (crossed _ _ _ refl refl refl refl refl refl) c.requires.ready c.add_vertex.ensures.index

pub returns-in_err-v : goal.returns-in_err-v
returns-in_err-v c = let x = err_from_is_err_and c.from_residual.result c.from_residual.ensures.1 in
    rw (x.1, x.2) (crossed_refused c.add_vertex.ensures.added c.requires.ready c.add_vertex.ensures.index _ c.in_err-v.was)

pub returns : goal.returns
returns c = crossed_done c.add_vertex.ensures.added _ c.in_ok-v.was (crossed _ _ _ refl refl refl refl refl refl) c.rule6.ensures
