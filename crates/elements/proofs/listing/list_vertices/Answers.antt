-- There is room for as many as are marked, or 12; what stands in the front is replaced in its place.
use Rattle.std.proofs.lemmas.Result.{err_from_is_err_and}
use mathlib.Core.List.{map}
use mathlib.Core.Path.{sym, ◌∙◌}
use lib.ListN.{length-map}
use Rattle.elements.specs.Marks.{marked_numbers}
use Rattle.elements.specs.Ranks.{vertex_word}
use Rattle.elements.proofs.ListLoops.{fitted, refused_alike, in_front}
use Rattle.elements.proofs.VertexLoops.{still_long, listed_low, replaced}
use Rattle.elements.proofs.listing.list_vertices.Goals as goal

pub returns-in_err-n : goal.returns-in_err-n
returns-in_err-n c = let x = err_from_is_err_and c.from_residual.result c.from_residual.ensures.1 in
    let xs = marked_numbers c.args.s.now.words in
    let f = vertex_word c.args.elements.now in
    rw (x.1, x.2) (refused_alike xs _ _ _ c.list_marks.ensures _ c.in_err-n.was (map f xs) (length-map xs f))

pub name_vertices-requires : goal.name_vertices-requires
name_vertices-requires c = let w = fitted (marked_numbers c.args.s.now.words) _ _ _ c.list_marks.ensures _ c.in_ok-n.was in
    record {
      long = c.requires;
      few = still_long c.args.s.now.words _ _ _ w.size w.room w.list;
      low = listed_low c.args.s.now.words _ _ _ w.size w.room w.list;
    }

pub returns : goal.returns
returns c = let xs = marked_numbers c.args.s.now.words in
    let f = vertex_word c.args.elements.now in
    let w = fitted xs _ _ _ c.list_marks.ensures _ c.in_ok-n.was in
    in_front (map f xs) _ _ _ (w.size ∙ sym (length-map xs f)) w.room (replaced c.args.s.now.words _ _ _ w.size w.room w.list c.args.elements.now _ c.name_vertices.ensures)
