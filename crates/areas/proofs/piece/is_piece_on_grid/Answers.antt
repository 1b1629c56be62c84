-- The front of the list is the walk.
use Rattle.std.proofs.Common.{refl, ap, ◌∙◌}
use Rattle.rules.specs.Lists.{all}
use Rattle.areas.specs.Words.{corner_on_grid, words_on_grid}
use Rattle.areas.proofs.Walked.{front, corners_fit, room_for}
use Rattle.areas.proofs.piece.is_piece_on_grid.Goals as goal

pub walk_face-requires : goal.walk_face-requires
walk_face-requires c = record { face = c.requires.face; enough = room_for _ _ c.requires.face.bounds }

pub are_corners_on_grid-requires : goal.are_corners_on_grid-requires
are_corners_on_grid-requires c = corners_fit c.args.elements.now c.args.f.0 _ c.requires.face.bounds c.size_of.ensures _ _ refl c.walk_face.ensures _ c.requires

pub returns : goal.returns
unfolding words_on_grid
returns c = c.are_corners_on_grid.ensures
    ∙ ap (all (corner_on_grid c.args.points.now)) (front c.args.elements.now c.args.f.0 _ c.requires.face.bounds c.size_of.ensures _ _ refl c.walk_face.ensures)
