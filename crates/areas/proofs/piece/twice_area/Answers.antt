-- The front of the list is the walk, and its area is small enough to be read back as it is.
use Rattle.std.proofs.Common.{refl, ap, ◌∙◌, le_trans, lit≤}
use Rattle.areas.specs.Words.{turns_along, word_area}
use Rattle.areas.proofs.Small.{told}
use Rattle.areas.proofs.Walked.{front, steps_fit, room_for, area_small}
use Rattle.areas.proofs.piece.twice_area.Goals as goal

pub walk_face-requires : goal.walk_face-requires
walk_face-requires c = record { face = c.requires.face; enough = room_for _ _ c.requires.face.bounds }

pub turns_along-requires : goal.turns_along-requires
turns_along-requires c = steps_fit c.args.elements.now c.args.f.0 _ c.requires.face.bounds c.size_of.ensures _ _ refl c.walk_face.ensures _ c.requires

pub returns : goal.returns
unfolding word_area
returns c = told _ _
    (c.turns_along.ensures
    ∙ ap (turns_along c.args.points.now) (front c.args.elements.now c.args.f.0 _ c.requires.face.bounds c.size_of.ensures _ _ refl c.walk_face.ensures))
    (le_trans (area_small _ _ _ c.requires) (lit≤ tt))
