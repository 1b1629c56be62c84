-- The invariant: the faces from i on, put behind those that stand there, make all of them.
use mathlib.Core.Path.{refl, ◌∙◌}
use Rattle.lent_bytes.proofs.Puts.{put_length}
use Rattle.lent_bytes.proofs.Rests.{all_left}
use Rattle.print.proofs.Facing.{face_walks, face_fits, next_face, no_face}
use borrow.Author.Rules.{rules}
use Rattle.print.proofs.faces.Goals as goal

pub size_of-n-requires : goal.size_of-n-requires
size_of-n-requires c = record { elements = c.requires.solid.faces.bounds.long; room = c.requires.solid.faces.bounds.used }

pub loop-i-init : goal.loop-i-init
loop-i-init c = record { within = search rules; size = c.size_of-n.ensures; long = refl; rest = all_left _ _ _ }

pub boundary_at-requires : goal.boundary_at-requires
boundary_at-requires c = record { elements = c.requires.solid.faces.bounds.long; room = c.requires.solid.faces.bounds.used; place = search (rules, c.requires.solid.faces.bounds.sized, c.loop-i.invariant.size) }

pub face-end-requires : goal.face-end-requires
face-end-requires c = let e = c.wide.ensures.value ∙ c.boundary_at.ensures in
    record {
      points = c.requires.solid.points;
      walks = face_walks c.args.elements.now c.args.root.0 _ c.requires.solid.faces c.loop-i.invariant.size c.loop-i.i _ (search rules) e;
      fits = face_fits c.args.elements.now c.args.root.0 _ c.requires.solid.faces c.loop-i.invariant.size c.loop-i.i _
          (search rules) e c.args.points.now c.requires.solid.points c.loop-i.invariant.rest c.requires.fits c.loop-i.invariant.long;
    }

pub loop-i-preserved : goal.loop-i-preserved
loop-i-preserved c = let e = c.wide.ensures.value ∙ c.boundary_at.ensures in
    record {
      within = search rules;
      size = c.loop-i.invariant.size;
      long = put_length c.face-end.ensures ∙ c.loop-i.invariant.long;
      rest = next_face c.args.elements.now c.args.root.0 _ c.requires.solid.faces c.loop-i.invariant.size c.loop-i.i _ (search rules) e c.args.points.now c.requires.solid.points c.loop-i.invariant.rest c.face-end.ensures;
    }

pub returns : goal.returns
returns c = no_face c.args.elements.now c.args.root.0 _ c.requires.solid.faces c.loop-i.invariant.size c.args.points.now c.loop-i.i (search rules) c.loop-i.invariant.rest
