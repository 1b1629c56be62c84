-- Where the hyperplane stands, and the test of its normal and its distance.
use Rattle.std.proofs.Common.{ap, sym, ◌∙◌, get_or}
use borrow.Author.Rules.{rules}
use Rattle.rules.specs.Sound.{sound_plane}
use Rattle.files.specs.Judged.{no_plane_there}
use Rattle.files.proofs.Judging.{plane_here_lem, axes_fit, hyperplane_is}
use Rattle.files.proofs.judge.plane_sound.Goals as goal

pub overflow_mul-d : goal.overflow_mul-d
overflow_mul-d c = let w = (plane_here_lem c.args.bytes.now c.args.laid c.requires.says.table c.requires.says.whole c.args.h c.requires.there).within in search rules

pub overflow_add-d : goal.overflow_add-d
overflow_add-d c = let w = (plane_here_lem c.args.bytes.now c.args.laid c.requires.says.table c.requires.says.whole c.args.h c.requires.there).within in search rules

pub overflow_mul-h : goal.overflow_mul-h
overflow_mul-h c = let w = (plane_here_lem c.args.bytes.now c.args.laid c.requires.says.table c.requires.says.whole c.args.h c.requires.there).within in search rules

pub overflow_add-laid : goal.overflow_add-laid
overflow_add-laid c = let w = (plane_here_lem c.args.bytes.now c.args.laid c.requires.says.table c.requires.says.whole c.args.h c.requires.there).within in search rules

pub plane_at-plane-requires : goal.plane_at-plane-requires
plane_at-plane-requires c = record {
  axes = axes_fit c.args.bytes.now c.args.laid c.requires.says;
  within = (plane_here_lem c.args.bytes.now c.args.laid c.requires.says.table c.requires.says.whole c.args.h c.requires.there).within;
}

pub returns : goal.returns
returns c = record {
  told = λ t w. c.hyperplane_sound.ensures
      ∙ hyperplane_is c.args.laid.dimension c.args.bytes.now t.planes c.args.laid.elements_at (plane_here_lem c.args.bytes.now c.args.laid t w c.args.h c.requires.there) _ c.plane_at-plane.ensures
      ∙ ap (λ d. sound_plane d (get_or t.planes c.args.h no_plane_there)) (sym w.dimension);
}
