-- Where the vertex stands, and the test of its coordinates.
use Rattle.std.proofs.Common.{ap, sym, ◌∙◌, [], get_or, arith}
use borrow.Author.Rules.{rules}
use Rattle.rules.specs.Sound.{sound_point}
use Rattle.files.proofs.Judging.{vertex_here, axes_fit, row_holds, vertex_is}
use Rattle.files.proofs.judge.vertex_sound.Goals as goal

pub overflow_mul-d : goal.overflow_mul-d
overflow_mul-d c = let w = (vertex_here c.args.bytes.now c.args.laid c.requires.says.table c.requires.says.whole c.args.v c.requires.there).within in search rules

pub overflow_add-d : goal.overflow_add-d
overflow_add-d c = let w = (vertex_here c.args.bytes.now c.args.laid c.requires.says.table c.requires.says.whole c.args.v c.requires.there).within in search rules

pub overflow_mul-v : goal.overflow_mul-v
overflow_mul-v c = let w = (vertex_here c.args.bytes.now c.args.laid c.requires.says.table c.requires.says.whole c.args.v c.requires.there).within in search rules

pub overflow_add-v : goal.overflow_add-v
overflow_add-v c = let w = (vertex_here c.args.bytes.now c.args.laid c.requires.says.table c.requires.says.whole c.args.v c.requires.there).within in search rules

pub point_at-p-requires : goal.point_at-p-requires
point_at-p-requires c = record {
  axes = axes_fit c.args.bytes.now c.args.laid c.requires.says;
  within = (vertex_here c.args.bytes.now c.args.laid c.requires.says.table c.requires.says.whole c.args.v c.requires.there).within;
}

pub coordinates_fit-requires : goal.coordinates_fit-requires
coordinates_fit-requires c = record { order = omega arith; end = row_holds c.args.laid.dimension c.args.bytes.now _ c.point_at-p.ensures }

pub returns : goal.returns
returns c = record {
  told = λ t w. c.coordinates_fit.ensures
      ∙ vertex_is c.args.laid.dimension c.args.bytes.now t.points c.args.laid.planes_at (vertex_here c.args.bytes.now c.args.laid t w c.args.v c.requires.there) _ c.point_at-p.ensures
      ∙ ap (λ d. sound_point d (get_or t.points c.args.v [])) (sym w.dimension);
}
