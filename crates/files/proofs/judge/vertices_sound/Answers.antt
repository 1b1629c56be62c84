-- All of them, by their numbers.
use Rattle.std.proofs.Common.{◌∙◌, refl, [], get_or, arith}
use Rattle.std.proofs.lemmas.Iterator.{YieldsList-from_range}
use Rattle.std.proofs.lemmas.Iterator.Search.{all_from_yields_List}
use borrow.Author.Rules.{rules}
use Rattle.rules.specs.Sound.{sound_point}
use Rattle.files.specs.Judged.{VertexJudged}
use Rattle.files.proofs.Judging.{by_numbers}
use Rattle.files.proofs.judge.vertices_sound.Goals as goal

pub returns : goal.returns
returns c = record {
  told = λ t w.
      all_from_yields_List (λ v. sound_point t.dimension (get_or t.points v [])) _ _ _ c.all.ensures.ran (YieldsList-from_range 0 c.args.laid.vertices c.args.laid.vertices refl (omega arith))
      (λ x b q k. (search rules, (let j : VertexJudged c.args.bytes.now c.args.laid x b = search rules in j.told t w)))
      ∙ by_numbers (sound_point t.dimension) [] t.points c.args.laid.vertices w.vertex_counted;
}
