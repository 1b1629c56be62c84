-- All of them, by their numbers.
use Rattle.std.proofs.Common.{◌∙◌, refl, get_or, arith}
use Rattle.std.proofs.lemmas.Iterator.{YieldsList-from_range}
use Rattle.std.proofs.lemmas.Iterator.Search.{all_from_yields_List}
use borrow.Author.Rules.{rules}
use Rattle.rules.specs.Sound.{sound_plane}
use Rattle.files.specs.Judged.{PlaneJudged, no_plane_there}
use Rattle.files.proofs.Judging.{by_numbers}
use Rattle.files.proofs.judge.hyperplanes_sound.Goals as goal

pub returns : goal.returns
returns c = record {
  told = λ t w.
      all_from_yields_List (λ v. sound_plane t.dimension (get_or t.planes v no_plane_there)) _ _ _ c.all.ensures.ran (YieldsList-from_range 0 c.args.laid.hyperplanes c.args.laid.hyperplanes refl (omega arith))
      (λ x b q k. (search rules, (let j : PlaneJudged c.args.bytes.now c.args.laid x b = search rules in j.told t w)))
      ∙ by_numbers (sound_plane t.dimension) no_plane_there t.planes c.args.laid.hyperplanes w.plane_counted;
}
