-- The cut is refused, or its answer is written at its position.
use Rattle.std.proofs.lemmas.Result.{err_from_is_err_and}
use Rattle.cut.proofs.Names.{names_low}
use native.Mathlib.Omega.{arith}
use Rattle.cut.proofs.Listing.{few_cuts, row_ready, made_refused, made_answered}
use Rattle.cut.proofs.lists.cut_at.Goals as goal

pub params_at-params-requires : goal.params_at-params-requires
params_at-params-requires c = row_ready _ c.requires.list.fits _ c.requires.low

pub cut_sound-requires : goal.cut_sound-requires
cut_sound-requires c = c.requires.list.memory

pub output_word-requires : goal.output_word-requires
output_word-requires c = names_low c.params_at-params.result _ _ _ c.cut_sound.ensures.reply _ c.in_ok-answer.was

pub offset_bounds-answers-i : goal.offset_bounds-answers-i
offset_bounds-answers-i c = let few = few_cuts _ c.requires.list.fits in
    omega (arith, c.requires.low, few)

pub bounds-answers-i : goal.bounds-answers-i
bounds-answers-i c = omega (arith, c.requires.low, c.requires.list.enough)

pub returns-in_err-answer : goal.returns-in_err-answer
returns-in_err-answer c = let x = err_from_is_err_and c.from_residual.result c.from_residual.ensures.1 in
    rw (x.1, x.2) (made_refused c.args.dividers.now c.args.kept.now c.args.roots.now c.args.i c.params_at-params.ensures c.wide.ensures.value c.cut_sound.ensures _ c.in_err-answer.was)

pub returns : goal.returns
returns c = made_answered c.args.dividers.now c.args.kept.now c.args.roots.now c.args.i c.params_at-params.ensures c.wide.ensures.value c.cut_sound.ensures
    _ c.in_ok-answer.was c.output_word.ensures c.requires
