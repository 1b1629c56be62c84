-- What was asked is refused, answered by rule 1, or read from the corners: each way the code goes is a case of the reply.
use Rattle.std.proofs.lemmas.Result.{err_from_is_err_and}
use mathlib.Core.Path.{sym, ap, ◌∙◌}
use Rattle.std.specs.Prelude.{Ok}
use Rattle.space.proofs.Indexing.{index_blank}
use Rattle.elements.proofs.TouchReplies.{refused, all_inside, all_outside, touch_ready, corners_replied}
use Rattle.elements.proofs.touch.touch.Goals as goal

pub divider_asked-requires : goal.divider_asked-requires
divider_asked-requires c = index_blank _

pub touch_finite-requires : goal.touch_finite-requires
touch_finite-requires c = touch_ready c.args.h _ _ _ c.args.memory.planes.now _ (sym (c.in_ok-asked.was ∙ ap Ok c.in-Finite.is) ∙ c.divider_asked.ensures.told)

pub returns-in_err-asked : goal.returns-in_err-asked
returns-in_err-asked c = let x = err_from_is_err_and c.from_residual.result c.from_residual.ensures.1 in
    rw (x.1, x.2) (refused c.args.h _ _ _ _ _ _ (sym c.in_err-asked.was ∙ c.divider_asked.ensures.told))

pub returns-in-AllInside : goal.returns-in-AllInside
returns-in-AllInside c = all_inside c.args.h _ _ _ _ _ (sym (c.in_ok-asked.was ∙ ap Ok c.in-AllInside.is) ∙ c.divider_asked.ensures.told) c.untested.ensures

pub returns-in-AllOutside : goal.returns-in-AllOutside
returns-in-AllOutside c = all_outside c.args.h _ _ _ _ _ (sym (c.in_ok-asked.was ∙ ap Ok c.in-AllOutside.is) ∙ c.divider_asked.ensures.told) c.untested-in-AllOutside.ensures

pub returns-in-Finite : goal.returns-in-Finite
returns-in-Finite c = corners_replied c.args.h _ _ _ _ _ (sym (c.in_ok-asked.was ∙ ap Ok c.in-Finite.is) ∙ c.divider_asked.ensures.told) c.touch_finite.ensures
