-- The touch's own reply, in one number.
use mathlib.Core.Path.{ap, ◌∙◌}
use Rattle.desk.specs.Words.{touch_word, divider_with}
use Rattle.desk.proofs.TouchWords.{count_low}
use Rattle.desk.proofs.desk_touch.Goals as goal

pub touch_word-requires : goal.touch_word-requires
touch_word-requires c = count_low (divider_with c.args.n0 c.args.n1 c.args.n2 c.args.n3 c.args.distance) _ _ c.touch-reply.ensures

pub returns : goal.returns
returns c = c.touch_word.ensures ∙ ap touch_word c.touch-reply.ensures
