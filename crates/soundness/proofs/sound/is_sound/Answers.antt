-- The reply is read off the test.
use mathlib.Core.Path.{sym, ◌∙◌}
use Rattle.rules.specs.Replies.{is_sound_reply}
use Rattle.rules.proofs.Laws.{if_true, if_false}
use Rattle.soundness.proofs.sound.is_sound.Goals as goal
use Rattle.rules.specs.declared.Refusal.TheVariants.{NotSound}
use Rattle.std.specs.Prelude.{Ok, Err}

pub returns-then-memory_sound : goal.returns-then-memory_sound
unfolding is_sound_reply
returns-then-memory_sound c = sym (if_true _ (Ok tt) (Err NotSound) (sym c.memory_sound.ensures ∙ c.if-memory_sound.true))

pub returns : goal.returns
unfolding is_sound_reply
returns c = sym (if_false _ (Ok tt) (Err NotSound) (sym c.memory_sound.ensures ∙ c.if-memory_sound.false))
