-- Each answer is read off the tests.
use mathlib.Core.Path.{sym, ◌∙◌}
use native.Mathlib.Omega.{arith}
use Rattle.soundness.proofs.AskedOnce.{counts_long, counted, three, four, none_refused}
use Rattle.soundness.proofs.asked.roots_asked.Goals as goal

pub returns-then-not-memory_sound : goal.returns-then-not-memory_sound
returns-then-not-memory_sound c = three _ _ _ _ _ (sym c.memory_sound.ensures ∙ c.if-not-memory_sound.true)

pub bounds-memory-1 : goal.bounds-memory-1
bounds-memory-1 c = let l = counts_long _ _ _ _ (sym c.memory_sound.ensures ∙ c.if-not-memory_sound.false) in
    omega (arith, l)

pub returns-then-not-all_used : goal.returns-then-not-all_used
returns-then-not-all_used c = let s = sym c.memory_sound.ensures ∙ c.if-not-memory_sound.false in
    four _ _ _ _ _ s (counted _ _ _ _ s c.args.roots.now (sym c.all_used.ensures ∙ c.if-not-all_used.true))

pub returns : goal.returns
returns c = let s = sym c.memory_sound.ensures ∙ c.if-not-memory_sound.false in
    none_refused _ _ _ _ _ s (counted _ _ _ _ s c.args.roots.now (sym c.all_used.ensures ∙ c.if-not-all_used.false))
