-- Each answer is read off the tests.
use mathlib.Core.Path.{◌≡◌, sym, ◌∙◌}
use mathlib.Core.List.{[], ◌∷◌}
use mathlib.Core.Bool.{true}
use Rattle.rules.specs.Limits.{desk}
use Rattle.rules.specs.Memory.{sound_memory}
use Rattle.space.specs.Lent.{lent}
use Rattle.soundness.proofs.ReadBack.{and_one}
use Rattle.soundness.proofs.AskedOnce.{counts_long, counted, three, four, none_refused}
use Rattle.soundness.proofs.asked.root_asked.Goals as goal

pub returns-then-not-memory_sound : goal.returns-then-not-memory_sound
returns-then-not-memory_sound c = three _ _ _ _ _ (sym c.memory_sound.ensures ∙ c.if-not-memory_sound.true)

pub in_use-requires : goal.in_use-requires
in_use-requires c =
    let is_sound : sound_memory desk (lent c.args.memory) ≡ true =
    sym c.memory_sound.ensures ∙ c.if-not-memory_sound.false in
    counts_long _ _ _ _ is_sound

pub returns-then-not-in_use : goal.returns-then-not-in_use
returns-then-not-in_use c =
    let is_sound : sound_memory desk (lent c.args.memory) ≡ true =
    sym c.memory_sound.ensures ∙ c.if-not-memory_sound.false in
    four _ _ _ _ _ is_sound (counted _ _ _ _ is_sound (c.args.root.0 ∷ []) (and_one _ ∙ sym c.in_use.ensures ∙ c.if-not-in_use.true))

pub returns : goal.returns
returns c =
    let is_sound : sound_memory desk (lent c.args.memory) ≡ true =
    sym c.memory_sound.ensures ∙ c.if-not-memory_sound.false in
    none_refused _ _ _ _ _ is_sound (counted _ _ _ _ is_sound (c.args.root.0 ∷ []) (and_one _ ∙ sym c.in_use.ensures ∙ c.if-not-in_use.false))
