-- A sound memory has its index, and its counts tell what its table tells.
use mathlib.Core.Path.{◌≡◌, sym, ◌∙◌}
use mathlib.Core.Bool.{Bool, true, false≢true}
use Rattle.rules.specs.Limits.{desk}
use Rattle.rules.specs.Memory.{sound_memory}
use Rattle.space.specs.Lent.{lent}
use Rattle.soundness.proofs.AskedOnce.{counts_long, asked_three, asked_sound}
use Rattle.soundness.proofs.asked.divider_asked.Goals as goal

pub returns-then-not-memory_indexed : goal.returns-then-not-memory_indexed
returns-then-not-memory_indexed c =
    let isSound : Bool =
    sound_memory desk (lent c.args.memory) in
    let told : c.memory_indexed.result ≡ isSound =
    c.memory_indexed.ensures.told in
    let no = sym told ∙ c.if-not-memory_indexed.true in
    record { told = asked_three _ _ _ _ _ _ no; indexed = λ t. absurd (false≢true (sym no ∙ t)) }

pub sound_asked-requires : goal.sound_asked-requires
sound_asked-requires c =
    let isSound : Bool =
    sound_memory desk (lent c.args.memory) in
    let told : c.memory_indexed.result ≡ isSound =
    c.memory_indexed.ensures.told in
    let is_sound : isSound ≡ true =
    sym told ∙ c.if-not-memory_indexed.false in
    counts_long _ _ _ _ is_sound

pub returns : goal.returns
returns c =
    let isSound : Bool =
    sound_memory desk (lent c.args.memory) in
    let told : c.memory_indexed.result ≡ isSound =
    c.memory_indexed.ensures.told in
    let is_sound : isSound ≡ true =
    sym told ∙ c.if-not-memory_indexed.false in
    record {
      told = c.sound_asked.ensures ∙ asked_sound _ _ _ _ _ _ is_sound;
      indexed = λ t. c.memory_indexed.ensures.indexed c.if-not-memory_indexed.false;
    }
