-- The memory is not sound, or is known to be, and has its index.
use mathlib.Core.Path.{◌∙◌, sym}
use Rattle.space.proofs.Indexing.{index_blank}
use Rattle.cut.proofs.SoundCuts.{unsound}
use Rattle.cut.proofs.cut.Goals as goal

pub memory_indexed-requires : goal.memory_indexed-requires
memory_indexed-requires c = index_blank _

pub returns-then-not-memory_indexed : goal.returns-then-not-memory_indexed
returns-then-not-memory_indexed c = unsound c.args.params _ _ _ _ _ (sym c.memory_indexed.ensures.told ∙ c.if-not-memory_indexed.true)

pub cut_sound-requires : goal.cut_sound-requires
cut_sound-requires c = record {
  sound = sym c.memory_indexed.ensures.told ∙ c.if-not-memory_indexed.false;
  indexed = c.memory_indexed.ensures.indexed c.if-not-memory_indexed.false;
}

pub returns : goal.returns
returns c = c.cut_sound.ensures.reply
