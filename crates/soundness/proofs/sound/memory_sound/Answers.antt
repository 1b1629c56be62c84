-- The index starts empty.
use Rattle.space.proofs.Indexing.{index_blank}
use Rattle.soundness.proofs.sound.memory_sound.Goals as goal

pub memory_indexed-requires : goal.memory_indexed-requires
memory_indexed-requires c = index_blank _

pub returns : goal.returns
returns c = c.memory_indexed.ensures.told
