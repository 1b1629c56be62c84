-- The four lent slices as a memory of the rules. Definitions only.
use Rattle.rules.specs.Memory as rules
use Rattle.rules.specs.Held.{memory_of}
use Rattle.space.specs.declared.memory.Memory.{Memory}

abbrev pub lent : Memory → rules.Memory
lent m = memory_of m.counts.now m.points.now m.planes.now m.elements.now
