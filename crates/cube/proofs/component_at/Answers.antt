-- Three digits, three components.
use mathlib.Core.Path.{sym, ap}
use lib.Ieee
use Rattle.cube.specs.Cubes.{component_at}
use Rattle.cube.proofs.CubeEntries.{component_plus}
use Rattle.cube.proofs.component_at.Goals as goal

pub returns-then-k-eq2 : goal.returns-then-k-eq2
unfolding lib.Ieee.of_bits
returns-then-k-eq2 c = ap component_at (sym c.if-k-eq2.true)

pub returns-then-k-eq0 : goal.returns-then-k-eq0
unfolding lib.Ieee.of_bits
returns-then-k-eq0 c = ap component_at (sym c.if-k-eq0.true)

pub returns : goal.returns
unfolding lib.Ieee.of_bits
returns c = component_plus _ c.if-k-eq2.false c.if-k-eq0.false
