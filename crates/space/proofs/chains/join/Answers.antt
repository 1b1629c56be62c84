-- Two stores, the link before the start.
use mathlib.Core.Path.{refl}
use native.Mathlib.Omega.{arith}
use lib.ListN.{length-set}
use Rattle.space.proofs.chains.join.Goals as goal

pub bounds-index-key-2 : goal.bounds-index-key-2
bounds-index-key-2 c = simp length-set (omega arith)

pub returns : goal.returns
returns c = refl
