-- The rows before keep their chains, and the new one starts the chain of its key.
use Prim.Native.Nat.{◌+◌, ◌*◌, ◌≤◌}
use mathlib.Core.Path.{refl}
use native.Mathlib.Omega.{arith}
use lib.ListN.{length}
use Rattle.space.specs.Numbers.{row_width}
use Rattle.space.proofs.Indexing.{index_appended}
use Rattle.space.proofs.adding.append_row.Goals as goal

pub returns : goal.returns
returns c = let fit : c.args.n * row_width + row_width ≤ length c.args.elements.now = omega (arith, c.requires.elements, c.requires.room) in
    record {
      count = refl;
      stored = c.put_row.ensures;
      index = index_appended c.args.elements.now c.args.row.now c.args.n fit c.requires.row c.args.index.now c.key_of-key.result c.requires.index c.key_of-key.ensures.value c.key_of-key.ensures.bound c.requires.room _ _
          c.put_row.ensures c.join.ensures;
    }
