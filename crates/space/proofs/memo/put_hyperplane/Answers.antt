-- A part is replaced, which is a run of stores.
use mathlib.Core.Path.{◌≡◌, sym, ◌∙◌}
use native.Mathlib.Omega.{arith}
use lib.ListN.{length}
use borrow.Author.Rules.{rules}
use Rattle.space.specs.Shared.{five}
use Rattle.space.proofs.RowWords.{part_stored}
use Rattle.space.proofs.HyperplaneMemo.{five_is}
use Rattle.space.proofs.memo.put_hyperplane.Goals as goal

pub returns : goal.returns
returns c = let l : length c.args.p ≡ 5 = search rules in
    part_stored c.args.planes.now c.copy_from_slice.new.self (five c.args.p) c.args.at _ (omega (arith, c.requires)) (omega arith) (c.copy_from_slice.ensures.after ∙ sym (five_is c.args.p l))
