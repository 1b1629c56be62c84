-- A part is replaced, which is a run of stores.
use mathlib.Core.Path.{◌≡◌, sym, ◌∙◌}
use native.Mathlib.Omega.{arith}
use lib.ListN.{length}
use borrow.Author.Rules.{rules}
use Rattle.space.specs.Shared.{four}
use Rattle.space.proofs.RowWords.{part_stored}
use Rattle.space.proofs.VertexMemo.{four_is}
use Rattle.space.proofs.memo.put_point.Goals as goal

pub returns : goal.returns
returns c = let l : length c.args.p ≡ 4 = search rules in
    part_stored c.args.points.now c.copy_from_slice.new.self (four c.args.p) c.args.at _ (omega (arith, c.requires)) (omega arith) (c.copy_from_slice.ensures.after ∙ sym (four_is c.args.p l))
