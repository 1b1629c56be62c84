-- Behind the four head words a part is replaced by the boundary.
use mathlib.Core.Path.{refl, ◌∙◌}
use mathlib.Core.List.{List}
use Prim.Native.Nat.{ℕ, ◌+◌, ◌-◌}
use native.Mathlib.Omega.{arith}
use lib.ListN.{length, set, replicate}
use Rattle.space.specs.Numbers.{row_width}
use Rattle.space.proofs.RowWords.{part_stored}
use Rattle.space.proofs.RowMade.{bit_is, row_is}
use Rattle.space.proofs.rows.polytope_row.Goals as goal

-- the four head words over zeros
abbrev filled : ℕ → ℕ → ℕ → ℕ → List ℕ
filled r m p n = set (set (set (set (replicate row_width 0) 0 r) 1 m) 2 p) 3 n

pub returns : goal.returns
returns c = let head = filled c.args.rank c.from.result c.args.plane (length c.args.list.now) in
    row_is c.args.list.now c.args.rank c.args.plane c.from.result c.args.mark _ head c.requires.size (c.from.ensures ∙ bit_is c.args.mark) refl
    (part_stored head c.copy_from_slice.new.self c.args.list.now 4 (4 + length c.args.list.now - 4) (omega (arith, c.requires.size)) (omega arith) c.copy_from_slice.ensures.after)
