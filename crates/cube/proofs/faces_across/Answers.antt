-- Two numbers are put behind the others, or none.
use native.Mathlib.Omega.{arith}
use Rattle.rules.proofs.Laws.{not_eq, test_eq}
use Rattle.cube.proofs.CubeRows.{across_none, across_two}
use Rattle.cube.proofs.faces_across.Goals as goal

pub returns-then-k-ne2 : goal.returns-then-k-ne2
returns-then-k-ne2 c = across_none _ _ _ _ (not_eq _ 2 c.if-k-ne2.true)

pub overflow_sub-low : goal.overflow_sub-low
overflow_sub-low c = c.requires.spanned c.if-k-ne2.false

pub overflow_sub-high : goal.overflow_sub-high
overflow_sub-high c = let h = c.requires.spanned c.if-k-ne2.false in omega (arith, h)

pub returns : goal.returns
returns c = across_two _ _ _ _ c.requires.place (test_eq _ 2 c.if-k-ne2.false)
