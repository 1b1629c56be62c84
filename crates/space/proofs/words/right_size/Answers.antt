-- Four lengths.
use mathlib.Core.Bool.{true}
use mathlib.Core.Path.{refl, ◌∙◌}
use borrow.Author.Rules.{rules}
use Rattle.rules.proofs.Laws.{test_eq}
use Rattle.space.proofs.Sizes.{size_of, size_not}
use Rattle.space.proofs.words.right_size.Goals as goal

pub returns-then-planes-eq-PLANE_FLOATS : goal.returns-then-planes-eq-PLANE_FLOATS
returns-then-planes-eq-PLANE_FLOATS c = let p = c.if-planes-eq-PLANE_FLOATS.true in
    size_of _ _ _ _ true true true _ (test_eq _ 4 p.0) (test_eq _ 1024 p.1) (test_eq _ 320 p.2) refl

pub returns-else-planes-eq-PLANE_FLOATS : goal.returns-else-planes-eq-PLANE_FLOATS
returns-else-planes-eq-PLANE_FLOATS c = search rules ∙ size_not _ _ _ _ c.if-planes-eq-PLANE_FLOATS.either
