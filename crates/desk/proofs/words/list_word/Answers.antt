-- The number, or the size above its eight bits, which fits since no list has more numbers than there is room for elements.
use mathlib.Core.Path.{sym, ap, ◌∙◌}
use native.Mathlib.Omega.{arith}
use Rattle.desk.specs.Words.{size_word}
use Rattle.desk.proofs.ListWords.{listed_low}
use Rattle.desk.proofs.words.list_word.Goals as goal

pub overflow_cast-result : goal.overflow_cast-result
overflow_cast-result c = let l = listed_low _ c.in-Ok.is c.requires in
    omega (arith, l)

pub overflow_mul-result : goal.overflow_mul-result
overflow_mul-result c = let l = listed_low _ c.in-Ok.is c.requires in
    omega (arith, l)

pub returns-in-Err : goal.returns-in-Err
returns-in-Err c = c.refused.ensures.value ∙ sym (ap size_word c.in-Err.is)

pub returns-in-Ok : goal.returns-in-Ok
returns-in-Ok c = sym (ap size_word c.in-Ok.is)
