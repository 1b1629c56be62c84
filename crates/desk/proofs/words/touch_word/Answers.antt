-- The number, or the answer above its eight bits and the count above that, which fits since no more corners are tested than there is room for elements.
use native.Mathlib.Omega.{arith}
use Rattle.desk.proofs.TouchWords.{touched_low, word_touched}
use Rattle.desk.proofs.words.touch_word.Goals as goal

pub overflow_cast-result : goal.overflow_cast-result
overflow_cast-result c = let l = touched_low _ c.in-Ok.is c.requires in
    omega (arith, l)

pub overflow_mul-result-in-Ok : goal.overflow_mul-result-in-Ok
overflow_mul-result-in-Ok c = let l = touched_low _ c.in-Ok.is c.requires in
    omega (arith, l)

pub overflow_add-result : goal.overflow_add-result
overflow_add-result c = let l = touched_low _ c.in-Ok.is c.requires in
    omega (arith, l, c.touch_value.ensures.bound)

pub returns-in-Ok : goal.returns-in-Ok
returns-in-Ok c = word_touched _ _ _ c.in-Ok.is c.touch_value.ensures.value
