-- The number, and the count of answers above its eight bits.
use Prim.Native.Nat.{ℕ, ◌+◌, ◌*◌}
use mathlib.Core.Path.{sym, ap, ◌∙◌}
use native.Mathlib.Omega.{arith}
use Rattle.desk.specs.Words.{written_word}
use Rattle.desk.proofs.CutListWords.{stopped_low, answered_low}
use Rattle.desk.proofs.words.written_word.Goals as goal

pub overflow_cast-result : goal.overflow_cast-result
overflow_cast-result c = let l = stopped_low _ _ c.in-Stopped.is c.requires in
    omega (arith, l)

pub overflow_mul-result : goal.overflow_mul-result
overflow_mul-result c = let l = stopped_low _ _ c.in-Stopped.is c.requires in
    omega (arith, l)

pub overflow_add-result : goal.overflow_add-result
overflow_add-result c = let l = stopped_low _ _ c.in-Stopped.is c.requires in
    omega (arith, l)

pub overflow_cast-result-in-Answered : goal.overflow_cast-result-in-Answered
overflow_cast-result-in-Answered c = let l = answered_low _ c.in-Answered.is c.requires in
    omega (arith, l)

pub overflow_mul-result-in-Answered : goal.overflow_mul-result-in-Answered
overflow_mul-result-in-Answered c = let l = answered_low _ c.in-Answered.is c.requires in
    omega (arith, l)

pub returns-in-Refused : goal.returns-in-Refused
returns-in-Refused c = c.refused.ensures.value ∙ sym (ap written_word c.in-Refused.is)

pub returns-in-Stopped : goal.returns-in-Stopped
returns-in-Stopped c = ap (λ (n : ℕ). n + c.in-Stopped.position * 0x100) c.refused-in-Stopped.ensures.value ∙ sym (ap written_word c.in-Stopped.is)

pub returns-in-Answered : goal.returns-in-Answered
returns-in-Answered c = sym (ap written_word c.in-Answered.is)
