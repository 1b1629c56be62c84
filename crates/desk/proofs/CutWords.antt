-- The number is that of the reply, and a side's number tells what becomes of it.
use Prim.Native.Nat.{ℕ}
use mathlib.Core.Path.{◌≡◌, sym, ap, ap₂, ◌∙◌}
use Rattle.rules.specs.Limits.{desk}
use Rattle.rules.specs.Memory.{Memory}
use Rattle.rules.specs.Replies.{output_word, cut_by, cut_reply}
use Rattle.rules.specs.declared.Hyperplane.{Hyperplane}
use Rattle.rules.specs.declared.PolytopeFate.{PolytopeFate}
use Rattle.desk.specs.Words.{cut_word}
use Rattle.rules.specs.Refusals.{Reply}
use Rattle.rules.specs.declared.ElementAnswer.{ElementAnswer}
use Rattle.std.specs.Prelude.{Err, Ok}
use Rattle.rules.specs.Refusals.{refusal_number}
use Rattle.rules.specs.declared.Refusal.{Refusal}

-- ---- the whole reply

module _ (h : Hyperplane) (i o : PolytopeFate) (root : ℕ) (m m' : Memory) {r : Reply ElementAnswer} (e : (r, m') ≡ cut_reply desk (cut_by h i o) root m) where
  module _ {i' o' : PolytopeFate} (ei : i ≡ i') (eo : o ≡ o') where
    same : cut_word (r, m') ≡ cut_word (cut_reply desk (cut_by h i' o') root m)
    same = ap cut_word (e ∙ ap₂ (λ (x y : PolytopeFate). cut_reply desk (cut_by h x y) root m) ei eo)

    pub word_refused : (n : Refusal) (x : ℕ) → r ≡ Err n → x ≡ refusal_number n → (x, m') ≡ cut_word (cut_reply desk (cut_by h i' o') root m)
    word_refused n x q v = (λ j. (v j, m')) ∙ (λ j. cut_word (sym q j, m')) ∙ same

    pub word_answered : (a : ElementAnswer) (x : ℕ) → r ≡ Ok a → x ≡ output_word a.output a.warning → (x, m') ≡ cut_word (cut_reply desk (cut_by h i' o') root m)
    word_answered a x q v = (λ j. (v j, m')) ∙ (λ j. cut_word (sym q j, m')) ∙ same
