-- The number of a list of cuts: no more answers are written than a list has cuts, so that their count fits above the reply's number.
use Prim.Native.Nat.{ℕ, ◌≤◌}
use mathlib.Core.List.{List}
use mathlib.Core.Path.{◌≡◌, sym, ap, subst, ◌∙◌}
use Rattle.rules.specs.Limits.{desk}
use Rattle.rules.specs.Memory.{Memory}
use Rattle.rules.specs.CutLists.{most_cuts, CutList, cut_list_reply, answers_written}
use Rattle.rules.specs.declared.CutListReply.{CutListReply}
use Rattle.rules.specs.declared.CutListReply.TheVariants.{Stopped, Answered}
use Rattle.cut.proofs.Listing.{few_written}
use Rattle.desk.specs.Words.{written_word, cut_list_word}
use Rattle.rules.specs.declared.Refusal.{Refusal}

pub stopped_low : {r : CutListReply} (n : Refusal) (i : ℕ) → r ≡ Stopped n i → answers_written r ≤ most_cuts → i ≤ most_cuts
stopped_low n i q h = subst (λ (x : CutListReply). answers_written x ≤ most_cuts) q h

pub answered_low : {r : CutListReply} (k : ℕ) → r ≡ Answered k → answers_written r ≤ most_cuts → k ≤ most_cuts
answered_low k q h = subst (λ (x : CutListReply). answers_written x ≤ most_cuts) q h

module _ (l : CutList) (room : List ℕ) (m : Memory) {r : CutListReply} {room' : List ℕ} {m' : Memory} (e : (r, room', m') ≡ cut_list_reply desk l room m) where
  pub written_low : answers_written r ≤ most_cuts
  written_low = subst (λ (x : CutListReply × List ℕ × Memory). answers_written x.0 ≤ most_cuts) (sym e) (few_written l room m)

  pub list_said : {w : ℕ} → w ≡ written_word r → (w, room', m') ≡ cut_list_word (cut_list_reply desk l room m)
  list_said q = (λ j. (q j, room', m')) ∙ ap cut_list_word e
