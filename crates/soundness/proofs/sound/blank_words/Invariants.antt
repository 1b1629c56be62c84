-- All words are blank exactly when no bit of them has been seen and the words that are left are.
use Prim.Native.Nat.{ℕ, ◌-◌, ◌≤◌}
use mathlib.Core.Path.{◌≡◌}
use mathlib.Core.Bool.{◌&&◌}
use mathlib.Core.List.{List}
use lib.Dec.{eqb}
use lib.ListN.{length, drop}
use Rattle.soundness.specs.Words.{blank_words}
use Rattle.soundness.proofs.sound.blank_words.Given as goal

pub record Seen (list : List ℕ) (seen i : ℕ) : Type 0 where
  pub within : i ≤ length list
  pub same : blank_words list ≡ (eqb seen 0 && blank_words (drop i list))

abbrev pub invariant-loop-word : goal.invariant-loop-word
invariant-loop-word l = Seen l.word-items l.seen l.word-index

abbrev pub decreases-loop-word : goal.decreases-loop-word
decreases-loop-word l = l.word-index-end - l.word-index
