-- What an answered cut leaves is sound, so there are four counts, and what is named is within the room.
use Prim.Native.Nat.{ℕ, ◌≤◌}
use mathlib.Core.Path.{◌≡◌, sym, ◌∙◌}
use native.Mathlib.Nat.{le_trans}
use lib.ListN.{length, get_or}
use Rattle.rules.specs.Limits.{desk}
use Rattle.rules.specs.Memory.{Memory, decode}
use Rattle.rules.specs.Replies.{cut_reply}
use Rattle.rules.specs.Promises.{OneBelow, NamesBelow}
use Rattle.rules.specs.declared.CutParams.{CutParams}
use Rattle.rules.specs.declared.ElementCutOutput.{ElementCutOutput}
use Rattle.rules.specs.declared.ElementCutOutput.TheVariants.{Flush, NonFlush}
use Rattle.rules.proofs.OneCall.{memory_sound, names_in_use}
use Rattle.space.proofs.Lent.{memory_holds}
use Rattle.space.proofs.RowAdds.{readable_desk}
use Rattle.space.proofs.Slices.{Slices, slices}
use Rattle.rules.specs.Refusals.{Reply}
use Rattle.rules.specs.declared.ElementAnswer.{ElementAnswer}
use Rattle.rules.specs.declared.ElementId.{ElementId}
use Rattle.std.specs.Prelude.{Option, Some, None, Ok}

one_below : (n m : ℕ) (x : Option ElementId) → n ≤ m → OneBelow n x → OneBelow m x
one_below n m None l h = tt
one_below n m (Some e) l h = le_trans h l

names_below : (n m : ℕ) (a : ElementCutOutput) → n ≤ m → NamesBelow n a → NamesBelow m a
names_below n m Flush l h = tt
names_below n m (NonFlush i o x) l h = (one_below n m i l h.0, one_below n m o l h.1, one_below n m x l h.2)

module _ (p : CutParams) (root : ℕ) (m m' : Memory) {r : Reply ElementAnswer} (e : (r, m') ≡ cut_reply desk p root m) (a : ElementAnswer) (q : r ≡ Ok a) where
  answered : cut_reply desk p root m ≡ (Ok a, m')
  answered = sym e ∙ (λ j. (q j, m'))

  after : Slices m'.counts m'.points m'.planes m'.elements (decode desk m')
  after = slices (memory_holds desk readable_desk m' (memory_sound desk readable_desk p root m a m' answered))

  pub four_counts : length m'.counts ≡ 4
  four_counts = after.counts

  pub names_low : NamesBelow 512 a.output
  names_low = names_below (get_or m'.counts 1 0) 512 a.output after.elements_fit (names_in_use desk readable_desk p root m a m' answered)
