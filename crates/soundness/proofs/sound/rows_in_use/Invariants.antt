-- What is asked of the rows that are rowsLeft, with `k` as the vertex that is to be named next, is what is asked of all, where nothing is seen past a boundary so far; and the rows so far are in the index, no two of them equal.
use Prim.Native.Nat.{ℕ, ◌-◌, ◌≤◌}
use mathlib.Core.Bool.{◌&&◌, true}
use mathlib.Core.List.{List}
use mathlib.Core.Path.{◌≡◌}
use lib.ListN.{length}
use Rattle.rules.specs.Limits.{desk}
use Rattle.space.specs.Chains.{Indexed}
use Rattle.space.specs.Closed.{Unmet}
use Rattle.soundness.specs.Words.{blank_words, Mask, stamp_of, rows_in_use, EdgesLow}
use Rattle.soundness.specs.Tests.{rows_read, with_rows}
use Rattle.soundness.proofs.Distinct.{apart}
use Rattle.soundness.proofs.RowsRead.{read_from}
use Rattle.soundness.proofs.OnePass.{rows_left}
use Rattle.soundness.proofs.sound.rows_in_use.Given as goal

pub record Passed (es : List ℕ) (d n v h : ℕ) (index₀ past index met seen : List ℕ) (k i : ℕ) : Type 0 where
  pub within : i ≤ n
  pub few : k ≤ i
  pub mask : Mask past
  pub same : rows_in_use desk d n v h es ≡ (blank_words seen && rows_left es d n v h k i)
  pub edges : EdgesLow es i
  pub unmet : Unmet (stamp_of i) met
  pub places : length seen ≡ 32
  pub distinct : apart es i ≡ true
  pub indexed : Indexed es i index
  pub read : rows_read es d n h ≡ read_from es d n h k i
  pub joins : index ≡ with_rows es i index₀

abbrev pub invariant-loop-i : goal.invariant-loop-i
invariant-loop-i l = Passed l.elements l.d l.n l.v l.h l.initial.index l.past l.index l.met l.seen l.k l.i

abbrev pub decreases-loop-i : goal.decreases-loop-i
decreases-loop-i l = l.n - l.i
