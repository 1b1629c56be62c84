-- The invariant: the bytes of what is left, put behind those that stand in the part, make the number.
use Prim.Native.Nat.{◌-◌, ◌≤◌}
use mathlib.Core.Path.{◌≡◌}
use lib.ListN.{length}
use Rattle.rules.specs.Bytes.{bytes_of}
use Rattle.lent_bytes.proofs.Rests.{Rest}
use Rattle.lent_bytes.proofs.write.number.Given as goal

abbrev pub invariant-loop-byte : goal.invariant-loop-byte
invariant-loop-byte l = record {
  within : l.byte-index ≤ l.k;
  long : length l.byte-items ≡ l.k;
  rest : Rest l.initial.byte-items 0 (bytes_of l.k l.n) l.byte-items l.byte-index (bytes_of (l.k - l.byte-index) l.left);
}
