-- The invariant: the entries that are left, put behind those that stand there, make all of them.
use Rattle.std.proofs.Common.{ℕ, ◌+◌, ◌*◌, ◌≡◌, ◌≤◌, List, length, map, drop}
use Rattle.rules.specs.Lists.{joined}
use Rattle.rules.specs.Bytes.{bytes_of}
use Rattle.lent_bytes.proofs.Rests.{Rest}
use Rattle.lent_bytes.proofs.write.entries.Given as goal

abbrev pub invariant-loop-x : goal.invariant-loop-x
invariant-loop-x g l = record {
  within : l.x-index ≤ length l.list;
  place : l.end ≡ l.at + l.x-index * l.k;
  long : length l.room ≡ length l.fn.room;
  rest : (f : _ → List ℕ) → ((x : _) (n : ℕ) → goal.F-post g l.bits x n → bytes_of l.k n ≡ f x)
      → Rest l.fn.room l.at (joined (map f l.list)) l.room l.end (joined (map f (drop l.x-index l.list)));
}
