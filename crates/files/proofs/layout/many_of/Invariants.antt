-- What the steps that are left tell, all of them told.
use Prim.Native.Nat.{◌≤◌, ◌-◌}
use Rattle.std.specs.Prelude.{ℕ, Option}
use Rattle.files.specs.Passed.{Repeats}
use Rattle.files.proofs.layout.many_of.Given as goal

abbrev pub invariant-loop-passed : goal.invariant-loop-passed
invariant-loop-passed g l = record {
  bound : l._passed ≤ l.n;
  ready : goal.F-pre g l.step l.end;
  rest : (p : Option ℕ) → Repeats (λ place q. goal.F-post g l.step place q) l.end (l.n - l._passed) p → Repeats (λ place q. goal.F-post g l.step place q) l.at l.n p;
}
