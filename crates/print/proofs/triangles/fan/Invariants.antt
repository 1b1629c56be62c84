-- The invariant: the triangles from edge k on, put behind those that stand there, make the fan.
use Prim.Native.Nat.{ℕ, ◌-◌, ◌≤◌}
use mathlib.Core.List.{List, map}
use mathlib.Core.Path.{◌≡◌}
use lib.ListN.{length, get_or}
use lib.Ieee.{Float}
use Rattle.rules.specs.Lists.{joined}
use Rattle.rules.specs.Print.{triangle_bytes}
use Rattle.lent_bytes.proofs.Rests.{Rest}
use Rattle.print.specs.Pieces.{point_in, fan_in}
use Rattle.print.proofs.Fanning.{left_from}
use Rattle.print.proofs.triangles.fan.Given as goal

pub record SoFar (ps : List Float) (ns : List ℕ) (n : ℕ) (before : List ℕ) (at : ℕ) (room : List ℕ) (end k : ℕ) : Type 0 where
  pub begun : 1 ≤ k
  pub within : k ≤ n - 1
  pub long : length room ≡ length before
  pub rest : Rest before at (joined (map (triangle_bytes (point_in ps)) (fan_in ns n))) room end (left_from ps ns n k)

abbrev pub invariant-loop-k : goal.invariant-loop-k
invariant-loop-k l = SoFar l.points l.list l.n l.initial.room l.at l.room l.end l.k × (l.first.0 ≡ get_or l.list 0 0) × (l.k-end ≡ l.n - 1)

abbrev pub decreases-loop-k : goal.decreases-loop-k
decreases-loop-k l = l.n - l.k
