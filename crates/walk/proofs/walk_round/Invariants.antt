-- What is left to write, put behind what is written, makes up the whole walk.
use Prim.Native.Nat.{ℕ, ◌-◌, ◌+◌, ◌*◌, ◌≤◌, ◌<◌}
use mathlib.Core.Path.{◌≡◌}
use mathlib.Core.List.{List}
use lib.ListN.{length, get_or}
use lib.Seq.{sets}
use Rattle.walk.specs.Boundaries.{row_boundary}
use Rattle.walk.specs.Walks.{numbers_from, numbers_round, EdgeFits}
use Rattle.walk.proofs.walk_round.Given as goal

-- after k steps the walk is at the corner v and goes on by the edge e
pub record Steps (es : List ℕ) (f start first : ℕ) (room : List ℕ) (n : ℕ) (list : List ℕ) (v e k : ℕ) : Type 0 where
  pub low : k ≤ n
  pub size : n ≡ get_or es (f * 36 + 3) 0
  pub few : n ≤ 32
  pub enough : 2 * n ≤ length room
  pub long : length list ≡ length room
  pub corner : v < 512
  pub edge : EdgeFits es e
  pub same : sets room 0 (numbers_round es f start first) ≡ sets list (2 * k) (numbers_from (n - k) es (row_boundary es f) v e)

abbrev pub invariant-loop-k : goal.invariant-loop-k
invariant-loop-k l = Steps l.elements l.f.0 l.fn.start.0 l.fn.first.0 l.initial.list l.n l.list l.v.0 l.e.0 l.k

abbrev pub decreases-loop-k : goal.decreases-loop-k
decreases-loop-k l = l.n - l.k
