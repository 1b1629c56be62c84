-- Those before i are replaced, and those from i on are as they came.
use Prim.Native.Nat.{ℕ, ◌-◌, ◌≤◌}
use mathlib.Core.List.{List}
use Rattle.elements.specs.Ranks.{VerticesAsked}
use Rattle.elements.proofs.VertexLoops.{Naming}
use Rattle.elements.proofs.listing.name_vertices.Given as goal

pub record Named (es old : List ℕ) (n : ℕ) (new : List ℕ) (i : ℕ) : Type 0 where
  pub so_far : i ≤ n
  pub asked : VerticesAsked es old n
  pub names : Naming es old n new i

abbrev pub invariant-loop-i : goal.invariant-loop-i
invariant-loop-i l = Named l.elements l.initial.list l.n l.list l.i

abbrev pub decreases-loop-i : goal.decreases-loop-i
decreases-loop-i l = l.n - l.i
