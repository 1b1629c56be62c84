-- At its place x stands already, or the numbers from there on move up by one and x goes there.
use Prim.Native.Nat.{ℕ}
use mathlib.Core.List.{List}
use mathlib.Core.Path.{refl, ap}
use native.Mathlib.Omega.{arith}
use lib.ListN.{set}
use Rattle.gathered.proofs.Inserting.{insert_same, insert_new}
use borrow.Author.Rules.{rules}
use Rattle.gathered.proofs.sets.Set.insert.Goals as goal
use Rattle.gathered.proofs.sets.Set.insert.Goals.{else-at-n-via-then-at-n+else-self-at, else-at-n-via-else-at-n}

pub returns-then-self-at : goal.returns-then-self-at
returns-then-self-at c = insert_same c.args.self.now c.args.x c.requires (search rules) _ c.place-at.ensures (search rules) (search rules)

pub returns : goal.returns
returns c = insert_new c.args.self.now c.args.x c.requires (search rules) c.place-at.result c.place-at.ensures
    (λ l. elim c.else-at-n.branch [
      | else-at-n-via-then-at-n+else-self-at w ↦ w.if-self-at.false
      | else-at-n-via-else-at-n w ↦ λ e. absurd (omega (arith, w.if-at-n.false, l))
    ])
    _ (ap (λ (m : List ℕ). set m c.place-at.result c.args.x) c.copy_within.ensures.after) refl
