-- All numbers before the first that is not below x are.
use Prim.Native.Nat.{◌≤◌, ◌<◌}
use mathlib.Core.Path.{sym, subst}
use Rattle.std.proofs.Common.{rules, tests}
use Rattle.std.proofs.lemmas.Iterator.{IsFirst-from_position, YieldsList-from_slice}
use Rattle.gathered.specs.Sets.{Place}
use Rattle.gathered.proofs.Inserting.{placed}
use Rattle.gathered.proofs.sets.Set.place.Goals as goal

pub returns : goal.returns
returns c =
    let x = c.args.x in
    let first = IsFirst-from_position _ _ _ (λ y. x ≤ y) (λ y. y < x) c.position.ensures.ran (YieldsList-from_slice _ c.iter.ensures.rest) (λ y q k. search (rules, tests)) (λ y q k. search (rules, tests)) in
    subst (Place c.args.self.now x) (sym c.unwrap_or.ensures) (placed c.args.self.now x c.requires (search rules) _ c.as_slice.ensures _ first)
