-- The ranks that are passed have none.
use Prim.Native.Nat.{◌<◌}
use mathlib.Core.Path.{sym, ◌∙◌, subst}
use native.Mathlib.Omega.{arith}
use Rattle.elements.proofs.CommonLoops.{descending_start, descending_next, descending_found, descending_end}
use borrow.Author.Rules.{rules}
use Rattle.elements.proofs.ranks.greatest.Goals as goal

pub loop-i-init : goal.loop-i-init
loop-i-init c = record { so_far = search rules; long = search rules; none = descending_start _ _ _ }

pub returns-then-size-gt0 : goal.returns-then-size-gt0
returns-then-size-gt0 c = descending_found _ _ _ _ c.loop-i.invariant.none (search rules) _ c.with_rank-some.ensures (subst (λ n. 0 < n) c.size.ensures c.if-size-gt0.true)

pub loop-i-preserved : goal.loop-i-preserved
loop-i-preserved c = record {
  so_far = search rules;
  long = search rules;
  none = descending_next _ _ _ _ c.loop-i.invariant.none (search rules) _ c.with_rank-some.ensures (sym c.size.ensures ∙ (omega (arith, c.if-size-gt0.false)));
}

pub returns : goal.returns
returns c = descending_end _ _ _ _ c.loop-i.invariant.none (omega arith) _ c.none.ensures
