-- Each step leaves one less: what the others tell is told of all of them.
use Rattle.std.proofs.Common.{ℕ, suc, ◌+◌, ◌-◌, ◌<◌, ◌≡◌, subst, arith}
use Rattle.std.specs.Prelude.{Option, Some, None}
use borrow.Author.Rules.{rules}
use Rattle.files.specs.Passed.{Repeats}
use Rattle.files.proofs.layout.many_of.Goals as goal

module _ (step : ℕ → Option ℕ → Type 0) (at n i : ℕ) (h : i < n) where
  one_less : (p : Option ℕ) → Repeats step at (suc (n - (i + 1))) p → Repeats step at (n - i) p
  one_less p r = subst (λ (k : ℕ). Repeats step at k p) (let q : suc (n - (i + 1)) ≡ n - i = omega (arith, h) in q) r

pub returns-in_err-end : goal.returns-in_err-end
returns-in_err-end g c = c.loop-passed.invariant.rest _ (one_less _ c.loop-passed.end c.args.n c.loop-passed._passed (search rules) _ (None, c.in_err-end.ensures, c.from_residual.ensures))

pub loop-passed-preserved : goal.loop-passed-preserved
loop-passed-preserved g c = record {
  bound = search rules;
  ready = c.requires.again c.loop-passed.end c.in_ok-end.end c.loop-passed.invariant.ready c.in_ok-end.ensures;
  rest = λ p r. c.loop-passed.invariant.rest p (one_less _ c.loop-passed.end c.args.n c.loop-passed._passed (search rules) p (Some c.in_ok-end.end, c.in_ok-end.ensures, r));
}
