-- Test by test; what a refused question tells is the reply.
use Rattle.std.proofs.lemmas.Result.{err_from_is_err_and}
use native.Mathlib.Omega.{arith}
use Rattle.print.proofs.Tests.{refused, known, four_counts, not_solid, has_facet, solid_asked, printed_solid}
use Rattle.print.proofs.stl.Goals as goal

pub bounds-memory-0 : goal.bounds-memory-0
bounds-memory-0 c = omega (arith, four_counts _ _ _ _ _ (known _ _ _ _ _ _ _ c.has_primordial_facet.ensures c.in_ok-primordial.was))

pub returns-then-wide-ne3 : goal.returns-then-wide-ne3
returns-then-wide-ne3 c = not_solid _ _ _ _ _ (known _ _ _ _ _ _ _ c.has_primordial_facet.ensures c.in_ok-primordial.was) _ c.wide.ensures.value _ c.if-wide-ne3.true

pub returns-then-primordial : goal.returns-then-primordial
returns-then-primordial c = has_facet _ _ _ _ _ (known _ _ _ _ _ _ _ c.has_primordial_facet.ensures c.in_ok-primordial.was) _ c.wide.ensures.value c.if-wide-ne3.false _ c.if-primordial.true

pub solid-requires : goal.solid-requires
solid-requires c = solid_asked _ _ _ _ _ (known _ _ _ _ _ _ _ c.has_primordial_facet.ensures c.in_ok-primordial.was) _ c.wide.ensures.value c.if-wide-ne3.false

pub returns-in_err-primordial : goal.returns-in_err-primordial
returns-in_err-primordial c = let x = err_from_is_err_and c.from_residual.result c.from_residual.ensures.1 in
    rw (x.1, x.2) (refused _ _ _ _ _ _ _ _ c.has_primordial_facet.ensures c.in_err-primordial.was)

pub returns : goal.returns
returns c = printed_solid _ _ _ _ _ (known _ _ _ _ _ _ _ c.has_primordial_facet.ensures c.in_ok-primordial.was) _
    c.wide.ensures.value c.if-wide-ne3.false _ c.if-primordial.false c.solid.ensures
