-- Three ways: inside refused, outside refused, or both sides known.
use Rattle.std.proofs.lemmas.Result.{err_from_is_err_and}
use mathlib.Core.Path.{refl}
use Rattle.gathered.proofs.Answering.{inside_ready, inside_refused, outside_ready, outside_refused, rule7_answered}
use Rattle.gathered.proofs.answer.rule7.Goals as goal

pub side_of_cut-requires : goal.side_of_cut-requires
side_of_cut-requires c = inside_ready c.requires

pub side_of_cut-requires-2 : goal.side_of_cut-requires-2
side_of_cut-requires-2 c = outside_ready c.side_of_cut.ensures _ c.in_ok-inside.was c.requires

pub returns-in_err-inside : goal.returns-in_err-inside
returns-in_err-inside c = let x = err_from_is_err_and c.from_residual.result c.from_residual.ensures.1 in
    rw (x.1, x.2) (inside_refused c.side_of_cut.ensures refl _ c.in_err-inside.was)

pub returns-in_err-outside : goal.returns-in_err-outside
returns-in_err-outside c = let x = err_from_is_err_and c.from_residual-in_err-outside.result c.from_residual-in_err-outside.ensures.1 in
    rw (x.1, x.2) (outside_refused c.side_of_cut.ensures _ c.in_ok-inside.was c.side_of_cut-2.ensures refl _ c.in_err-outside.was)

pub returns : goal.returns
returns c = rule7_answered c.side_of_cut.ensures _ c.in_ok-inside.was c.side_of_cut-2.ensures refl _ c.in_ok-outside.was
