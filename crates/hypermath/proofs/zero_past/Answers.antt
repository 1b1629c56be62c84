-- The chain asks all of the components past the dimension.
use mathlib.Core.Path.{◌≡◌, ap, ◌∙◌}
use Prim.Native.Nat.{◌-◌}
use native.Mathlib.Omega.{arith}
use Rattle.std.proofs.Common.{rules, tests}
use Rattle.std.proofs.lemmas.Iterator.{YieldsList-from_slice}
use Rattle.std.proofs.lemmas.Iterator.Search.{all_from_yields_List}
use lib.ListN.{take, drop, length, length-drop}
use lib.Seq.{take_all}
use Rattle.rules.specs.Lists.{all}
use Rattle.rules.specs.Floats.{plus_zero, same_bits}
use Rattle.hypermath.proofs.Chains.{all_is}
use Rattle.hypermath.proofs.zero_past.Goals as goal

pub returns : goal.returns
returns c =
    let rest = take_all (4 - c.axes_of-n.result) (drop c.axes_of-n.result c.args.normal) (simp length-drop (let l : length c.args.normal ≡ 4 = search rules in omega arith)) in
    let whole = all_from_yields_List (same_bits plus_zero) _ _ c.all.result c.all.ensures.ran
    (YieldsList-from_slice (take (4 - c.axes_of-n.result) (drop c.axes_of-n.result c.args.normal)) c.iter.ensures.rest) (λ x b q k. search (rules, tests)) in
    whole ∙ all_is (same_bits plus_zero) (take (4 - c.axes_of-n.result) (drop c.axes_of-n.result c.args.normal)) ∙ ap (all (same_bits plus_zero)) (rest ∙ c.axes_of-n.ensures.rest c.args.normal (search rules))
