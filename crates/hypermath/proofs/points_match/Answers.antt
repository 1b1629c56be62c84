-- The chain asks both points axis by axis.
use mathlib.Core.Path.{ap₂, ◌∙◌}
use Rattle.std.proofs.Common.{rules, tests}
use Rattle.std.proofs.lemmas.Iterator.{YieldsList-from_slice, YieldsList-from_zip}
use Rattle.std.proofs.lemmas.Iterator.Consumers.{YieldsList-at}
use Rattle.std.proofs.lemmas.Iterator.Search.{all_from_yields_List}
use lib.ListN.{take}
use lib.Ieee.{Float}
use Rattle.rules.specs.Lists.{alike}
use Rattle.rules.specs.Floats.{matches, point_matches}
use Rattle.hypermath.proofs.Chains.{alike_is}
use Rattle.hypermath.proofs.points_match.Goals as goal

pub returns : goal.returns
unfolding point_matches
returns c =
    let road = YieldsList-from_zip {s = c.zip.result} (YieldsList-at c.zip.ensures.first (YieldsList-from_slice (take c.axes_of-n.result c.args.earlier) c.iter.ensures.rest))
    (YieldsList-at c.zip.ensures.second (YieldsList-from_slice (take c.axes_of-n.result c.args.later) c.iter-2.ensures.rest)) in
    let whole = all_from_yields_List (λ (x : Float × Float). matches x.0 x.1) c.all.new.self _ c.all.result c.all.ensures.ran road (λ x b q k. search (rules, tests)) in
    whole ∙ alike_is matches (take c.axes_of-n.result c.args.earlier) (take c.axes_of-n.result c.args.later) (search rules)
    ∙ ap₂ (alike matches) (c.axes_of-n.ensures.front c.args.earlier (search rules)) (c.axes_of-n.ensures.front c.args.later (search rules))
