-- Each slice is the cube's, and so the memory is.
use mathlib.Core.Path.{◌∙◌}
use mathlib.Core.List.{[], ◌∷◌}
use Rattle.cube.proofs.CubeEntries.{cube_put}
use Rattle.cube.proofs.put_cube.Goals as goal

pub returns : goal.returns
returns c = let counts = c.put_counts.ensures ∙ (λ i. c.args.d ∷ c.cube_size-e.ensures.power i ∷ c.put_points-v.ensures.count i ∷ c.put_planes-h.ensures.count i ∷ []) in
    cube_put _ _ _ _ _ _ counts c.put_points-v.ensures.points c.put_planes-h.ensures.planes c.put_rows.ensures
