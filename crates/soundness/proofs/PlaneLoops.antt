-- The loop over planes.
use Prim.Native.Nat.{◌-◌, ℕ, ◌≤◌, ◌*◌}
use mathlib.Core.Bool.{Bool, ◌&&◌, true, false}
use mathlib.Core.List.{List}
use mathlib.Core.Path.{◌≡◌, sym, ap, ◌∙◌, refl}
use lib.Ieee.{Float}
use lib.ListN.{take, get_or, drop}
use lib.Seq.{take-take}
use Rattle.rules.specs.Floats.{unit, within, farthest_plane, plus_zero}
use Rattle.rules.specs.Limits.{desk}
use Rattle.rules.specs.Lists.{all, rows}
use Rattle.hypermath.specs.Answers.{unit_normal}
use Rattle.soundness.specs.Words.{plane_words, blank_floats, planes_sound}
use Rattle.soundness.proofs.ReadBack.{and_one, and_zero}
use Rattle.soundness.proofs.RowLoops.{row_start}

-- what hypermath says of a lent row is what the words must meet
pub plane_is : (d : ℕ) (row : List Float) → d ≤ 4 → (unit_normal d (take 4 row) && within farthest_plane (get_or row 4 plus_zero)) ≡ plane_words desk d row
unfolding plane_words
plane_is d row low =
    ap (λ (l : List Float). (unit l && blank_floats (drop d (take 4 row))) && within farthest_plane (get_or row 4 plus_zero)) (take-take d 4 row low)
    ∙ sym (swapped (unit (take d row)) (within farthest_plane (get_or row 4 plus_zero)) (blank_floats (drop d (take 4 row))))
  where
    swapped : (x y z : Bool) → (x && y && z) ≡ ((x && z) && y)
    swapped true true z = sym (and_one z)
    swapped true false z = sym (and_zero z)
    swapped false y z = refl

pub planes_start : (d h : ℕ) (hs : List Float) → planes_sound desk d h hs ≡ (all (plane_words desk d) (rows (h - 0) 5 (drop (0 * 5) hs)) && blank_floats (drop (h * 5) hs))
unfolding planes_sound
planes_start d h hs = row_start (plane_words desk d) 5 h hs (blank_floats (drop (h * 5) hs))
