-- What stands behind the first 45 bytes changes no turn of a table of up to four dimensions, so a program may hold back the rest.
use Rattle.std.specs.Prelude.{if◌then◌else◌}
use Prim.Native.Nat.{ℕ, ◌+◌, ◌*◌, ◌%◌, ◌/◌, ◌≤◌}
use mathlib.Core.Bool.{Bool, true, false, ◌&&◌}
use mathlib.Core.List.{List, [], ◌∷◌}
use mathlib.Core.Path.{◌≡◌, refl, sym, ap₂, ◌∙◌}
use native.Mathlib.Omega.{arith}
use lib.Dec.{leb, eqb, lit≤}
use lib.ListN.{length, get_or, take, length-take}
use lib.Seq.{take-take}
use Rattle.rules.specs.Limits.{desk}
use Rattle.rules.specs.Lists.{alike, pad}
use Rattle.rules.specs.Floats.{plus_zero}
use Rattle.rules.specs.Memory.{Memory}
use Rattle.rules.specs.Replies.{cube_reply, fate_of, cut_by, cut_reply}
use Rattle.rules.specs.Session.{is_cube, is_cut, cut_length, cube_turn, cut_turn, divider_at, params_at, bad, turn}
use Rattle.rules.proofs.Laws.{le_test, test_le, not_le, test_above}
use Rattle.lent_bytes.proofs.Fronts.{number_front, float_front, floats_front}

-- a length that is tested and is not above n
long_part : (k n : ℕ) (bs : List ℕ) → k ≤ n → leb k (length (take n bs)) ≡ leb k (length bs)
long_part k n bs h = by (leb k (length bs)) refl
  where
    by : (b : Bool) → leb k (length bs) ≡ b → leb k (length (take n bs)) ≡ leb k (length bs)
    by true e = (let l = length-take n bs in let q = le_test k (length bs) e in test_le k (length (take n bs)) (omega (arith, l, q, h))) ∙ sym e
    by false e = (let l = length-take n bs in let q = not_le k (length bs) e in test_above k (length (take n bs)) (omega (arith, l, q))) ∙ sym e

-- ---- the tests, the calls and the turn

module _ (bs : List ℕ) where
  cube_part : is_cube (take 45 bs) ≡ is_cube bs
  cube_part = ap₂ (λ (xs : List ℕ) (b : Bool). alike eqb xs (0x43 ∷ 0x55 ∷ []) && b) (take-take 2 45 bs (lit≤ tt)) (long_part 11 45 bs (lit≤ tt))

  module _ (d : ℕ) (h : d ≤ 4) where
    cut_part : is_cut d (take 45 bs) ≡ is_cut d bs
    cut_part =
        (λ i. alike eqb (take-take 2 45 bs (lit≤ tt) i) (0x43 ∷ 0x54 ∷ []) && long_part (cut_length d) 45 bs (omega (arith, h)) i && leb (number_front 1 2 45 bs (lit≤ tt) i) 3)

    divider_part : divider_at desk d (take 45 bs) ≡ divider_at desk d bs
    divider_part = λ i. record { normal = pad plus_zero 4 (floats_front d 5 45 bs (omega (arith, h)) i); distance = float_front (5 + 8 * d) 45 bs (omega (arith, h)) i }

    params_part : params_at desk d (take 45 bs) ≡ params_at desk d bs
    params_part = λ i. cut_by (divider_part i) (fate_of (eqb (number_front 1 2 45 bs (lit≤ tt) i % 2) 1)) (fate_of (eqb (number_front 1 2 45 bs (lit≤ tt) i / 2) 1))

pub enough : (stands : Bool) (m : Memory) (bs : List ℕ) → get_or m.counts 0 0 ≤ 4 → turn desk stands m (take 45 bs) ≡ turn desk stands m bs
unfolding turn
enough stands m bs h =
    let d = get_or m.counts 0 0 in
    λ i. if cube_part bs i then cube_turn stands (cube_reply desk (number_front 1 2 45 bs (lit≤ tt) i) (float_front 3 45 bs (lit≤ tt) i) m)
    else if stands && cut_part bs d h i then cut_turn d (cut_reply desk (params_part bs d h i) (number_front 2 3 45 bs (lit≤ tt) i) m)
    else bad
