-- The public reply, by the tests in their order.
use Rattle.std.specs.Prelude.{if◌then◌else◌, Ok, Err}
use Rattle.rules.specs.declared.Refusal.TheVariants.{Dimension, Radius, NotSound}
use Prim.Native.Nat.{ℕ, ◌≤◌, ◌<◌}
use mathlib.Core.Bool.{Bool, true, false, not, ◌&&◌}
use mathlib.Core.Path.{◌≡◌, refl, sym, ap, ◌∙◌}
use mathlib.Core.List.{List}
use native.Mathlib.Omega.{arith}
use lib.Dec.{leb}
use lib.Ieee.{Float}
use Rattle.rules.specs.Limits.{desk}
use Rattle.rules.specs.Memory.{Memory, right_size, encode}
use Rattle.rules.specs.Cube.{cube, radius_fits}
use Rattle.rules.specs.Replies.{cube_reply}
use Rattle.rules.specs.Held.{memory_of}
use Rattle.rules.proofs.Laws.{test_le, test_above}

module _ (d : ℕ) (radius : Float) (cs : List ℕ) (ps hs : List Float) (es : List ℕ) where
  reply_of_lem : (a b c e : Bool) → leb 1 d ≡ a → leb d 4 ≡ b → radius_fits radius ≡ c → right_size desk (memory_of cs ps hs es) ≡ e
      → (if not (a && b) then (Err Dimension, memory_of cs ps hs es) else if not c then (Err Radius, memory_of cs ps hs es)
      else if not e then (Err NotSound, memory_of cs ps hs es) else (Ok tt, encode desk (cube d radius))) ≡ cube_reply desk d radius (memory_of cs ps hs es)
  unfolding cube_reply
  reply_of_lem a b c e p q r s i =
      if not (sym p i && sym q i) then (Err Dimension, memory_of cs ps hs es) else if not (sym r i) then (Err Radius, memory_of cs ps hs es)
      else if not (sym s i) then (Err NotSound, memory_of cs ps hs es) else (Ok tt, encode desk (cube d radius))

  pub too_few : d < 1 → (Err Dimension, memory_of cs ps hs es) ≡ cube_reply desk d radius (memory_of cs ps hs es)
  too_few h = reply_of_lem false _ _ _ (test_above 1 d h) refl refl refl

  pub too_many : 4 < d → (Err Dimension, memory_of cs ps hs es) ≡ cube_reply desk d radius (memory_of cs ps hs es)
  too_many h = reply_of_lem true false _ _ (test_le 1 d (omega (arith, h))) (test_above d 4 h) refl refl

  module _ (low : 1 ≤ d) (high : d ≤ 4) where
    pub no_radius : radius_fits radius ≡ false → (Err Radius, memory_of cs ps hs es) ≡ cube_reply desk d radius (memory_of cs ps hs es)
    no_radius h = reply_of_lem true true false _ (test_le 1 d low) (test_le d 4 high) h refl

    pub no_room : radius_fits radius ≡ true → right_size desk (memory_of cs ps hs es) ≡ false → (Err NotSound, memory_of cs ps hs es) ≡ cube_reply desk d radius (memory_of cs ps hs es)
    no_room r s = reply_of_lem true true true false (test_le 1 d low) (test_le d 4 high) r s

    pub cube_replied : (m : Memory) → m ≡ encode desk (cube d radius) → radius_fits radius ≡ true → right_size desk (memory_of cs ps hs es) ≡ true → (Ok tt, m) ≡ cube_reply desk d radius (memory_of cs ps hs es)
    cube_replied m q r s = ap (λ (n : Memory). (Ok tt, n)) q ∙ reply_of_lem true true true true (test_le 1 d low) (test_le d 4 high) r s
