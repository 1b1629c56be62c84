-- The right sizes of the four slices, test by test, and what they say of the lengths.
use mathlib.Core.Bool.{Bool, true, ◌&&◌, false}
use mathlib.Core.List.{List}
use mathlib.Core.Path.{◌≡◌, sym, refl}
use Prim.Native.Nat.{ℕ}
use lib.Dec.{eqb}
use lib.Ieee.{Float}
use lib.ListN.{length}
use Rattle.rules.specs.Held.{memory_of}
use Rattle.rules.specs.Limits.{desk}
use Rattle.rules.specs.Memory.{right_size}
use Rattle.rules.proofs.Laws.{and_left, and_right, eq_test, test_eq, not_eq}
use Rattle.space.specs.Numbers.{point_slice, plane_slice, element_slice}
use mathlib.Core.Logic.{◌⊎◌, inl, inr}

-- the lengths of the four slices
pub record Lengths (cs : List ℕ) (ps hs : List Float) (es : List ℕ) : Type 0 where
  pub counts : length cs ≡ 4
  pub points : length ps ≡ point_slice
  pub planes : length hs ≡ plane_slice
  pub elements : length es ≡ element_slice

module _ (cs : List ℕ) (ps hs : List Float) (es : List ℕ) where
  pub size_of : (a b c e : Bool) → eqb (length cs) 4 ≡ a → eqb (length ps) 1024 ≡ b → eqb (length hs) 320 ≡ c → eqb (length es) 18432 ≡ e
      → (a && b && c && e) ≡ right_size desk (memory_of cs ps hs es)
  unfolding right_size
  size_of a b c e p q r s i = sym p i && sym q i && sym r i && sym s i

  -- some length is another
  pub size_not : ((length cs ≡ 4) × (length ps ≡ 1024) × (length hs ≡ 320 → ⊥)) ⊎ (((length cs ≡ 4) × (length ps ≡ 1024 → ⊥)) ⊎ (length cs ≡ 4 → ⊥)) → false ≡ right_size desk (memory_of cs ps hs es)
  size_not (inl p) = size_of true true false _ (test_eq _ 4 p.0) (test_eq _ 1024 p.1) (not_eq _ 320 p.2) refl
  size_not (inr (inl p)) = size_of true false _ _ (test_eq _ 4 p.0) (not_eq _ 1024 p.1) refl refl
  size_not (inr (inr h)) = size_of false _ _ _ (not_eq _ 4 h) refl refl refl

  pub size_known : right_size desk (memory_of cs ps hs es) ≡ true → Lengths cs ps hs es
  unfolding right_size
  size_known h =
      let a = eqb (length cs) 4 in
      let b = eqb (length ps) 1024 in
      let c = eqb (length hs) 320 in
      let e = eqb (length es) 18432 in
      let abc = and_left (a && b && c) e h in
      let ab = and_left (a && b) c abc in
      record {
        counts = eq_test _ 4 (and_left a b ab);
        points = eq_test _ 1024 (and_right a b ab);
        planes = eq_test _ 320 (and_right (a && b) c abc);
        elements = eq_test _ 18432 (and_right (a && b && c) e h);
      }
