-- Loops that go over a whole part of a list and keep only the bits that they have met, where an entry passes its test when it has none.
-- The invariant says that all entries pass exactly when no bit has been met yet and those that are left pass.
use Prim.Native.Nat.{ℕ, ◌+◌, ◌≤◌, ◌<◌}
use mathlib.Core.Path.{◌≡◌, sym, ap, ◌∙◌}
use mathlib.Core.Bool.{Bool, true, false, ◌&&◌}
use mathlib.Core.List.{List}
use lib.Bits.{bit_or}
use lib.Dec.{eqb}
use lib.ListN.{length, get_or, drop}
use Rattle.rules.specs.Lists.{all}
use Rattle.rules.proofs.Indexed.{all_no, all_go, all_end}
use Rattle.rules.proofs.Laws.{eq_test, test_eq, both_ways}
use Rattle.space.proofs.NoBits.{no_bits}

pub eq_turned : (x y : ℕ) → eqb x y ≡ eqb y x
eq_turned x y = both_ways (eqb x y) (eqb y x) (λ h. test_eq y x (sym (eq_test x y h))) (λ h. test_eq x y (sym (eq_test y x h)))

module _ {A : Type 0} (p : A → Bool) (z : A) (l : List A) where
  step : {b : Bool} (clear passed : Bool) (i : ℕ) → b ≡ (clear && all p (drop i l)) → i < length l → p (get_or l i z) ≡ passed
      → b ≡ ((clear && passed) && all p (drop (i + 1) l))
  step false passed i e h q = e
  step true true i e h q = all_go p z l i e h q
  step true false i e h q = sym (all_no p z l i e h q)

  pub unseen_go : {b : Bool} (seen x i : ℕ) → b ≡ (eqb seen 0 && all p (drop i l)) → i < length l → p (get_or l i z) ≡ eqb x 0
      → b ≡ (eqb (bit_or seen x) 0 && all p (drop (i + 1) l))
  unseen_go seen x i e h q = step (eqb seen 0) (eqb x 0) i e h q ∙ ap (λ (c : Bool). c && all p (drop (i + 1) l)) (sym (no_bits seen x))

  pub unseen_end : {b : Bool} (seen i : ℕ) → b ≡ (eqb seen 0 && all p (drop i l)) → length l ≤ i → eqb seen 0 ≡ b
  unseen_end {b} seen i e h = go (eqb seen 0) e
    where
      go : (clear : Bool) → b ≡ (clear && all p (drop i l)) → clear ≡ b
      go true e = all_end p z l i e h
      go false e = sym e
