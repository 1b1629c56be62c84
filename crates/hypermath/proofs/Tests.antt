-- Ranges, sides, unit normals and distances: each test of the code is one of the definition, so the answer is read off the tests that were taken.
use Rattle.std.specs.Prelude.{if◌then◌else◌}
use Prim.Native.Nat.{ℕ}
use mathlib.Core.Path.{◌≡◌, refl, sym, ap, ◌∙◌}
use mathlib.Core.Bool.{Bool, true, false, not, ◌&&◌, false≢true, true≢false}
use mathlib.Core.List.{List}
use lib.ListN.{take, drop}
use lib.Ieee.{Float, nan, inf, fin, binary64, neg, add, sub, lt, le, eq}
use Rattle.rules.specs.Lists.{all}
use Rattle.rules.specs.Floats.{plus_zero, one, tolerance, farthest_plane, close_bound, within, same_bits, dot, side_of, close_call, side_test, unit}
use Rattle.rules.specs.declared.Side.{Side}
use Rattle.rules.specs.declared.Side.TheVariants.{Inside, On, Outside}
use Rattle.rules.specs.declared.SideTest.{SideTest}
use Rattle.rules.proofs.Laws.{if_true, if_false}
use Rattle.hypermath.specs.Answers.{unit_normal, distance_kind}
use Rattle.hypermath.specs.declared.DistanceKind.TheVariants.{Unfit, Finite, PlusInfinity, MinusInfinity}

-- two tests in turn are their conjunction
pub both_are : (a b c d : Bool) → c ≡ a → d ≡ b → (a && b) ≡ (c && d)
both_are a b c d p q = sym (λ i. p i && q i)

pub within_is : (bound x : Float) (a b : Bool) → le (neg bound) x ≡ a → le x bound ≡ b → (a && b) ≡ within bound x
unfolding within
within_is bound x a b p q = both_are a b (le (neg bound) x) (le x bound) p q

-- ---- sides

abbrev pub told : Side → Bool → SideTest
told side warning = record { side = side; warning = warning }

-- off the plane the warning is the second range test
close_it : (s : Float) (v : Bool) → within tolerance s ≡ false → v ≡ within close_bound s → v ≡ close_call s
unfolding close_call
close_it s v w e = e ∙ sym (and_yes (within close_bound s)) ∙ ap (λ (b : Bool). within close_bound s && not b) (sym w)
  where
    and_yes : (b : Bool) → (b && true) ≡ b
    and_yes true = refl
    and_yes false = refl

pub on_it : (s : Float) → within tolerance s ≡ true → told On false ≡ side_test s
unfolding side_of close_call
on_it s w = sym (λ j. told (if_true (within tolerance s) On (if lt s (neg tolerance) then Inside else Outside) w j) (far j))
  where
    and_no : (b : Bool) → (b && false) ≡ false
    and_no true = refl
    and_no false = refl

    far : (within close_bound s && not (within tolerance s)) ≡ false
    far = ap (λ (b : Bool). within close_bound s && not b) w ∙ and_no (within close_bound s)

pub inside_it : (s : Float) (v : Bool) → within tolerance s ≡ false → v ≡ within close_bound s → lt s (neg tolerance) ≡ true → told Inside v ≡ side_test s
unfolding side_of
inside_it s v w e l = λ j. told (sym (if_false (within tolerance s) On _ w ∙ if_true (lt s (neg tolerance)) Inside Outside l) j) (close_it s v w e j)

pub outside_it : (s : Float) (v : Bool) → within tolerance s ≡ false → v ≡ within close_bound s → lt s (neg tolerance) ≡ false → told Outside v ≡ side_test s
unfolding side_of
outside_it s v w e l = λ j. told (sym (if_false (within tolerance s) On _ w ∙ if_false (lt s (neg tolerance)) Inside Outside l) j) (close_it s v w e j)

-- ---- unit normals

-- what a conjunction is worth: the second part where the first holds, and the first where it fails
pub joined_then : (a b v : Bool) → a ≡ true → v ≡ b → v ≡ (a && b)
joined_then true b v h e = e
joined_then false b v h e = absurd (false≢true h)

pub joined_else : (a b v : Bool) → a ≡ false → v ≡ a → v ≡ (a && b)
joined_else true b v h e = absurd (true≢false h)
joined_else false b v h e = e

module _ (d : ℕ) (normal : List Float) where
  -- a component that does not fit tells at once
  pub unit_not : all (within one) (take d normal) ≡ false → false ≡ unit_normal d normal
  unfolding unit
  unit_not h = sym (λ i. h i && le (sub binary64 one tolerance) (dot (take d normal) (take d normal)) && le (dot (take d normal) (take d normal)) (add binary64 one tolerance)
      && all (same_bits plus_zero) (drop d normal))

  -- where all fit, v says whether the squares do
  fit_tests : (s : Float) (v : Bool) → all (within one) (take d normal) ≡ true → s ≡ dot (take d normal) (take d normal) → v ≡ (le (sub binary64 one tolerance) s && le s (add binary64 one tolerance)) → v ≡ unit (take d normal)
  unfolding unit
  fit_tests s v h e f = f ∙ (λ i. le (sub binary64 one tolerance) (e i) && le (e i) (add binary64 one tolerance))
      ∙ sym (λ i. h i && le (sub binary64 one tolerance) (dot (take d normal) (take d normal)) && le (dot (take d normal) (take d normal)) (add binary64 one tolerance))

  pub unit_then : (s : Float) (v r : Bool) → all (within one) (take d normal) ≡ true → s ≡ dot (take d normal) (take d normal)
      → v ≡ (le (sub binary64 one tolerance) s && le s (add binary64 one tolerance)) → v ≡ true → r ≡ all (same_bits plus_zero) (drop d normal) → r ≡ unit_normal d normal
  unit_then s v r h e f g z = z ∙ (λ i. (sym g ∙ fit_tests s v h e f) i && all (same_bits plus_zero) (drop d normal))

  pub unit_else : (s : Float) (v : Bool) → all (within one) (take d normal) ≡ true → s ≡ dot (take d normal) (take d normal)
      → v ≡ (le (sub binary64 one tolerance) s && le s (add binary64 one tolerance)) → v ≡ false → v ≡ unit_normal d normal
  unit_else s v h e f g = g ∙ (λ i. (sym g ∙ fit_tests s v h e f) i && all (same_bits plus_zero) (drop d normal))

-- ---- distances

-- what lies within the farthest distance is finite
pub kind_finite : (x : Float) → within farthest_plane x ≡ true → Finite ≡ distance_kind x
unfolding distance_kind within le lt eq neg
kind_finite nan h = absurd (false≢true h)
kind_finite (inf true) h = absurd (false≢true h)
kind_finite (inf false) h = absurd (false≢true h)
kind_finite (fin s m e) h = sym (if_true (within farthest_plane (fin s m e)) _ _ h)

pub kind_plus : (x : Float) → eq x (inf false) ≡ true → PlusInfinity ≡ distance_kind x
unfolding distance_kind eq
kind_plus nan h = absurd (false≢true h)
kind_plus (inf true) h = absurd (false≢true h)
kind_plus (inf false) h = refl
kind_plus (fin s m e) h = absurd (false≢true h)

pub kind_minus : (x : Float) → eq x (inf true) ≡ true → MinusInfinity ≡ distance_kind x
unfolding distance_kind eq
kind_minus nan h = absurd (false≢true h)
kind_minus (inf true) h = refl
kind_minus (inf false) h = absurd (false≢true h)
kind_minus (fin s m e) h = absurd (false≢true h)

pub kind_unfit : (x : Float) → within farthest_plane x ≡ false → eq x (inf false) ≡ false → eq x (inf true) ≡ false → Unfit ≡ distance_kind x
unfolding distance_kind eq
kind_unfit nan w p m = refl
kind_unfit (inf true) w p m = absurd (true≢false m)
kind_unfit (inf false) w p m = absurd (true≢false p)
kind_unfit (fin s k e) w p m = sym (if_false (within farthest_plane (fin s k e)) _ _ w)
