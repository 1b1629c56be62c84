-- Crossings: the edge test, the clamp by its tests, and the point axis by axis, filled from the front over zeros.
use Rattle.std.specs.Prelude.{if◌then◌else◌, Option, Some, None}
use Prim.Native.Nat.{ℕ, zero, suc, ◌+◌, ◌-◌, ◌≤◌, ◌<◌}
use mathlib.Core.Path.{◌≡◌, refl, sym, ap, ◌∙◌, subst}
use mathlib.Core.Bool.{Bool, true, false, ◌&&◌, ◌||◌}
use mathlib.Core.List.{List, [], ◌∷◌, ◌++◌}
use native.Mathlib.Nat.{le_trans, le_of_eq, not-suc-le-zero, le_of_suc-le-suc}
use native.Mathlib.Numerals.{add-one}
use native.Mathlib.Omega.{arith}
use lib.ListN.{length, get_or, set, take, replicate}
use lib.Ieee.{Float, nan, fin, binary64, add, sub, mul, div, lt, ne}
use Rattle.rules.specs.Lists.{pad}
use Rattle.rules.specs.Floats.{plus_zero, within, side_of, side_test, opposite, crossing_of, edge_test, greater, lesser, clamp, crossing_point}
use Rattle.rules.specs.Promises.{Between}
use Rattle.rules.specs.declared.EdgeTest.{EdgeTest}
use Rattle.rules.specs.declared.SideTest.{SideTest}
use Rattle.rules.proofs.Clamp.{clamp_within, clamp_between}
use Rattle.rules.proofs.Laws.{if_true, if_false}
use Rattle.hypermath.specs.Answers.{Clamped}
use Rattle.hypermath.proofs.Bits.{differs}
use Rattle.hypermath.proofs.Filling.{fill_next}

-- ---- the edge test

pub crossed : (a b : Float) → opposite (side_of a) (side_of b) ≡ true → Some (div binary64 a (sub binary64 a b)) ≡ crossing_of a b
unfolding crossing_of
crossed a b h = sym (if_true (opposite (side_of a) (side_of b)) _ _ h)

pub not_crossed : (a b : Float) → opposite (side_of a) (side_of b) ≡ false → None ≡ crossing_of a b
unfolding crossing_of
not_crossed a b h = sym (if_false (opposite (side_of a) (side_of b)) _ _ h)

abbrev pub tested : Option Float → Bool → EdgeTest
tested x w = record { crossing = x; warning = w }

pub tested_is : (a b : Float) (x : Option Float) (s t : SideTest) (w : Bool) → x ≡ crossing_of a b → s ≡ side_test a → t ≡ side_test b → w ≡ (s.warning || t.warning) → tested x w ≡ edge_test a b
tested_is a b x s t w e p q v = λ j. tested (e j) ((v ∙ (λ i. (p i).warning || (q i).warning)) j)

-- ---- the clamp

-- by its three tests: above both, below both, not a number
pub clamp_is : (a b x : Float) (p q n : Bool) → p ≡ (lt a x && lt b x) → q ≡ (lt x a && lt x b) → ne x x ≡ n
    → (if p then greater a b else if q || n then lesser a b else x) ≡ clamp a b x
unfolding clamp
clamp_is a b x p q n hp hq hn = λ i. if hp i then greater a b else if hq i || (sym hn ∙ differs x) i then lesser a b else x

-- what is clamped lies between its ends and keeps their bounds
pub clamped : {a b x r : Float} → r ≡ clamp a b x → Clamped a b x r
clamped {a} {b} {x} {r} e = record {
  is = e;
  between = λ na nb. subst (Between a b) (sym e) (clamp_between a b na nb x);
  bounded = λ n k ha hb. subst (λ (y : Float). within (fin false n k) y ≡ true) (sym e) (clamp_within n k a b x ha hb);
}

-- ---- the point

abbrev pub along : Float → Float → Float → Float
along t a b = clamp a b (add binary64 a (mul binary64 (sub binary64 b a) t))

-- one axis more comes last
crossing_more : (t : Float) (a b : List Float) (i : ℕ) → i < length a → i < length b
    → crossing_point t (take (suc i) a) (take (suc i) b) ≡ crossing_point t (take i a) (take i b) ++ along t (get_or a i nan) (get_or b i nan) ∷ []
unfolding crossing_point
crossing_more t [] b i h k = absurd (not-suc-le-zero h)
crossing_more t (x ∷ a) [] i h k = absurd (not-suc-le-zero k)
crossing_more t (x ∷ a) (y ∷ b) zero h k = refl
crossing_more t (x ∷ a) (y ∷ b) (suc i) h k = ap (λ (l : List Float). along t x y ∷ l) (crossing_more t a b i (le_of_suc-le-suc h) (le_of_suc-le-suc k))

crossing_long : (t : Float) (a b : List Float) (i : ℕ) → i ≤ length a → i ≤ length b → length (crossing_point t (take i a) (take i b)) ≡ i
unfolding crossing_point
crossing_long t a b zero h k = refl
crossing_long t [] b (suc i) h k = absurd (not-suc-le-zero h)
crossing_long t (x ∷ a) [] (suc i) h k = absurd (not-suc-le-zero k)
crossing_long t (x ∷ a) (y ∷ b) (suc i) h k = ap suc (crossing_long t a b i (le_of_suc-le-suc h) (le_of_suc-le-suc k))

module _ (t : Float) (a b : List Float) (n : ℕ) where
  -- the axes below i worked out
  abbrev pub begun : ℕ → List Float
  begun i = pad plus_zero n (crossing_point t (take i a) (take i b))

  pub begun_start : replicate n plus_zero ≡ begun 0
  unfolding crossing_point
  begun_start = ap (λ (m : ℕ). replicate m plus_zero) (let q : n ≡ n - 0 = omega arith in q)

  pub begun_go : {out : List Float} (i : ℕ) (y : Float) → out ≡ begun i → i < n → i < length a → i < length b
      → y ≡ along t (get_or a i nan) (get_or b i nan) → set out i y ≡ begun (i + 1)
  begun_go {out} i y e h ha hb f =
      let l = crossing_long t a b i (le_trans (le_of_eq refl) (let q : i ≤ length a = omega arith in q)) (let q : i ≤ length b = omega arith in q) in
      (λ j. set (e j) i (f j))
      ∙ ap (λ (k : ℕ). set (begun i) k (along t (get_or a i nan) (get_or b i nan))) (sym l)
      ∙ fill_next plus_zero n (crossing_point t (take i a) (take i b)) (along t (get_or a i nan) (get_or b i nan)) (let q : length (crossing_point t (take i a) (take i b)) < n = omega arith in q)
      ∙ ap (pad plus_zero n) (sym (crossing_more t a b i ha hb))
      ∙ ap begun (sym (add-one i))
