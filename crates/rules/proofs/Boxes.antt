-- A crossing lies in the box of its edge, axis by axis, by the law of the clamp; and the ends of an edge of a sound table are points without a NaN.
use Prim.Native.Nat.{ℕ, ◌<◌, suc, zero, suc-le-suc}
use mathlib.Core.Bool.{true, false, not, false≢true}
use mathlib.Core.List.{List, [], ◌∷◌}
use mathlib.Core.Path.{◌≡◌, refl, ap, sym, subst, ◌∙◌}
use native.Mathlib.Nat.{not-suc-le-zero, le_of_suc-le-suc, suc-ne-zero, suc_inj, zero-lt-suc, le_trans, le_of_lt}
use lib.Dec.{eqb}
use lib.Ieee.{Float, nan, inf, fin, le, lt, eq, neg, is_nan}
use lib.ListN.{length, get_or}
use Rattle.rules.specs.Limits.{Limits}
use Rattle.rules.specs.Lists.{all}
use Rattle.rules.specs.Floats.{plus_zero, within, farthest, crossing_point}
use Rattle.rules.specs.Table.{Table, rank, boundary, element_count}
use Rattle.rules.specs.Sound.{sound, sound_point}
use Rattle.rules.specs.Asking.{border}
use Rattle.rules.specs.Promises.{Between, EndsOfEdge, InTheBox, end_at}
use Rattle.rules.proofs.Borders.{sound_bordered}
use Rattle.rules.proofs.Clamp.{clamp_between}
use Rattle.rules.proofs.Each.{all_map}
use Rattle.rules.proofs.Good.{sound_good}
use Rattle.rules.proofs.Laws.{and_left, and_right, eq_test, not_true}
use Rattle.rules.proofs.StaysCut.{point_at_sound}

-- ---- two ends

crossing_long : (t : Float) (p q : List Float) → length q ≡ length p → length (crossing_point t p q) ≡ length p
unfolding crossing_point
crossing_long t [] q e = refl
crossing_long t (a ∷ as') [] e = absurd (suc-ne-zero (length as') (sym e))
crossing_long t (a ∷ as') (b ∷ bs) e = ap suc (crossing_long t as' bs (suc_inj e))

crossing_between : (t : Float) (p q : List Float) → length q ≡ length p → all (λ x. not (is_nan x)) p ≡ true → all (λ x. not (is_nan x)) q ≡ true
    → (k : ℕ) → k < length p → Between (get_or p k plus_zero) (get_or q k plus_zero) (get_or (crossing_point t p q) k plus_zero)
unfolding crossing_point
crossing_between t [] q e f g k l = absurd (not-suc-le-zero l)
crossing_between t (a ∷ as') [] e f g k l = absurd (suc-ne-zero (length as') (sym e))
crossing_between t (a ∷ as') (b ∷ bs) e f g zero l =
    clamp_between a b (not_true (is_nan a) (and_left (not (is_nan a)) (all (λ x. not (is_nan x)) as') f)) (not_true (is_nan b) (and_left (not (is_nan b)) (all (λ x. not (is_nan x)) bs) g)) _
crossing_between t (a ∷ as') (b ∷ bs) e f g (suc k) l =
    crossing_between t as' bs (suc_inj e) (and_right (not (is_nan a)) (all (λ x. not (is_nan x)) as') f) (and_right (not (is_nan b)) (all (λ x. not (is_nan x)) bs) g) k (le_of_suc-le-suc l)

-- ---- an edge of a sound table

-- a coordinate in range is a number
pub in_range : (b x : Float) → within b x ≡ true → not (is_nan x) ≡ true
unfolding within le lt eq is_nan
in_range b nan h = absurd (false≢true (and_right (le (neg b) nan) false h))
in_range b (inf s) h = refl
in_range b (fin s m e) h = refl

pub all_numbers : (b : Float) (p : List Float) → all (within b) p ≡ true → all (λ x. not (is_nan x)) p ≡ true
all_numbers b p h = all_map (within b) (λ x. not (is_nan x)) (in_range b) p h

pub point_long : (d : ℕ) (p : List Float) → sound_point d p ≡ true → length p ≡ d
unfolding sound_point
point_long d p h = eq_test (length p) d (and_left (eqb (length p) d) (all (within farthest) p) h)

pub point_numbers : (d : ℕ) (p : List Float) → sound_point d p ≡ true → all (λ x. not (is_nan x)) p ≡ true
unfolding sound_point
point_numbers d p h = all_numbers farthest p (and_right (eqb (length p) d) (all (within farthest) p) h)

module _ (L : Limits) (t : Table) (s : sound L t ≡ true) (e : ℕ) (used : e < element_count t) (ranked : rank t e ≡ 1) where
  end_sound : (n : ℕ) → n < length (boundary t e) → sound_point t.dimension (end_at t e n) ≡ true
  end_sound n l =
      let b = sound_bordered L t s e used (subst (λ (k : ℕ). 0 < k) (sym ranked) (zero-lt-suc 0)) in
      point_at_sound L t (border t e n) (sound_good L t s) (le_trans (b.earlier n l) (le_of_lt used), b.ranks n l ∙ ranked)

  edge_ends_lem : EndsOfEdge (end_at t e 0) (end_at t e 1)
  edge_ends_lem =
      let b = sound_bordered L t s e used (subst (λ (k : ℕ). 0 < k) (sym ranked) (zero-lt-suc 0)) in
      let two = subst (λ (k : ℕ). suc k < suc (length (boundary t e))) ranked (suc-le-suc b.enough) in
      let p = end_sound 0 (le_trans (suc-le-suc (le_of_lt (zero-lt-suc 0))) (le_of_suc-le-suc two)) in
      let q = end_sound 1 (le_of_suc-le-suc two) in
      record {
        axes = point_long t.dimension (end_at t e 1) q ∙ sym (point_long t.dimension (end_at t e 0) p);
        first = point_numbers t.dimension (end_at t e 0) p;
        second = point_numbers t.dimension (end_at t e 1) q;
      }

pub in_the_box : (L : Limits) → InTheBox L
in_the_box L = record {
  crossing = λ p q w t. record { axes = crossing_long t p q w.axes; between = crossing_between t p q w.axes w.first w.second };
  edge = edge_ends_lem L;
  coordinate = λ a b x na nb. clamp_between a b na nb x;
}
