-- A touch is read from the corners, and its count is as order 6 says; the reply's numbers. The sides are a list, so both go by induction over it.
use Rattle.std.specs.Prelude.{if◌then◌else◌, Err, Ok}
use Prim.Native.Nat.{ℕ, zero, suc, ◌<◌, ◌≤◌, suc-le-suc, zero-le}
use mathlib.Core.Bool.{Bool, true, false, not, ◌&&◌, ◌||◌, false≢true, true≢false}
use mathlib.Core.List.{List, [], ◌∷◌, map}
use mathlib.Core.Path.{◌≡◌, refl, sym, ap, ap₂, subst, ◌∙◌}
use native.Mathlib.Nat.{not-suc-le-zero, le_of_suc-le-suc, le_trans, le_of_lt, lt_irrefl, suc-ne-zero}
use lib.Dec.{ltb, eqb}
use lib.Ieee.{Float, nan, inf, fin, le, neg}
use lib.ListN.{length, take}
use Rattle.rules.specs.Limits.{Limits}
use Rattle.rules.specs.Lists.{any, keep, up_to}
use Rattle.rules.specs.Floats.{signed_distance, side_of, within, farthest_plane, unit}
use Rattle.rules.specs.Table.{Plane, Table, Element, corner, polytope, vertex_of, element, rank, element_count, point_of, point_at}
use Rattle.rules.specs.Sound.{sound_plane}
use Rattle.rules.specs.Memory.{Memory, decode, sound_memory}
use Rattle.rules.specs.Questions.{is_below, sub_elements, with_rank, vertex_set}
use Rattle.rules.specs.Replies.{divider_fits, divider_of}
use Rattle.rules.specs.Touch.{vertex_side, corner_sides, is_inside, is_outside, touch_by, touch_of, tested_from, touched, touch_at_distance, touch, touch_reply}
use Rattle.rules.specs.Touch.{TouchNumbered, TouchNumbers, TouchInfinite, says_inside, says_outside, ReadFromCorners, Counted, Touches, TouchIsRead, TouchIsCounted}
use Rattle.rules.specs.declared.Hyperplane.{Hyperplane}
use Rattle.rules.specs.declared.Side.{Side}
use Rattle.rules.specs.declared.Side.TheVariants.{Inside, On, Outside}
use Rattle.rules.specs.declared.Touch.{Touch}
use Rattle.rules.specs.declared.Touch.TheVariants.{InsideOrOn, OutsideOrOn, Both}
use Rattle.rules.proofs.Common.{member_kept, kept_member, member_up, sub_elements_are_least}
use Rattle.rules.proofs.Good.{Good, sound_good, above_zero}
use Rattle.rules.proofs.Laws.{and_left, and_right, eq_test, or_none, or_shift, test_eq, unlike_eq}
use Rattle.rules.proofs.Reach.{some_of_lem, any_at}
use Rattle.rules.proofs.Repeat.{NotInfinite}
use Rattle.rules.specs.Refusals.{Reply, reply_number}
use Rattle.rules.specs.declared.Refusal.TheVariants.{Divider, NotInUse, NotSound}
use Rattle.rules.specs.declared.Touched.{Touched}
use Rattle.rules.specs.Touch.{touch_with}

-- ---- the reply

module _ (L : Limits) (h : Hyperplane) (root : ℕ) (m : Memory) where
  abbrev made : Reply Touched
  made = touch (divider_of (decode L m).dimension h) root (decode L m)

  -- with its tests as arguments
  abbrev pub touch_tested : Bool → Bool → Bool → Reply Touched → Reply Touched
  touch_tested s u f r = if not s then Err NotSound else if not u then Err NotInUse else if not f then Err Divider else r

  pub touch_tested_lem : touch_reply L h root m ≡ touch_tested (sound_memory L m) (ltb root (element_count (decode L m))) (divider_fits L (decode L m).dimension h) made
  unfolding touch_reply
  touch_tested_lem = refl

-- a touch itself is not refused
answers : (h : Plane) (root : ℕ) (t : Table) → (a : Touch) × (k : ℕ) × (touch h root t ≡ Ok (touch_with a k))
unfolding touch
answers h root t = go h.distance
  where
    go : (d : Float) → (a : Touch) × (k : ℕ) × (touch_at_distance h d root t ≡ Ok (touch_with a k))
    go (inf false) = (InsideOrOn, 0, refl)
    go (inf true) = (OutsideOrOn, 0, refl)
    go nan = (touch_of (corner_sides h t root), tested_from false false (corner_sides h t root), refl)
    go (fin s m e) = (touch_of (corner_sides h t root), tested_from false false (corner_sides h t root), refl)

pub touch_numbers : (L : Limits) → TouchNumbers L
touch_numbers L h root m =
    subst TouchNumbered (sym (touch_tested_lem L h root m))
    (go (sound_memory L m) (ltb root (element_count (decode L m))) (divider_fits L (decode L m).dimension h)
    (answers (divider_of (decode L m).dimension h) root (decode L m)))
  where
    go : (s u f : Bool) → ((a : Touch) × (k : ℕ) × (made L h root m ≡ Ok (touch_with a k))) → TouchNumbered (touch_tested L h root m s u f (made L h root m))
    go false u f x = record { number = refl; answered = λ z. absurd (suc-ne-zero 2 z); refused = λ l. refl }
    go true false f x = record { number = refl; answered = λ z. absurd (suc-ne-zero 3 z); refused = λ l. refl }
    go true true false x = record { number = refl; answered = λ z. absurd (suc-ne-zero 4 z); refused = λ l. refl }
    go true true true (a, k, e) =
        subst TouchNumbered (sym e) (record { number = refl; answered = λ z. (a, k, refl); refused = λ l. absurd (lt_irrefl 0 l) })

pub touch_infinite : (L : Limits) → TouchInfinite L
unfolding touch
touch_infinite L h root m z =
    go (sound_memory L m) (ltb root (element_count (decode L m))) (divider_fits L (decode L m).dimension h) (touch_tested_lem L h root m)
    (ap reply_number (sym (touch_tested_lem L h root m)) ∙ z)
  where
    at : (d : Float) → h.distance ≡ d → touch (divider_of (decode L m).dimension h) root (decode L m) ≡ touch_at_distance (divider_of (decode L m).dimension h) d root (decode L m)
    at d e = ap (λ (x : Float). touch_at_distance (divider_of (decode L m).dimension h) x root (decode L m)) e

    go : (s u f : Bool) → touch_reply L h root m ≡ touch_tested L h root m s u f (made L h root m) → reply_number (touch_tested L h root m s u f (made L h root m)) ≡ 0
        → (h.distance ≡ inf false → touch_reply L h root m ≡ Ok (touch_with InsideOrOn 0)) × (h.distance ≡ inf true → touch_reply L h root m ≡ Ok (touch_with OutsideOrOn 0))
    go false u f q n = absurd (suc-ne-zero 2 n)
    go true false f q n = absurd (suc-ne-zero 3 n)
    go true true false q n = absurd (suc-ne-zero 4 n)
    go true true true q n = (λ e. q ∙ at (inf false) e, λ e. q ∙ at (inf true) e)

-- ---- the count, where an inside and an outside corner have been met before or not

or_more : (a b c : Bool) → (a || (b || c)) ≡ ((a || b) || c)
or_more a b c = sym (or_shift a b c)

or_true : (a b : Bool) → a ≡ true → (a || b) ≡ true
or_true a b e = ap (λ (x : Bool). x || b) e

abbrev met : Bool → Bool → List Side → Bool
met i o ss = (i || any is_inside ss) && (o || any is_outside ss)

record CountedFrom (i o : Bool) (ss : List Side) (k : ℕ) : Type 0 where
  few : k ≤ length ss
  first : (j : ℕ) → j < k → met i o (take j ss) ≡ true → ⊥
  stopped : k < length ss → met i o (take k ss) ≡ true
  inside : (i || any is_inside (take k ss)) ≡ (i || any is_inside ss)
  outside : (o || any is_outside (take k ss)) ≡ (o || any is_outside ss)

met_more : (i o : Bool) (s : Side) (ss : List Side) → met i o (s ∷ ss) ≡ met (i || is_inside s) (o || is_outside s) ss
met_more i o s ss = ap₂ ◌&&◌ (or_more i (is_inside s) (any is_inside ss)) (or_more o (is_outside s) (any is_outside ss))

met_none : (i o : Bool) → (i && o) ≡ false → met i o [] ≡ true → ⊥
met_none i o e q = true≢false (sym q ∙ ap₂ ◌&&◌ (or_none i) (or_none o) ∙ e)

-- one more corner in front
module _ (i o : Bool) (s : Side) (ss : List Side) (e : (i && o) ≡ false) where
  abbrev i' : Bool
  i' = i || is_inside s

  abbrev o' : Bool
  o' = o || is_outside s

  -- once both are met, no more is told
  told : (a : Bool) (p : Side → Bool) → (a || p s) ≡ true → (a || (p s || false)) ≡ (a || (p s || any p ss))
  told a p q = or_more a (p s) false ∙ or_true (a || p s) false q ∙ sym (or_true (a || p s) (any p ss) q) ∙ sym (or_more a (p s) (any p ss))

  counted_here : (i' && o') ≡ true → CountedFrom i o (s ∷ ss) 1
  counted_here q = record {
    few = suc-le-suc zero-le;
    first = none;
    stopped = λ l. met_more i o s [] ∙ ap₂ ◌&&◌ (or_none i') (or_none o') ∙ q;
    inside = told i is_inside (and_left i' o' q);
    outside = told o is_outside (and_right i' o' q);
  }
    where
      none : (j : ℕ) → j < 1 → met i o (take j (s ∷ ss)) ≡ true → ⊥
      none zero l z = met_none i o e z
      none (suc j) l z = not-suc-le-zero (le_of_suc-le-suc l)

  counted_more : (k : ℕ) → CountedFrom i' o' ss k → CountedFrom i o (s ∷ ss) (suc k)
  counted_more k r = record {
    few = suc-le-suc r.few;
    first = before;
    stopped = λ l. met_more i o s (take k ss) ∙ r.stopped (le_of_suc-le-suc l);
    inside = or_more i (is_inside s) (any is_inside (take k ss)) ∙ r.inside ∙ sym (or_more i (is_inside s) (any is_inside ss));
    outside = or_more o (is_outside s) (any is_outside (take k ss)) ∙ r.outside ∙ sym (or_more o (is_outside s) (any is_outside ss));
  }
    where
      before : (j : ℕ) → j < suc k → met i o (take j (s ∷ ss)) ≡ true → ⊥
      before zero l z = met_none i o e z
      before (suc j) l z = r.first j (le_of_suc-le-suc l) (sym (met_more i o s (take j ss)) ∙ z)

  counted_by : (k : ℕ) → ((i' && o') ≡ false → CountedFrom i' o' ss k) → (b : Bool) → (i' && o') ≡ b → CountedFrom i o (s ∷ ss) (if b then 1 else suc k)
  counted_by k r true q = counted_here q
  counted_by k r false q = counted_more k (r q)

counted_from : (i o : Bool) (ss : List Side) → (i && o) ≡ false → CountedFrom i o ss (tested_from i o ss)
unfolding tested_from
counted_from i o [] e = record {
  few = zero-le;
  first = λ j l q. absurd (not-suc-le-zero l);
  stopped = λ l. absurd (not-suc-le-zero l);
  inside = refl;
  outside = refl;
}
counted_from i o (s ∷ ss) e =
    counted_by i o s ss e (tested_from (i || is_inside s) (o || is_outside s) ss) (counted_from (i || is_inside s) (o || is_outside s) ss) ((i || is_inside s) && (o || is_outside s)) refl

both_met_lem : (i o : Bool) → touch_by i o ≡ Both → (i && o) ≡ true
both_met_lem true true e = refl
both_met_lem true false e = let z : ◌≡◌ {A = ℕ} 0 1 = cc in absurd (suc-ne-zero 0 (sym z))
both_met_lem false true e = let z : ◌≡◌ {A = ℕ} 0 1 = cc in absurd (suc-ne-zero 0 (sym z))
both_met_lem false false e = let z : ◌≡◌ {A = ℕ} 0 1 = cc in absurd (suc-ne-zero 0 (sym z))

met_both : (i o : Bool) → (i && o) ≡ true → touch_by i o ≡ Both
met_both i o e = ap₂ touch_by (and_left i o e) (and_right i o e)

-- ---- a plane that fits a table is not at infinity

plane_near : (d : ℕ) (h : Plane) → sound_plane d h ≡ true → within farthest_plane h.distance ≡ true
unfolding sound_plane
plane_near d h f = and_right (eqb (length h.normal) d && unit h.normal) (within farthest_plane h.distance) f

pub near_finite : (d : ℕ) (h : Plane) → sound_plane d h ≡ true → NotInfinite h.distance
unfolding within le neg
near_finite d h f = go h.distance (plane_near d h f)
  where
    go : (x : Float) → within farthest_plane x ≡ true → NotInfinite x
    go nan e = tt
    go (inf false) e = absurd (false≢true e)
    go (inf true) e = absurd (false≢true e)
    go (fin s m e) k = tt

touch_sides : (h : Plane) (root : ℕ) (t : Table) → NotInfinite h.distance → touch h root t ≡ touched (corner_sides h t root)
unfolding touch
touch_sides h root t = go h.distance
  where
    go : (d : Float) → NotInfinite d → touch_at_distance h d root t ≡ touched (corner_sides h t root)
    go nan z = refl
    go (inf s) z = absurd z
    go (fin s m e) z = refl

-- what a reply says, with some where it is refused
answer_or : Touch → Reply Touched → Touch
answer_or b (Err n) = b
answer_or b (Ok t) = t.answer

tested_or : ℕ → Reply Touched → ℕ
tested_or b (Err n) = b
tested_or b (Ok t) = t.tested

-- ---- what an answer says

says_inside_lem : (i o : Bool) → says_inside (touch_by i o) ≡ i
says_inside_lem true true = refl
says_inside_lem true false = refl
says_inside_lem false true = refl
says_inside_lem false false = refl

says_outside_lem : (i o : Bool) → says_outside (touch_by i o) ≡ o
says_outside_lem true true = refl
says_outside_lem true false = refl
says_outside_lem false true = refl
says_outside_lem false false = refl

inside_side : (s : Side) → is_inside s ≡ true → s ≡ Inside
inside_side Inside q = refl
inside_side On q = absurd (false≢true q)
inside_side Outside q = absurd (false≢true q)

outside_side : (s : Side) → is_outside s ≡ true → s ≡ Outside
outside_side Inside q = absurd (false≢true q)
outside_side On q = absurd (false≢true q)
outside_side Outside q = refl

module _ (L : Limits) (h : Plane) (root : ℕ) (t : Table) (a : Touch) (k : ℕ) (c : Touches L h root t) (e : touch h root t ≡ Ok (touch_with a k)) where
  abbrev sides : List Side
  sides = corner_sides h t root

  both : Ok (touch_with a k) ≡ touched sides
  both = sym e ∙ touch_sides h root t (near_finite t.dimension h c.fits)

  answer_is : a ≡ touch_of sides
  unfolding answer_or
  answer_is = ap (answer_or a) both

  count_is : k ≡ tested_from false false sides
  unfolding tested_or
  count_is = ap (tested_or k) both

  touch_counted : Counted sides a k
  unfolding touch_of
  touch_counted =
      subst (λ (n : ℕ). Counted sides a n) (sym count_is)
      (let r = counted_from false false sides refl in
      record {
        whole = answer_is;
        enough = answer_is ∙ ap₂ touch_by (sym r.inside) (sym r.outside);
        few = r.few;
        first = λ j l z. r.first j l (both_met_lem (any is_inside (take j sides)) (any is_outside (take j sides)) z);
        stopped = λ l.
            answer_is ∙ met_both (any is_inside sides) (any is_outside sides)
            (ap₂ ◌&&◌ (sym r.inside) (sym r.outside) ∙ r.stopped l);
      })

  -- ---- corners, by their elements

  abbrev side_at : ℕ → Side
  side_at x = side_of (signed_distance h.normal h.distance (point_at t x))

  good : Good L t
  good = sound_good L t c.sound

  named_side : (x : ℕ) → x < element_count t → rank t x ≡ 0 → vertex_side h t (vertex_of (element t x)) ≡ side_at x
  named_side x u z = go (element t x) refl
    where
      go : (y : Element) → element t x ≡ y → vertex_side h t (vertex_of y) ≡ side_of (signed_distance h.normal h.distance (point_of t.points y))
      go (corner v) q = refl
      go (polytope r b j m) q = absurd (above_zero L t x r b j m good u q z)

  any_mapped : (p : Side → Bool) (xs : List ℕ) → any p (map (vertex_side h t) (map (λ x. vertex_of (element t x)) xs)) ≡ any (λ x. p (vertex_side h t (vertex_of (element t x)))) xs
  any_mapped p [] = refl
  any_mapped p (x ∷ xs) = ap (λ (b : Bool). p (vertex_side h t (vertex_of (element t x))) || b) (any_mapped p xs)

  -- a corner below the root is in use
  corner_used : (x : ℕ) → is_below t root x ≡ true → x < element_count t
  corner_used x b = go (eqb x root) refl
    where
      go : (d : Bool) → eqb x root ≡ d → x < element_count t
      go true q = subst (λ (y : ℕ). y < element_count t) (sym (eq_test x root q)) c.used
      go false q = le_trans ((sub_elements_are_least L t c.sound root c.used).earlier x b (unlike_eq x root q)) (le_of_lt c.used)

  -- what is below the root, and its corners
  abbrev under : List ℕ
  under = keep (is_below t root) (up_to (element_count t))

  abbrev corners : List ℕ
  corners = keep (λ x. eqb (rank t x) 0) under

  module _ (p : Side → Bool) where
    abbrev test : ℕ → Bool
    test x = p (vertex_side h t (vertex_of (element t x)))

    sides_tested : any p sides ≡ any test corners
    unfolding corner_sides vertex_set with_rank sub_elements
    sides_tested = any_mapped p corners

    some_corner : any p sides ≡ true → (x : ℕ) × (is_below t root x ≡ true) × (rank t x ≡ 0) × (p (side_at x) ≡ true)
    some_corner q =
        let s = some_of_lem test corners (sym sides_tested ∙ q) in
        let ranked = member_kept (λ x. eqb (rank t x) 0) under s.0 s.1 in
        let b = (member_kept (is_below t root) (up_to (element_count t)) s.0 ranked.0).1 in
        let z = eq_test (rank t s.0) 0 ranked.1 in
        (s.0, b, z, ap p (sym (named_side s.0 (corner_used s.0 b) z)) ∙ s.2)

    corner_some : (x : ℕ) → is_below t root x ≡ true → rank t x ≡ 0 → p (side_at x) ≡ true → any p sides ≡ true
    corner_some x b z q =
        let u = corner_used x b in
        let m = kept_member (is_below t root) (up_to (element_count t)) x (member_up (element_count t) x u) b in
        sides_tested ∙ any_at test corners x (kept_member (λ y. eqb (rank t y) 0) under x m (test_eq (rank t x) 0 z)) (ap p (named_side x u z) ∙ q)

  pub touch_read : ReadFromCorners h t root a
  unfolding touch_of
  touch_read = record {
    inside = λ q. let s = some_corner is_inside (sym (says_inside_lem (any is_inside sides) (any is_outside sides)) ∙ ap says_inside (sym answer_is) ∙ q) in
        (s.0, record { below = s.1; corner = s.2; lies = inside_side (side_at s.0) s.3 });
    inside_told = λ s. ap says_inside answer_is ∙ says_inside_lem (any is_inside sides) (any is_outside sides)
        ∙ corner_some is_inside s.0 s.1.below s.1.corner (ap is_inside s.1.lies);
    outside = λ q. let s = some_corner is_outside (sym (says_outside_lem (any is_inside sides) (any is_outside sides)) ∙ ap says_outside (sym answer_is) ∙ q) in
        (s.0, record { below = s.1; corner = s.2; lies = outside_side (side_at s.0) s.3 });
    outside_told = λ s. ap says_outside answer_is ∙ says_outside_lem (any is_inside sides) (any is_outside sides)
        ∙ corner_some is_outside s.0 s.1.below s.1.corner (ap is_outside s.1.lies);
  }

pub touch_is_read : (L : Limits) → TouchIsRead L
touch_is_read L h root t a k c e = touch_read L h root t a k c e

pub touch_is_counted : (L : Limits) → TouchIsCounted L
touch_is_counted L h root t a k c e = touch_counted L h root t a k c e
