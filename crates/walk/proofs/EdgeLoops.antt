-- What is read of one edge, and the searches over the edges of a face: what is left to search gives what the whole gives.
use Rattle.std.specs.Prelude.{if◌then◌else◌, cond}
use Rattle.std.specs.Ordering.{is_lt, nat_cmp}
use Rattle.std.proofs.Common.{Less, Equal, Greater}
use Prim.Native.Nat.{ℕ, suc, ◌+◌, ◌*◌, ◌≤◌, ◌<◌}
use mathlib.Core.Path.{◌≡◌, refl, sym, ap, ◌∙◌, subst}
use mathlib.Core.Bool.{Bool, true, false, not, ◌&&◌, ◌||◌}
use mathlib.Core.List.{List, [], ◌∷◌}
use borrow.Author.Tests.{lt-ltb, le-ltb}
use native.Mathlib.Nat.{le_of_suc-le-suc}
use lib.Dec.{eqb, ltb}
use lib.ListN.{get_or, drop}
use Rattle.rules.specs.Lists.{keep}
use Rattle.rules.specs.Held.{AllOf}
use Rattle.rules.specs.declared.ElementId.{ElementId}
use Rattle.rules.proofs.Laws.{if_true, if_false, either, test_eq, not_eq, le_test, not_le}
use Rattle.walk.specs.Boundaries.{row_boundary, BoundaryFits}
use Rattle.walk.specs.Walks.{low_end, high_end, has_end, end_across, edge_beside, lower, lowest_end, no_edge, lower_way, first_way, EdgeFits, FaceFits}
use Rattle.walk.proofs.Boundaries.{row_on, row_end}

-- ---- one edge

less_is : (a b : ℕ) → is_lt (nat_cmp a b) ≡ ltb a b
less_is a b = go (ltb a b) (eqb a b)
  where
    go : (x y : Bool) → is_lt (cond x Less (cond y Equal Greater)) ≡ x
    go true y = refl
    go false true = refl
    go false false = refl

pub is_less : (a b : ℕ) → is_lt (nat_cmp a b) ≡ true → a < b
is_less a b h = le_test (suc a) b (sym (less_is a b) ∙ h)

pub not_less : (a b : ℕ) → is_lt (nat_cmp a b) ≡ false → b ≤ a
not_less a b h = le_of_suc-le-suc (not_le (suc a) b (sym (less_is a b) ∙ h))

pub min_lower : (a b : ElementId) {r : ElementId} → r ≡ cond (is_lt (nat_cmp b.0 a.0)) b a → r.0 ≡ lower a.0 b.0
min_lower a b e = ap (λ (x : ElementId). x.0) e ∙ go (is_lt (nat_cmp b.0 a.0)) ∙ ap (λ (c : Bool). if c then b.0 else a.0) (less_is b.0 a.0)
  where
    go : (c : Bool) → (cond c b a).0 ≡ (if c then b.0 else a.0)
    go true = refl
    go false = refl

module _ (es : List ℕ) (v x a : ℕ) (f : a ≡ low_end es x) where
  pub first_end_lem : v ≡ a → true ≡ has_end es v x
  first_end_lem h = sym (ap (λ (c : Bool). c || eqb v (high_end es x)) (test_eq v (low_end es x) (h ∙ f)))

  pub second_end_lem : (b : ℕ) → b ≡ high_end es x → (v ≡ a → ⊥) → eqb v b ≡ has_end es v x
  second_end_lem b g h =
      ap (eqb v) g ∙ sym (ap (λ (c : Bool). c || eqb v (high_end es x)) (not_eq v (low_end es x) (λ k. h (k ∙ sym f))))

  pub across_second : (b : ℕ) → b ≡ high_end es x → a ≡ v → b ≡ end_across es v x
  across_second b g h = g ∙ sym (if_true (eqb (low_end es x) v) (high_end es x) (low_end es x) (test_eq (low_end es x) v (sym f ∙ h)))

  pub across_first : (a ≡ v → ⊥) → a ≡ end_across es v x
  across_first h = f ∙ sym (if_false (eqb (low_end es x) v) (high_end es x) (low_end es x) (not_eq (low_end es x) v (λ k. h (f ∙ k))))

-- ---- searches over a face's edges

module _ (es : List ℕ) (f n : ℕ) (B : BoundaryFits es f) (q : n ≡ get_or es (f * 36 + 3) 0) where
  abbrev xs : List ℕ
  xs = row_boundary es f

  module _ (e v o i x : ℕ) (g : x ≡ get_or es (f * 36 + (4 + i)) 0) (h : i < n) (w : o ≡ edge_beside es e v (drop i xs)) where
    abbrev p : ℕ → Bool
    p y = not (eqb y e) && has_end es v y

    beside_on : o ≡ get_or (if p x then x ∷ keep p (drop (i + 1) xs) else keep p (drop (i + 1) xs)) 0 0
    unfolding edge_beside
    beside_on =
        w ∙ ap (λ (l : List ℕ). get_or (keep p l) 0 0) (row_on es f n B q i h)
        ∙ ap (λ (y : ℕ). get_or (if p y then y ∷ keep p (drop (i + 1) xs) else keep p (drop (i + 1) xs)) 0 0) (sym g)

    pub beside_here : p x ≡ true → x ≡ o
    beside_here k = sym (beside_on ∙ ap (λ (l : List ℕ). get_or l 0 0) (if_true (p x) (x ∷ keep p (drop (i + 1) xs)) (keep p (drop (i + 1) xs)) k))

    pub beside_go : p x ≡ false → o ≡ edge_beside es e v (drop (i + 1) xs)
    unfolding edge_beside
    beside_go k = beside_on ∙ ap (λ (l : List ℕ). get_or l 0 0) (if_false (p x) (x ∷ keep p (drop (i + 1) xs)) (keep p (drop (i + 1) xs)) k)

  pub beside_end : (e v o i : ℕ) → n ≤ i → o ≡ edge_beside es e v (drop i xs) → 0 ≡ o
  unfolding edge_beside
  beside_end e v o i h w = sym (w ∙ ap (edge_beside es e v) (row_end es f n B q i h))

  pub lowest_go : (m o i x a m' : ℕ) → x ≡ get_or es (f * 36 + (4 + i)) 0 → i < n → a ≡ low_end es x → m' ≡ lower m a → o ≡ lowest_end es m (drop i xs)
      → o ≡ lowest_end es m' (drop (i + 1) xs)
  unfolding lowest_end
  lowest_go m o i x a m' g h k j w =
      w ∙ ap (lowest_end es m) (row_on es f n B q i h)
      ∙ ap (λ (y : ℕ). lowest_end es y (drop (i + 1) xs)) (ap (λ (y : ℕ). lower m (low_end es y)) (sym g) ∙ ap (lower m) (sym k) ∙ sym j)

  pub lowest_end_lem : (m o i : ℕ) → n ≤ i → o ≡ lowest_end es m (drop i xs) → m ≡ o
  unfolding lowest_end
  lowest_end_lem m o i h w = sym (w ∙ ap (lowest_end es m) (row_end es f n B q i h))

-- ---- an edge that is found is within the room

pub found_fits : (P : ℕ → Type 0) (p : ℕ → Bool) (xs : List ℕ) → P 0 → AllOf P xs → P (get_or (keep p xs) 0 0)
found_fits P p [] z h = z
found_fits P p (x ∷ xs) z h = go (p x) (found_fits P p xs z h.1)
  where
    go : (b : Bool) → P (get_or (keep p xs) 0 0) → P (get_or (if b then x ∷ keep p xs else keep p xs) 0 0)
    go true k = h.0
    go false k = k

pub beside_fits : (es : List ℕ) (f e v x : ℕ) → FaceFits es f → x ≡ edge_beside es e v (row_boundary es f) → EdgeFits es x
unfolding edge_beside
beside_fits es f e v x F q = subst (EdgeFits es) (sym q) (found_fits (EdgeFits es) (λ y. not (eqb y e) && has_end es v y) (row_boundary es f) F.none F.edges)

pub across_fits : (es : List ℕ) (v x w : ℕ) → EdgeFits es x → w ≡ end_across es v x → w < 512
across_fits es v x w E q = subst (λ (y : ℕ). y < 512) (sym q) (either (λ (y : ℕ). y < 512) (eqb (low_end es x) v) (high_end es x) (low_end es x) E.second E.first)

-- ---- the first edge

module _ (es : List ℕ) (f v a b p q : ℕ) (ha : a ≡ edge_beside es no_edge v (row_boundary es f)) (hb : b ≡ edge_beside es a v (row_boundary es f))
    (hp : p ≡ end_across es v a) (hq : q ≡ end_across es v b) where
  abbrev way : Bool → ℕ
  way c = if c then b else a

  way_is : way (ltb q p) ≡ first_way es v (row_boundary es f)
  unfolding first_way
  way_is =
      (λ j. if ltb (hq j) (hp j) then b else a)
      ∙ ap (lower_way es v a) hb
      ∙ ap (λ (y : ℕ). lower_way es v y (edge_beside es y v (row_boundary es f))) ha

  pub second_way : q < p → b ≡ first_way es v (row_boundary es f)
  second_way h = sym (ap way (lt-ltb q p h)) ∙ way_is

  pub other_way : p ≤ q → a ≡ first_way es v (row_boundary es f)
  other_way h = sym (ap way (le-ltb q p h)) ∙ way_is

module _ (es : List ℕ) (f v x : ℕ) where
  abbrev one : ℕ
  one = edge_beside es no_edge v (row_boundary es f)

  abbrev two : ℕ
  two = edge_beside es one v (row_boundary es f)

  pub way_fits : FaceFits es f → x ≡ first_way es v (row_boundary es f) → EdgeFits es x
  unfolding first_way
  way_fits F h =
      subst (EdgeFits es) (sym h)
      (either (EdgeFits es) (ltb (end_across es v two) (end_across es v one)) two one (beside_fits es f one v two F refl) (beside_fits es f no_edge v one F refl))
