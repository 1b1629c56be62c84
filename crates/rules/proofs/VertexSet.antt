-- The vertex set rises: sub-elements are listed in rising number, and vertex elements name vertices in order.
-- And in one dimension no facet is primordial, for facets are corners.
use Rattle.std.specs.Prelude.{if◌then◌else◌}
use Prim.Native.Nat.{ℕ, ◌<◌, zero, suc, ◌+◌, ◌≤◌, suc-le-suc}
use mathlib.Core.Bool.{Bool, true, false, false≢true, not, ◌&&◌}
use mathlib.Core.List.{List, [], ◌∷◌, map}
use mathlib.Core.Path.{◌≡◌, refl, ap, subst, sym, ◌∙◌}
use native.Mathlib.Nat.{le_trans, le_of_lt, le_of_eq, not-suc-le-zero, le_of_suc-le-suc, zero-add, zero-lt-suc, suc_inj}
use native.Mathlib.Omega.{arith}
use lib.Dec.{ltb, eqb}
use lib.ListN.{length, get_or}
use Rattle.rules.specs.Limits.{Limits}
use Rattle.rules.specs.Lists.{rises, keep, all, up_from, up_to, any}
use Rattle.rules.specs.Table.{corner, Element, vertex_of, is_corner, polytope, Table, element, element_count, rank, boundary, is_primordial}
use Rattle.rules.specs.Sound.{sound}
use Rattle.rules.specs.Questions.{vertex_set, with_rank, sub_elements, is_below, primordial_facet, Asked, no_answer, answer}
use Rattle.rules.specs.Memory.{decode}
use Rattle.rules.specs.Replies.{facet_answer, facet_value, primordial_facet_reply}
use Rattle.rules.specs.Asking.{NoFacetInOneDimension, border}
use Rattle.rules.proofs.Borders.{sound_bordered}
use Rattle.rules.proofs.Good.{above_zero, sound_good}
use Rattle.rules.proofs.Laws.{and_right, and_true, and_left, test_le, eq_test, le_test, if_true, test_eq, neither}
use Rattle.rules.proofs.OneCall.{sound_table}
use Rattle.rules.specs.declared.Refusal.TheVariants.{NotInUse, NotSound}

-- ---- what is each-kept of a rising list rises

pub keep_all : (q p : ℕ → Bool) (xs : List ℕ) → all q xs ≡ true → all q (keep p xs) ≡ true
keep_all q p [] h = refl
keep_all q p (x ∷ xs) h = go (p x) (keep_all q p xs (and_right (q x) (all q xs) h))
  where
    go : (b : Bool) → all q (keep p xs) ≡ true → all q (if b then x ∷ keep p xs else keep p xs) ≡ true
    go true k = and_true (q x) (all q (keep p xs)) (and_left (q x) (all q xs) h) k
    go false k = k

pub keep_rises : (p : ℕ → Bool) (xs : List ℕ) → rises xs ≡ true → rises (keep p xs) ≡ true
keep_rises p [] h = refl
keep_rises p (x ∷ xs) h = go (p x) (keep_rises p xs (and_right (all (ltb x) xs) (rises xs) h))
  where
    go : (b : Bool) → rises (keep p xs) ≡ true → rises (if b then x ∷ keep p xs else keep p xs) ≡ true
    go true k = and_true (all (ltb x) (keep p xs)) (rises (keep p xs)) (keep_all (ltb x) p xs (and_left (all (ltb x) xs) (rises xs) h)) k
    go false k = k

pub each_kept : (p : ℕ → Bool) (xs : List ℕ) → all p (keep p xs) ≡ true
each_kept p [] = refl
each_kept p (x ∷ xs) = go (p x) refl (each_kept p xs)
  where
    go : (b : Bool) → p x ≡ b → all p (keep p xs) ≡ true → all p (if b then x ∷ keep p xs else keep p xs) ≡ true
    go true e k = and_true (p x) (all p (keep p xs)) e k
    go false e k = k

up_all : (j k n : ℕ) → j < k → all (ltb j) (up_from k n) ≡ true
up_all j k zero h = refl
up_all j k (suc n) h = and_true (ltb j k) (all (ltb j) (up_from (suc k) n)) (test_le (suc j) k h) (up_all j (suc k) n (le_trans h (le_of_lt (le_of_eq refl))))

pub up_rises : (k n : ℕ) → rises (up_from k n) ≡ true
up_rises k zero = refl
up_rises k (suc n) = and_true (all (ltb k) (up_from (suc k) n)) (rises (up_from (suc k) n)) (up_all k (suc k) n (le_of_eq refl)) (up_rises (suc k) n)

pub up_under : (k n m : ℕ) → k + n ≤ m → all (λ x. ltb x m) (up_from k n) ≡ true
up_under k zero m h = refl
up_under k (suc n) m h =
    and_true (ltb k m) (all (λ x. ltb x m) (up_from (suc k) n)) (test_le (suc k) m (let q : suc k ≤ m = omega (arith, h) in q)) (up_under (suc k) n m (let q : suc k + n ≤ m = omega (arith, h) in q))

-- ---- corners in order

first : List ℕ → ℕ
first [] = 0
first (x ∷ xs) = x

rest : List ℕ → List ℕ
rest [] = []
rest (x ∷ xs) = xs

abbrev Filled : List ℕ → Type 0
Filled [] = ⊥
Filled (x ∷ xs) = Unit {0}

abbrev named : List Element → List ℕ
named xs = map vertex_of (keep is_corner xs)

least : (xs : List Element) (k m j : ℕ) → named xs ≡ up_from k m → j < length xs → is_corner (get_or xs j (corner 0)) ≡ true → k ≤ vertex_of (get_or xs j (corner 0))
unfolding first rest
least [] k m j e l c = absurd (not-suc-le-zero l)
least (corner v ∷ xs) k zero j e l c = absurd (subst Filled e tt)
least (corner v ∷ xs) k (suc m) zero e l c = le_of_eq (sym (ap first e))
least (corner v ∷ xs) k (suc m) (suc j) e l c = le_of_lt (least xs (suc k) m j (ap rest e) (le_of_suc-le-suc l) c)
least (polytope r b h p ∷ xs) k m zero e l c = absurd (false≢true c)
least (polytope r b h p ∷ xs) k m (suc j) e l c = least xs k m j e (le_of_suc-le-suc l) c

apart : (xs : List Element) (k m i j : ℕ) → named xs ≡ up_from k m → i < j → j < length xs → is_corner (get_or xs i (corner 0)) ≡ true → is_corner (get_or xs j (corner 0)) ≡ true
    → vertex_of (get_or xs i (corner 0)) < vertex_of (get_or xs j (corner 0))
unfolding first rest
apart [] k m i j e s l c d = absurd (not-suc-le-zero l)
apart (x ∷ xs) k m i zero e s l c d = absurd (not-suc-le-zero s)
apart (corner v ∷ xs) k zero i (suc j) e s l c d = absurd (subst Filled e tt)
apart (corner v ∷ xs) k (suc m) zero (suc j) e s l c d = subst (λ (n : ℕ). n < vertex_of (get_or xs j (corner 0))) (sym (ap first e)) (least xs (suc k) m j (ap rest e) (le_of_suc-le-suc l) d)
apart (corner v ∷ xs) k (suc m) (suc i) (suc j) e s l c d = apart xs (suc k) m i j (ap rest e) (le_of_suc-le-suc s) (le_of_suc-le-suc l) c d
apart (polytope r b h p ∷ xs) k m zero (suc j) e s l c d = absurd (false≢true c)
apart (polytope r b h p ∷ xs) k m (suc i) (suc j) e s l c d = apart xs k m i j e (le_of_suc-le-suc s) (le_of_suc-le-suc l) c d

-- ---- the vertex set

module _ (L : Limits) (t : Table) (s : sound L t ≡ true) where
  abbrev number : ℕ → ℕ
  number x = vertex_of (element t x)

  is_corner_lem : (x : ℕ) → x < element_count t → eqb (rank t x) 0 ≡ true → is_corner (element t x) ≡ true
  is_corner_lem x l k = go (element t x) refl
    where
      go : (y : Element) → element t x ≡ y → is_corner y ≡ true
      go (corner v) q = refl
      go (polytope r b h m) q = absurd (above_zero L t x r b h m (sound_good L t s) l q (eq_test (rank t x) 0 k))

  map_all : (x : ℕ) (ys : List ℕ) → x < element_count t → eqb (rank t x) 0 ≡ true → all (ltb x) ys ≡ true → all (λ y. ltb y (element_count t)) ys ≡ true → all (λ y. eqb (rank t y) 0) ys ≡ true
      → all (ltb (number x)) (map number ys) ≡ true
  map_all x [] l k h u c = refl
  map_all x (y ∷ ys) l k h u c =
      let ly = le_test (suc y) (element_count t) (and_left (ltb y (element_count t)) (all (λ z. ltb z (element_count t)) ys) u) in
      let ky = and_left (eqb (rank t y) 0) (all (λ z. eqb (rank t z) 0) ys) c in
      and_true (ltb (number x) (number y)) (all (ltb (number x)) (map number ys))
      (test_le (suc (number x)) (number y) (apart t.elements 0 (length t.points) x y (sound_good L t s).corners
      (le_test (suc x) y (and_left (ltb x y) (all (ltb x) ys) h)) ly (is_corner_lem x l k) (is_corner_lem y ly ky)))
      (map_all x ys l k (and_right (ltb x y) (all (ltb x) ys) h) (and_right (ltb y (element_count t)) (all (λ z. ltb z (element_count t)) ys) u) (and_right (eqb (rank t y) 0) (all (λ z. eqb (rank t z) 0) ys) c))

  map_rises : (ys : List ℕ) → rises ys ≡ true → all (λ y. ltb y (element_count t)) ys ≡ true → all (λ y. eqb (rank t y) 0) ys ≡ true → rises (map number ys) ≡ true
  map_rises [] h u c = refl
  map_rises (x ∷ xs) h u c =
      and_true (all (ltb (number x)) (map number xs)) (rises (map number xs))
      (map_all x xs (le_test (suc x) (element_count t) (and_left (ltb x (element_count t)) (all (λ z. ltb z (element_count t)) xs) u)) (and_left (eqb (rank t x) 0) (all (λ z. eqb (rank t z) 0) xs) c)
      (and_left (all (ltb x) xs) (rises xs) h) (and_right (ltb x (element_count t)) (all (λ z. ltb z (element_count t)) xs) u) (and_right (eqb (rank t x) 0) (all (λ z. eqb (rank t z) 0) xs) c))
      (map_rises xs (and_right (all (ltb x) xs) (rises xs) h) (and_right (ltb x (element_count t)) (all (λ z. ltb z (element_count t)) xs) u) (and_right (eqb (rank t x) 0) (all (λ z. eqb (rank t z) 0) xs) c))

  pub vertex_set_rises : (e : ℕ) → rises (vertex_set t e) ≡ true
  unfolding vertex_set with_rank sub_elements
  vertex_set_rises e =
      let below = keep (is_below t e) (up_to (element_count t)) in
      map_rises (keep (λ x. eqb (rank t x) 0) below) (keep_rises _ below (keep_rises _ (up_to (element_count t)) (up_rises 0 (element_count t))))
      (keep_all (λ y. ltb y (element_count t)) _ below (keep_all (λ y. ltb y (element_count t)) _ (up_to (element_count t)) (up_under 0 (element_count t) (element_count t) (le_of_eq (zero-add (element_count t))))))
      (each_kept (λ x. eqb (rank t x) 0) below)

-- ---- one dimension

no_facet : (L : Limits) (t : Table) → sound L t ≡ true → t.dimension ≡ 1 → (e : ℕ) → e < element_count t → rank t e ≡ 1 → primordial_facet t e ≡ answer false
unfolding primordial_facet
no_facet L t s d e u k =
    if_true (eqb (rank t e) t.dimension) _ _ (test_eq (rank t e) t.dimension (k ∙ sym d)) ∙ ap answer (no_marks (boundary t e) below)
  where
    below : (j : ℕ) → j < length (boundary t e) → is_primordial (element t (border t e j)) ≡ false
    below j l =
        let b = sound_bordered L t s e u (subst (λ (n : ℕ). 0 < n) (sym k) (zero-lt-suc 0)) in
        corner_mark (border t e j) (le_trans (b.earlier j l) (le_of_lt u)) (suc_inj (b.ranks j l ∙ k))
      where
        corner_mark : (x : ℕ) → x < element_count t → rank t x ≡ 0 → is_primordial (element t x) ≡ false
        corner_mark x l z = go (element t x) refl
          where
            go : (y : Element) → element t x ≡ y → is_primordial y ≡ false
            go (corner v) q = refl
            go (polytope r c h m) q = absurd (above_zero L t x r c h m (sound_good L t s) l q z)

    no_marks : (xs : List ℕ) → ((j : ℕ) → j < length xs → is_primordial (element t (get_or xs j 0)) ≡ false) → any (λ x. is_primordial (element t x)) xs ≡ false
    no_marks [] h = refl
    no_marks (x ∷ xs) h =
        neither (is_primordial (element t x)) (any (λ y. is_primordial (element t y)) xs) (h 0 (zero-lt-suc (length xs))) (no_marks xs (λ j l. h (suc j) (suc-le-suc l)))

pub no_facet_in_one_dimension : (L : Limits) → NoFacetInOneDimension L
unfolding primordial_facet_reply
no_facet_in_one_dimension L m s d e u k =
    (λ j. facet_value (facet_answer (if not (s j) then no_answer NotSound else if not (used j) then no_answer NotInUse else primordial_facet (decode L m) e)))
    ∙ ap (λ (a : Asked Bool). facet_value (facet_answer a)) (no_facet L (decode L m) (sound_table L m s) d e u k)
  where
    used : (ltb e (element_count (decode L m)) && true) ≡ true
    used = and_true (ltb e (element_count (decode L m))) true (test_le (suc e) (element_count (decode L m)) u) refl
