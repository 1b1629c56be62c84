-- Where the walk begins: the lowest corner below a face is the lowest first end of its edges, for what a face reaches of rank 0 is an end of one.
use Rattle.std.specs.Prelude.{if◌then◌else◌}
use Prim.Native.Nat.{ℕ, zero, suc, ◌+◌, ◌≤◌, ◌<◌, suc-le-suc}
use mathlib.Core.Path.{◌≡◌, refl, sym, ap, ◌∙◌, subst}
use mathlib.Core.Bool.{Bool, true, false}
use mathlib.Core.List.{List, [], ◌∷◌}
use native.Mathlib.Nat.{le_trans, le_of_eq, le_refl, le_of_suc-le-suc, not-suc-le-zero, zero-lt-suc}
use native.Mathlib.Omega.{arith}
use borrow.Author.Tests.{ltb-true, lt-ltb}
use lib.Dec.{eqb, ltb, lit≤}
use lib.ListN.{length, get_or}
use lib.Ieee.{Float}
use Rattle.rules.specs.Limits.{desk}
use Rattle.rules.specs.Lists.{keep, up_from}
use Rattle.rules.specs.Table.{Table, element_count, rank, boundary}
use Rattle.rules.specs.Sound.{sound}
use Rattle.rules.specs.Held.{Holds, AllOf}
use Rattle.rules.specs.Questions.{is_below, sub_elements, with_rank}
use Rattle.rules.specs.Asking.{Reaches, itself, lower, border}
use Rattle.rules.proofs.Borders.{sound_bordered}
use Rattle.rules.proofs.Laws.{if_true, if_false, test_eq, eq_test, unlike_eq, not_le, either}
use Rattle.rules.proofs.Reach.{is_below_lem}
use Rattle.walk.specs.Walks as words
use Rattle.walk.specs.Walks.{low_end, high_end, lowest_end, no_edge}
use Rattle.walk.proofs.Faces.{CornerAt, EdgeAt}

-- ---- the first number that passes two tests

module _ (p q : ℕ → Bool) (m : ℕ) (hp : p m ≡ true) (hq : q m ≡ true) (none : (x : ℕ) → x < m → p x ≡ true → q x ≡ true → ⊥) where
  pub first_kept : (k n : ℕ) → k ≤ m → m < k + n → get_or (keep q (keep p (up_from k n))) 0 0 ≡ m
  first_kept k zero l h = absurd (let z : ⊥ = omega (arith, l, h) in z)
  first_kept k (suc n) l h = go (eqb k m) refl (λ d. first_kept (suc k) n (next d) (let z : m < suc k + n = omega (arith, h) in z))
    where
      next : (k ≡ m → ⊥) → suc k ≤ m
      next d = omega arith

      rest : List ℕ
      rest = keep p (up_from (suc k) n)

      past : (b c : Bool) → p k ≡ b → q k ≡ c → k < m → get_or (keep q rest) 0 0 ≡ m → get_or (keep q (keep p (up_from k (suc n)))) 0 0 ≡ m
      past true true x y d r = absurd (none k d x y)
      past false c x y d r = ap (λ (l : List ℕ). get_or (keep q l) 0 0) (if_false (p k) (k ∷ rest) rest x) ∙ r
      past true false x y d r =
          ap (λ (l : List ℕ). get_or (keep q l) 0 0) (if_true (p k) (k ∷ rest) rest x)
          ∙ ap (λ (l : List ℕ). get_or l 0 0) (if_false (q k) (k ∷ keep q rest) (keep q rest) y) ∙ r

      go : (b : Bool) → eqb k m ≡ b → ((k ≡ m → ⊥) → get_or (keep q rest) 0 0 ≡ m) → get_or (keep q (keep p (up_from k (suc n)))) 0 0 ≡ m
      go true e r =
          let same = eq_test k m e in
          ap (λ (l : List ℕ). get_or (keep q l) 0 0) (if_true (p k) (k ∷ rest) rest (ap p same ∙ hp))
          ∙ ap (λ (l : List ℕ). get_or l 0 0) (if_true (q k) (k ∷ keep q rest) (keep q rest) (ap q same ∙ hq)) ∙ same
      go false e r = let d = unlike_eq k m e in past (p k) (q k) refl refl (next d) (r d)

-- ---- the lowest first end

module _ (es : List ℕ) where
  lower_left : (a b : ℕ) → words.lower a b ≤ a
  lower_left a b = go (ltb b a) refl
    where
      go : (c : Bool) → ltb b a ≡ c → (if c then b else a) ≤ a
      go true e = let l = ltb-true b a e in omega (arith, l)
      go false e = le_refl a

  lower_right : (a b : ℕ) → words.lower a b ≤ b
  lower_right a b = go (ltb b a) refl
    where
      go : (c : Bool) → ltb b a ≡ c → (if c then b else a) ≤ b
      go true e = le_refl b
      go false e = let l = not_le (suc b) a e in omega (arith, l)

  not_above : (m : ℕ) (xs : List ℕ) → lowest_end es m xs ≤ m
  unfolding lowest_end
  not_above m [] = le_refl m
  not_above m (x ∷ xs) = le_trans (not_above (words.lower m (low_end es x)) xs) (lower_left m (low_end es x))

  pub lowest_at : (m : ℕ) (xs : List ℕ) (i : ℕ) → i < length xs → lowest_end es m xs ≤ low_end es (get_or xs i 0)
  unfolding lowest_end
  lowest_at m [] i h = absurd (not-suc-le-zero h)
  lowest_at m (x ∷ xs) zero h = le_trans (not_above (words.lower m (low_end es x)) xs) (lower_right m (low_end es x))
  lowest_at m (x ∷ xs) (suc i) h = lowest_at (words.lower m (low_end es x)) xs i (le_of_suc-le-suc h)

  module _ (P : ℕ → Type 0) where
    lowest_of_lem : (m : ℕ) (xs : List ℕ) → P m → AllOf (λ x. P (low_end es x)) xs → P (lowest_end es m xs)
    unfolding lowest_end
    lowest_of_lem m [] h a = h
    lowest_of_lem m (x ∷ xs) h a = lowest_of_lem (words.lower m (low_end es x)) xs (either P (ltb (low_end es x) m) (low_end es x) m a.0 h) a.1

    pub lowest_holds : (xs : List ℕ) → 0 < length xs → AllOf (λ x. P (low_end es x)) xs → AllOf (λ x. low_end es x < no_edge) xs → P (lowest_end es no_edge xs)
    unfolding lowest_end
    lowest_holds [] h a l = absurd (not-suc-le-zero h)
    lowest_holds (x ∷ xs) h a l =
        lowest_of_lem (words.lower no_edge (low_end es x)) xs
        (subst P (sym (if_true (ltb (low_end es x) no_edge) (low_end es x) no_edge (lt-ltb (low_end es x) no_edge l.0))) a.0) a.1

pub all_index : (P : ℕ → Type 0) (xs : List ℕ) → ((i : ℕ) → i < length xs → P (get_or xs i 0)) → AllOf P xs
all_index P [] h = tt
all_index P (x ∷ xs) h = (h 0 (zero-lt-suc (length xs)), all_index P xs (λ i l. h (suc i) (suc-le-suc l)))

pub index_all : (P : ℕ → Type 0) (xs : List ℕ) (i : ℕ) → i < length xs → AllOf P xs → P (get_or xs i 0)
index_all P [] i h a = absurd (not-suc-le-zero h)
index_all P (x ∷ xs) zero h a = a.0
index_all P (x ∷ xs) (suc i) h a = index_all P xs i (le_of_suc-le-suc h) a.1

-- ---- what a face reaches

module _ (t : Table) (es : List ℕ) where
  from_corner : {w y : ℕ} → Reaches t w y → boundary t w ≡ [] → y ≡ w
  from_corner (itself w) b = refl
  from_corner (lower w n y l h) b = absurd (not-suc-le-zero (subst (λ (k : List ℕ). n < length k) b l))

  from_edge : {x y : ℕ} → Reaches t x y → rank t y ≡ 0 → EdgeAt t es x → low_end es x ≤ y
  from_edge (itself x) z E = absurd (let r = E.ranked in let k : ⊥ = omega (arith, r, z) in k)
  from_edge (lower x n y l h) z E = go n (subst (λ (b : List ℕ). n < length b) E.ends l) (subst (λ (b : List ℕ). Reaches t (get_or b n 0) y) E.ends h)
    where
      go : (i : ℕ) → i < 2 → Reaches t (get_or (low_end es x ∷ high_end es x ∷ []) i 0) y → low_end es x ≤ y
      go zero k r = le_of_eq (sym (from_corner r E.met.low.bare))
      go (suc zero) k r = let e = from_corner r E.met.high.bare in let a = E.rising in omega (arith, e, a)
      go (suc (suc i)) k r = absurd (let c : ⊥ = omega (arith, k) in c)

  from_face : {f y : ℕ} → Reaches t f y → rank t y ≡ 0 → rank t f ≡ 2 → AllOf (EdgeAt t es) (boundary t f) → lowest_end es no_edge (boundary t f) ≤ y
  from_face (itself f) z q E = absurd (let k : ⊥ = omega (arith, q, z) in k)
  from_face (lower f n y l h) z q E = le_trans (lowest_at es no_edge (boundary t f) n l) (from_edge h z (index_all (EdgeAt t es) (boundary t f) n l E))

module _ {cs : List ℕ} {ps hs : List Float} {es : List ℕ} {t : Table} (H : Holds desk cs ps hs es t) (s : sound desk t ≡ true) (f : ℕ) (u : f < element_count t) (q : rank t f ≡ 2)
    (E : AllOf (EdgeAt t es) (boundary t f)) where
  abbrev xs : List ℕ
  xs = boundary t f

  -- a corner that the face reaches
  record Reached (w : ℕ) : Type 0 where
    pub corner : CornerAt t es w
    pub ranked : rank t w ≡ 0
    pub below : is_below t f w ≡ true

  some_edge : 0 < length xs
  some_edge = let b = (sound_bordered desk t s f u (let z : 0 < rank t f = omega (arith, q) in z)).enough in omega (arith, b)

  first_end_lem : (i : ℕ) → i < length xs → Reached (low_end es (get_or xs i 0))
  first_end_lem i h =
      let A = index_all (EdgeAt t es) xs i h E in
      let x = get_or xs i 0 in
      let b = sound_bordered desk t s x A.met.used (le_of_eq (sym A.ranked)) in
      let l : 0 < length (boundary t x) = subst (λ (k : List ℕ). 0 < length k) (sym A.ends) (lit≤ tt) in
      record {
        corner = A.met.low;
        ranked = (let r = b.ranks 0 l in let e = ap (rank t) A.met.first in let k = A.ranked in omega (arith, r, e, k));
        below = (is_below_lem desk t s f (low_end es x) u).1 (lower f i (low_end es x) h (subst (λ (w : ℕ). Reaches t x w) A.met.first (lower x 0 (border t x 0) l (itself (border t x 0)))));
      }

  reached : Reached (lowest_end es no_edge xs)
  reached =
      lowest_holds es Reached xs some_edge (all_index (λ x. Reached (low_end es x)) xs first_end_lem)
      (all_index (λ x. low_end es x < no_edge) xs (λ i h. (let c = (index_all (EdgeAt t es) xs i h E).met.low.used in let r = H.fits.element_room in omega (arith, c, r))))

  pub start_corner : CornerAt t es (lowest_end es no_edge xs)
  start_corner = reached.corner

  pub start_is : get_or (with_rank t 0 f) 0 0 ≡ lowest_end es no_edge xs
  unfolding with_rank sub_elements
  start_is =
      let R = reached in
      let c = R.corner.used in
      first_kept (is_below t f) (λ x. eqb (rank t x) 0) (lowest_end es no_edge xs) R.below (test_eq (rank t (lowest_end es no_edge xs)) 0 R.ranked)
      (λ y l b z.
      (let k = from_face t es ((is_below_lem desk t s f y u).0 b) (eq_test (rank t y) 0 z) q E in
      let r : ⊥ = omega (arith, l, k) in
      r))
      0 (element_count t) (let z : 0 ≤ lowest_end es no_edge xs = omega arith in z) (let z : lowest_end es no_edge xs < 0 + element_count t = omega (arith, c) in z)
