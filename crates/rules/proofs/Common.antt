-- What lists of kept numbers hold; that sub-elements are the least set; that the vertex set is the union over boundaries;
-- and that the greatest common sub-elements are the common ones of the highest rank that has some.
use Rattle.std.specs.Prelude.{if◌then◌else◌}
use Prim.Native.Nat.{ℕ, zero, suc, ◌+◌, ◌<◌, ◌≤◌, zero-le}
use mathlib.Core.Bool.{Bool, true, false, ◌&&◌, false≢true}
use mathlib.Core.List.{List, [], ◌∷◌, map}
use mathlib.Core.Path.{◌≡◌, refl, sym, ap, subst, ◌∙◌}
use native.Mathlib.Nat.{le_trans, le_of_eq, le_of_lt, zero-lt-suc, suc_inj, zero-add}
use native.Mathlib.Omega.{arith}
use lib.Dec.{eqb, ltb, leb}
use lib.ListN.{length}
use Rattle.rules.specs.Limits.{Limits}
use Rattle.rules.specs.Lists.{all, any, keep, member, up_to, up_from}
use Rattle.rules.specs.Table.{Table, vertex_of, element, boundary, rank, element_count}
use Rattle.rules.specs.Sound.{sound}
use Rattle.rules.specs.Questions.{reaches, is_below, sub_elements, with_rank, vertex_set, common_with_rank, some_or, greatest_from, greatest_common, Asked, answer, no_answer}
use Rattle.rules.specs.Asking.{border, Reaches, itself, lower, LeastSet, vertex_below, is_common, Greatest}
use Rattle.rules.proofs.Borders.{sound_bordered}
use Rattle.rules.proofs.Corners.{any_up}
use Rattle.rules.proofs.Laws.{both_ways, and_left, and_right, and_true, or_case, or_left, or_right, le_test, not_le, eq_test, test_eq, eqb_self}
use Rattle.rules.proofs.Reach.{some_at, at_some, reached, is_below_lem, no_boundary}
use Rattle.rules.specs.declared.Refusal.TheVariants.{Rank}

-- ---- members

pub member_kept : (p : ℕ → Bool) (xs : List ℕ) (x : ℕ) → member x (keep p xs) ≡ true → (member x xs ≡ true) × (p x ≡ true)
member_kept p [] x h = absurd (false≢true h)
member_kept p (y ∷ ys) x h = go (p y) refl h (λ k. let r = member_kept p ys x k in (or_right (eqb x y) (member x ys) r.0, r.1))
  where
    go : (b : Bool) → p y ≡ b → member x (if b then y ∷ keep p ys else keep p ys) ≡ true → (member x (keep p ys) ≡ true → (member x (y ∷ ys) ≡ true) × (p x ≡ true))
        → (member x (y ∷ ys) ≡ true) × (p x ≡ true)
    go true q k later =
        or_case (eqb x y) (member x (keep p ys)) k ((member x (y ∷ ys) ≡ true) × (p x ≡ true))
        (λ e. (or_left (eqb x y) (member x ys) e, ap p (eq_test x y e) ∙ q)) later
    go false q k later = later k

pub kept_member : (p : ℕ → Bool) (xs : List ℕ) (x : ℕ) → member x xs ≡ true → p x ≡ true → member x (keep p xs) ≡ true
kept_member p [] x h q = absurd (false≢true h)
kept_member p (y ∷ ys) x h q = go (p y) refl (λ m. kept_member p ys x m q)
  where
    go : (b : Bool) → p y ≡ b → (member x ys ≡ true → member x (keep p ys) ≡ true) → member x (if b then y ∷ keep p ys else keep p ys) ≡ true
    go true k later = or_case (eqb x y) (member x ys) h (member x (y ∷ keep p ys) ≡ true) (or_left (eqb x y) _) (λ m. or_right (eqb x y) _ (later m))
    go false k later = or_case (eqb x y) (member x ys) h (member x (keep p ys) ≡ true) (λ e. absurd (false≢true (sym k ∙ ap p (sym (eq_test x y e)) ∙ q))) later

pub member_mapped : (f : ℕ → ℕ) (xs : List ℕ) (v : ℕ) → member v (map f xs) ≡ true → (x : ℕ) × (member x xs ≡ true) × (v ≡ f x)
member_mapped f [] v h = absurd (false≢true h)
member_mapped f (y ∷ ys) v h =
    or_case (eqb v (f y)) (member v (map f ys)) h ((x : ℕ) × (member x (y ∷ ys) ≡ true) × (v ≡ f x))
    (λ e. (y, or_left (eqb y y) (member y ys) (eqb_self y), eq_test v (f y) e))
    (λ m. let r = member_mapped f ys v m in (r.0, or_right (eqb r.0 y) (member r.0 ys) r.1, r.2))

pub mapped_member : (f : ℕ → ℕ) (xs : List ℕ) (x : ℕ) → member x xs ≡ true → member (f x) (map f xs) ≡ true
mapped_member f [] x h = absurd (false≢true h)
mapped_member f (y ∷ ys) x h =
    or_case (eqb x y) (member x ys) h (member (f x) (map f (y ∷ ys)) ≡ true)
    (λ e. or_left (eqb (f x) (f y)) _ (test_eq (f x) (f y) (ap f (eq_test x y e)))) (λ m. or_right (eqb (f x) (f y)) _ (mapped_member f ys x m))

pub member_up : (n x : ℕ) → x < n → member x (up_to n) ≡ true
member_up n x h = any_up x 0 n zero-le (subst (λ (k : ℕ). x < k) (sym (zero-add n)) h)

up_member : (k n x : ℕ) → member x (up_from k n) ≡ true → x < k + n
up_member k zero x h = absurd (false≢true h)
up_member k (suc n) x h =
    or_case (eqb x k) (member x (up_from (suc k) n)) h (x < k + suc n) (λ e. let q = eq_test x k e in omega (arith, q)) (λ m. let r = up_member (suc k) n x m in omega (arith, r))

-- ---- sub-elements are the least set

module _ (L : Limits) (t : Table) (s : sound L t ≡ true) where
  above_zero_rank : (e n : ℕ) → e < element_count t → n < length (boundary t e) → 0 < rank t e
  above_zero_rank e n u l = go (rank t e) refl
    where
      go : (r : ℕ) → rank t e ≡ r → 0 < r
      go zero q = absurd (no_boundary L t s e n q u l)
      go (suc r) q = zero-lt-suc r

  in_use_lem : {e x : ℕ} → Reaches t e x → e < element_count t → (x < element_count t) × (x ≤ e)
  in_use_lem (itself e) u = (u, le_of_eq refl)
  in_use_lem (lower e n x l h) u =
      let b = sound_bordered L t s e u (above_zero_rank e n u l) in
      let k : border t e n < element_count t = le_trans (b.earlier n l) (le_of_lt u) in
      let r = in_use_lem h k in
      (r.0, le_trans r.1 (le_of_lt (b.earlier n l)))

  one_further : {e x : ℕ} → Reaches t e x → (n : ℕ) → n < length (boundary t x) → Reaches t e (border t x n)
  one_further (itself e) n l = lower e n (border t e n) l (itself (border t e n))
  one_further (lower e m x k h) n l = lower e m (border t x n) k (one_further h n l)

  held : (S : ℕ → Bool) → ((x n : ℕ) → S x ≡ true → n < length (boundary t x) → S (border t x n) ≡ true) → {e x : ℕ} → Reaches t e x → S e ≡ true → S x ≡ true
  held S c (itself e) h = h
  held S c (lower e n x l r) h = held S c r (c e n h l)

  before : {e x : ℕ} → Reaches t e x → e < element_count t → (x ≡ e → ⊥) → x < e
  before (itself e) u d = absurd (d refl)
  before (lower e n x l h) u d =
      let b = sound_bordered L t s e u (above_zero_rank e n u l) in
      let z = b.earlier n l in
      let r = (in_use_lem h (le_trans z (le_of_lt u))).1 in
      omega (arith, z, r)

  pub sub_elements_are_least : (e : ℕ) → e < element_count t → LeastSet t e
  sub_elements_are_least e u = record {
    root = (is_below_lem L t s e e u).1 (itself e);
    closed = λ x n h l. (is_below_lem L t s e (border t x n) u).1 (one_further ((is_below_lem L t s e x u).0 h) n l);
    least = λ S h c x k. held S c ((is_below_lem L t s e x u).0 k) h;
    earlier = λ x h d. before ((is_below_lem L t s e x u).0 h) u d;
  }

  -- ---- the vertex set is the union

  union_from : (r e x : ℕ) → rank t e ≡ r → e < element_count t → reaches t r e x ≡ true → rank t x ≡ 0 → vertex_below t r e (vertex_of (element t x)) ≡ true
  unfolding reaches vertex_below
  union_from zero e x q u h z = test_eq (vertex_of (element t x)) (vertex_of (element t e)) (ap (λ (y : ℕ). vertex_of (element t y)) (sym (eq_test e x h)))
  union_from (suc r) e x q u h z =
      or_case (eqb e x) (any (λ b. reaches t r b x) (boundary t e)) h (any (λ b. vertex_below t r b (vertex_of (element t x))) (boundary t e) ≡ true)
      (λ k. absurd (let y : suc r ≡ 0 = sym q ∙ ap (rank t) (eq_test e x k) ∙ z in let w : ⊥ = omega (arith, y) in w))
      (λ k.
      let a = some_at (λ b. reaches t r b x) (boundary t e) k in
      let b = sound_bordered L t s e u (subst (λ (n : ℕ). 0 < n) (sym q) (zero-lt-suc r)) in
      at_some (λ y. vertex_below t r y (vertex_of (element t x))) (boundary t e) a.0 a.1
      (union_from r (border t e a.0) x (suc_inj (b.ranks a.0 a.1 ∙ q)) (le_trans (b.earlier a.0 a.1) (le_of_lt u)) a.2 z))

  from_union : (r e v : ℕ) → rank t e ≡ r → e < element_count t → vertex_below t r e v ≡ true → (x : ℕ) × (reaches t r e x ≡ true) × (rank t x ≡ 0) × (v ≡ vertex_of (element t x))
  unfolding reaches vertex_below
  from_union zero e v q u h = (e, test_eq e e refl, q, eq_test v (vertex_of (element t e)) h)
  from_union (suc r) e v q u h =
      let a = some_at (λ b. vertex_below t r b v) (boundary t e) h in
      let b = sound_bordered L t s e u (subst (λ (n : ℕ). 0 < n) (sym q) (zero-lt-suc r)) in
      let k = from_union r (border t e a.0) v (suc_inj (b.ranks a.0 a.1 ∙ q)) (le_trans (b.earlier a.0 a.1) (le_of_lt u)) a.2 in
      (k.0, or_right (eqb e k.0) _ (at_some (λ y. reaches t r y k.0) (boundary t e) a.0 a.1 k.1), k.2, k.3)

  pub vertex_set_is_the_union : (e v : ℕ) → e < element_count t → member v (vertex_set t e) ≡ vertex_below t (rank t e) e v
  unfolding vertex_set with_rank sub_elements
  vertex_set_is_the_union e v u = both_ways (member v (vertex_set t e)) (vertex_below t (rank t e) e v) into out
    where
      into : member v (vertex_set t e) ≡ true → vertex_below t (rank t e) e v ≡ true
      into h =
          let a = member_mapped (λ x. vertex_of (element t x)) (with_rank t 0 e) v h in
          let b = member_kept (λ x. eqb (rank t x) 0) (sub_elements t e) a.0 a.1 in
          let c = member_kept (is_below t e) (up_to (element_count t)) a.0 b.0 in
          subst (λ (w : ℕ). vertex_below t (rank t e) e w ≡ true) (sym a.2) (union_from (rank t e) e a.0 refl u c.1 (eq_test (rank t a.0) 0 b.1))

      out : vertex_below t (rank t e) e v ≡ true → member v (vertex_set t e) ≡ true
      out h =
          let a = from_union (rank t e) e v refl u h in
          let k = (in_use_lem (reached t (rank t e) e a.0 a.1) u).0 in
          subst (λ (w : ℕ). member w (vertex_set t e) ≡ true) (sym a.3)
          (mapped_member (λ x. vertex_of (element t x)) (with_rank t 0 e) a.0
          (kept_member (λ x. eqb (rank t x) 0) (sub_elements t e) a.0 (kept_member (is_below t e) (up_to (element_count t)) a.0 (member_up (element_count t) a.0 k) a.1)
          (test_eq (rank t a.0) 0 a.2)))

  -- ---- the greatest common

  lower_rank : {e x : ℕ} → Reaches t e x → e < element_count t → rank t x ≤ rank t e
  lower_rank (itself e) u = le_of_eq refl
  lower_rank (lower e n x l h) u =
      let b = sound_bordered L t s e u (above_zero_rank e n u l) in
      let k = lower_rank h (le_trans (b.earlier n l) (le_of_lt u)) in
      let r = b.ranks n l in
      omega (arith, k, r)

  module _ (es : List ℕ) where
    common_with : (k x : ℕ) → member x (common_with_rank t k es) ≡ true → (x < element_count t) × (rank t x ≡ k) × (is_common t es x ≡ true)
    unfolding common_with_rank
    common_with k x h =
        let a = member_kept (λ y. eqb (rank t y) k && is_common t es y) (up_to (element_count t)) x h in
        let u = up_member 0 (element_count t) x a.0 in (
          (let q : x < element_count t = omega (arith, u) in q),
          eq_test (rank t x) k (and_left (eqb (rank t x) k) (is_common t es x) a.1),
          and_right (eqb (rank t x) k) (is_common t es x) a.1,
        )

    with_common : (k x : ℕ) → x < element_count t → rank t x ≡ k → is_common t es x ≡ true → member x (common_with_rank t k es) ≡ true
    unfolding common_with_rank
    with_common k x u q c =
        kept_member (λ y. eqb (rank t y) k && is_common t es y) (up_to (element_count t)) x (member_up (element_count t) x u) (and_true (eqb (rank t x) k) (is_common t es x) (test_eq (rank t x) k q) c)

    greatest_from_lem : (r : ℕ) → ((x : ℕ) → x < element_count t → is_common t es x ≡ true → rank t x ≤ r) → Greatest t es (greatest_from t r es)
    unfolding greatest_from
    greatest_from_lem zero low = record {
      level = 0;
      common = λ x h. absurd (false≢true h);
      whole = λ x u p q c. absurd (let z : ⊥ = omega (arith, p, q) in z);
      highest = λ x u p c. let l = low x u c in let z : ⊥ = omega (arith, l, p) in z;
    }
    greatest_from_lem (suc r) low = go (common_with_rank t (suc r) es) refl (greatest_from_lem r)
      where
        -- a rank of at most suc r that is not suc r
        less : (m : ℕ) → m ≤ suc r → (m ≡ suc r → ⊥) → m ≤ r
        less m l d = by (leb m r) refl
          where
            by : (b : Bool) → leb m r ≡ b → m ≤ r
            by true e = le_test m r e
            by false e = absurd (d (let k = not_le m r e in let z : m ≡ suc r = omega (arith, k, l) in z))

        go : (ys : List ℕ) → common_with_rank t (suc r) es ≡ ys → (((x : ℕ) → x < element_count t → is_common t es x ≡ true → rank t x ≤ r) → Greatest t es (greatest_from t r es))
            → Greatest t es (some_or ys (greatest_from t r es))
        go [] q below = below (λ x u c. less (rank t x) (low x u c) (λ e. false≢true (sym (ap (member x) q) ∙ with_common (suc r) x u e c)))
        go (y ∷ ys) q below = record {
          level = suc r;
          common = λ x h. common_with (suc r) x (ap (member x) q ∙ h);
          whole = λ x u p e c. sym (ap (member x) q) ∙ with_common (suc r) x u e c;
          highest = λ x u p c. let l = low x u c in let z : ⊥ = omega (arith, l, p) in z;
        }

  abbrev list_or : List ℕ → Asked (List ℕ) → List ℕ
  list_or d (no_answer n) = d
  list_or d (answer xs) = xs

  abbrev answered : Asked (List ℕ) → Bool
  answered (no_answer n) = false
  answered (answer xs) = true

  pub common_are_greatest : (es xs : List ℕ) → all (λ e. ltb e (element_count t)) es ≡ true → greatest_common t es ≡ answer xs → Greatest t es xs
  unfolding greatest_common
  common_are_greatest [] xs u h = absurd (false≢true (ap answered h))
  common_are_greatest (e ∷ es) xs u h = go (all (λ x. eqb (rank t x) (rank t e)) es) h
    where
      used : e < element_count t
      used = le_test (suc e) (element_count t) (and_left (ltb e (element_count t)) (all (λ y. ltb y (element_count t)) es) u)

      low : (x : ℕ) → x < element_count t → is_common t (e ∷ es) x ≡ true → rank t x ≤ rank t e
      low x v c = lower_rank (reached t (rank t e) e x (and_left (is_below t e x) (is_common t es x) c)) used

      go : (b : Bool) → (if b then answer (greatest_from t (rank t e) (e ∷ es)) else no_answer Rank) ≡ answer xs → Greatest t (e ∷ es) xs
      go false k = absurd (false≢true (ap answered k))
      go true k = subst (Greatest t (e ∷ es)) (ap (list_or []) k) (greatest_from_lem (e ∷ es) (rank t e) low)
