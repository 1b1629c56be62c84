-- Of edges that have two ends each, where each corner is met twice, a corner has two edges: it is met among the ends as often as an edge has it.
-- And the corner where the walk starts is one of them, with the walk's first edge. The edges of a face of a sound table are such.
use Rattle.std.specs.Prelude.{if◌then◌else◌}
use Prim.Native.Nat.{ℕ, suc, ◌+◌, ◌≤◌, ◌<◌}
use mathlib.Core.Bool.{Bool, true, false, not, ◌&&◌, ◌||◌, false≢true}
use mathlib.Core.List.{List, [], ◌∷◌, ◌++◌, map}
use mathlib.Core.Path.{◌≡◌, refl, sym, ap, ap₂, subst, ◌∙◌}
use native.Mathlib.Nat.{le_refl, le_trans, le_of_lt, suc_inj, suc-ne-zero, zero-lt-suc}
use native.Mathlib.Omega.{arith}
use lib.Dec.{eqb, ltb}
use lib.ListN.{length, get_or, length-append}
use Rattle.rules.specs.Limits.{Limits}
use Rattle.rules.specs.Lists.{all, any, keep, member, occurrences, rises, up_to}
use Rattle.rules.specs.Table.{Table, Element, corner, polytope, rank_of, boundary_of, vertex_of, element, boundary, rank, element_count}
use Rattle.rules.specs.Walk.{ends_of, edges_at, other_end, other_edge, first_edge, lowest_of, start_of, around, each_once, each_twice}
use Rattle.rules.specs.Sound.{sound}
use Rattle.rules.specs.Questions.{reaches, is_below, sub_elements, with_rank, vertex_set}
use Rattle.rules.specs.Asking.{border, Reaches, itself, lower, Runs, forth, back, lowest}
use Rattle.rules.proofs.Borders.{at_each, sound_bordered}
use Rattle.rules.proofs.Common.{member_kept, kept_member, member_up}
use Rattle.rules.proofs.Counting.{bit}
use Rattle.rules.proofs.Good.{Bounded, sound_good, whole_at}
use Rattle.rules.proofs.Growing.{keep_append}
use Rattle.rules.proofs.Laws.{and_left, and_right, le_test, not_le, test_eq, eq_test, eqb_self, not_eq, unlike_eq, or_case, or_left, or_right, either, if_true, if_false}
use Rattle.rules.proofs.Reach.{some_at, at_some, is_below_lem}
use Rattle.rules.proofs.VertexSet.{keep_rises, up_rises}

-- ---- lists

-- what holds of all holds of a member
pub of_all : (p : ℕ → Bool) (xs : List ℕ) (x : ℕ) → all p xs ≡ true → member x xs ≡ true → p x ≡ true
of_all p xs x h m = let a = some_at (eqb x) xs m in subst (λ (y : ℕ). p y ≡ true) (sym (eq_test x (get_or xs a.0 0) a.2)) (at_each p xs a.0 h a.1)

pub member_at : (xs : List ℕ) (n : ℕ) → n < length xs → member (get_or xs n 0) xs ≡ true
member_at xs n l = at_some (eqb (get_or xs n 0)) xs n l (eqb_self (get_or xs n 0))

-- a list with a member has a first entry
first_member : (xs : List ℕ) (x : ℕ) → member x xs ≡ true → member (get_or xs 0 0) xs ≡ true
first_member [] x h = absurd (false≢true h)
first_member (y ∷ ys) x h = or_left (eqb y y) (member y ys) (eqb_self y)

first_mapped : (g : ℕ → ℕ) (xs : List ℕ) (x : ℕ) → member x xs ≡ true → get_or (map g xs) 0 0 ≡ g (get_or xs 0 0)
first_mapped g [] x h = absurd (false≢true h)
first_mapped g (y ∷ ys) x h = refl

-- the lowest of some numbers is one of them, and no other is lower
lowest_listed : (x : ℕ) (xs : List ℕ) → member (lowest_of (x ∷ xs)) (x ∷ xs) ≡ true
lowest_listed x [] = or_left (eqb x x) false (eqb_self x)
lowest_listed x (y ∷ ys) =
    let r = lowest_of (y ∷ ys) in
    either (λ (z : ℕ). member z (x ∷ y ∷ ys) ≡ true) (ltb x r) x r (or_left (eqb x x) (member x (y ∷ ys)) (eqb_self x)) (or_right (eqb r x) (member r (y ∷ ys)) (lowest_listed y ys))

lowest_member : (xs : List ℕ) (x : ℕ) → member x xs ≡ true → member (lowest_of xs) xs ≡ true
lowest_member [] x h = absurd (false≢true h)
lowest_member (y ∷ ys) x h = lowest_listed y ys

none_lower : (xs : List ℕ) (x : ℕ) → member x xs ≡ true → lowest_of xs ≤ x
none_lower [] x h = absurd (false≢true h)
none_lower (y ∷ []) x h = or_case (eqb x y) false h (y ≤ x) (λ e. subst (λ (z : ℕ). y ≤ z) (sym (eq_test x y e)) (le_refl y)) (λ z. absurd (false≢true z))
none_lower (y ∷ z ∷ zs) x h = go (none_lower (z ∷ zs) x) (ltb y r) refl
  where
    r : ℕ
    r = lowest_of (z ∷ zs)

    go : (member x (z ∷ zs) ≡ true → r ≤ x) → (b : Bool) → ltb y r ≡ b → (if b then y else r) ≤ x
    go later true e =
        let l = le_test (suc y) r e in
        or_case (eqb x y) (member x (z ∷ zs)) h (y ≤ x) (λ q. subst (λ (w : ℕ). y ≤ w) (sym (eq_test x y q)) (le_refl y)) (λ m. let k = later m in omega (arith, k, l))
    go later false e =
        let l = not_le (suc y) r e in
        or_case (eqb x y) (member x (z ∷ zs)) h (r ≤ x) (λ q. let k = eq_test x y q in omega (arith, k, l)) later

-- ---- two entries

pub record Two (xs : List ℕ) : Type 0 where
  pub one : ℕ
  pub next : ℕ
  pub same : xs ≡ one ∷ next ∷ []
  pub apart : one < next

pub two : (xs : List ℕ) → length xs ≡ 2 → rises xs ≡ true → Two xs
two [] n h = absurd (suc-ne-zero 1 (sym n))
two (x ∷ []) n h = absurd (suc-ne-zero 0 (sym (suc_inj n)))
two (x ∷ y ∷ []) n h = record { one = x; next = y; same = refl; apart = le_test (suc x) y (and_left (ltb x y) true (and_left (ltb x y && true) true h)) }
two (x ∷ y ∷ z ∷ zs) n h = absurd (suc-ne-zero (length zs) (suc_inj (suc_inj n)))

of_two : (u a b : ℕ) → member u (a ∷ b ∷ []) ≡ true → (A : Type 0) → (u ≡ a → A) → (u ≡ b → A) → A
of_two u a b h A f g =
    or_case (eqb u a) (member u (b ∷ [])) h A (λ e. f (eq_test u a e)) (λ k. or_case (eqb u b) false k A (λ e. g (eq_test u b e)) (λ z. absurd (false≢true z)))

-- o is the entry of xs beside v
pub record Other (v : ℕ) (xs : List ℕ) (o : ℕ) : Type 0 where
  pub listed : member o xs ≡ true
  pub apart : o ≡ v → ⊥
  pub only : (u : ℕ) → member u xs ≡ true → (u ≡ v → ⊥) → u ≡ o

beside : (a b v o : ℕ) → a < b → member v (a ∷ b ∷ []) ≡ true → (v ≡ a → o ≡ b) → (v ≡ b → o ≡ a) → Other v (a ∷ b ∷ []) o
beside a b v o l h f g = of_two v a b h (Other v (a ∷ b ∷ []) o) low high
  where
    low : v ≡ a → Other v (a ∷ b ∷ []) o
    low e = record {
      listed = subst (λ (y : ℕ). member y (a ∷ b ∷ []) ≡ true) (sym (f e)) (or_right (eqb b a) (member b (b ∷ [])) (or_left (eqb b b) false (eqb_self b)));
      apart = λ q. let z : b ≡ a = sym (f e) ∙ q ∙ e in let w : ⊥ = omega (arith, z, l) in w;
      only = λ u m d. of_two u a b m (u ≡ o) (λ k. absurd (d (k ∙ sym e))) (λ k. k ∙ sym (f e));
    }

    high : v ≡ b → Other v (a ∷ b ∷ []) o
    high e = record {
      listed = subst (λ (y : ℕ). member y (a ∷ b ∷ []) ≡ true) (sym (g e)) (or_left (eqb a a) (member a (b ∷ [])) (eqb_self a));
      apart = λ q. let z : a ≡ b = sym (g e) ∙ q ∙ e in let w : ⊥ = omega (arith, z, l) in w;
      only = λ u m d. of_two u a b m (u ≡ o) (λ k. k ∙ sym (g e)) (λ k. absurd (d (k ∙ sym e)));
    }

-- by the test of the first entry, as an edge's other end is found
beside_first : (xs : List ℕ) (v : ℕ) → Two xs → member v xs ≡ true → Other v xs (if eqb (get_or xs 0 0) v then get_or xs 1 0 else get_or xs 0 0)
beside_first xs v w =
    subst (λ (ys : List ℕ). member v ys ≡ true → Other v ys (if eqb (get_or ys 0 0) v then get_or ys 1 0 else get_or ys 0 0)) (sym w.same) (λ h. at w.one w.next w.apart h)
  where
    at : (a b : ℕ) → a < b → member v (a ∷ b ∷ []) ≡ true → Other v (a ∷ b ∷ []) (if eqb a v then b else a)
    at a b l h =
        beside a b v (if eqb a v then b else a) l h (λ e. if_true (eqb a v) b a (test_eq a v (sym e)))
        (λ e. if_false (eqb a v) b a (not_eq a v (λ q. let z : a ≡ b = q ∙ e in let w : ⊥ = omega (arith, z, l) in w)))

-- what is left of two entries that a test may leave out
abbrev left : ℕ → ℕ → Bool → Bool → ℕ
left a b p q = get_or (if not p then a ∷ (if not q then b ∷ [] else []) else (if not q then b ∷ [] else [])) 0 0

-- by leaving v out, as a corner's other edge is found
beside_kept : (xs : List ℕ) (v : ℕ) → Two xs → member v xs ≡ true → Other v xs (get_or (keep (λ x. not (eqb x v)) xs) 0 0)
beside_kept xs v w =
    subst (λ (ys : List ℕ). member v ys ≡ true → Other v ys (get_or (keep (λ x. not (eqb x v)) ys) 0 0)) (sym w.same) (λ h. at w.one w.next w.apart h)
  where
    at : (a b : ℕ) → a < b → member v (a ∷ b ∷ []) ≡ true → Other v (a ∷ b ∷ []) (left a b (eqb a v) (eqb b v))
    at a b l h =
        beside a b v (left a b (eqb a v) (eqb b v)) l h
        (λ e. ap₂ (left a b) (test_eq a v (sym e)) (not_eq b v (λ q. let z : b ≡ a = q ∙ e in let w : ⊥ = omega (arith, z, l) in w)))
        (λ e. ap₂ (left a b) (not_eq a v (λ q. let z : a ≡ b = q ∙ e in let w : ⊥ = omega (arith, z, l) in w)) (test_eq b v (sym e)))

abbrev pub number : Table → ℕ → ℕ
number t v = vertex_of (element t v)

runs_two : (t : Table) (e v : ℕ) → Two (boundary t e) → member v (boundary t e) ≡ true → Runs t e (number t v) (number t (other_end t v e))
runs_two t e v w m = go (eqb (border t e 0) v) refl
  where
    second : eqb (border t e 0) v ≡ false → border t e 1 ≡ v
    second =
        subst (λ (ys : List ℕ). member v ys ≡ true → eqb (get_or ys 0 0) v ≡ false → get_or ys 1 0 ≡ v) (sym w.same)
        (λ h q. of_two v w.one w.next h (w.next ≡ v) (λ z. absurd (unlike_eq w.one v q (sym z))) sym) m

    go : (b : Bool) → eqb (border t e 0) v ≡ b → Runs t e (number t v) (number t (if b then border t e 1 else border t e 0))
    go true q = subst (λ (x : ℕ). Runs t e (number t x) (number t (border t e 1))) (eq_test (border t e 0) v q) forth
    go false q = subst (λ (x : ℕ). Runs t e (number t x) (number t (border t e 0))) (second q) back

-- ---- as many edges at a corner as it is met

met : (xs : List ℕ) (v : ℕ) → Two xs → occurrences v xs ≡ bit (member v xs)
met xs v w = subst (λ (ys : List ℕ). occurrences v ys ≡ bit (member v ys)) (sym w.same) (go (eqb v w.one) (eqb v w.next) refl refl)
  where
    go : (p q : Bool) → eqb v w.one ≡ p → eqb v w.next ≡ q
        → length (if p then w.one ∷ (if q then w.next ∷ [] else []) else (if q then w.next ∷ [] else [])) ≡ bit (p || (q || false))
    go true true e k = absurd (let a = eq_test v w.one e in let b = eq_test v w.next k in let l = w.apart in let z : ⊥ = omega (arith, a, b, l) in z)
    go true false e k = refl
    go false true e k = refl
    go false false e k = refl

all_met : (t : Table) (v : ℕ) (es : List ℕ) → ((e : ℕ) → member e es ≡ true → Two (boundary t e)) → occurrences v (ends_of t es) ≡ length (edges_at t v es)
all_met t v [] h = refl
all_met t v (e ∷ es) h =
    ap length (keep_append (eqb v) (boundary t e) (ends_of t es)) ∙ length-append (keep (eqb v) (boundary t e)) (keep (eqb v) (ends_of t es))
    ∙ ap₂ ◌+◌ (met (boundary t e) v (h e (or_left (eqb e e) (member e es) (eqb_self e)))) (all_met t v es (λ x m. h x (or_right (eqb x e) (member x es) m)))
    ∙ go (member v (boundary t e))
  where
    go : (b : Bool) → bit b + length (edges_at t v es) ≡ length (if b then e ∷ edges_at t v es else edges_at t v es)
    go true = let z : 1 + length (edges_at t v es) ≡ suc (length (edges_at t v es)) = omega arith in z
    go false = let z : 0 + length (edges_at t v es) ≡ length (edges_at t v es) = omega arith in z

-- ---- what a walk goes by

-- the corner v is an end of e, one of some edges
abbrev pub On : Table → List ℕ → ℕ → ℕ → Type 0
On t es v e = (member e es ≡ true) × (member v (boundary t e) ≡ true)

-- an end is met, and what is met is an end
pub end_met : (t : Table) (es : List ℕ) (v e : ℕ) → On t es v e → member v (ends_of t es) ≡ true
end_met t [] v e o = absurd (false≢true o.0)
end_met t (x ∷ xs) v e o =
    or_case (eqb e x) (member e xs) o.0 (member v (ends_of t (x ∷ xs)) ≡ true)
    (λ q. in_left (boundary t x) (ends_of t xs) (subst (λ (y : ℕ). member v (boundary t y) ≡ true) (eq_test e x q) o.1))
    (λ m. in_right (boundary t x) (ends_of t xs) (end_met t xs v e (m, o.1)))
  where
    in_left : (ys zs : List ℕ) → member v ys ≡ true → member v (ys ++ zs) ≡ true
    in_left [] zs h = absurd (false≢true h)
    in_left (y ∷ ys) zs h = or_case (eqb v y) (member v ys) h (member v ((y ∷ ys) ++ zs) ≡ true) (or_left (eqb v y) _) (λ z. or_right (eqb v y) _ (in_left ys zs z))

    in_right : (ys zs : List ℕ) → member v zs ≡ true → member v (ys ++ zs) ≡ true
    in_right [] zs h = h
    in_right (y ∷ ys) zs h = or_right (eqb v y) (member v (ys ++ zs)) (in_right ys zs h)

pub met_end : (t : Table) (es : List ℕ) (v : ℕ) → member v (ends_of t es) ≡ true → (e : ℕ) × On t es v e
met_end t [] v h = absurd (false≢true h)
met_end t (x ∷ xs) v h =
    go (λ m. let r = met_end t xs v m in (r.0, (or_right (eqb r.0 x) (member r.0 xs) r.1.0, r.1.1))) (boundary t x)
    (λ m. (x, (or_left (eqb x x) (member x xs) (eqb_self x), m))) h
  where
    go : (member v (ends_of t xs) ≡ true → (e : ℕ) × On t (x ∷ xs) v e) → (ys : List ℕ) → (member v ys ≡ true → (e : ℕ) × On t (x ∷ xs) v e)
        → member v (ys ++ ends_of t xs) ≡ true → (e : ℕ) × On t (x ∷ xs) v e
    go later [] f m = later m
    go later (y ∷ ys) f m =
        or_case (eqb v y) (member v (ys ++ ends_of t xs)) m ((e : ℕ) × On t (x ∷ xs) v e) (λ q. f (or_left (eqb v y) (member v ys) q))
        (go later ys (λ k. f (or_right (eqb v y) (member v ys) k)))

pub record Face (t : Table) (es : List ℕ) : Type 0 where
  pub ends : (v e : ℕ) → On t es v e → Other v (boundary t e) (other_end t v e)
  pub edges : (v e : ℕ) → On t es v e → Other e (edges_at t v es) (other_edge t v e es)
  pub runs : (v e : ℕ) → On t es v e → Runs t e (number t v) (number t (other_end t v e))

abbrev pub start_edge : Table → List ℕ → ℕ
start_edge t es = first_edge t (start_of t es) es

-- ---- edges with two ends each, where each corner is met twice

pub record Linked (t : Table) (es : List ℕ) : Type 0 where
  pub ends : (e : ℕ) → member e es ≡ true → Two (boundary t e)
  pub up : rises es ≡ true
  pub twice : each_twice t es ≡ true

module _ (t : Table) (es : List ℕ) (k : Linked t es) where
  two_edges : (v e : ℕ) → On t es v e → Two (edges_at t v es)
  two_edges v e o =
      two (edges_at t v es)
      (sym (all_met t v es k.ends) ∙ eq_test (occurrences v (ends_of t es)) 2 (of_all (λ w. eqb (occurrences w (ends_of t es)) 2) (ends_of t es) v k.twice (end_met t es v e o)))
      (keep_rises (λ x. member v (boundary t x)) es k.up)

  pub is_face : Face t es
  is_face = record {
    ends = λ v e o. beside_first (boundary t e) v (k.ends e o.0) o.1;
    edges = λ v e o. beside_kept (edges_at t v es) e (two_edges v e o) (kept_member (λ x. member v (boundary t x)) es e o.0 o.1);
    runs = λ v e o. runs_two t e v (k.ends e o.0) o.1;
  }

  -- where there is an edge, the start is an end of the walk's first edge
  module _ (e : ℕ) (m : member e es ≡ true) where
    some_end : member (start_of t es) (ends_of t es) ≡ true
    some_end =
        let w = k.ends e m in
        let h : member w.one (boundary t e) ≡ true = subst (λ (ys : List ℕ). member w.one ys ≡ true) (sym w.same) (or_left (eqb w.one w.one) _ (eqb_self w.one)) in
        lowest_member (ends_of t es) w.one (end_met t es w.one e (m, h))

    pub start_on : On t es (start_of t es) (start_edge t es)
    start_on =
        let v = start_of t es in
        let c = met_end t es v some_end in
        let xs = edges_at t v es in
        let n : length xs ≡ 2 = ap length (two_edges v c.0 c.1).same in
        let lower = ltb (other_end t v (get_or xs 1 0)) (other_end t v (get_or xs 0 0)) in
        let j : member (start_edge t es) xs ≡ true = either (λ (x : ℕ). member x xs ≡ true) lower (get_or xs 1 0) (get_or xs 0 0) (member_at xs 1 (omega (arith, n))) (member_at xs 0 (omega (arith, n))) in
        let q = member_kept (λ x. member v (boundary t x)) es (start_edge t es) j in
        (q.0, q.1)

-- ---- in a sound table

module _ (L : Limits) (t : Table) (s : sound L t ≡ true) where
  -- what soundness says of a polytope in use
  bounds : (e : ℕ) → e < element_count t → 0 < rank t e → Bounded t e (rank t e) (boundary t e)
  bounds e u k = go (element t e) refl
    where
      go : (y : Element) → element t e ≡ y → Bounded t e (rank t e) (boundary t e)
      go (corner v) q = absurd (let z : 0 < 0 = subst (λ (y : Element). 0 < rank_of y) q k in let w : ⊥ = omega (arith, z) in w)
      go (polytope r b h m) q = subst (λ (y : Element). Bounded t e (rank_of y) (boundary_of y)) (sym q) (whole_at L t e r b h m (sound_good L t s) u q).bound

  -- an edge has two ends
  pub edge_two : (e : ℕ) → e < element_count t → rank t e ≡ 1 → Two (boundary t e)
  edge_two e u q =
      let b : Bounded t e 1 (boundary t e) = subst (λ (n : ℕ). Bounded t e n (boundary t e)) q (bounds e u (subst (λ (n : ℕ). 0 < n) (sym q) (zero-lt-suc 0))) in
      two (boundary t e) (eq_test (length (boundary t e)) 2 b.tight) b.rising

  -- ---- a face

  module _ (f : ℕ) (u : f < element_count t) (r : rank t f ≡ 2) where
    face : Bounded t f 2 (boundary t f)
    face = subst (λ (n : ℕ). Bounded t f n (boundary t f)) r (bounds f u (subst (λ (n : ℕ). 0 < n) (sym r) (zero-lt-suc 1)))

    pub edge_used : (e : ℕ) → member e (boundary t f) ≡ true → e < element_count t
    edge_used e m = le_trans (le_test (suc e) f (of_all (λ x. ltb x f) (boundary t f) e face.under m)) (le_of_lt u)

    pub edge_rank : (e : ℕ) → member e (boundary t f) ≡ true → rank t e ≡ 1
    edge_rank e m = suc_inj (eq_test (suc (rank t e)) 2 (of_all (λ x. eqb (suc (rank t x)) 2) (boundary t f) e face.ranks m))

    pub linked : Linked t (boundary t f)
    linked = record {
      ends = λ e m. edge_two e (edge_used e m) (edge_rank e m);
      up = face.rising;
      twice = and_left (each_twice t (boundary t f)) (each_once (boundary t f) (around t (boundary t f))) face.tight;
    }

    -- the walk takes every edge once
    pub takes_all : each_once (boundary t f) (around t (boundary t f)) ≡ true
    takes_all = and_right (each_twice t (boundary t f)) (each_once (boundary t f) (around t (boundary t f))) face.tight

    pub some_edge : member (border t f 0) (boundary t f) ≡ true
    some_edge = let long = le_test 3 (length (boundary t f)) face.enough in member_at (boundary t f) 0 (omega (arith, long))

    pub starts : On t (boundary t f) (start_of t (boundary t f)) (start_edge t (boundary t f))
    starts = start_on t (boundary t f) linked (border t f 0) some_edge

    -- ---- the start is the lowest vertex

    -- a corner of the face is an end of one of its edges
    corner_on : (x : ℕ) → member x (with_rank t 0 f) ≡ true → (e : ℕ) × On t (boundary t f) x e
    unfolding with_rank sub_elements reaches
    corner_on x h =
        or_case (eqb f x) (any (λ y. reaches t 1 y x) (boundary t f)) down ((e : ℕ) × On t (boundary t f) x e) (λ q. absurd (suc-ne-zero 1 (sym r ∙ ap (rank t) (eq_test f x q) ∙ low)))
        (λ q. let p = some_at (λ y. reaches t 1 y x) (boundary t f) q in below (border t f p.0) (member_at (boundary t f) p.0 p.1) p.2)
      where
        kept : (member x (sub_elements t f) ≡ true) × (eqb (rank t x) 0 ≡ true)
        kept = member_kept (λ y. eqb (rank t y) 0) (sub_elements t f) x h

        low : rank t x ≡ 0
        low = eq_test (rank t x) 0 kept.1

        down : reaches t 2 f x ≡ true
        down = subst (λ (n : ℕ). reaches t n f x ≡ true) r (member_kept (is_below t f) (up_to (element_count t)) x kept.0).1

        below : (e : ℕ) → member e (boundary t f) ≡ true → reaches t 1 e x ≡ true → (d : ℕ) × On t (boundary t f) x d
        below e m k =
            or_case (eqb e x) (any (λ y. eqb y x) (boundary t e)) k ((d : ℕ) × On t (boundary t f) x d) (λ q. absurd (suc-ne-zero 0 (sym (edge_rank e m) ∙ ap (rank t) (eq_test e x q) ∙ low)))
            (λ q. let p = some_at (λ y. eqb y x) (boundary t e) q in
            (e, (m, subst (λ (y : ℕ). member y (boundary t e) ≡ true) (eq_test (border t e p.0) x p.2) (member_at (boundary t e) p.0 p.1))))

    -- and an end of one is a corner of the face
    on_corner : (v e : ℕ) → On t (boundary t f) v e → member v (with_rank t 0 f) ≡ true
    unfolding with_rank sub_elements
    on_corner v e o =
        let i = some_at (eqb e) (boundary t f) o.0 in
        let j = some_at (eqb v) (boundary t e) o.1 in
        let a : border t f i.0 ≡ e = sym (eq_test e (border t f i.0) i.2) in
        let c : border t e j.0 ≡ v = sym (eq_test v (border t e j.0) j.2) in
        let b = sound_bordered L t s e (edge_used e o.0) (subst (λ (n : ℕ). 0 < n) (sym (edge_rank e o.0)) (zero-lt-suc 0)) in
        let used : v < element_count t = le_trans (subst (λ (x : ℕ). x < e) c (b.earlier j.0 j.1)) (le_of_lt (edge_used e o.0)) in
        kept_member (λ y. eqb (rank t y) 0) (sub_elements t f) v
        (kept_member (is_below t f) (up_to (element_count t)) v (member_up (element_count t) v used)
        ((is_below_lem L t s f v u).1 (lower f i.0 v i.1 (subst (λ (x : ℕ). Reaches t x v) (sym a) (lower e j.0 v j.1 (subst (λ (x : ℕ). Reaches t x v) (sym c) (itself v)))))))
        (test_eq (rank t v) 0 (subst (λ (x : ℕ). rank t x ≡ 0) c (suc_inj (b.ranks j.0 j.1 ∙ edge_rank e o.0))))

    pub start_first : get_or (with_rank t 0 f) 0 0 ≡ start_of t (boundary t f)
    unfolding with_rank sub_elements
    start_first =
        let v = start_of t (boundary t f) in
        let m = on_corner v (start_edge t (boundary t f)) starts in
        let a = get_or (with_rank t 0 f) 0 0 in
        let c = corner_on a (first_member (with_rank t 0 f) v m) in
        let low = none_lower (ends_of t (boundary t f)) a (end_met t (boundary t f) a c.0 c.1) in
        let high : a ≤ v = first_low (with_rank t 0 f) (keep_rises (λ x. eqb (rank t x) 0) (sub_elements t f) (keep_rises (is_below t f) (up_to (element_count t)) (up_rises 0 (element_count t)))) v m in
        omega (arith, low, high)
      where
        first_low : (xs : List ℕ) → rises xs ≡ true → (x : ℕ) → member x xs ≡ true → get_or xs 0 0 ≤ x
        first_low [] h x m = absurd (false≢true m)
        first_low (y ∷ ys) h x m =
            or_case (eqb x y) (member x ys) m (y ≤ x) (λ q. subst (λ (z : ℕ). y ≤ z) (sym (eq_test x y q)) (le_refl y))
            (λ k. le_of_lt (le_test (suc y) x (of_all (ltb y) ys x (and_left (all (ltb y) ys) (rises ys) h) k)))

    pub start_lowest : lowest t f ≡ number t (start_of t (boundary t f))
    unfolding vertex_set
    start_lowest =
        first_mapped (number t) (with_rank t 0 f) (start_of t (boundary t f)) (on_corner (start_of t (boundary t f)) (start_edge t (boundary t f)) starts) ∙ ap (number t) start_first
