-- Edges are walked, each once, exactly when they are one ring, wherever the walk starts; so a face of a sound table is walked.
-- On a ring, no edge is met again before the start is: of the edges taken only two corners have an edge beyond, the walk's own and the start.
-- So there is fuel for every step, and the edges taken when the walk is back are all. And where it takes all and comes back, what spreads from edge to edge spreads over all.
use Rattle.std.specs.Prelude.{if◌then◌else◌}
use Prim.Native.Nat.{ℕ, zero, suc, ◌+◌, ◌≤◌, ◌<◌, zero-le, suc-le-suc}
use mathlib.Core.Bool.{Bool, true, false, not, ◌&&◌, ◌||◌, false≢true, true≢false}
use mathlib.Core.List.{List, [], ◌∷◌, ◌++◌}
use mathlib.Core.Path.{◌≡◌, refl, sym, ap, ap₂, subst, ◌∙◌}
use native.Mathlib.Nat.{le_trans, le_of_lt, le_refl, le_of_suc-le-suc, zero-lt-suc, add-zero, zero-add}
use native.Mathlib.Omega.{arith}
use lib.Dec.{eqb, ltb}
use lib.ListN.{length}
use Rattle.rules.specs.Limits.{Limits}
use Rattle.rules.specs.Lists.{all, keep, member, occurrences, rises}
use Rattle.rules.specs.Table.{Table, boundary, rank, element_count}
use Rattle.rules.specs.Walk.{ends_of, other_end, other_edge, walk, start_of, around, each_once, each_twice}
use Rattle.rules.specs.Sound.{closed}
use Rattle.rules.specs.Questions.{pairs, edges_in_order}
use Rattle.rules.specs.Rings.{HangTogether, Ring, RuleIsOneRing, FaceIsOneRing, FaceIsWalked}
use Rattle.rules.proofs.Common.{kept_member}
use Rattle.rules.proofs.FaceEdges.{of_all, Two, On, Face, start_edge, Linked, is_face, start_on, edge_two, linked, takes_all}
use Rattle.rules.proofs.Laws.{and_true, and_left, and_right, le_test, eq_test, test_eq, eqb_self, not_eq, unlike_eq, not_true, or_case, or_left, or_right, or_false, neither, refute, if_true, if_false}
use Rattle.rules.proofs.WalkRound.{last_corner, taken, end_on, edge_on, only_edge, along, all_taken, comes_back}

-- ---- counts

-- what a harder test keeps is no more
fewer : (p q : ℕ → Bool) (xs : List ℕ) → ((x : ℕ) → q x ≡ true → p x ≡ true) → length (keep q xs) ≤ length (keep p xs)
fewer p q [] h = zero-le
fewer p q (x ∷ xs) h = go (q x) (p x) (h x) (fewer p q xs h)
  where
    go : (a b : Bool) → (a ≡ true → b ≡ true) → length (keep q xs) ≤ length (keep p xs) → length (if a then x ∷ keep q xs else keep q xs) ≤ length (if b then x ∷ keep p xs else keep p xs)
    go true true f l = suc-le-suc l
    go true false f l = absurd (false≢true (f refl))
    go false true f l = le_trans l (le_of_lt (le_refl (suc (length (keep p xs)))))
    go false false f l = l

-- and is less where it leaves a member out
pub less : (p q : ℕ → Bool) (xs : List ℕ) (e : ℕ) → ((x : ℕ) → q x ≡ true → p x ≡ true) → member e xs ≡ true → p e ≡ true → q e ≡ false → length (keep q xs) < length (keep p xs)
less p q [] e h m a b = absurd (false≢true m)
less p q (x ∷ xs) e h m a b =
    or_case (eqb e x) (member e xs) m (length (keep q (x ∷ xs)) < length (keep p (x ∷ xs)))
    (λ k. let z = eq_test e x k in here (q x) (p x) (ap q (sym z) ∙ b) (ap p (sym z) ∙ a)) (λ k. there (q x) (p x) (h x) (less p q xs e h k a b))
  where
    here : (c d : Bool) → c ≡ false → d ≡ true → length (if c then x ∷ keep q xs else keep q xs) < length (if d then x ∷ keep p xs else keep p xs)
    here true d f g = absurd (true≢false f)
    here false true f g = suc-le-suc (fewer p q xs h)
    here false false f g = absurd (false≢true g)

    there : (c d : Bool) → (c ≡ true → d ≡ true) → length (keep q xs) < length (keep p xs) → length (if c then x ∷ keep q xs else keep q xs) < length (if d then x ∷ keep p xs else keep p xs)
    there true true f l = suc-le-suc l
    there true false f l = absurd (false≢true (f refl))
    there false true f l = le_trans l (le_of_lt (le_refl (suc (length (keep p xs)))))
    there false false f l = l

some_entry : (xs : List ℕ) (x : ℕ) → member x xs ≡ true → 0 < length xs
some_entry [] x h = absurd (false≢true h)
some_entry (y ∷ ys) x h = zero-lt-suc (length ys)

pub none_there : (x : ℕ) (xs : List ℕ) → member x xs ≡ false → occurrences x xs ≡ 0
none_there x [] h = refl
none_there x (y ∷ ys) h = go (eqb x y) h (none_there x ys)
  where
    go : (b : Bool) → (b || member x ys) ≡ false → (member x ys ≡ false → occurrences x ys ≡ 0) → length (if b then y ∷ keep (eqb x) ys else keep (eqb x) ys) ≡ 0
    go true h later = absurd (true≢false h)
    go false h later = later h

pub kept_length : (p : ℕ → Bool) (xs : List ℕ) → length (keep p xs) ≤ length xs
kept_length p [] = zero-le
kept_length p (x ∷ xs) = go (p x) (kept_length p xs)
  where
    go : (b : Bool) → length (keep p xs) ≤ length xs → length (if b then x ∷ keep p xs else keep p xs) ≤ suc (length xs)
    go true l = suc-le-suc l
    go false l = le_trans l (le_of_lt (le_refl (suc (length xs))))

pub all_of : (p : ℕ → Bool) (xs : List ℕ) → ((x : ℕ) → member x xs ≡ true → p x ≡ true) → all p xs ≡ true
all_of p [] h = refl
all_of p (x ∷ xs) h = and_true (p x) (all p xs) (h x (or_left (eqb x x) (member x xs) (eqb_self x))) (all_of p xs (λ y m. h y (or_right (eqb y x) (member y xs) m)))

-- an entry in front of the one list or of the other
moved : (x e : ℕ) (xs ys : List ℕ) → occurrences x xs + occurrences x (e ∷ ys) ≡ occurrences x (e ∷ xs) + occurrences x ys
moved x e xs ys = go (eqb x e) (keep (eqb x) xs) (keep (eqb x) ys)
  where
    sums : (m n : ℕ) → m + suc n ≡ suc m + n
    sums m n = omega arith

    go : (b : Bool) (us vs : List ℕ) → length us + length (if b then e ∷ vs else vs) ≡ length (if b then e ∷ us else us) + length vs
    go true us vs = sums (length us) (length vs)
    go false us vs = refl

-- ---- the walk, with the edges taken before

module _ (t : Table) (es : List ℕ) (k : Face t es) (start first : ℕ) (at-start : On t es start first) where
  -- the walk is at the corner v, is to take e, and has taken some
  record Past (past : List ℕ) (v e : ℕ) : Type 0 where
    once : (x : ℕ) → member x past ≡ true → occurrences x past ≡ 1
    here : On t es v e
    fresh : member e past ≡ false
    origin : v ≡ start → first ≡ e
    began : (v ≡ start → ⊥) → member first past ≡ true
    -- the other edge at v is taken, unless v is the start
    turned : (y : ℕ) → On t es v y → (y ≡ e → ⊥) → (v ≡ start → ⊥) → member y past ≡ true
    -- an edge taken has a corner with one that is not taken only at v and at the start
    shut : (x y c : ℕ) → member x past ≡ true → member c (boundary t x) ≡ true → On t es c y → (c ≡ v → ⊥) → (c ≡ start → ⊥) → member y past ≡ true

  -- the edges not taken
  abbrev left : List ℕ → List ℕ
  left past = keep (λ x. not (member x past)) es

  -- ---- one step further

  module _ (past : List ℕ) (v e : ℕ) (g : Past past v e) where
    on_further : On t es (other_end t v e) e
    on_further = end_on t es k v e g.here

    once_more : (x : ℕ) → member x (e ∷ past) ≡ true → occurrences x (e ∷ past) ≡ 1
    once_more x h = go (eqb x e) refl h
      where
        go : (b : Bool) → eqb x e ≡ b → (b || member x past) ≡ true → length (if b then e ∷ keep (eqb x) past else keep (eqb x) past) ≡ 1
        go true q m = ap suc (none_there x past (subst (λ (y : ℕ). member y past ≡ false) (sym (eq_test x e q)) g.fresh))
        go false q m = g.once x m

    began_more : member first (e ∷ past) ≡ true
    began_more = go (eqb v start) refl
      where
        go : (b : Bool) → eqb v start ≡ b → member first (e ∷ past) ≡ true
        go true q = or_left (eqb first e) (member first past) (test_eq first e (g.origin (eq_test v start q)))
        go false q = or_right (eqb first e) (member first past) (g.began (unlike_eq v start q))

    turned_more : (y : ℕ) → On t es (other_end t v e) y → (y ≡ other_edge t (other_end t v e) e es → ⊥) → member y (e ∷ past) ≡ true
    turned_more y o d = go (eqb y e) refl
      where
        go : (b : Bool) → eqb y e ≡ b → (b || member y past) ≡ true
        go true q = refl
        go false q = absurd (d (only_edge t es k (other_end t v e) e y on_further o (unlike_eq y e q)))

    shut_more : (x y c : ℕ) → member x (e ∷ past) ≡ true → member c (boundary t x) ≡ true → On t es c y → (c ≡ other_end t v e → ⊥) → (c ≡ start → ⊥) → member y (e ∷ past) ≡ true
    shut_more x y c h m o far out = go (eqb c v) refl
      where
        at : v ≡ c → (b : Bool) → eqb y e ≡ b → (b || member y past) ≡ true
        at z true q = refl
        at z false q = g.turned y (subst (λ (w : ℕ). On t es w y) (sym z) o) (unlike_eq y e q) (λ a. out (sym z ∙ a))

        go : (b : Bool) → eqb c v ≡ b → member y (e ∷ past) ≡ true
        go true q = at (sym (eq_test c v q)) (eqb y e) refl
        go false q =
            or_case (eqb x e) (member x past) h (member y (e ∷ past) ≡ true)
            (λ a. absurd (far ((k.ends v e g.here).only c (subst (λ (w : ℕ). member c (boundary t w) ≡ true) (eq_test x e a) m) (unlike_eq c v q))))
            (λ a. or_right (eqb y e) (member y past) (g.shut x y c a m o (unlike_eq c v q) out))

    onward : (other_end t v e ≡ start → ⊥) → Past (e ∷ past) (other_end t v e) (other_edge t (other_end t v e) e es)
    onward far =
        let w = other_end t v e in
        let x = other_edge t w e es in
        let o = edge_on t es k w e on_further in
        record {
          once = once_more;
          here = o;
          fresh = neither (eqb x e) (member x past) (not_eq x e (k.edges w e on_further).apart)
              (refute (member x past) (λ m. true≢false (sym (g.shut x e w m o.1 on_further (k.ends v e g.here).apart far) ∙ g.fresh)));
          origin = λ a. absurd (far a);
          began = λ a. began_more;
          turned = λ y p d a. turned_more y p d;
          shut = shut_more;
        }

    -- back at the start, the edges taken have no corner with any other
    shut_whole : other_end t v e ≡ start → (x y c : ℕ) → member x (e ∷ past) ≡ true → member c (boundary t x) ≡ true → On t es c y → member y (e ∷ past) ≡ true
    shut_whole back x y c h m o = go (eqb c start) refl
      where
        away : v ≡ start → ⊥
        away z = (k.ends v e g.here).apart (back ∙ sym z)

        last : e ≡ other_edge t start first es
        last =
            only_edge t es k start first e at-start (subst (λ (w : ℕ). On t es w e) back on_further)
            (λ z. true≢false (sym (g.began away) ∙ subst (λ (w : ℕ). member w past ≡ false) z g.fresh))

        at : On t es start y → (b : Bool) → eqb y first ≡ b → member y (e ∷ past) ≡ true
        at p true q = subst (λ (w : ℕ). member w (e ∷ past) ≡ true) (sym (eq_test y first q)) began_more
        at p false q = or_left (eqb y e) (member y past) (test_eq y e (only_edge t es k start first y at-start p (unlike_eq y first q) ∙ sym last))

        go : (b : Bool) → eqb c start ≡ b → member y (e ∷ past) ≡ true
        go true q = at (subst (λ (w : ℕ). On t es w y) (eq_test c start q) o) (eqb y first) refl
        go false q = shut_more x y c h m o (λ a. unlike_eq c start q (a ∙ back)) (unlike_eq c start q)

    -- an edge fewer is left
    fewer_left : length (left (e ∷ past)) < length (left past)
    fewer_left =
        less (λ x. not (member x past)) (λ x. not (member x (e ∷ past))) es e
        (λ x h. ap not (or_false (eqb x e) (member x past) (not_true (member x (e ∷ past)) h)).1) g.here.0
        (ap not g.fresh) (ap not (or_left (eqb e e) (member e past) (eqb_self e)))

    some_left : 0 < length (left past)
    some_left = some_entry (left past) e (kept_member (λ x. not (member x past)) es e g.here.0 (ap not g.fresh))

  -- ---- the whole walk

  module _ (whole : HangTogether t es) where
    each_once_lem : (n : ℕ) (past : List ℕ) (v e : ℕ) → Past past v e → length (left past) ≤ n
        → (x : ℕ) → member x es ≡ true → occurrences x past + occurrences x (taken (walk n t es start v e)) ≡ 1
    unfolding walk
    each_once_lem zero past v e g l x m = absurd (let z = some_left past v e g in let w : ⊥ = omega (arith, z, l) in w)
    each_once_lem (suc n) past v e g l x m =
        go (eqb w start) refl (λ far. each_once_lem n (e ∷ past) w d (onward past v e g far) (le_of_suc-le-suc (le_trans (fewer_left past v e g) l)) x m)
      where
        w : ℕ
        w = other_end t v e

        d : ℕ
        d = other_edge t w e es

        go : (b : Bool) → eqb w start ≡ b → ((w ≡ start → ⊥) → occurrences x (e ∷ past) + occurrences x (taken (walk n t es start w d)) ≡ 1)
            → occurrences x past + occurrences x (taken ((e, w) ∷ (if b then [] else walk n t es start w d))) ≡ 1
        go true q later =
            moved x e past [] ∙ add-zero (occurrences x (e ∷ past))
            ∙ once_more past v e g x (whole (λ y. member y (e ∷ past)) first at-start.0 (began_more past v e g)
            (λ y z c my mz cy cz h. shut_whole past v e g (eq_test w start q) y z c h cy (mz, cz)) x m)
        go false q later = moved x e past (taken (walk n t es start w d)) ∙ later (unlike_eq w start q)

  -- ---- and back: what spreads from edge to edge spreads over a walk that comes back

  module _ (S : ℕ → Bool)
      (share : (x y v : ℕ) → member x es ≡ true → member y es ≡ true → member v (boundary t x) ≡ true → member v (boundary t y) ≡ true → S x ≡ true → S y ≡ true) where
    -- to the next edge
    next : (v e : ℕ) → On t es v e → S e ≡ true → S (other_edge t (other_end t v e) e es) ≡ true
    next v e o h =
        let a = end_on t es k v e o in
        let b = edge_on t es k (other_end t v e) e a in
        share e (other_edge t (other_end t v e) e es) (other_end t v e) o.0 b.0 a.1 b.1 h

    -- to those after it
    forward : (n v e : ℕ) → On t es v e → S e ≡ true → (x : ℕ) → member x (taken (walk n t es start v e)) ≡ true → S x ≡ true
    forward =
        along t es k start (λ v e ss. S e ≡ true → (x : ℕ) → member x (taken ss) ≡ true → S x ≡ true) (λ v e h x m. absurd (false≢true m))
        (λ v e o q h x m. here v e [] h x m (λ z. absurd (false≢true z))) (λ v e ss o d later h x m. here v e ss h x m (later (next v e o h) x))
      where
        here : (v e : ℕ) (ss : List (ℕ × ℕ)) → S e ≡ true → (x : ℕ) → member x (e ∷ taken ss) ≡ true → (member x (taken ss) ≡ true → S x ≡ true) → S x ≡ true
        here v e ss h x m later = or_case (eqb x e) (member x (taken ss)) m (S x ≡ true) (λ q. subst (λ (y : ℕ). S y ≡ true) (sym (eq_test x e q)) h) later

    -- to the first
    around_to : (n v e : ℕ) → On t es v e → last_corner v (walk n t es start v e) ≡ start
        → ((v ≡ start → ⊥) → S e ≡ true → S first ≡ true) × ((x : ℕ) → member x (taken (walk n t es start v e)) ≡ true → S x ≡ true → S first ≡ true)
    around_to =
        along t es k start (λ v e ss. last_corner v ss ≡ start → ((v ≡ start → ⊥) → S e ≡ true → S first ≡ true) × ((x : ℕ) → member x (taken ss) ≡ true → S x ≡ true → S first ≡ true))
        (λ v e a. (λ d h. absurd (d a), λ x m h. absurd (false≢true m)))
        (λ v e o q a. (λ d h. close v e o q h, λ x m h. or_case (eqb x e) false m (S first ≡ true) (λ z. close v e o q (same x e z h)) (λ z. absurd (false≢true z))))
        (λ v e ss o d later a. let r = later a in
        (λ c h. r.0 d (next v e o h), λ x m h. or_case (eqb x e) (member x (taken ss)) m (S first ≡ true) (λ z. r.0 d (next v e o (same x e z h))) (λ z. r.1 x z h)))
      where
        same : (x e : ℕ) → eqb x e ≡ true → S x ≡ true → S e ≡ true
        same x e q h = subst (λ (y : ℕ). S y ≡ true) (eq_test x e q) h

        close : (v e : ℕ) → On t es v e → other_end t v e ≡ start → S e ≡ true → S first ≡ true
        close v e o q h = share e first start o.0 at-start.0 (subst (λ (y : ℕ). member y (boundary t e) ≡ true) q (end_on t es k v e o).1) at-start.1 h

-- ---- any edges with two ends each, where each corner is met twice

module _ (t : Table) (es : List ℕ) (l : Linked t es) where
  abbrev v₀ : ℕ
  v₀ = start_of t es

  abbrev e₀ : ℕ
  e₀ = start_edge t es

  k : Face t es
  k = is_face t es l

  module _ (o : On t es v₀ e₀) where
    unstarted : Past t es k v₀ e₀ o [] v₀ e₀
    unstarted = record {
      once = λ x h. absurd (false≢true h);
      here = o;
      fresh = refl;
      origin = λ a. refl;
      began = λ d. absurd (d refl);
      turned = λ y p n d. absurd (d refl);
      shut = λ x y c h m p d n. absurd (false≢true h);
    }

  pub ring_taken : HangTogether t es → each_once es (around t es) ≡ true
  ring_taken whole =
      all_of (λ e. eqb (occurrences e (taken (around t es))) 1) es (λ e m.
      let o = start_on t es l e m in
      test_eq (occurrences e (taken (around t es))) 1 (sym (zero-add (occurrences e (taken (around t es))))
      ∙ each_once_lem t es k v₀ e₀ o whole (length es) [] v₀ e₀ (unstarted o) (kept_length (λ x. not (member x [])) es) e m))

  pub taken_ring : each_once es (around t es) ≡ true → HangTogether t es
  taken_ring h S e m z share x n =
      let o = start_on t es l e m in
      let first = (around_to t es k v₀ e₀ o S share (length es) v₀ e₀ o (comes_back t es k o h)).1 e (all_taken t es k o h e m) z in
      forward t es k v₀ e₀ o S share (length es) v₀ e₀ o first x (all_taken t es k o h x n)

-- ---- in a sound table

module _ (t : Table) (es : List ℕ) where
  pub twice_each : each_twice t es ≡ true → (v : ℕ) → member v (ends_of t es) ≡ true → occurrences v (ends_of t es) ≡ 2
  twice_each h v m = eq_test (occurrences v (ends_of t es)) 2 (of_all (λ w. eqb (occurrences w (ends_of t es)) 2) (ends_of t es) v h m)

  pub each_twice_lem : ((v : ℕ) → member v (ends_of t es) ≡ true → occurrences v (ends_of t es) ≡ 2) → each_twice t es ≡ true
  each_twice_lem h = all_of (λ w. eqb (occurrences w (ends_of t es)) 2) (ends_of t es) (λ v m. test_eq (occurrences v (ends_of t es)) 2 (h v m))

  -- the rule is one ring, for edges that have two ends each
  module _ (up : rises es ≡ true) (ends : (e : ℕ) → member e es ≡ true → Two (boundary t e)) where
    pub rule_ring : closed t 2 es ≡ true → Ring t es
    rule_ring h =
        let a = and_left (each_twice t es) (each_once es (around t es)) h in
        let b = and_right (each_twice t es) (each_once es (around t es)) h in
        record { twice = twice_each a; together = taken_ring t es (record { ends = ends; up = up; twice = a }) b }

    pub ring_rule : Ring t es → closed t 2 es ≡ true
    ring_rule g =
        let a = each_twice_lem g.twice in
        and_true (each_twice t es) (each_once es (around t es)) a (ring_taken t es (record { ends = ends; up = up; twice = a }) g.together)

-- one ring is told by the edges' ends alone
module _ (t u : Table) (es : List ℕ) (alike : (e : ℕ) → member e es ≡ true → boundary u e ≡ boundary t e) where
  pub ring_along : Ring t es → Ring u es
  ring_along g = record {
    twice = subst (λ (l : List ℕ). (v : ℕ) → member v l ≡ true → occurrences v l ≡ 2) (sym (ends es alike)) g.twice;
    together = λ S e m z share. g.together S e m z (λ x y v mx my vx vy. share x y v mx my
        (subst (λ (l : List ℕ). member v l ≡ true) (sym (alike x mx)) vx) (subst (λ (l : List ℕ). member v l ≡ true) (sym (alike y my)) vy));
  }
    where
      ends : (xs : List ℕ) → ((e : ℕ) → member e xs ≡ true → boundary u e ≡ boundary t e) → ends_of u xs ≡ ends_of t xs
      ends [] h = refl
      ends (x ∷ xs) h = ap₂ (λ (p q : List ℕ). p ++ q) (h x (or_left (eqb x x) (member x xs) (eqb_self x))) (ends xs (λ e m. h e (or_right (eqb e x) (member e xs) m)))

pub rule_is_one_ring : (L : Limits) → RuleIsOneRing L
rule_is_one_ring L t s es up h = (rule_ring t es up ends, ring_rule t es up ends)
  where
    ends : (e : ℕ) → member e es ≡ true → Two (boundary t e)
    ends e m =
        let a = of_all (λ x. ltb x (element_count t) && eqb (rank t x) 1) es e h m in
        edge_two L t s e (le_test (suc e) (element_count t) (and_left (ltb e (element_count t)) (eqb (rank t e) 1) a)) (eq_test (rank t e) 1 (and_right (ltb e (element_count t)) (eqb (rank t e) 1) a))

pub face_is_one_ring : (L : Limits) → FaceIsOneRing L
face_is_one_ring L t s f u r =
    let l = linked L t s f u r in record { twice = twice_each t (boundary t f) l.twice; together = taken_ring t (boundary t f) l (takes_all L t s f u r) }

pub face_is_walked : (L : Limits) → FaceIsWalked L
unfolding edges_in_order
face_is_walked L t s f u r = (
  pairs t (start_of t (boundary t f)) (around t (boundary t f)),
  if_false (not (eqb (rank t f) 2)) _ _ (ap not (test_eq (rank t f) 2 r)) ∙ if_true (each_once (boundary t f) (around t (boundary t f))) _ _ (takes_all L t s f u r),
)
