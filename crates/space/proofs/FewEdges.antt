-- Few edges need no walk. Where each corner is met twice, what hangs together with an edge has two edges at least, and three where no two edges share both ends:
-- the edge, and the other one at each of its ends. So up to three edges, or up to five where no two share both ends, cannot fall into two parts, and are one ring.
use Rattle.std.specs.Prelude.{if◌then◌else◌}
use Prim.Native.Nat.{ℕ, suc, ◌+◌, ◌≤◌, ◌<◌}
use mathlib.Core.Bool.{Bool, true, false, not, ◌&&◌, false≢true, true≢false, cond}
use mathlib.Core.List.{List, [], ◌∷◌}
use mathlib.Core.Path.{◌≡◌, refl, sym, ap, ◌∙◌, subst}
use native.Mathlib.Omega.{arith}
use lib.Dec.{eqb, ltb}
use lib.ListN.{length}
use borrow.Author.Tests.{ltb-false}
use Rattle.rules.specs.Lists.{keep, member, rises}
use Rattle.rules.specs.Table.{Table, boundary}
use Rattle.rules.specs.Walk.{other_edge, around, each_once, each_twice}
use Rattle.rules.specs.Sound.{closed}
use Rattle.rules.specs.Rings.{HangTogether}
use Rattle.rules.proofs.FaceEdges.{Two, On, Face, Linked, is_face}
use Rattle.rules.proofs.Laws.{both_ways, and_true, and_left, eq_test, eqb_self, not_eq, or_case, or_left, or_right}
use Rattle.rules.proofs.RingWalked.{less, ring_rule, twice_each}
use Rattle.rules.proofs.WalkRound.{edge_on}
use Rattle.space.specs.Closed.{few, Untwinned}

-- ---- counts

-- what a test keeps but for one number
abbrev without : (ℕ → Bool) → ℕ → ℕ → Bool
without p e x = p x && not (eqb x e)

fewer_by_one : (p : ℕ → Bool) (es : List ℕ) (e : ℕ) → member e es ≡ true → p e ≡ true → length (keep (without p e) es) < length (keep p es)
fewer_by_one p es e m h =
    less p (without p e) es e (λ x q. and_left (p x) (not (eqb x e)) q) m h (ap (λ (b : Bool). p e && not b) (eqb_self e) ∙ none (p e))
  where
    none : (b : Bool) → (b && false) ≡ false
    none true = refl
    none false = refl

still : (p : ℕ → Bool) (e x : ℕ) → p x ≡ true → (x ≡ e → ⊥) → without p e x ≡ true
still p e x h d = and_true (p x) (not (eqb x e)) h (ap not (not_eq x e d))

two_parts : (p : ℕ → Bool) (xs : List ℕ) → length (keep p xs) + length (keep (λ x. not (p x)) xs) ≡ length xs
two_parts p [] = refl
two_parts p (x ∷ xs) = go (p x) (two_parts p xs)
  where
    go : (b : Bool) → length (keep p xs) + length (keep (λ y. not (p y)) xs) ≡ length xs
        → length (if b then x ∷ keep p xs else keep p xs) + length (if not b then x ∷ keep (λ y. not (p y)) xs else keep (λ y. not (p y)) xs) ≡ suc (length xs)
    go true h = omega (arith, h)
    go false h = omega (arith, h)

-- the two ends of an edge, wherever they are read
data Which (low high c : ℕ) : Type 0 where
  the_low : c ≡ low → Which low high c
  the_high : c ≡ high → Which low high c

which : (low high c : ℕ) → member c (low ∷ high ∷ []) ≡ true → Which low high c
which low high c m =
    or_case (eqb c low) (member c (high ∷ [])) m (Which low high c) (λ q. the_low (eq_test c low q))
    (λ k. or_case (eqb c high) false k (Which low high c) (λ q. the_high (eq_test c high q)) (λ z. absurd (false≢true z)))

both_ends : (xs : List ℕ) → Two xs → (a b : ℕ) → a < b → member a xs ≡ true → member b xs ≡ true → xs ≡ a ∷ b ∷ []
both_ends xs w a b l ma mb =
    w.same ∙ go (which w.one w.next a (subst (λ (ys : List ℕ). member a ys ≡ true) w.same ma)) (which w.one w.next b (subst (λ (ys : List ℕ). member b ys ≡ true) w.same mb))
  where
    go : Which w.one w.next a → Which w.one w.next b → w.one ∷ w.next ∷ [] ≡ a ∷ b ∷ []
    go (the_low p) (the_low q) = absurd (let z : ⊥ = omega (arith, p, q, l) in z)
    go (the_low p) (the_high q) = sym (λ i. p i ∷ q i ∷ [])
    go (the_high p) (the_low q) = absurd (let d = w.apart in let z : ⊥ = omega (arith, p, q, l, d) in z)
    go (the_high p) (the_high q) = absurd (let z : ⊥ = omega (arith, p, q, l) in z)

-- ---- what hangs together with an edge

module _ (t : Table) (es : List ℕ) (l : Linked t es) where
  abbrev Spreads : (ℕ → Bool) → Type 0
  Spreads S = (x y v : ℕ) → member x es ≡ true → member y es ≡ true → member v (boundary t x) ≡ true → member v (boundary t y) ≡ true → S x ≡ true → S y ≡ true

  k : Face t es
  k = is_face t es l

  module _ (S : ℕ → Bool) (spreads : Spreads S) (e : ℕ) (m : member e es ≡ true) (s : S e ≡ true) where
    ends : Two (boundary t e)
    ends = l.ends e m

    first_on : On t es ends.one e
    first_on = (m, subst (λ (ys : List ℕ). member ends.one ys ≡ true) (sym ends.same) (or_left (eqb ends.one ends.one) _ (eqb_self ends.one)))

    second_on : On t es ends.next e
    second_on =
        (m, subst (λ (ys : List ℕ). member ends.next ys ≡ true) (sym ends.same) (or_right (eqb ends.next ends.one) _ (or_left (eqb ends.next ends.next) _ (eqb_self ends.next))))

    -- the other edge at a corner of e is another edge, and is reached
    module _ (v : ℕ) (on : On t es v e) where
      abbrev beside : ℕ
      beside = other_edge t v e es

      beside_on : On t es v beside
      beside_on = edge_on t es k v e on

      beside_apart : beside ≡ e → ⊥
      beside_apart = (k.edges v e on).apart

      beside_reached : S beside ≡ true
      beside_reached = spreads e beside v m beside_on.0 on.1 beside_on.1 s

    two_at_least : 2 ≤ length (keep S es)
    two_at_least =
        let a = ends.one in
        let y = beside a first_on in
        let p = fewer_by_one S es e m s in
        let q = fewer_by_one (without S e) es y (beside_on a first_on).0 (still S e y (beside_reached a first_on) (beside_apart a first_on)) in
        omega (arith, p, q)

    -- one edge beside e at both of its ends would share both with it
    unlike : Untwinned t es → beside ends.next second_on ≡ beside ends.one first_on → ⊥
    unlike lone q =
        let y = beside_on ends.one first_on in
        let z = beside_on ends.next second_on in
        beside_apart ends.one first_on
        (lone (beside ends.one first_on) e y.0 m
        (both_ends (boundary t (beside ends.one first_on)) (l.ends (beside ends.one first_on) y.0) ends.one ends.next ends.apart y.1
        (subst (λ (x : ℕ). member ends.next (boundary t x) ≡ true) q z.1) ∙ sym ends.same))

    three_at_least : Untwinned t es → 3 ≤ length (keep S es)
    three_at_least lone =
        let y = beside ends.one first_on in
        let z = beside ends.next second_on in
        let in-y = still S e y (beside_reached ends.one first_on) (beside_apart ends.one first_on) in
        let in-z = still S e z (beside_reached ends.next second_on) (beside_apart ends.next second_on) in
        let p = fewer_by_one S es e m s in
        let q = fewer_by_one (without S e) es y (beside_on ends.one first_on).0 in-y in
        let r = fewer_by_one (without (without S e) y) es z (beside_on ends.next second_on).0 (still (without S e) y z in-z (unlike lone)) in
        omega (arith, p, q, r)

  -- what is left over spreads too
  left_over : (S : ℕ → Bool) → Spreads S → Spreads (λ x. not (S x))
  left_over S spreads x y v mx my vx vy h = go (S y) refl
    where
      go : (b : Bool) → S y ≡ b → not (S y) ≡ true
      go true q = absurd (true≢false (sym h ∙ ap not (spreads y x v my mx vy vx q)))
      go false q = ap not q

  together : (n : ℕ) → length es < n + n → ((S : ℕ → Bool) → Spreads S → (e : ℕ) → member e es ≡ true → S e ≡ true → n ≤ length (keep S es)) → HangTogether t es
  together n short least S e m s spreads x mx = go (S x) refl
    where
      go : (b : Bool) → S x ≡ b → S x ≡ true
      go true q = q
      go false q =
          let p = least S spreads e m s in
          let r = least (λ y. not (S y)) (left_over S spreads) x mx (ap not q) in
          let w = two_parts S es in
          absurd (let z : ⊥ = omega (arith, p, r, w, short) in z)

-- ---- so counting is enough

module _ (t : Table) (es : List ℕ) (up : rises es ≡ true) (ends : (e : ℕ) → member e es ≡ true → Two (boundary t e)) (d : ℕ) (lone : 2 < d → Untwinned t es) (short : length es ≤ few d) where
  few_together : Linked t es → HangTogether t es
  few_together l = go (ltb d 3) refl
    where
      go : (b : Bool) → ltb d 3 ≡ b → HangTogether t es
      go true q =
          let n : length es ≤ 3 = subst (λ (c : Bool). length es ≤ cond c 3 5) q short in
          together t es l 2 (omega (arith, n)) (two_at_least t es l)
      go false q =
          let n : length es ≤ 5 = subst (λ (c : Bool). length es ≤ cond c 3 5) q short in
          together t es l 3 (omega (arith, n)) (λ S sp e m s. three_at_least t es l S sp e m s (lone (ltb-false d 3 q)))

  pub few_ring : each_twice t es ≡ closed t 2 es
  few_ring =
      both_ways (each_twice t es) (closed t 2 es)
      (λ h. ring_rule t es up ends (record { twice = twice_each t es h; together = few_together (record { ends = ends; up = up; twice = h }) }))
      (λ h. and_left (each_twice t es) (each_once es (around t es)) h)
