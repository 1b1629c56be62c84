-- What the paths tell of the face: test 7 as the code makes it is one ring, in each of its four ends.
use Prim.Native.Nat.{ℕ, ◌+◌, ◌-◌, suc, zero, ◌<◌, ◌*◌, ◌≤◌}
use mathlib.Core.Bool.{cond, Bool, true, false, ◌&&◌}
use mathlib.Core.List.{List, ◌∷◌, [], ◌++◌}
use mathlib.Core.Path.{◌≡◌, sym, ap, ap₂, ◌∙◌, refl, subst}
use native.Mathlib.Omega.{arith}
use lib.Dec.{eqb}
use lib.ListN.{length, drop, get_or}
use lib.Seq.{drop-length}
use Rattle.rules.specs.Lists.{occurrences, any, member, rises}
use Rattle.rules.specs.Table.{Table, boundary}
use Rattle.rules.specs.Walk.{ends_of}
use Rattle.rules.specs.Rings.{HangTogether, Ring}
use Rattle.rules.proofs.FaceEdges.{Two, met_end}
use Rattle.rules.proofs.Laws.{eq_test, test_eq, not_eq, and_true, and_left, and_right, eqb_self, refute, both_ways}
use Rattle.rules.proofs.Reach.{some_at, at_some, some_of_lem, any_at}
use Rattle.rules.proofs.RingWalked.{rule_ring, ring_rule}
use Rattle.space.specs.Closed.{EndsLow, first_end, second_end, raw_ends, as_edges, ring_raw, joining}
use Rattle.space.specs.declared.closed.Joined.{Joined}
use Rattle.space.specs.declared.closed.Joined.TheVariants.{Met, Closes, Thrice}
use Rattle.space.proofs.Sums.{sum_to, sum_zeros, zeros_sum}
use Rattle.space.proofs.TwiceMet.{boundary_as}
use Rattle.space.proofs.Webs.{Same, yes, no, same?, OneOf, this, that, more, met_once}
use Rattle.space.proofs.PathsJoined.{Paths, Told, third, closes, joins, told, balanced, whole'}
use Rattle.space.proofs.Meetings.{met_in, in_met, End, end_case, first_end_lem, second_end_lem, ends_in, ends_later, spare, spare_none, spares}

-- ---- the face

module _ (es edges : List ℕ) (up : rises edges ≡ true) (fine : (j : ℕ) → j < length edges → (get_or edges j 0 < 512) × EndsLow es (get_or edges j 0)) where
  abbrev t : Table
  t = as_edges es

  at : (j : ℕ) → j < length edges → boundary (as_edges es) (get_or edges j 0) ≡ first_end es (get_or edges j 0) ∷ second_end es (get_or edges j 0) ∷ []
  at j l = boundary_as es (get_or edges j 0) (fine j l).0

  place : (e : ℕ) → member e edges ≡ true → (j : ℕ) × (j < length edges) × (e ≡ get_or edges j 0)
  place e m = let a = some_at (eqb e) edges m in (a.0, a.1, eq_test e (get_or edges a.0 0) a.2)

  listed : (j : ℕ) → j < length edges → member (get_or edges j 0) edges ≡ true
  listed j l = at_some (eqb (get_or edges j 0)) edges j l (eqb_self (get_or edges j 0))

  two_at : (e : ℕ) → member e edges ≡ true → Two (boundary (as_edges es) e)
  two_at e m =
      let a = place e m in
      subst (λ (x : ℕ). Two (boundary (as_edges es) x)) (sym a.2) (record { one = _; next = _; same = at a.0 a.1; apart = (fine a.0 a.1).1.apart })

  ends_are : ends_of (as_edges es) edges ≡ raw_ends es edges
  unfolding raw_ends
  ends_are = go edges at
    where
      go : (l : List ℕ) → ((j : ℕ) → j < length l → boundary (as_edges es) (get_or l j 0) ≡ first_end es (get_or l j 0) ∷ second_end es (get_or l j 0) ∷ []) → ends_of (as_edges es) l ≡ raw_ends es l
      go [] h = refl
      go (x ∷ xs) h = ap₂ (λ (p q : List ℕ). p ++ q) (h 0 (omega arith)) (go xs (λ j l. h (suc j) (omega (arith, l))))

  -- every corner that is met is met twice
  module _ (h : ring_raw es edges ≡ true) where
    ring : Ring (as_edges es) edges
    ring = rule_ring (as_edges es) edges up two_at h

    met_twice_lem : (v : ℕ) → 0 < occurrences v (raw_ends es edges) → occurrences v (raw_ends es edges) ≡ 2
    met_twice_lem v o =
        subst (λ (l : List ℕ). member v l ≡ true → occurrences v l ≡ 2) ends_are (ring.twice v) (in_met v (raw_ends es edges) o)

  -- what is alike for the ends of each edge is alike for all: so the edges hang together
  hang_of : ((T : ℕ → Bool) → ((j : ℕ) → j < length edges → T (first_end es (get_or edges j 0)) ≡ T (second_end es (get_or edges j 0)))
      → (i j : ℕ) → i < length edges → j < length edges → T (first_end es (get_or edges i 0)) ≡ T (first_end es (get_or edges j 0))) → HangTogether (as_edges es) edges
  hang_of alike S e m z share x n =
      let a = place e m in
      let c = place x n in
      ap S c.2 ∙ sym (tells c.0 c.1 (first_end es (get_or edges c.0 0)) (first_end_lem es (get_or edges c.0 0)))
      ∙ alike T (λ j l. tells j l (first_end es (get_or edges j 0)) (first_end_lem es (get_or edges j 0)) ∙ sym (tells j l (second_end es (get_or edges j 0)) (second_end_lem es (get_or edges j 0)))) c.0 a.0 c.1 a.1
      ∙ tells a.0 a.1 (first_end es (get_or edges a.0 0)) (first_end_lem es (get_or edges a.0 0)) ∙ ap S (sym a.2) ∙ z
    where
      -- a corner on an edge of S
      T : ℕ → Bool
      T v = any (λ d. S d && member v (boundary (as_edges es) d)) edges

      tells : (j : ℕ) → j < length edges → (v : ℕ) → End es v (get_or edges j 0) → T v ≡ S (get_or edges j 0)
      tells j l v q =
          let on : member v (boundary (as_edges es) (get_or edges j 0)) ≡ true = subst (λ (ys : List ℕ). member v ys ≡ true) (sym (at j l)) q in
          both_ways (T v) (S (get_or edges j 0))
          (λ k. let w = some_of_lem (λ d. S d && member v (boundary (as_edges es) d)) edges k in
          share w.0 (get_or edges j 0) v w.1 (listed j l) (and_right (S w.0) (member v (boundary (as_edges es) w.0)) w.2) on (and_left (S w.0) (member v (boundary (as_edges es) w.0)) w.2))
          (λ k. any_at (λ d. S d && member v (boundary (as_edges es) d)) edges (get_or edges j 0) (listed j l) (and_true (S (get_or edges j 0)) (member v (boundary (as_edges es) (get_or edges j 0))) k on))

  -- ---- k edges have joined paths

  module _ (s : ℕ) (paths : List ℕ) (twice k : ℕ) (P : Paths es edges s paths twice k) where
    -- all of them, and none closed a path
    pub never_closed : k ≡ length edges → 0 < k → ring_raw es edges ≡ false
    unfolding raw_ends
    never_closed n o = refute (ring_raw es edges) (λ h.
        let a = first_end es (get_or edges 0 0) in
        let f = P.web.some a (let c = counted a in let m = ends_in es edges 0 a (omega (arith, n, o)) (first_end_lem es (get_or edges 0 0)) in omega (arith, c, m)) in
        let c = counted f.0 in
        let one = f.1 in
        let q = met_twice_lem h f.0 (omega (arith, c, one)) in
        let w : ⊥ = omega (arith, c, one, q) in w)
      where
        counted : (v : ℕ) → occurrences v (raw_ends es edges) ≡ P.times v
        counted v =
            let w = P.whole v in
            let z : occurrences v (raw_ends es (drop k edges)) ≡ 0 = ap (λ (l : List ℕ). occurrences v (raw_ends es l)) (ap (λ (j : ℕ). drop j edges) n ∙ drop-length edges) in
            omega (arith, w, z)

    -- nothing to join is a ring
    pub no_edges : (n : ℕ) → length edges ≡ n → k ≡ length edges → eqb n 0 ≡ ring_raw es edges
    no_edges n h q = go n h
      where
        none : (l : List ℕ) → length l ≡ 0 → ring_raw es l ≡ true
        none [] z = refl
        none (x ∷ xs) z = absurd (let w : ⊥ = omega (arith, z) in w)

        go : (m : ℕ) → length edges ≡ m → eqb m 0 ≡ ring_raw es edges
        go zero z = sym (none edges z)
        go (suc m) z = not_eq (suc m) 0 (λ y. let w : ⊥ = omega (arith, y) in w) ∙ sym (never_closed q (let w : 0 < k = omega (arith, q, z) in w))

    module _ (e : ℕ) (l : k < length edges) (is : e ≡ get_or edges k 0) where
      E : EndsLow es e
      E = subst (λ (x : ℕ). EndsLow es x) (sym is) (fine k l).1

      abbrev a : ℕ
      a = first_end es e

      abbrev b : ℕ
      b = second_end es e

      -- a corner is met for the third time
      thrice : (v : ℕ) → End es v e → 1 < P.times v → ring_raw es edges ≡ false
      thrice v m o = refute (ring_raw es edges) (λ h.
          let w = P.whole v in
          let later = ends_later es edges k k v (omega arith) l (subst (λ (x : ℕ). End es v x) is m) in
          let q = met_twice_lem h v (omega (arith, w, o)) in
          let z : ⊥ = omega (arith, w, o, later, q) in z)

      -- ---- the edge closes a path

      module _ (oa : P.times (first_end es e) < 2) (ob : P.times (second_end es e) < 2) (shut : P.far (first_end es e) ≡ second_end es e) where
        apart : a ≡ b → ⊥
        apart q = let p = E.apart in let w : ⊥ = omega (arith, p, q) in w

        back : P.far b ≡ a
        back = ap P.far (sym shut) ∙ P.web.back a oa

        once_a : P.times a ≡ 1
        once_a = met_once P.times P.far P.root P.web a oa (λ q. apart (sym q ∙ shut))

        once_b : P.times b ≡ 1
        once_b = met_once P.times P.far P.root P.web b ob (λ q. apart (sym back ∙ q))

        same_root : P.root a ≡ P.root b
        same_root = sym (P.web.same a oa) ∙ ap P.root shut

        abbrev after : ℕ → ℕ
        after = more b (more a P.times)

        after_a : after a ≡ 2
        after_a =
            ap (λ (c : Bool). cond c (suc (more a P.times a)) (more a P.times a)) (not_eq a b apart)
            ∙ ap (λ (c : Bool). cond c (suc (P.times a)) (P.times a)) (test_eq a a refl) ∙ ap suc once_a

        after_b : after b ≡ 2
        after_b =
            ap (λ (c : Bool). cond c (suc (more a P.times b)) (more a P.times b)) (test_eq b b refl)
            ∙ ap (λ (c : Bool). suc (cond c (suc (P.times b)) (P.times b))) (not_eq b a (λ q. apart (sym q))) ∙ ap suc once_b

        after_other : (v : ℕ) → (v ≡ a → ⊥) → (v ≡ b → ⊥) → after v ≡ P.times v
        after_other v p q =
            ap (λ (c : Bool). cond c (suc (more a P.times v)) (more a P.times v)) (not_eq v b q)
            ∙ ap (λ (c : Bool). cond c (suc (P.times v)) (P.times v)) (not_eq v a p)

        total : (v : ℕ) → occurrences v (raw_ends es edges) ≡ after v + occurrences v (raw_ends es (drop (k + 1) edges))
        total v = whole' es edges s paths twice k P e l is E v

        -- ---- before the last

        module _ (h : ring_raw es edges ≡ true) (more_left : k + 1 < length edges) where
          -- what hangs with the path is met twice
          full : (c : ℕ) → P.root c ≡ P.root a → 1 < after c
          full c q = go (same? c a) (same? c b)
            where
              go : Same c a → Same c b → 1 < after c
              go (yes p) r = let z = ap after p in let y = after_a in omega (arith, z, y)
              go (no p) (yes r) = let z = ap after r in let y = after_b in omega (arith, z, y)
              go (no p) (no r) = subst (λ (n : ℕ). 1 < n) (sym (after_other c p r)) (many (P.times c) refl)
                where
                  open_not : P.times c < 2 → ⊥
                  open_not o = pick (P.web.only c a o oa q)
                    where
                      pick : OneOf c a (P.far a) → ⊥
                      pick (this z) = p z
                      pick (that z) = r (z ∙ shut)

                  many : (n : ℕ) → P.times c ≡ n → 1 < P.times c
                  many zero z = absurd (open_not (let y : P.times c < 2 = omega (arith, z) in y))
                  many (suc zero) z = absurd (open_not (let y : P.times c < 2 = omega (arith, z) in y))
                  many (suc (suc n)) z = omega (arith, z)

          -- so no later edge has it
          earlier : (c j : ℕ) → P.root c ≡ P.root a → j < length edges → End es c (get_or edges j 0) → j < k + 1
          earlier c j q n m = go (same? (k + 1 - j) 0)
            where
              go : Same (k + 1 - j) 0 → j < k + 1
              go (yes z) =
                  absurd (let o = full c q in let w = total c in
                  let later = ends_later es edges (k + 1) j c (let y : k + 1 ≤ j = omega (arith, z) in y) n m in
                  let d = met_twice_lem h c (let y : 0 < occurrences c (raw_ends es edges) = omega (arith, w, o) in y) in
                  let y : ⊥ = omega (arith, o, w, later, d) in y)
              go (no z) = omega (arith, z)

          -- and the two ends of an edge hang together
          level : (j : ℕ) → j < k + 1 → P.root (first_end es (get_or edges j 0)) ≡ P.root (second_end es (get_or edges j 0))
          level j n = go (same? j k)
            where
              go : Same j k → P.root (first_end es (get_or edges j 0)) ≡ P.root (second_end es (get_or edges j 0))
              go (yes q) = subst (λ (x : ℕ). P.root (first_end es x) ≡ P.root (second_end es x)) (is ∙ ap (λ (i : ℕ). get_or edges i 0) (sym q)) same_root
              go (no q) = P.rooted j (let y : j < k = omega (arith, n, q) in y)

          -- an edge with one corner there has its first there
          leads : (c j : ℕ) → P.root c ≡ P.root a → j < length edges → End es c (get_or edges j 0) → P.root (first_end es (get_or edges j 0)) ≡ P.root a
          leads c j q n m =
              end_case es c (get_or edges j 0) m (P.root (first_end es (get_or edges j 0)) ≡ P.root a) (λ p. ap P.root (sym p) ∙ q)
              (λ p. level j (earlier c j q n m) ∙ ap P.root (sym p) ∙ q)

          -- and each of its corners
          spread : (c j : ℕ) → P.root (first_end es (get_or edges j 0)) ≡ P.root a → j < length edges → End es c (get_or edges j 0) → P.root c ≡ P.root a
          spread c j q n m =
              end_case es c (get_or edges j 0) m (P.root c ≡ P.root a) (λ p. ap P.root p ∙ q)
              (λ p. ap P.root p ∙ sym (level j (earlier (first_end es (get_or edges j 0)) j q n (first_end_lem es (get_or edges j 0)))) ∙ q)

          apart_too : ⊥
          apart_too =
              let next = get_or edges (k + 1) 0 in
              let held = (ring h).together S (get_or edges k 0) (listed k l) (test_eq (P.root (first_end es (get_or edges k 0))) (P.root a) (ap (λ (x : ℕ). P.root (first_end es x)) (sym is))) share next (listed (k + 1) more_left) in
              let q = eq_test (P.root (first_end es next)) (P.root a) held in
              let z = earlier (first_end es next) (k + 1) q more_left (first_end_lem es next) in
              let y : ⊥ = omega (arith, z) in y
            where
              S : ℕ → Bool
              S x = eqb (P.root (first_end es x)) (P.root a)

              share : (x y v : ℕ) → member x edges ≡ true → member y edges ≡ true → member v (boundary (as_edges es) x) ≡ true → member v (boundary (as_edges es) y) ≡ true → S x ≡ true → S y ≡ true
              share x y v mx my vx vy sx =
                  let i = place x mx in
                  let j = place y my in
                  let ex : End es v (get_or edges i.0 0) = subst (λ (ys : List ℕ). member v ys ≡ true) (ap (boundary (as_edges es)) i.2 ∙ at i.0 i.1) vx in
                  let ey : End es v (get_or edges j.0 0) = subst (λ (ys : List ℕ). member v ys ≡ true) (ap (boundary (as_edges es)) j.2 ∙ at j.0 j.1) vy in
                  let fx : P.root (first_end es (get_or edges i.0 0)) ≡ P.root a = ap (λ (d : ℕ). P.root (first_end es d)) (sym i.2) ∙ eq_test (P.root (first_end es x)) (P.root a) sx in
                  let rv = spread v i.0 fx i.1 ex in
                  test_eq (P.root (first_end es y)) (P.root a) (ap (λ (d : ℕ). P.root (first_end es d)) j.2 ∙ leads v j.0 rv j.1 ey)

        -- ---- at the last

        module _ (last : k + 1 ≡ length edges) where
          counted : (v : ℕ) → occurrences v (raw_ends es edges) ≡ after v
          unfolding raw_ends
          counted v =
              let w = total v in
              let z : occurrences v (raw_ends es (drop (k + 1) edges)) ≡ 0 = ap (λ (m : List ℕ). occurrences v (raw_ends es m)) (ap (λ (j : ℕ). drop j edges) last ∙ drop-length edges) in
              omega (arith, w, z)

          sums : 2 * (twice + 2) + spares after ≡ 2 * (k + 1)
          sums =
              let q = balanced es edges s paths twice k P e l is E oa ob in
              let x : ◌≡◌ {A = ℕ} (cond (eqb (P.far a) a) 0 1) 1 = ap (λ (c : Bool). cond c 0 1) (not_eq (P.far a) a (λ z. apart (sym z ∙ shut))) in
              let y : ◌≡◌ {A = ℕ} (cond (eqb (P.far b) b) 0 1) 1 = ap (λ (c : Bool). cond c 0 1) (not_eq (P.far b) b (λ z. apart (sym back ∙ z))) in
              omega (arith, q, x, y)

          enough : ring_raw es edges ≡ true → twice + 2 ≡ length edges
          unfolding spares
          enough h =
              let z = sum_zeros 512 (λ v. spare (after v)) (λ v n. none v (after v) refl) in
              let q = sums in
              omega (arith, z, q, last)
            where
              none : (v c : ℕ) → after v ≡ c → spare (after v) ≡ 0
              none v zero q = ap spare q
              none v (suc c) q = let w = counted v in ap spare (sym w ∙ met_twice_lem h v (let z : 0 < occurrences v (raw_ends es edges) = omega (arith, w, q) in z))

          module _ (n : twice + 2 ≡ length edges) where
            both : (v : ℕ) → v < 512 → 0 < after v → after v ≡ 2
            unfolding spares
            both v h o =
                let q = sums in
                spare_none (after v) (zeros_sum 512 v (λ w. spare (after w)) (let z : sum_to 512 (λ w. spare (after w)) ≡ 0 = omega (arith, q, n, last) in z) h) o

            low : (v : ℕ) → 0 < occurrences v (raw_ends es edges) → v < 512
            low v o =
                let m = met_end (as_edges es) edges v (subst (λ (ys : List ℕ). member v ys ≡ true) (sym ends_are) (in_met v (raw_ends es edges) o)) in
                let j = place m.0 m.1.0 in
                let f = (fine j.0 j.1).1 in
                let p = f.apart in
                let q = f.second in
                end_case es v (get_or edges j.0 0) (subst (λ (ys : List ℕ). member v ys ≡ true) (ap (boundary (as_edges es)) j.2 ∙ at j.0 j.1) m.1.1) (v < 512)
                (λ z. omega (arith, z, p, q)) (λ z. omega (arith, z, q))

            twos : (v : ℕ) → 0 < occurrences v (raw_ends es edges) → occurrences v (raw_ends es edges) ≡ 2
            twos v o = let c = counted v in c ∙ both v (low v o) (omega (arith, c, o))

            -- every corner is alike the closing edge's
            alike : (T : ℕ → Bool) → ((j : ℕ) → j < length edges → T (first_end es (get_or edges j 0)) ≡ T (second_end es (get_or edges j 0))) → (v : ℕ) → 0 < occurrences v (raw_ends es edges) → T v ≡ T a
            alike T h v o = go (same? v a) (same? v b)
              where
                edge : T b ≡ T a
                edge = sym (subst (λ (x : ℕ). T (first_end es x) ≡ T (second_end es x)) (sym is) (h k l))

                here : (u : ℕ) → Same u a → Same u b → P.times u ≡ 1 → T u ≡ T a
                here u (yes p) q r = ap T p
                here u (no p) (yes q) r = ap T q ∙ edge
                here u (no p) (no q) r =
                    absurd (let c = counted u in let d = after_other u p q in
                    let w = twos u (let y : 0 < occurrences u (raw_ends es edges) = omega (arith, c, d, r) in y) in
                    let z : ⊥ = omega (arith, c, d, r, w) in z)

                go : Same v a → Same v b → T v ≡ T a
                go (yes p) q = ap T p
                go (no p) (yes q) = ap T q ∙ edge
                go (no p) (no q) =
                    let c = counted v in
                    let d = after_other v p q in
                    let f = P.web.some v (let y : 0 < P.times v = omega (arith, c, d, o) in y) in
                    let col = P.colour T (λ j i. h j (let y : j < length edges = omega (arith, i, l) in y)) in
                    col v ∙ ap T (sym f.2) ∙ sym (col f.0) ∙ here f.0 (same? f.0 a) (same? f.0 b) f.1

            made : ring_raw es edges ≡ true
            made = ring_rule (as_edges es) edges up two_at (record {
              twice = λ v m. let q = subst (λ (ys : List ℕ). member v ys ≡ true) ends_are m in
                  ap (occurrences v) ends_are ∙ twos v (met_in v (raw_ends es edges) q);
              together = hang_of (λ T h i j li lj.
                  alike T h (first_end es (get_or edges i 0)) (ends_in es edges i (first_end es (get_or edges i 0)) li (first_end_lem es (get_or edges i 0)))
                  ∙ sym (alike T h (first_end es (get_or edges j 0)) (ends_in es edges j (first_end es (get_or edges j 0)) lj (first_end_lem es (get_or edges j 0)))));
            })

          last_tells : eqb (twice + 2) (length edges) ≡ ring_raw es edges
          last_tells = both_ways (eqb (twice + 2) (length edges)) (ring_raw es edges) (λ q. made (eq_test (twice + 2) (length edges) q)) (λ h. test_eq (twice + 2) (length edges) (enough h))

      -- ---- by what the call answers

      pub answers_thrice : Thrice ≡ joining s es paths e → ring_raw es edges ≡ false
      answers_thrice q = subst Says (sym q) (go (joining s es paths e) (told es edges s paths twice k P e l is E))
        where
          Says : Joined → Type 0
          Says Thrice = ring_raw es edges ≡ false
          Says Closes = Unit {0}
          Says (Met n) = Unit {0}

          go : (j : Joined) → Told es edges s paths twice k P e l is E j → Says j
          go j (third v m o) = thrice v m o
          go j (closes oa ob f) = tt
          go j (joins oa ob f) = tt

      pub answers_early : Closes ≡ joining s es paths e → k + 1 < length edges → ring_raw es edges ≡ false
      answers_early q more_left = subst Says (sym q) (go (joining s es paths e) (told es edges s paths twice k P e l is E))
        where
          Says : Joined → Type 0
          Says Thrice = Unit {0}
          Says Closes = ring_raw es edges ≡ false
          Says (Met n) = Unit {0}

          go : (j : Joined) → Told es edges s paths twice k P e l is E j → Says j
          go j (third v m o) = tt
          go j (closes oa ob f) = refute (ring_raw es edges) (λ h. apart_too oa ob f h more_left)
          go j (joins oa ob f) = tt

      pub answers_last : Closes ≡ joining s es paths e → k + 1 ≡ length edges → eqb (twice + 2) (length edges) ≡ ring_raw es edges
      answers_last q last = subst Says (sym q) (go (joining s es paths e) (told es edges s paths twice k P e l is E))
        where
          Says : Joined → Type 0
          Says Thrice = Unit {0}
          Says Closes = eqb (twice + 2) (length edges) ≡ ring_raw es edges
          Says (Met n) = Unit {0}

          go : (j : Joined) → Told es edges s paths twice k P e l is E j → Says j
          go j (third v m o) = tt
          go j (closes oa ob f) = last_tells oa ob f last
          go j (joins oa ob f) = tt
