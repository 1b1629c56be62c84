-- The edges of a face join paths, one after another: the face is one ring exactly when no corner is met three times, no edge but the last closes a path,
-- and then as many ends are met for the second time as there are edges. Two for each second meeting, and the spare meetings of each number, make up the ends that are met.
use Prim.Native.Nat.{ℕ, ◌+◌, ◌-◌, suc, zero, ◌<◌, ◌*◌, ◌≤◌}
use mathlib.Core.Bool.{cond, Bool, true, false}
use mathlib.Core.List.{List, ◌∷◌, []}
use mathlib.Core.Path.{◌≡◌, sym, ap, ap₂, ◌∙◌, refl, subst}
use native.Mathlib.Nat.{zero-add}
use native.Mathlib.Omega.{arith}
use lib.Dec.{eqb}
use lib.ListN.{length, drop, get_or, set, length-set}
use lib.Seq.{get_or-set_same, get_or-set_other}
use borrow.Author.Tests.{lt-ltb, le-ltb}
use Rattle.rules.specs.Lists.{occurrences, member}
use Rattle.rules.proofs.Laws.{eq_test, test_eq, not_eq, unlike_eq, or_left, or_right, eqb_self}
use Rattle.space.specs.Closed.{EndsLow, Unmet, Stamped, PathsReady, PathsJoined, EndsJoined, stamp_room, first_end, second_end, raw_ends, far_end, join_code, join_words, path_code, path_words, words_after, joining, joined}
use Rattle.space.specs.declared.closed.Joined.{Joined}
use Rattle.space.specs.declared.closed.Joined.TheVariants.{Met, Closes, Thrice}
use Rattle.space.proofs.Sums.{sum_zeros}
use Rattle.space.proofs.Meetings.{times_cons, ends_on, spare, spares, more_is, spares_more}
use Rattle.space.proofs.Webs.{Same, yes, no, same?, Web, web_none, more, linking, hanging, met_once, join, x_once, y_once, at_a, at_b, at_other, at_x_lem, at_y, elsewhere, root_along, both_rooted}

-- ---- an edge by its two ends

module _ {s : ℕ} {es paths : List ℕ} {e a b : ℕ} (p : a ≡ first_end es e) (q : b ≡ second_end es e) where
  pub edge_paths : EndsLow es e → s < stamp_room → Stamped s paths → PathsReady a b s paths
  edge_paths E l S = record {
    apart = let h = E.apart in let z : a < b = omega (arith, h, p, q) in z;
    second = let h = E.second in let z : b < 512 = omega (arith, h, q) in z;
    stamp = l;
    stamped = S;
  }

  pub edge_joined : {r : Joined} {paths' : List ℕ} → PathsJoined s paths a b r paths' → EndsJoined s es paths e r paths'
  unfolding joining joined
  edge_joined {r} J =
      record { code = J.code ∙ (λ i. path_code s paths (p i) (q i)); words = J.words ∙ (λ i. words_after r paths (path_words s paths (p i) (q i))); most = J.most }

-- ---- the word of a corner

-- what stands at the place of a corner that is met c times and whose path ends in f
abbrev pub Word : ℕ → ℕ → ℕ → ℕ → Type 0
Word s zero f m = m < s
Word s (suc zero) f m = m ≡ s + f
Word s (suc (suc c)) f m = m ≡ s + 512

-- ---- k edges have joined paths

pub record Paths (es edges : List ℕ) (s : ℕ) (paths : List ℕ) (twice k : ℕ) : Type 0 where
  pub times : ℕ → ℕ
  pub far : ℕ → ℕ
  pub root : ℕ → ℕ
  pub web : Web times far root
  pub long : length paths ≡ 512
  pub word : (v : ℕ) → v < 512 → Word s (times v) (far v) (get_or paths v 0)
  pub low : (v : ℕ) → v < 512 → far v < 512
  pub balance : 2 * twice + spares times ≡ 2 * k
  pub whole : (v : ℕ) → occurrences v (raw_ends es edges) ≡ times v + occurrences v (raw_ends es (drop k edges))
  pub rooted : (j : ℕ) → j < k → root (first_end es (get_or edges j 0)) ≡ root (second_end es (get_or edges j 0))
  -- what is alike for the two ends of each edge is alike for what hangs together
  pub colour : (T : ℕ → Bool) → ((j : ℕ) → j < k → T (first_end es (get_or edges j 0)) ≡ T (second_end es (get_or edges j 0))) → (v : ℕ) → T v ≡ T (root v)

pub paths_start : (es edges : List ℕ) (s : ℕ) (paths : List ℕ) → Unmet s paths → Paths es edges s paths 0 0
unfolding spares
paths_start es edges s paths U = record {
  times = λ v. 0;
  far = λ v. v;
  root = λ v. v;
  web = web_none;
  long = U.long;
  word = U.under;
  low = λ v l. l;
  balance = let z = sum_zeros 512 (λ v. 0) (λ w l. refl) in omega (arith, z);
  whole = λ v. sym (zero-add (occurrences v (raw_ends es edges)));
  rooted = λ j l. absurd (let w : ⊥ = omega (arith, l) in w);
  colour = λ T h v. refl;
}

module _ (es edges : List ℕ) (s : ℕ) (paths : List ℕ) (twice k : ℕ) (P : Paths es edges s paths twice k) where
  pub paths_stamped : Stamped s paths
  paths_stamped = record { long = P.long; under = λ v l. go v (P.times v) (P.low v l) (P.word v l) }
    where
      go : (v c : ℕ) → P.far v < 512 → Word s c (P.far v) (get_or paths v 0) → get_or paths v 0 < s + 513
      go v zero f w = omega (arith, w)
      go v (suc zero) f w = omega (arith, f, w)
      go v (suc (suc c)) f w = omega (arith, w)

  pub paths_few : twice ≤ k
  paths_few = let b = P.balance in omega (arith, b)

  -- ---- what is read of a corner

  far_read : (v : ℕ) → v < 512 → P.times v < 2 → far_end s paths v ≡ P.far v
  far_read v l o = go (P.times v) refl (P.word v l)
    where
      go : (c : ℕ) → P.times v ≡ c → Word s c (P.far v) (get_or paths v 0) → far_end s paths v ≡ P.far v
      go zero q w = ap (λ (b : Bool). cond b v (get_or paths v 0 - s)) (lt-ltb (get_or paths v 0) s w) ∙ sym (P.web.alone v q)
      go (suc zero) q w =
          ap (λ (b : Bool). cond b v (get_or paths v 0 - s)) (le-ltb (get_or paths v 0) s (let z : s ≤ get_or paths v 0 = omega (arith, w) in z))
          ∙ (let z : get_or paths v 0 - s ≡ P.far v = omega (arith, w) in z)
      go (suc (suc c)) q w = absurd (let z : ⊥ = omega (arith, q, o) in z)

  -- less than twice where it is not 512
  is_open : (v : ℕ) → v < 512 → (far_end s paths v ≡ 512 → ⊥) → P.times v < 2
  is_open v l d = go (P.times v) refl (P.word v l)
    where
      go : (c : ℕ) → P.times v ≡ c → Word s c (P.far v) (get_or paths v 0) → P.times v < 2
      go zero q w = omega (arith, q)
      go (suc zero) q w = omega (arith, q)
      go (suc (suc c)) q w =
          absurd (d (ap (λ (b : Bool). cond b v (get_or paths v 0 - s)) (le-ltb (get_or paths v 0) s (let z : s ≤ get_or paths v 0 = omega (arith, w) in z))
          ∙ (let z : get_or paths v 0 - s ≡ 512 = omega (arith, w) in z)))

  is_shut : (v : ℕ) → v < 512 → far_end s paths v ≡ 512 → 1 < P.times v
  is_shut v l e = go (P.times v) refl
    where
      go : (c : ℕ) → P.times v ≡ c → 1 < P.times v
      go zero q = absurd (let f = far_read v l (let z : P.times v < 2 = omega (arith, q) in z) in let g = P.low v l in let z : ⊥ = omega (arith, e, f, g) in z)
      go (suc zero) q = absurd (let f = far_read v l (let z : P.times v < 2 = omega (arith, q) in z) in let g = P.low v l in let z : ⊥ = omega (arith, e, f, g) in z)
      go (suc (suc c)) q = omega (arith, q)

  -- ---- one edge more

  module _ (e : ℕ) (l : k < length edges) (at : e ≡ get_or edges k 0) (E : EndsLow es e) where
    abbrev pub v₁ : ℕ
    v₁ = first_end es e

    abbrev pub v₂ : ℕ
    v₂ = second_end es e

    la : v₁ < 512
    la = let p = E.apart in let q = E.second in omega (arith, p, q)

    lb : v₂ < 512
    lb = E.second

    pub apart : v₁ ≡ v₂ → ⊥
    apart q = let p = E.apart in let w : ⊥ = omega (arith, p, q) in w

    -- what the answer tells
    pub data Told : Joined → Type 0 where
      third : (v : ℕ) → member v (v₁ ∷ v₂ ∷ []) ≡ true → 1 < P.times v → Told Thrice
      closes : P.times v₁ < 2 → P.times v₂ < 2 → P.far v₁ ≡ v₂ → Told Closes
      joins : P.times v₁ < 2 → P.times v₂ < 2 → (P.far v₁ ≡ v₂ → ⊥)
          → Told (Met (cond (eqb (P.far v₁) v₁) 0 1 + cond (eqb (P.far v₂) v₂) 0 1))

    pub told : Told (joining s es paths e)
    unfolding joining
    told = go (far_end s paths v₁) (far_end s paths v₂) refl refl (same? (far_end s paths v₁) 512) (same? (far_end s paths v₂) 512)
      where
        first_in : member v₁ (v₁ ∷ v₂ ∷ []) ≡ true
        first_in = or_left (eqb v₁ v₁) _ (eqb_self v₁)

        second_in : member v₂ (v₁ ∷ v₂ ∷ []) ≡ true
        second_in = or_right (eqb v₂ v₁) _ (or_left (eqb v₂ v₂) _ (eqb_self v₂))

        on : (x y : ℕ) → x ≡ P.far v₁ → y ≡ P.far v₂ → P.times v₁ < 2 → P.times v₂ < 2 → (c : Bool) → eqb x v₂ ≡ c
            → Told (cond c Closes (Met (cond (eqb x v₁) 0 1 + cond (eqb y v₂) 0 1)))
        on x y p q oa ob true h = closes oa ob (sym p ∙ eq_test x v₂ h)
        on x y p q oa ob false h =
            subst (λ (n : ℕ). Told (Met n)) (ap₂ (λ (u v : ℕ). cond (eqb u v₁) 0 1 + cond (eqb v v₂) 0 1) (sym p) (sym q))
            (joins oa ob (λ r. unlike_eq x v₂ h (p ∙ r)))

        go : (x y : ℕ) → far_end s paths v₁ ≡ x → far_end s paths v₂ ≡ y → Same x 512 → Same y 512 → Told (join_code v₁ v₂ x y)
        go x y p q (yes f) g =
            subst (λ (c : Bool). Told (cond c Thrice (cond (eqb y 512) Thrice (cond (eqb x v₂) Closes (Met (cond (eqb x v₁) 0 1 + cond (eqb y v₂) 0 1)))))) (sym (test_eq x 512 f))
            (third v₁ first_in (is_shut v₁ la (p ∙ f)))
        go x y p q (no f) (yes g) =
            subst (λ (c : Bool). Told (cond c Thrice (cond (eqb y 512) Thrice (cond (eqb x v₂) Closes (Met (cond (eqb x v₁) 0 1 + cond (eqb y v₂) 0 1)))))) (sym (not_eq x 512 f))
            (subst (λ (c : Bool). Told (cond c Thrice (cond (eqb x v₂) Closes (Met (cond (eqb x v₁) 0 1 + cond (eqb y v₂) 0 1))))) (sym (test_eq y 512 g))
            (third v₂ second_in (is_shut v₂ lb (q ∙ g))))
        go x y p q (no f) (no g) =
            let oa = is_open v₁ la (λ r. f (sym p ∙ r)) in
            let ob = is_open v₂ lb (λ r. g (sym q ∙ r)) in
            subst (λ (c : Bool). Told (cond c Thrice (cond (eqb y 512) Thrice (cond (eqb x v₂) Closes (Met (cond (eqb x v₁) 0 1 + cond (eqb y v₂) 0 1)))))) (sym (not_eq x 512 f))
            (subst (λ (c : Bool). Told (cond c Thrice (cond (eqb x v₂) Closes (Met (cond (eqb x v₁) 0 1 + cond (eqb y v₂) 0 1))))) (sym (not_eq y 512 g))
            (on x y (sym p ∙ far_read v₁ la oa) (sym q ∙ far_read v₂ lb ob) oa ob (eqb x v₂) refl))

    -- ---- what is counted after it

    abbrev pub times' : ℕ → ℕ
    times' = more v₂ (more v₁ P.times)

    half : (v : ℕ) → P.times v < 2 → 2 * cond (eqb (P.far v) v) 0 1 + spare (suc (P.times v)) ≡ spare (P.times v) + 1
    half v o = go (P.times v) refl
      where
        go : (c : ℕ) → P.times v ≡ c → 2 * cond (eqb (P.far v) v) 0 1 + spare (suc c) ≡ spare c + 1
        go zero q = ap (λ (t : Bool). 2 * cond t 0 1 + 1) (test_eq (P.far v) v (P.web.alone v q))
        go (suc zero) q = ap (λ (t : Bool). 2 * cond t 0 1 + 0) (not_eq (P.far v) v (P.web.away v q))
        go (suc (suc c)) q = absurd (let w : ⊥ = omega (arith, q, o) in w)

    pub balanced : P.times v₁ < 2 → P.times v₂ < 2
        → 2 * (twice + (cond (eqb (P.far v₁) v₁) 0 1 + cond (eqb (P.far v₂) v₂) 0 1)) + spares times' ≡ 2 * (k + 1)
    balanced oa ob =
        let p = P.balance in
        let ha = half v₁ oa in
        let hb = half v₂ ob in
        let c : more v₁ P.times v₂ ≡ P.times v₂ =
        ap (λ (t : Bool). cond t (suc (P.times v₂)) (P.times v₂)) (not_eq v₂ v₁ (λ q. apart (sym q))) in
        let m₁ = spares_more P.times v₁ la in
        let m₂ : spares (more v₁ P.times) + spare (suc (P.times v₂)) ≡ spares times' + spare (P.times v₂) =
        subst (λ (n : ℕ). spares (more v₁ P.times) + spare (suc n) ≡ spares times' + spare n) c (spares_more (more v₁ P.times) v₂ lb) in
        omega (arith, p, ha, hb, m₁, m₂)

    pub whole' : (v : ℕ) → occurrences v (raw_ends es edges) ≡ times' v + occurrences v (raw_ends es (drop (k + 1) edges))
    whole' v =
        let rest = raw_ends es (drop (k + 1) edges) in
        let w = P.whole v in
        let on : occurrences v (raw_ends es (drop k edges)) ≡ occurrences v (v₁ ∷ v₂ ∷ rest) =
        ap (occurrences v) (ends_on es edges k l ∙ ap (λ (y : ℕ). first_end es y ∷ second_end es y ∷ rest) (sym at)) in
        let t₁ = times_cons v v₁ (v₂ ∷ rest) in
        let t₂ = times_cons v v₂ rest in
        let m₁ = more_is (eqb v v₁) (P.times v) in
        let m₂ = more_is (eqb v v₂) (more v₁ P.times v) in
        omega (arith, w, on, t₁, t₂, m₁, m₂)

    -- ---- joined

    module _ (oa : P.times v₁ < 2) (ob : P.times v₂ < 2) (unclosed : P.far v₁ ≡ v₂ → ⊥) where
      abbrev far' : ℕ → ℕ
      far' = linking (P.far v₁) (P.far v₂) P.far

      abbrev root' : ℕ → ℕ
      root' = hanging v₁ v₂ P.root

      new : Web times' far' root'
      new = join P.times P.far P.root P.web v₁ v₂ apart oa ob unclosed

      lx : P.far v₁ < 512
      lx = P.low v₁ la

      ly : P.far v₂ < 512
      ly = P.low v₂ lb

      abbrev p₁ : List ℕ
      p₁ = set paths v₁ (s + 512)

      abbrev p₂ : List ℕ
      p₂ = set (set paths v₁ (s + 512)) v₂ (s + 512)

      abbrev p₃ : List ℕ
      p₃ = set (set (set paths v₁ (s + 512)) v₂ (s + 512)) (P.far v₁) (s + P.far v₂)

      abbrev p₄ : List ℕ
      p₄ = join_words s paths v₁ v₂ (P.far v₁) (P.far v₂)

      n₁ : length (set paths v₁ (s + 512)) ≡ 512
      n₁ = length-set paths v₁ (s + 512) ∙ P.long

      n₂ : length (set (set paths v₁ (s + 512)) v₂ (s + 512)) ≡ 512
      n₂ = length-set (set paths v₁ (s + 512)) v₂ (s + 512) ∙ n₁

      n₃ : length (set (set (set paths v₁ (s + 512)) v₂ (s + 512)) (P.far v₁) (s + P.far v₂)) ≡ 512
      n₃ = length-set (set (set paths v₁ (s + 512)) v₂ (s + 512)) (P.far v₁) (s + P.far v₂) ∙ n₂

      n₄ : length (join_words s paths v₁ v₂ (P.far v₁) (P.far v₂)) ≡ 512
      n₄ = length-set (set (set (set paths v₁ (s + 512)) v₂ (s + 512)) (P.far v₁) (s + P.far v₂)) (P.far v₂) (s + P.far v₁) ∙ n₃

      put : (ws : List ℕ) (i w v : ℕ) → length ws ≡ 512 → i < 512 → v ≡ i → get_or (set ws i w) v 0 ≡ w
      put ws i w v n h q = ap (λ (j : ℕ). get_or (set ws i w) j 0) q ∙ get_or-set_same ws i w 0 (let z : i < length ws = omega (arith, n, h) in z)

      as_one : (v f m : ℕ) → times' v ≡ 1 → m ≡ s + f → Word s (times' v) f m
      as_one v f m q h = subst (λ (c : ℕ). Word s c f m) (sym q) h

      as_two : (v f m : ℕ) → times' v ≡ 2 → m ≡ s + 512 → Word s (times' v) f m
      as_two v f m q h = subst (λ (c : ℕ). Word s c f m) (sym q) h

      new_word : (v : ℕ) → v < 512 → Word s (times' v) (far' v) (get_or (join_words s paths v₁ v₂ (P.far v₁) (P.far v₂)) v 0)
      new_word v h =
          go (same? v (P.far v₂)) (same? v (P.far v₁)) (same? v v₂) (same? v v₁)
        where
          over₄ : (v ≡ P.far v₂ → ⊥) → get_or p₄ v 0 ≡ get_or p₃ v 0
          over₄ d = get_or-set_other p₃ (P.far v₂) v (s + P.far v₁) 0 d

          over₃ : (v ≡ P.far v₁ → ⊥) → get_or p₃ v 0 ≡ get_or p₂ v 0
          over₃ d = get_or-set_other p₂ (P.far v₁) v (s + P.far v₂) 0 d

          over₂ : (v ≡ v₂ → ⊥) → get_or p₂ v 0 ≡ get_or p₁ v 0
          over₂ d = get_or-set_other p₁ v₂ v (s + 512) 0 d

          over₁ : (v ≡ v₁ → ⊥) → get_or p₁ v 0 ≡ get_or paths v 0
          over₁ d = get_or-set_other paths v₁ v (s + 512) 0 d

          go : Same v (P.far v₂) → Same v (P.far v₁) → Same v v₂ → Same v v₁ → Word s (times' v) (far' v) (get_or p₄ v 0)
          go (yes p) q r t =
              as_one v (far' v) (get_or p₄ v 0) (ap times' p ∙ y_once P.times P.far P.root P.web v₁ v₂ apart oa ob unclosed)
              (put p₃ (P.far v₂) (s + P.far v₁) v n₃ ly p
              ∙ ap (λ (n : ℕ). s + n) (sym (at_y P.times P.far P.root P.web v₁ v₂ apart oa ob unclosed v p)))
          go (no p) (yes q) r t =
              as_one v (far' v) (get_or p₄ v 0) (ap times' q ∙ x_once P.times P.far P.root P.web v₁ v₂ apart oa ob unclosed)
              (over₄ p ∙ put p₂ (P.far v₁) (s + P.far v₂) v n₂ lx q
              ∙ ap (λ (n : ℕ). s + n) (sym (at_x_lem P.times P.far P.root P.web v₁ v₂ apart oa ob unclosed v q)))
          go (no p) (no q) (yes r) t =
              as_two v (far' v) (get_or p₄ v 0)
              (ap times' r ∙ at_b P.times P.far P.root P.web v₁ v₂ apart oa ob unclosed
              ∙ ap suc (met_once P.times P.far P.root P.web v₂ ob (λ z. p (r ∙ sym z))))
              (over₄ p ∙ over₃ q ∙ put p₁ v₂ (s + 512) v n₁ lb r)
          go (no p) (no q) (no r) (yes t) =
              as_two v (far' v) (get_or p₄ v 0)
              (ap times' t ∙ at_a P.times P.far P.root P.web v₁ v₂ apart oa ob unclosed
              ∙ ap suc (met_once P.times P.far P.root P.web v₁ oa (λ z. q (t ∙ sym z))))
              (over₄ p ∙ over₃ q ∙ over₂ r ∙ put paths v₁ (s + 512) v P.long la t)
          go (no p) (no q) (no r) (no t) =
              let c = at_other P.times P.far P.root P.web v₁ v₂ apart oa ob unclosed v t r in
              let f = elsewhere P.times P.far P.root P.web v₁ v₂ apart oa ob unclosed v q p in
              let m = over₄ p ∙ over₃ q ∙ over₂ r ∙ over₁ t in
              subst (λ (n : ℕ). Word s n (far' v) (get_or p₄ v 0)) (sym c)
              (subst (λ (n : ℕ). Word s (P.times v) n (get_or p₄ v 0)) (sym f) (subst (λ (n : ℕ). Word s (P.times v) (P.far v) n) (sym m) (P.word v h)))

      new_low : (v : ℕ) → v < 512 → far' v < 512
      new_low v h = go (same? v (P.far v₁)) (same? v (P.far v₂))
        where
          go : Same v (P.far v₁) → Same v (P.far v₂) → far' v < 512
          go (yes p) q = subst (λ (n : ℕ). n < 512) (sym (at_x_lem P.times P.far P.root P.web v₁ v₂ apart oa ob unclosed v p)) ly
          go (no p) (yes q) = subst (λ (n : ℕ). n < 512) (sym (at_y P.times P.far P.root P.web v₁ v₂ apart oa ob unclosed v q)) lx
          go (no p) (no q) = subst (λ (n : ℕ). n < 512) (sym (elsewhere P.times P.far P.root P.web v₁ v₂ apart oa ob unclosed v p q)) (P.low v h)

      new_rooted : (j : ℕ) → j < k + 1 → root' (first_end es (get_or edges j 0)) ≡ root' (second_end es (get_or edges j 0))
      new_rooted j h = go (same? j k)
        where
          go : Same j k → root' (first_end es (get_or edges j 0)) ≡ root' (second_end es (get_or edges j 0))
          go (yes q) =
              subst (λ (d : ℕ). root' (first_end es d) ≡ root' (second_end es d)) (at ∙ ap (λ (i : ℕ). get_or edges i 0) (sym q))
              (both_rooted P.times P.far P.root P.web v₁ v₂ apart oa ob unclosed)
          go (no q) =
              root_along P.times P.far P.root P.web v₁ v₂ apart oa ob unclosed (first_end es (get_or edges j 0)) (second_end es (get_or edges j 0))
              (P.rooted j (let z : j < k = omega (arith, h, q) in z))

      new_colour : (T : ℕ → Bool) → ((j : ℕ) → j < k + 1 → T (first_end es (get_or edges j 0)) ≡ T (second_end es (get_or edges j 0))) → (v : ℕ) → T v ≡ T (root' v)
      new_colour T h v = old v ∙ go (eqb (P.root v) (P.root v₂)) refl
        where
          old : (u : ℕ) → T u ≡ T (P.root u)
          old = P.colour T (λ j i. h j (let z : j < k + 1 = omega (arith, i) in z))

          edge : T v₁ ≡ T v₂
          edge = subst (λ (d : ℕ). T (first_end es d) ≡ T (second_end es d)) (sym at) (h k (let z : k < k + 1 = omega arith in z))

          go : (c : Bool) → eqb (P.root v) (P.root v₂) ≡ c → T (P.root v) ≡ T (cond c (P.root v₁) (P.root v))
          go true q = ap T (eq_test (P.root v) (P.root v₂) q) ∙ sym (old v₂) ∙ sym edge ∙ old v₁
          go false q = refl

      joined_is : joined s es paths e ≡ join_words s paths v₁ v₂ (P.far v₁) (P.far v₂)
      unfolding joined
      joined_is = ap₂ (join_words s paths v₁ v₂) (far_read v₁ la oa) (far_read v₂ lb ob)

      next : (after : List ℕ) → after ≡ joined s es paths e
          → Paths es edges s after (twice + (cond (eqb (P.far v₁) v₁) 0 1 + cond (eqb (P.far v₂) v₂) 0 1)) (k + 1)
      next after q = subst
          (λ (ws : List ℕ). Paths es edges s ws (twice + (cond (eqb (P.far v₁) v₁) 0 1 + cond (eqb (P.far v₂) v₂) 0 1)) (k + 1))
          (sym (q ∙ joined_is)) (record {
            times = times';
            far = far';
            root = root';
            web = new;
            long = n₄;
            word = new_word;
            low = new_low;
            balance = balanced oa ob;
            whole = whole';
            rooted = new_rooted;
            colour = new_colour;
          })

    -- by what the call answers
    pub paths_go : (r : ℕ) (after : List ℕ) → Met r ≡ joining s es paths e → after ≡ joined s es paths e → Paths es edges s after (twice + r) (k + 1)
    paths_go r after q h = subst Goes (sym q) (go (joining s es paths e) told)
      where
        Goes : Joined → Type 0
        Goes (Met n) = Paths es edges s after (twice + n) (k + 1)
        Goes Closes = Unit {0}
        Goes Thrice = Unit {0}

        go : (j : Joined) → Told j → Goes j
        go j (third v m c) = tt
        go j (closes oa ob f) = tt
        go j (joins oa ob f) = next oa ob f after h
