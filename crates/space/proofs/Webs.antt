-- Paths that edges make, joined end to end: each number is met so often, and one that is met less than twice is an end of a path, or a path by itself.
-- `far` is a path's other end, and `root` is alike for what hangs together. No path is closed: so each has its ends, and no two paths share one.
use Prim.Native.Nat.{ℕ, suc, zero, ◌<◌}
use mathlib.Core.Bool.{cond, Bool, true, false}
use mathlib.Core.Path.{◌≡◌, sym, ap, ◌∙◌, refl, subst}
use native.Mathlib.Omega.{arith}
use lib.Dec.{eqb}
use Rattle.rules.proofs.Laws.{eq_test, test_eq, not_eq, unlike_eq}

-- ---- choices

pub data Same (u v : ℕ) : Type 0 where
  yes : u ≡ v → Same u v
  no : (u ≡ v → ⊥) → Same u v

pub same? : (u v : ℕ) → Same u v
same? u v = go (eqb u v) refl
  where
    go : (b : Bool) → eqb u v ≡ b → Same u v
    go true e = yes (eq_test u v e)
    go false e = no (unlike_eq u v e)

-- u is v or w
pub data OneOf (u v w : ℕ) : Type 0 where
  this : u ≡ v → OneOf u v w
  that : u ≡ w → OneOf u v w

cond_yes : (u v p q : ℕ) → u ≡ v → cond (eqb u v) p q ≡ p
cond_yes u v p q e = ap (λ (b : Bool). cond b p q) (test_eq u v e)

cond_no : (u v p q : ℕ) → (u ≡ v → ⊥) → cond (eqb u v) p q ≡ q
cond_no u v p q e = ap (λ (b : Bool). cond b p q) (not_eq u v e)

-- ---- the paths

pub record Web (times far root : ℕ → ℕ) : Type 0 where
  pub alone : (v : ℕ) → times v ≡ 0 → far v ≡ v
  pub away : (v : ℕ) → times v ≡ 1 → far v ≡ v → ⊥
  pub opened : (v : ℕ) → times v < 2 → times (far v) < 2
  pub back : (v : ℕ) → times v < 2 → far (far v) ≡ v
  pub same : (v : ℕ) → times v < 2 → root (far v) ≡ root v
  -- a path has no ends but two
  pub only : (u v : ℕ) → times u < 2 → times v < 2 → root u ≡ root v → OneOf u v (far v)
  -- and what is met lies on one
  pub some : (v : ℕ) → 0 < times v → (o : ℕ) × (times o ≡ 1) × (root o ≡ root v)

pub web_none : Web (λ v. 0) (λ v. v) (λ v. v)
web_none = record {
  alone = λ v e. refl;
  away = λ v e h. let w : ⊥ = omega (arith, e) in w;
  opened = λ v l. l;
  back = λ v l. refl;
  same = λ v l. refl;
  only = λ u v l k e. this e;
  some = λ v l. absurd (let w : ⊥ = omega (arith, l) in w);
}

-- one meeting more of a
abbrev pub more : ℕ → (ℕ → ℕ) → ℕ → ℕ
more a c v = cond (eqb v a) (suc (c v)) (c v)

-- x and y are each other's far ends
abbrev pub linking : ℕ → ℕ → (ℕ → ℕ) → ℕ → ℕ
linking x y far v = cond (eqb v x) y (cond (eqb v y) x (far v))

-- what hung with b hangs with a
abbrev pub hanging : ℕ → ℕ → (ℕ → ℕ) → ℕ → ℕ
hanging a b root v = cond (eqb (root v) (root b)) (root a) (root v)

module _ (times far root : ℕ → ℕ) (W : Web times far root) where
  -- the far end of one that is met once is met once
  pub far_once : (v : ℕ) → times v ≡ 1 → times (far v) ≡ 1
  far_once v e = go (times (far v)) refl
    where
      l₁ : times v < 2
      l₁ = omega (arith, e)

      go : (n : ℕ) → times (far v) ≡ n → times (far v) ≡ 1
      go zero q = absurd (W.away v e (sym (W.alone (far v) q) ∙ W.back v l₁))
      go (suc zero) q = q
      go (suc (suc n)) q = absurd (let l = W.opened v l₁ in let w : ⊥ = omega (arith, l, q) in w)

  -- one whose far end is another is met
  pub met_once : (v : ℕ) → times v < 2 → (far v ≡ v → ⊥) → times v ≡ 1
  met_once v l d = go (times v) refl
    where
      go : (n : ℕ) → times v ≡ n → times v ≡ 1
      go zero q = absurd (d (W.alone v q))
      go (suc zero) q = q
      go (suc (suc n)) q = absurd (let w : ⊥ = omega (arith, l, q) in w)

  -- and one whose far end is itself is not
  unmet : (v : ℕ) → times v < 2 → far v ≡ v → times v ≡ 0
  unmet v l e = go (times v) refl
    where
      go : (n : ℕ) → times v ≡ n → times v ≡ 0
      go zero q = q
      go (suc zero) q = absurd (W.away v q e)
      go (suc (suc n)) q = absurd (let w : ⊥ = omega (arith, l, q) in w)

  module _ (a b : ℕ) (apart : a ≡ b → ⊥) (la : times a < 2) (lb : times b < 2) (unclosed : far a ≡ b → ⊥) where
    abbrev times' : ℕ → ℕ
    times' = more b (more a times)

    abbrev far' : ℕ → ℕ
    far' = linking (far a) (far b) far

    abbrev root' : ℕ → ℕ
    root' = hanging a b root

    pub y_a : far b ≡ a → ⊥
    y_a e = unclosed (sym (ap far e) ∙ W.back b lb)

    pub x_y : far a ≡ far b → ⊥
    x_y e = apart (sym (W.back a la) ∙ ap far e ∙ W.back b lb)

    -- ---- how often

    pub at_a : times' a ≡ suc (times a)
    at_a = cond_no a b (suc (more a times a)) (more a times a) apart ∙ cond_yes a a (suc (times a)) (times a) refl

    pub at_b : times' b ≡ suc (times b)
    at_b = cond_yes b b (suc (more a times b)) (more a times b) refl ∙ ap suc (cond_no b a (suc (times b)) (times b) (λ e. apart (sym e)))

    pub at_other : (v : ℕ) → (v ≡ a → ⊥) → (v ≡ b → ⊥) → times' v ≡ times v
    at_other v p q = cond_no v b (suc (more a times v)) (more a times v) q ∙ cond_no v a (suc (times v)) (times v) p

    pub no_fewer_lem : (v n : ℕ) → times' v < n → times v < n
    no_fewer_lem v n l = go (same? v a) (same? v b)
      where
        go : Same v a → Same v b → times v < n
        go (yes e) q = let z = ap times e in let w = ap times' e in let c = at_a in omega (arith, z, w, c, l)
        go (no d) (yes e) = let z = ap times e in let w = ap times' e in let c = at_b in omega (arith, z, w, c, l)
        go (no d) (no f) = let c = at_other v d f in omega (arith, c, l)

    -- of the two, what is still open was not met
    a_open : times' a < 2 → far a ≡ a
    a_open l = W.alone a (let c = at_a in omega (arith, c, l))

    b_open : times' b < 2 → far b ≡ b
    b_open l = W.alone b (let c = at_b in omega (arith, c, l))

    x_open : times' (far a) < 2
    x_open = go (same? (far a) a)
      where
        go : Same (far a) a → times' (far a) < 2
        go (yes e) = let z = unmet a la e in let c = at_a in let w = ap times' e in omega (arith, z, c, w)
        go (no d) = let c = at_other (far a) d unclosed in let l = W.opened a la in omega (arith, c, l)

    y_open : times' (far b) < 2
    y_open = go (same? (far b) b)
      where
        go : Same (far b) b → times' (far b) < 2
        go (yes e) = let z = unmet b lb e in let c = at_b in let w = ap times' e in omega (arith, z, c, w)
        go (no d) = let c = at_other (far b) y_a d in let l = W.opened b lb in omega (arith, c, l)

    -- ---- the far ends

    pub at_x_lem : (v : ℕ) → v ≡ far a → far' v ≡ far b
    at_x_lem v e = cond_yes v (far a) (far b) _ e

    pub at_y : (v : ℕ) → v ≡ far b → far' v ≡ far a
    at_y v e = cond_no v (far a) (far b) _ (λ q. x_y (sym q ∙ e)) ∙ cond_yes v (far b) (far a) (far v) e

    pub elsewhere : (v : ℕ) → (v ≡ far a → ⊥) → (v ≡ far b → ⊥) → far' v ≡ far v
    elsewhere v p q = cond_no v (far a) (far b) _ p ∙ cond_no v (far b) (far a) (far v) q

    -- where a path's end is none of the four, so is its other end
    not_a : (v : ℕ) → times v < 2 → (v ≡ far a → ⊥) → far v ≡ a → ⊥
    not_a v l p e = p (sym (W.back v l) ∙ ap far e)

    not_b : (v : ℕ) → times v < 2 → (v ≡ far b → ⊥) → far v ≡ b → ⊥
    not_b v l p e = p (sym (W.back v l) ∙ ap far e)

    not_x : (v : ℕ) → times' v < 2 → (v ≡ far a → ⊥) → far v ≡ far a → ⊥
    not_x v l p e =
        let q : v ≡ a = sym (W.back v (no_fewer_lem v 2 l)) ∙ ap far e ∙ W.back a la in
        p (q ∙ sym (a_open (subst (λ (w : ℕ). times' w < 2) q l)))

    not_y : (v : ℕ) → times' v < 2 → (v ≡ far b → ⊥) → far v ≡ far b → ⊥
    not_y v l p e =
        let q : v ≡ b = sym (W.back v (no_fewer_lem v 2 l)) ∙ ap far e ∙ W.back b lb in
        p (q ∙ sym (b_open (subst (λ (w : ℕ). times' w < 2) q l)))

    -- ---- the roots

    pub root_b : (v : ℕ) → root v ≡ root b → root' v ≡ root a
    root_b v e = cond_yes (root v) (root b) (root a) (root v) e

    pub root_a : (v : ℕ) → root v ≡ root a → root' v ≡ root a
    root_a v e = go (same? (root v) (root b))
      where
        go : Same (root v) (root b) → root' v ≡ root a
        go (yes q) = root_b v q
        go (no d) = cond_no (root v) (root b) (root a) (root v) d ∙ e

    root_other : (v : ℕ) → (root v ≡ root b → ⊥) → root' v ≡ root v
    root_other v d = cond_no (root v) (root b) (root a) (root v) d

    pub root_along : (u v : ℕ) → root u ≡ root v → root' u ≡ root' v
    root_along u v e = ap (λ (n : ℕ). cond (eqb n (root b)) (root a) n) e

    pub both_rooted : root' a ≡ root' b
    both_rooted = root_a a refl ∙ sym (root_b b refl)

    -- an end in either class is x or y
    in_a : (u : ℕ) → times' u < 2 → root u ≡ root a → u ≡ far a
    in_a u l e = go (W.only u a (no_fewer_lem u 2 l) la e)
      where
        go : OneOf u a (far a) → u ≡ far a
        go (this q) = q ∙ sym (a_open (subst (λ (w : ℕ). times' w < 2) q l))
        go (that q) = q

    in_b : (u : ℕ) → times' u < 2 → root u ≡ root b → u ≡ far b
    in_b u l e = go (W.only u b (no_fewer_lem u 2 l) lb e)
      where
        go : OneOf u b (far b) → u ≡ far b
        go (this q) = q ∙ sym (b_open (subst (λ (w : ℕ). times' w < 2) q l))
        go (that q) = q

    in_either : (u : ℕ) → times' u < 2 → root' u ≡ root a → OneOf u (far a) (far b)
    in_either u l e = go (same? (root u) (root b))
      where
        go : Same (root u) (root b) → OneOf u (far a) (far b)
        go (yes q) = that (in_b u l q)
        go (no d) = this (in_a u l (sym (root_other u d) ∙ e))

    -- ---- joined

    alone' : (v : ℕ) → times' v ≡ 0 → far' v ≡ v
    alone' v e = elsewhere v (λ q. never a at_a (x_a q)) (λ q. never b at_b (y_b q)) ∙ W.alone v zero_v
      where
        never : (c : ℕ) → times' c ≡ suc (times c) → v ≡ c → ⊥
        never c q r = let z = ap times' r in let w : ⊥ = omega (arith, z, q, e) in w

        zero_v : times v ≡ 0
        zero_v = let l = no_fewer_lem v 1 (let w : times' v < 1 = omega (arith, e) in w) in omega (arith, l)

        x_a : v ≡ far a → v ≡ a
        x_a q = sym (W.alone v zero_v) ∙ ap far q ∙ W.back a la

        y_b : v ≡ far b → v ≡ b
        y_b q = sym (W.alone v zero_v) ∙ ap far q ∙ W.back b lb

    away' : (v : ℕ) → times' v ≡ 1 → far' v ≡ v → ⊥
    away' v e h = go (same? v (far a)) (same? v (far b))
      where
        stays : (v ≡ far a → ⊥) → (v ≡ far b → ⊥) → far v ≡ v → Same v a → Same v b → ⊥
        stays p q own (yes r) s = p (sym own ∙ ap far r)
        stays p q own (no r) (yes s) = q (sym own ∙ ap far s)
        stays p q own (no r) (no s) = W.away v (sym (at_other v r s) ∙ e) own

        go : Same v (far a) → Same v (far b) → ⊥
        go (yes p) q = x_y (sym p ∙ sym h ∙ at_x_lem v p)
        go (no p) (yes q) = x_y (sym (at_y v q) ∙ h ∙ q)
        go (no p) (no q) = stays p q (sym (elsewhere v p q) ∙ h) (same? v a) (same? v b)

    opened' : (v : ℕ) → times' v < 2 → times' (far' v) < 2
    opened' v l = go (same? v (far a)) (same? v (far b))
      where
        go : Same v (far a) → Same v (far b) → times' (far' v) < 2
        go (yes p) q = subst (λ (w : ℕ). times' w < 2) (sym (at_x_lem v p)) y_open
        go (no p) (yes q) = subst (λ (w : ℕ). times' w < 2) (sym (at_y v q)) x_open
        go (no p) (no q) =
            let o = no_fewer_lem v 2 l in
            subst (λ (w : ℕ). times' w < 2) (sym (elsewhere v p q)) (subst (λ (n : ℕ). n < 2) (sym (at_other (far v) (not_a v o p) (not_b v o q))) (W.opened v o))

    back' : (v : ℕ) → times' v < 2 → far' (far' v) ≡ v
    back' v l = go (same? v (far a)) (same? v (far b))
      where
        go : Same v (far a) → Same v (far b) → far' (far' v) ≡ v
        go (yes p) q = ap far' (at_x_lem v p) ∙ at_y (far b) refl ∙ sym p
        go (no p) (yes q) = ap far' (at_y v q) ∙ at_x_lem (far a) refl ∙ sym q
        go (no p) (no q) = ap far' (elsewhere v p q) ∙ elsewhere (far v) (not_x v l p) (not_y v l q) ∙ W.back v (no_fewer_lem v 2 l)

    x_root : root (far a) ≡ root a
    x_root = W.same a la

    y_root : root (far b) ≡ root b
    y_root = W.same b lb

    same' : (v : ℕ) → times' v < 2 → root' (far' v) ≡ root' v
    same' v l = go (same? v (far a)) (same? v (far b))
      where
        go : Same v (far a) → Same v (far b) → root' (far' v) ≡ root' v
        go (yes p) q = ap root' (at_x_lem v p) ∙ root_b (far b) y_root ∙ sym (root_a v (ap root p ∙ x_root))
        go (no p) (yes q) = ap root' (at_y v q) ∙ root_a (far a) x_root ∙ sym (root_b v (ap root q ∙ y_root))
        go (no p) (no q) = ap root' (elsewhere v p q) ∙ root_along (far v) v (W.same v (no_fewer_lem v 2 l))

    only' : (u v : ℕ) → times' u < 2 → times' v < 2 → root' u ≡ root' v → OneOf u v (far' v)
    only' u v lu lv e = go (same? (root' v) (root a))
      where
        pick : OneOf u (far a) (far b) → OneOf v (far a) (far b) → OneOf u v (far' v)
        pick (this p) (this q) = this (p ∙ sym q)
        pick (this p) (that q) = that (p ∙ sym (at_y v q))
        pick (that p) (this q) = that (p ∙ sym (at_x_lem v q))
        pick (that p) (that q) = this (p ∙ sym q)

        old : (root' v ≡ root a → ⊥) → OneOf u v (far v) → OneOf u v (far' v)
        old p (this q) = this q
        old p (that q) = that (q ∙ sym (elsewhere v (λ r. p (root_a v (ap root r ∙ x_root))) (λ r. p (root_b v (ap root r ∙ y_root)))))

        go : Same (root' v) (root a) → OneOf u v (far' v)
        go (yes p) = pick (in_either u lu (e ∙ p)) (in_either v lv p)
        go (no p) = old p (W.only u v (no_fewer_lem u 2 lu) (no_fewer_lem v 2 lv) (sym (root_other u (λ q. p (sym e ∙ root_b u q))) ∙ e ∙ root_other v (λ q. p (root_b v q))))

    some' : (v : ℕ) → 0 < times' v → (o : ℕ) × (times' o ≡ 1) × (root' o ≡ root' v)
    some' v l = go (times v) refl (same? v a) (same? v b)
      where
        -- an end that was there, or the far end of its path
        kept : (o : ℕ) → times o ≡ 1 → root o ≡ root v → Same o a → Same o b → (o' : ℕ) × (times' o' ≡ 1) × (root' o' ≡ root' v)
        kept o q r (yes p) s =
            let ta : times a ≡ 1 = sym (ap times p) ∙ q in
            (far a, at_other (far a) (W.away a ta) unclosed ∙ far_once a ta, root_along (far a) v (x_root ∙ ap root (sym p) ∙ r))
        kept o q r (no p) (yes s) =
            let tb : times b ≡ 1 = sym (ap times s) ∙ q in
            (far b, at_other (far b) y_a (W.away b tb) ∙ far_once b tb, root_along (far b) v (y_root ∙ ap root (sym s) ∙ r))
        kept o q r (no p) (no s) = (o, at_other o p s ∙ q, root_along o v r)

        go : (n : ℕ) → times v ≡ n → Same v a → Same v b → (o : ℕ) × (times' o ≡ 1) × (root' o ≡ root' v)
        go zero q (yes p) s = (v, ap times' p ∙ at_a ∙ ap suc (sym (ap times p) ∙ q), refl)
        go zero q (no p) (yes s) = (v, ap times' s ∙ at_b ∙ ap suc (sym (ap times s) ∙ q), refl)
        go zero q (no p) (no s) = absurd (let z = at_other v p s in let w : ⊥ = omega (arith, z, q, l) in w)
        go (suc n) q p s = let f = W.some v (let w : 0 < times v = omega (arith, q) in w) in kept f.0 f.1 f.2 (same? f.0 a) (same? f.0 b)

    -- the two far ends are met once
    pub x_once : times' (far a) ≡ 1
    x_once = go (times' (far a)) refl
      where
        go : (n : ℕ) → times' (far a) ≡ n → times' (far a) ≡ 1
        go zero q = absurd (x_y (sym (alone' (far a) q) ∙ at_x_lem (far a) refl))
        go (suc zero) q = q
        go (suc (suc n)) q = absurd (let l = x_open in let w : ⊥ = omega (arith, l, q) in w)

    pub y_once : times' (far b) ≡ 1
    y_once = go (times' (far b)) refl
      where
        go : (n : ℕ) → times' (far b) ≡ n → times' (far b) ≡ 1
        go zero q = absurd (x_y (sym (at_y (far b) refl) ∙ alone' (far b) q))
        go (suc zero) q = q
        go (suc (suc n)) q = absurd (let l = y_open in let w : ⊥ = omega (arith, l, q) in w)

    pub join : Web times' far' root'
    join = record { alone = alone'; away = away'; opened = opened'; back = back'; same = same'; only = only'; some = some' }
