-- A walk that is answered goes round the face. A step has one other end and one other edge, so it goes on along the face's edges, and its pairs are their vertices.
-- Every edge is taken once, so the second edge at the start is: it is taken from its other end, and leads to the start, where the walk ends.
use Rattle.std.specs.Prelude.{if◌then◌else◌}
use Prim.Native.Nat.{ℕ, zero, suc, ◌<◌}
use mathlib.Core.Bool.{Bool, true, false, not, ◌||◌, false≢true}
use mathlib.Core.List.{List, [], ◌∷◌, map}
use mathlib.Core.Path.{◌≡◌, refl, sym, ap, subst}
use native.Mathlib.Nat.{suc-ne-zero}
use lib.Dec.{eqb}
use lib.ListN.{length}
use Rattle.rules.specs.Limits.{Limits}
use Rattle.rules.specs.Lists.{keep, member, occurrences}
use Rattle.rules.specs.Table.{Table, boundary, rank, element_count}
use Rattle.rules.specs.Sound.{sound}
use Rattle.rules.specs.Walk.{other_end, other_edge, walk, start_of, around, each_once}
use Rattle.rules.specs.Questions.{Asked, answer, no_answer, pairs, edges_in_order}
use Rattle.rules.specs.Asking.{Paired, Chain, Walked, WalkGoesRound}
use Rattle.rules.proofs.Common.{member_kept, kept_member}
use Rattle.rules.proofs.FaceEdges.{of_all, number, On, Face, start_edge, is_face, linked, starts, start_lowest}
use Rattle.rules.proofs.Laws.{eq_test, unlike_eq, or_case}
use Rattle.rules.specs.declared.Refusal.TheVariants.{NotClosed, Rank}

-- ---- a walk, step by step

-- the corner where some steps from v end
abbrev pub last_corner : ℕ → List (ℕ × ℕ) → ℕ
last_corner v [] = v
last_corner v (s ∷ ss) = last_corner s.1 ss

abbrev pub taken : List (ℕ × ℕ) → List ℕ
taken ss = map (λ (s : ℕ × ℕ). s.0) ss

chained : (t : Table) (v : ℕ) (ss : List (ℕ × ℕ)) → Chain (number t v) (pairs t v ss) (number t (last_corner v ss))
chained t v [] = refl
chained t v (s ∷ ss) = (refl, chained t s.1 ss)

module _ (t : Table) (es : List ℕ) (k : Face t es) where
  pub end_on : (v e : ℕ) → On t es v e → On t es (other_end t v e) e
  end_on v e o = (o.0, (k.ends v e o).listed)

  pub edge_on : (v e : ℕ) → On t es v e → On t es v (other_edge t v e es)
  edge_on v e o = let m = member_kept (λ x. member v (boundary t x)) es (other_edge t v e es) (k.edges v e o).listed in (m.0, m.1)

  pub only_edge : (v e x : ℕ) → On t es v e → On t es v x → (x ≡ e → ⊥) → x ≡ other_edge t v e es
  only_edge v e x o m d = (k.edges v e o).only x (kept_member (λ y. member v (boundary t y)) es x m.0 m.1) d

  module _ (start : ℕ) where
    -- what holds of no steps, of a step to the start, and of a step more in front, holds of a walk
    pub along : (P : ℕ → ℕ → List (ℕ × ℕ) → Type 0) → ((v e : ℕ) → P v e [])
        → ((v e : ℕ) → On t es v e → other_end t v e ≡ start → P v e ((e, other_end t v e) ∷ []))
        → ((v e : ℕ) (ss : List (ℕ × ℕ)) → On t es v e → (other_end t v e ≡ start → ⊥) → P (other_end t v e) (other_edge t (other_end t v e) e es) ss → P v e ((e, other_end t v e) ∷ ss))
        → (n v e : ℕ) → On t es v e → P v e (walk n t es start v e)
    unfolding walk
    along P a b c zero v e o = a v e
    along P a b c (suc n) v e o = go (eqb w start) refl (along P a b c n w x (edge_on w e (end_on v e o)))
      where
        w : ℕ
        w = other_end t v e

        x : ℕ
        x = other_edge t w e es

        go : (q : Bool) → eqb w start ≡ q → P w x (walk n t es start w x) → P v e ((e, w) ∷ (if q then [] else walk n t es start w x))
        go true q h = b v e o (eq_test w start q)
        go false q h = c v e (walk n t es start w x) o (unlike_eq w start q) h

    own : (n v e : ℕ) → On t es v e → (x : ℕ) → member x (taken (walk n t es start v e)) ≡ true → member x es ≡ true
    own =
        along (λ v e ss. (x : ℕ) → member x (taken ss) ≡ true → member x es ≡ true) (λ v e x h. absurd (false≢true h))
        (λ v e o q x h. more v e [] o (λ y z. absurd (false≢true z)) x h) (λ v e ss o d h x m. more v e ss o h x m)
      where
        more : (v e : ℕ) (ss : List (ℕ × ℕ)) → On t es v e → ((x : ℕ) → member x (taken ss) ≡ true → member x es ≡ true)
            → (x : ℕ) → member x (e ∷ taken ss) ≡ true → member x es ≡ true
        more v e ss o h x m = or_case (eqb x e) (member x (taken ss)) m (member x es ≡ true) (λ q. subst (λ (y : ℕ). member y es ≡ true) (sym (eq_test x e q)) o.0) (h x)

    paired : (n v e : ℕ) → On t es v e → Paired t (taken (walk n t es start v e)) (pairs t v (walk n t es start v e))
    paired = along (λ v e ss. Paired t (taken ss) (pairs t v ss)) (λ v e. tt) (λ v e o q. (k.runs v e o, tt)) (λ v e ss o d h. (k.runs v e o, h))

    -- a walk that takes an edge x at the start, not at once from there, ends at the start
    ends_round : (x : ℕ) → member start (boundary t x) ≡ true → (n v e : ℕ) → On t es v e
        → (v ≡ start → x ≡ e → ⊥) → member x (taken (walk n t es start v e)) ≡ true → last_corner v (walk n t es start v e) ≡ start
    ends_round x m =
        along (λ v e ss. (v ≡ start → x ≡ e → ⊥) → member x (taken ss) ≡ true → last_corner v ss ≡ start) (λ v e d h. absurd (false≢true h)) (λ v e o q d h. q)
        (λ v e ss o far later d h. or_case (eqb x e) (member x (taken ss)) h (last_corner (other_end t v e) ss ≡ start)
        (λ q. let z = eq_test x e q in absurd (far (sym ((k.ends v e o).only start (subst (λ (y : ℕ). member start (boundary t y) ≡ true) z m) (λ a. d (sym a) z)))))
        (later (λ a. absurd (far a))))

-- ---- every edge is taken once

met_once : (x : ℕ) (xs : List ℕ) → occurrences x xs ≡ 1 → member x xs ≡ true
met_once x [] n = absurd (suc-ne-zero 0 (sym n))
met_once x (y ∷ ys) n = go (eqb x y) n (met_once x ys)
  where
    go : (b : Bool) → length (if b then y ∷ keep (eqb x) ys else keep (eqb x) ys) ≡ 1 → (occurrences x ys ≡ 1 → member x ys ≡ true) → (b || member x ys) ≡ true
    go true n later = refl
    go false n later = later n

abbrev given : Asked (List (ℕ × ℕ)) → List (ℕ × ℕ)
given (no_answer n) = []
given (answer ps) = ps

abbrev answered : Asked (List (ℕ × ℕ)) → Bool
answered (no_answer n) = false
answered (answer ps) = true

-- what an answer tells
pub record Told (t : Table) (f : ℕ) (ps : List (ℕ × ℕ)) : Type 0 where
  pub ranked : rank t f ≡ 2
  pub each : each_once (boundary t f) (around t (boundary t f)) ≡ true
  pub same : pairs t (start_of t (boundary t f)) (around t (boundary t f)) ≡ ps

pub told : (t : Table) (f : ℕ) (ps : List (ℕ × ℕ)) → edges_in_order t f ≡ answer ps → Told t f ps
unfolding edges_in_order
told t f ps h = go (eqb (rank t f) 2) (each_once (boundary t f) (around t (boundary t f))) refl refl h
  where
    go : (a b : Bool) → eqb (rank t f) 2 ≡ a → each_once (boundary t f) (around t (boundary t f)) ≡ b
        → (if not a then no_answer Rank else if b then answer (pairs t (start_of t (boundary t f)) (around t (boundary t f))) else no_answer NotClosed) ≡ answer ps → Told t f ps
    go false b r e k = absurd (false≢true (ap answered k))
    go true false r e k = absurd (false≢true (ap answered k))
    go true true r e k = record { ranked = eq_test (rank t f) 2 r; each = e; same = ap given k }

module _ (t : Table) (es : List ℕ) (k : Face t es) (o : On t es (start_of t es) (start_edge t es)) (h : each_once es (around t es) ≡ true) where
  once : (e : ℕ) → member e es ≡ true → occurrences e (taken (around t es)) ≡ 1
  once e m = eq_test (occurrences e (taken (around t es))) 1 (of_all (λ x. eqb (occurrences x (taken (around t es))) 1) es e h m)

  pub all_taken : (e : ℕ) → member e es ≡ true → member e (taken (around t es)) ≡ true
  all_taken e m = met_once e (taken (around t es)) (once e m)

  -- by the second edge at the start
  pub comes_back : last_corner (start_of t es) (around t es) ≡ start_of t es
  comes_back =
      let x = edge_on t es k (start_of t es) (start_edge t es) o in
      ends_round t es k (start_of t es) (other_edge t (start_of t es) (start_edge t es) es) x.1 (length es) (start_of t es) (start_edge t es) o
      (λ a. (k.edges (start_of t es) (start_edge t es) o).apart) (all_taken (other_edge t (start_of t es) (start_edge t es) es) x.0)

module _ (L : Limits) (t : Table) (s : sound L t ≡ true) (f : ℕ) (u : f < element_count t) (r : rank t f ≡ 2) (h : each_once (boundary t f) (around t (boundary t f)) ≡ true) where
  goes_round : Walked t f (pairs t (start_of t (boundary t f)) (around t (boundary t f)))
  goes_round =
      let es = boundary t f in
      let v = start_of t es in
      let k = is_face t es (linked L t s f u r) in
      let o = starts L t s f u r in
      record {
        edges = taken (around t es);
        once = once t es k o h;
        own = own t es k v (length es) v (start_edge t es) o;
        ends = paired t es k v (length es) v (start_edge t es) o;
        round = subst (λ (a : ℕ). Chain a (pairs t v (around t es)) a) (sym (start_lowest L t s f u r))
            (subst (λ (b : ℕ). Chain (number t v) (pairs t v (around t es)) (number t b)) (comes_back t es k o h) (chained t v (around t es)));
      }

pub walk_goes_round : (L : Limits) → WalkGoesRound L
walk_goes_round L t s f ps u h = let a = told t f ps h in subst (Walked t f) a.same (goes_round L t s f u a.ranked a.each)
