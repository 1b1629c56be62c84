-- One table goes on from another: the same dimension, and each list begins with the old one.
-- So an old entry keeps its number and content, and what looks only at old entries sees the same.
use Rattle.std.specs.Prelude.{if◌then◌else◌}
use Prim.Native.Nat.{◌+◌, ◌≤◌, ℕ, ◌<◌, zero, suc}
use mathlib.Core.Bool.{Bool, true, false, not, ◌&&◌}
use mathlib.Core.List.{List, [], append-nil, ◌++◌, append_assoc, ◌∷◌}
use mathlib.Core.Path.{refl, sym, ap, ◌∙◌, ◌≡◌, ap₂}
use native.Mathlib.Nat.{le_trans}
use native.Mathlib.Omega.{arith}
use lib.Dec.{ltb, eqb}
use lib.Ieee.{Float}
use lib.ListN.{length, length-append, get_or, get_or-append}
use Rattle.rules.specs.Lists.{with_member, all, keep, member, occurrences}
use Rattle.rules.specs.Table.{Table, element, element_count, Element, corner, rank, rank_of, boundary, boundary_of, Plane}
use Rattle.rules.specs.Walk.{ends_of, edges_at, other_end, other_edge, walk, first_edge, lowest_of, start_of, around, each_once}
use Rattle.rules.specs.Sound.{closed}
use Rattle.rules.specs.Cut.{with_element, with_point, with_plane}
use Rattle.rules.specs.Held.{Begins, Extends}
use Rattle.rules.proofs.Laws.{either}

pub begins_refl : {A : Type 0} (xs : List A) → Begins xs xs
begins_refl xs = ([], sym (append-nil xs))

pub begins_trans : {A : Type 0} (xs ys zs : List A) → Begins xs ys → Begins ys zs → Begins xs zs
begins_trans {A} xs ys zs p q =
    (p.0 ++ q.0, q.1 ∙ ap (λ (l : List A). l ++ q.0) p.1 ∙ append_assoc xs p.0 q.0)

pub extends_refl : (t : Table) → Extends t t
extends_refl t = record {
  dimension = refl;
  points = begins_refl t.points;
  elements = begins_refl t.elements;
  planes = begins_refl t.planes;
}

pub extends_trans : {a b c : Table} → Extends a b → Extends b c → Extends a c
extends_trans {a} {b} {c} p q = record {
  dimension = q.dimension ∙ p.dimension;
  points = begins_trans a.points b.points c.points p.points q.points;
  elements = begins_trans a.elements b.elements c.elements p.elements q.elements;
  planes = begins_trans a.planes b.planes c.planes p.planes q.planes;
}

-- ---- old entries are as they were

pub begins_length : {A : Type 0} (xs ys : List A) → Begins xs ys → length xs ≤ length ys
begins_length xs ys b =
    let e : length ys ≡ length xs + length b.0 = ap length b.1 ∙ length-append xs b.0 in omega arith

pub count_more : {t l : Table} → Extends t l → element_count t ≤ element_count l
count_more {t} {l} x = begins_length t.elements l.elements x.elements

-- an old entry is as it was
pub element_same : (t l : Table) (e : ℕ) → Extends t l → e < element_count t → element l e ≡ element t e
element_same t l e x h =
    ap (λ (xs : List Element). get_or xs e (corner 0)) x.elements.1 ∙ get_or-append t.elements x.elements.0 (corner 0) e h

pub rank_same : (t l : Table) (e : ℕ) → Extends t l → e < element_count t → rank l e ≡ rank t e
rank_same t l e x h = ap rank_of (element_same t l e x h)

abbrev pub Below : ℕ → List ℕ → Type 0
Below n [] = Unit {0}
Below n (x ∷ xs) = (x < n) × Below n xs

pub below_more : {n m : ℕ} (xs : List ℕ) → n ≤ m → Below n xs → Below m xs
below_more [] l h = tt
below_more (x ∷ xs) l h = (le_trans h.0 l, below_more xs l h.1)

pub below_if : (n : ℕ) (b : Bool) (xs ys : List ℕ) → Below n xs → Below n ys → Below n (if b then xs else ys)
below_if n true xs ys p q = p
below_if n false xs ys p q = q

pub below_with : (n x : ℕ) (xs : List ℕ) → x < n → Below n xs → Below n (with_member x xs)
below_with n x [] l h = (l, tt)
below_with n x (y ∷ ys) l h =
    below_if n (ltb x y) (x ∷ y ∷ ys) _ (l, h) (below_if n (eqb x y) (y ∷ ys) (y ∷ with_member x ys) h (h.0, below_with n x ys l h.1))

pub below_get : (n : ℕ) (xs : List ℕ) (k : ℕ) → zero < n → Below n xs → get_or xs k 0 < n
below_get n [] k z h = z
below_get n (x ∷ xs) zero z h = h.0
below_get n (x ∷ xs) (suc k) z h = below_get n xs k z h.1

pub ends_same : (t l : Table) (b : List ℕ) → Extends t l → Below (element_count t) b → ends_of l b ≡ ends_of t b
ends_same t l [] x h = refl
ends_same t l (e ∷ es) x h = ap₂ (λ (p q : List ℕ). p ++ q) (ap boundary_of (element_same t l e x h.0)) (ends_same t l es x h.1)

-- ---- and so does the walk along old edges

below_keep : (n : ℕ) (p : ℕ → Bool) (xs : List ℕ) → Below n xs → Below n (keep p xs)
below_keep n p [] h = tt
below_keep n p (x ∷ xs) h = below_if n (p x) (x ∷ keep p xs) (keep p xs) (h.0, below_keep n p xs h.1) (below_keep n p xs h.1)

module _ (t l : Table) (g : Extends t l) (es : List ℕ) (old : Below (element_count t) es) where
  at_same : (v : ℕ) → edges_at l v es ≡ edges_at t v es
  at_same v = go es old
    where
      go : (xs : List ℕ) → Below (element_count t) xs → edges_at l v xs ≡ edges_at t v xs
      go [] h = refl
      go (x ∷ xs) h =
          ap₂ (λ (b : List ℕ) (r : List ℕ). if member v b then x ∷ r else r) (ap boundary_of (element_same t l x g h.0)) (go xs h.1)

  end_same : (v e : ℕ) → e < element_count t → other_end l v e ≡ other_end t v e
  end_same v e u = ap (λ (b : List ℕ). if eqb (get_or b 0 0) v then get_or b 1 0 else get_or b 0 0) (ap boundary_of (element_same t l e g u))

  other_same : (w e : ℕ) → other_edge l w e es ≡ other_edge t w e es
  other_same w e = ap (λ (xs : List ℕ). get_or (keep (λ x. not (eqb x e)) xs) 0 0) (at_same w)

  module _ (some : 0 < element_count t) where
    walk_same : (n start v e : ℕ) → e < element_count t → walk n l es start v e ≡ walk n t es start v e
    unfolding walk
    walk_same zero start v e u = refl
    walk_same (suc n) start v e u =
        let w = other_end t v e in
        let d = other_edge t w e es in
        let used : d < element_count t = below_get (element_count t) (keep (λ x. not (eqb x e)) (edges_at t w es)) 0 some
        (below_keep (element_count t) (λ x. not (eqb x e)) (edges_at t w es) (below_keep (element_count t) (λ x. member w (boundary t x)) es old)) in
        ap (λ (w' : ℕ). (e, w') ∷ (if eqb w' start then [] else walk n l es start w' (other_edge l w' e es))) (end_same v e u)
        ∙ ap (λ (rest : List (ℕ × ℕ)). (e, w) ∷ (if eqb w start then [] else rest)) (ap (walk n l es start w) (other_same w e) ∙ walk_same n start w d used)

    first_same : (v : ℕ) → first_edge l v es ≡ first_edge t v es
    first_same v =
        let a = get_or (edges_at t v es) 0 0 in
        let b = get_or (edges_at t v es) 1 0 in
        let ua : a < element_count t = below_get (element_count t) (edges_at t v es) 0 some (below_keep (element_count t) (λ x. member v (boundary t x)) es old) in
        let ub : b < element_count t = below_get (element_count t) (edges_at t v es) 1 some (below_keep (element_count t) (λ x. member v (boundary t x)) es old) in
        ap (λ (xs : List ℕ). if ltb (other_end l v (get_or xs 1 0)) (other_end l v (get_or xs 0 0)) then get_or xs 1 0 else get_or xs 0 0) (at_same v)
        ∙ ap₂ (λ (p q : ℕ). if ltb p q then b else a) (end_same v b ub) (end_same v a ua)

    first_used : (v : ℕ) → first_edge t v es < element_count t
    first_used v =
        let h = below_keep (element_count t) (λ x. member v (boundary t x)) es old in
        either (λ (x : ℕ). x < element_count t) (ltb (other_end t v (get_or (edges_at t v es) 1 0)) (other_end t v (get_or (edges_at t v es) 0 0))) _ _
        (below_get (element_count t) (edges_at t v es) 1 some h) (below_get (element_count t) (edges_at t v es) 0 some h)

    around_same : around l es ≡ around t es
    around_same =
        ap (λ (ends : List ℕ). walk (length es) l es (lowest_of ends) (lowest_of ends) (first_edge l (lowest_of ends) es)) (ends_same t l es g old)
        ∙ ap (walk (length es) l es (start_of t es) (start_of t es)) (first_same (start_of t es))
        ∙ walk_same (length es) (start_of t es) (start_of t es) (first_edge t (start_of t es) es) (first_used (start_of t es))

pub closed_same : (t l : Table) (r : ℕ) (b : List ℕ) → Extends t l → Below (element_count t) b → closed l r b ≡ closed t r b
closed_same t l zero b x h = refl
closed_same t l (suc zero) b x h = refl
closed_same t l (suc (suc zero)) [] x h = refl
closed_same t l (suc (suc zero)) (e ∷ es) x h =
    ap₂ (λ (ends : List ℕ) (steps : List (ℕ × ℕ)). all (λ v. eqb (occurrences v ends) 2) ends && each_once (e ∷ es) steps)
    (ends_same t l (e ∷ es) x h) (around_same t l x (e ∷ es) h (let u = h.0 in omega (arith, u)))
closed_same t l (suc (suc (suc r))) b x h = refl

-- ---- one entry more

pub grown_element : (e : Element) (t : Table) → Extends t (with_element e t)
grown_element e t = record { dimension = refl; points = begins_refl t.points; elements = (e ∷ [], refl); planes = begins_refl t.planes }

pub grown_point : (p : List Float) (t : Table) → Extends t (with_point p t)
grown_point p t = record { dimension = refl; points = (p ∷ [], refl); elements = begins_refl t.elements; planes = begins_refl t.planes }

pub grown_plane : (h : Plane) (t : Table) → Extends t (with_plane h t)
grown_plane h t = record { dimension = refl; points = begins_refl t.points; elements = begins_refl t.elements; planes = (h ∷ [], refl) }

-- a vertex with its element
abbrev pub with_vertex : List Float → Table → Table
with_vertex p t = with_element (corner (length t.points)) (with_point p t)

pub grown_vertex : (p : List Float) (t : Table) → Extends t (with_vertex p t)
grown_vertex p t = extends_trans (grown_point p t) (grown_element (corner (length t.points)) (with_point p t))
