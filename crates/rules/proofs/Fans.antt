-- The sides of a fan. The triangles of the inner edges of a walk share spokes, each there and back; what is left is the inner edges, the way to the first of
-- them and the way from the last, which are the walk's own first and last edges. By induction along the walk.
use Rattle.std.specs.Prelude.{if◌then◌else◌}
use Prim.Native.Nat.{ℕ, zero, suc, ◌+◌, ◌-◌, ◌≤◌, ◌<◌}
use mathlib.Core.Path.{◌≡◌, refl, sym, ap, ap₂, ◌∙◌, subst}
use mathlib.Core.Bool.{Bool, true, false, ◌&&◌, true≢false, false≢true}
use mathlib.Core.List.{List, [], ◌∷◌, ◌++◌, map}
use native.Mathlib.Omega.{arith}
use lib.Dec.{eqb}
use lib.ListN.{length, take, drop, length-append}
use lib.Seq.{drop-cons}
use Rattle.rules.specs.Lists.{keep, joined, up_from}
use Rattle.rules.specs.Print.{Triangle, Way, way_at, fan, sides_of, goes, Fanned}
use Rattle.rules.specs.Asking.{Chain}
use Rattle.rules.proofs.Growing.{keep_append}
use Rattle.rules.proofs.Laws.{and_swap}

-- ---- how often some ways go from x to y

module _ (x y : ℕ) where
  abbrev once : Way → ℕ
  once p = goes x y (p ∷ [])

  more : (p : Way) (ps : List Way) → goes x y (p ∷ ps) ≡ once p + goes x y ps
  more p ps = go (eqb p.0 x && eqb p.1 y)
    where
      go : (b : Bool) → length (if b then p ∷ keep (λ (q : Way). eqb q.0 x && eqb q.1 y) ps else keep (λ (q : Way). eqb q.0 x && eqb q.1 y) ps)
          ≡ length (if b then p ∷ [] else []) + goes x y ps
      go true = let z : suc (goes x y ps) ≡ 1 + goes x y ps = omega arith in z
      go false = let z : goes x y ps ≡ 0 + goes x y ps = omega arith in z

  both : (ps qs : List Way) → goes x y (ps ++ qs) ≡ goes x y ps + goes x y qs
  both ps qs =
      ap length (keep_append (λ (q : Way). eqb q.0 x && eqb q.1 y) ps qs)
      ∙ length-append (keep (λ (q : Way). eqb q.0 x && eqb q.1 y) ps) (keep (λ (q : Way). eqb q.0 x && eqb q.1 y) qs)

turned : (x y a b : ℕ) → goes x y ((a, b) ∷ []) ≡ goes y x ((b, a) ∷ [])
turned x y a b = go (eqb a x && eqb b y) (eqb b y && eqb a x) (and_swap (eqb a x) (eqb b y))
  where
    go : (c d : Bool) → c ≡ d → length {A = Way} (if c then (a, b) ∷ [] else []) ≡ length {A = Way} (if d then (b, a) ∷ [] else [])
    go true true e = refl
    go false false e = refl
    go true false e = absurd (true≢false e)
    go false true e = absurd (false≢true e)

-- ---- the triangles of some edges, from the corner a

abbrev corner_with : ℕ → Way → Triangle
corner_with a q = (a, q.0, q.1)

abbrev sides_from : ℕ → List Way → List Way
sides_from a qs = joined (map sides_of (map (corner_with a) qs))

-- from b to c by some edges, one at least
record Middle (a b c : ℕ) (qs : List Way) : Type 0 where
  pub spokes : List Way
  pub sides : (x y : ℕ) → goes x y (sides_from a qs) ≡ goes x y qs + (goes x y ((a, b) ∷ []) + goes x y ((c, a) ∷ [])) + (goes x y spokes + goes y x spokes)

three : (x y a : ℕ) (q : Way) (rest : List Way) → goes x y (sides_of (corner_with a q) ++ rest) ≡ goes x y ((a, q.0) ∷ []) + (goes x y (q ∷ []) + (goes x y ((q.1, a) ∷ []) + goes x y rest))
three x y a q rest =
    more x y (a, q.0) (q ∷ (q.1, a) ∷ rest)
    ∙ ap (λ (n : ℕ). goes x y ((a, q.0) ∷ []) + n) (more x y q ((q.1, a) ∷ rest) ∙ ap (λ (n : ℕ). goes x y (q ∷ []) + n) (more x y (q.1, a) rest))

middle : (a b c : ℕ) (q : Way) (qs : List Way) → Chain b (q ∷ qs) c → Middle a b c (q ∷ qs)
middle a b c q [] h = record {
  spokes = [];
  sides = λ x y.
      (let e = three x y a q [] in
      let f : goes x y ((a, q.0) ∷ []) ≡ goes x y ((a, b) ∷ []) = ap (λ (v : ℕ). goes x y ((a, v) ∷ [])) h.0 in
      let g : goes x y ((q.1, a) ∷ []) ≡ goes x y ((c, a) ∷ []) = ap (λ (v : ℕ). goes x y ((v, a) ∷ [])) h.1 in
      omega (arith, e, f, g));
}
middle a b c q (r ∷ qs) h =
    let m = middle a q.1 c r qs h.1 in record {
      spokes = (a, q.1) ∷ m.spokes;
      sides = λ x y.
          (let e = three x y a q (sides_from a (r ∷ qs)) in
          let f : goes x y ((a, q.0) ∷ []) ≡ goes x y ((a, b) ∷ []) = ap (λ (v : ℕ). goes x y ((a, v) ∷ [])) h.0 in
          let i = m.sides x y in
          let j = more x y q (r ∷ qs) in
          let k = more x y (a, q.1) m.spokes in
          let l = more y x (a, q.1) m.spokes in
          let w = turned y x a q.1 in
          omega (arith, e, f, i, j, k, l, w));
    }

-- ---- a walk

-- the last of some edges, and those before it
record Parted (ps : List Way) : Type 0 where
  pub front : List Way
  pub last : Way
  pub whole : ps ≡ front ++ last ∷ []

parted : (p : Way) (ps : List Way) → Parted (p ∷ ps)
parted p [] = record { front = []; last = p; whole = refl }
parted p (q ∷ ps) = let r = parted q ps in record { front = p ∷ r.front; last = r.last; whole = ap (λ (l : List Way). p ∷ l) r.whole }

chain_parts : (a b : ℕ) (qs : List Way) (r : Way) → Chain a (qs ++ r ∷ []) b → Chain a qs r.0 × (r.1 ≡ b)
chain_parts a b [] r h = (sym h.0, h.1)
chain_parts a b (q ∷ qs) r h = let k = chain_parts q.1 b qs r h.1 in ((h.0, k.0), k.1)

-- by number, or as a part of the list
ways_up : (a : ℕ) (ps : List Way) (i m : ℕ) → i + m ≤ length ps → map (λ k. corner_with a (way_at ps k)) (up_from i m) ≡ map (corner_with a) (take m (drop i ps))
ways_up a ps i zero h = refl
ways_up a ps i (suc m) h =
    ap₂ (λ (c : Triangle) (cs : List Triangle). c ∷ cs) refl (ways_up a ps (suc i) m (let z : suc i + m ≤ length ps = omega arith in z))
    ∙ ap (λ (l : List Way). map (corner_with a) (take (suc m) l)) (sym (drop-cons ps i (0, 0) (let z : i < length ps = omega arith in z)))

take_seam : (qs rs : List Way) → take (length qs) (qs ++ rs) ≡ qs
take_seam [] rs = refl
take_seam (q ∷ qs) rs = ap (λ (l : List Way). q ∷ l) (take_seam qs rs)

module _ (a : ℕ) (p : Way) (front : List Way) (last : Way) (h : Chain a (p ∷ (front ++ last ∷ [])) a) where
  abbrev ps : List Way
  ps = p ∷ (front ++ last ∷ [])

  long : length ps ≡ suc (length front + 1)
  long = ap suc (length-append front (last ∷ []))

  triangles_are : fan ps ≡ map (corner_with p.0) front
  unfolding fan
  triangles_are =
      let n = long in
      ap (λ (m : ℕ). map (λ k. corner_with p.0 (way_at ps k)) (up_from 1 m)) (let z : length ps - 2 ≡ length front = omega (arith, n) in z)
      ∙ ways_up p.0 ps 1 (length front) (let z : 1 + length front ≤ length ps = omega (arith, n) in z)
      ∙ ap (map (corner_with p.0)) (take_seam front (last ∷ []))

  -- all ways of the walk
  parts : (x y : ℕ) → goes x y ps ≡ goes x y (p ∷ []) + (goes x y front + goes x y (last ∷ []))
  parts x y = more x y p (front ++ last ∷ []) ∙ ap (λ (n : ℕ). goes x y (p ∷ []) + n) (both x y front (last ∷ []))

  module _ (q : Way) (qs : List Way) (e : front ≡ q ∷ qs) where
    fanned_by : Fanned ps (map (corner_with p.0) front)
    fanned_by =
        let k = chain_parts p.1 a front last h.1 in
        let m = middle p.0 p.1 last.0 q qs (subst (λ (l : List Way). Chain p.1 l last.0) e k.0) in
        record {
          spokes = m.spokes;
          sides = λ x y.
              (let i = m.sides x y in
              let f : goes x y (joined (map sides_of (map (corner_with p.0) front))) ≡ goes x y (sides_from p.0 (q ∷ qs)) = ap (λ (l : List Way). goes x y (sides_from p.0 l)) e in
              let g : goes x y front ≡ goes x y (q ∷ qs) = ap (goes x y) e in
              let w = parts x y in
              let v : goes x y ((last.0, p.0) ∷ []) ≡ goes x y (last ∷ []) = ap (λ (n : ℕ). goes x y ((last.0, n) ∷ [])) (h.0 ∙ sym k.1) in
              omega (arith, i, f, g, w, v));
        }

-- a walk of three edges or more
pub fan_closes : (a : ℕ) (ps : List Way) → Chain a ps a → 3 ≤ length ps → Fanned ps (fan ps)
fan_closes a [] h l = absurd (let z : ⊥ = omega arith in z)
fan_closes a (p ∷ []) h l = absurd (let z : ⊥ = omega arith in z)
fan_closes a (p ∷ r ∷ rs) h l = let w = parted r rs in go w.front w.last w.whole
  where
    go : (front : List Way) (last : Way) → r ∷ rs ≡ front ++ last ∷ [] → Fanned (p ∷ r ∷ rs) (fan (p ∷ r ∷ rs))
    go [] last e = absurd (let n : length (r ∷ rs) ≡ 1 = ap length e in let z : ⊥ = omega (arith, n) in z)
    go (q ∷ qs) last e =
        subst (λ (l : List Way). Fanned (p ∷ l) (fan (p ∷ l))) (sym e)
        (let c = subst (λ (l : List Way). Chain a (p ∷ l) a) e h in
        subst (Fanned (p ∷ (q ∷ qs ++ last ∷ []))) (sym (triangles_are a p (q ∷ qs) last c)) (fanned_by a p (q ∷ qs) last c q qs refl))
