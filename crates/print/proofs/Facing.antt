-- A loop over the faces of a piece: each can be walked, and what is left from the face at i on is its own and what is left from the next one on.
use Prim.Native.Nat.{ℕ, zero, suc, ◌+◌, ◌*◌, ◌-◌, ◌≤◌, ◌<◌}
use mathlib.Core.Path.{◌≡◌, refl, sym, ap, ◌∙◌, subst}
use mathlib.Core.List.{List, [], ◌∷◌, ◌++◌, map}
use native.Mathlib.Omega.{arith}
use lib.ListN.{length, get_or, drop, replicate, length-append}
use lib.Ieee.{Float}
use lib.Seq.{sets, sets-eq}
use Rattle.std.proofs.Common.{zero-add}
use Rattle.rules.specs.Lists.{joined}
use Rattle.rules.specs.Held.{AllOf}
use Rattle.rules.specs.Print.{triangle_bytes, total_of}
use Rattle.lent_bytes.specs.Lent.{Put}
use Rattle.lent_bytes.proofs.Rests.{Rest, less_left, none_left, left_as}
use Rattle.space.specs.Ready.{ElementReady}
use Rattle.walk.specs.Boundaries.{row_boundary}
use Rattle.walk.specs.Walks.{words_in_order, lowest_end, first_way, no_edge}
use Rattle.walk.proofs.Boundaries.{row_size, row_on, row_end}
use Rattle.walk.proofs.Orders.{two_each}
use Rattle.print.specs.Pieces.{point_in, fan_in, walk_in, edges_in, face_in, count_in, PointsReady, WalkLow, FaceWalks, FacesReady}
use Rattle.print.proofs.Fanning.{fan_fifty, fan_same}

-- ---- the walk of a face, in a list that was zeros

-- a number at the front
front_at : (ns ms : List ℕ) (k : ℕ) → k < length ns → get_or (ns ++ ms) k 0 ≡ get_or ns k 0
front_at [] ms k l = absurd (let z : ⊥ = omega arith in z)
front_at (n ∷ ns) ms zero l = refl
front_at (n ∷ ns) ms (suc k) l = front_at ns ms k (let z : k < length ns = omega arith in z)

module _ (es : List ℕ) (f : ℕ) (W : FaceWalks es f) where
  walk_long : length (walk_in es f) ≡ 2 * edges_in es f
  unfolding words_in_order
  walk_long = let xs = row_boundary es f in two_each (length xs) es xs (lowest_end es no_edge xs) (first_way es (lowest_end es no_edge xs) xs)

  module _ (n : ℕ) (q : n ≡ get_or es (f * 36 + 3) 0) (out : List ℕ) (e : out ≡ sets (replicate 64 0) 0 (walk_in es f)) where
    pub edges_are : edges_in es f ≡ n
    edges_are = row_size es f n W.face.bounds q

    written : out ≡ walk_in es f ++ drop (length (walk_in es f)) (replicate 64 0)
    written =
        let l = walk_long in
        let m = W.walk.few in
        e ∙ sets-eq (walk_in es f) (replicate 64 0) 0 (omega (arith, l, m))
        ∙ ap (λ (k : ℕ). walk_in es f ++ drop k (replicate 64 0)) (zero-add (length (walk_in es f)))

    same_at : (k : ℕ) → k < 2 * n → get_or out k 0 ≡ get_or (walk_in es f) k 0
    same_at k h =
        let l = walk_long in
        let m = edges_are in
        ap (λ (ns : List ℕ). get_or ns k 0) written ∙ front_at (walk_in es f) (drop (length (walk_in es f)) (replicate 64 0)) k (omega (arith, h, l, m))

    pub walk_low : WalkLow out n
    walk_low =
        let w = W.walk in
        let m = edges_are in
        record {
          three = (let x = w.three in omega (arith, x, m));
          few = (let x = w.few in omega (arith, x, m));
          low = λ k h. (let x = w.low k (omega (arith, h, m)) in let s = same_at k h in omega (arith, x, s));
        }

    pub fan_is : (ps : List Float) → joined (map (triangle_bytes (point_in ps)) (fan_in out n)) ≡ face_in ps es f
    unfolding face_in
    fan_is ps =
        ap (λ (cs : List (ℕ × ℕ × ℕ)). joined (map (triangle_bytes (point_in ps)) cs)) (fan_same out (walk_in es f) n walk_low.three same_at ∙ ap (fan_in (walk_in es f)) (sym edges_are))

-- ---- some faces

walks_from : (es : List ℕ) (i : ℕ) (xs : List ℕ) → AllOf (FaceWalks es) xs → AllOf (FaceWalks es) (drop i xs)
walks_from es zero xs h = h
walks_from es (suc i) [] h = tt
walks_from es (suc i) (x ∷ xs) h = walks_from es i xs h.1

module _ (ps : List Float) (es : List ℕ) (P : PointsReady ps) where
  pub face_long : (f : ℕ) → FaceWalks es f → length (face_in ps es f) ≡ 50 * (edges_in es f - 2)
  unfolding face_in
  face_long f W = fan_fifty ps (walk_in es f) (edges_in es f) P W.walk

  pub faces_long : (xs : List ℕ) → AllOf (FaceWalks es) xs → length (joined (map (face_in ps es) xs)) ≡ 50 * total_of (map (λ f. edges_in es f - 2) xs)
  faces_long [] h = refl
  faces_long (x ∷ xs) h =
      let a = length-append (face_in ps es x) (joined (map (face_in ps es) xs)) in
      let b = face_long x h.0 in
      let r = faces_long xs h.1 in
      omega (arith, a, b, r)

module _ (es : List ℕ) (root n : ℕ) (R : FacesReady es root) (q : n ≡ get_or es (root * 36 + 3) 0) where
  abbrev faces_of : List ℕ
  faces_of = row_boundary es root

  module _ (i x : ℕ) (l : i < n) (e : x ≡ get_or es (root * 36 + (4 + i)) 0) where
    parted : drop i faces_of ≡ x ∷ drop (i + 1) faces_of
    parted = row_on es root n R.bounds q i l ∙ ap (λ (y : ℕ). y ∷ drop (i + 1) faces_of) (sym e)

    pub face_walks : FaceWalks es x
    face_walks = (subst (AllOf (FaceWalks es)) parted (walks_from es i faces_of R.faces)).0

    pub face_element : ElementReady es x
    face_element = record { elements = face_walks.face.bounds.long; room = face_walks.face.bounds.used }

    pub total_on : total_of (map (λ f. edges_in es f - 2) (drop i faces_of)) ≡ edges_in es x - 2 + total_of (map (λ f. edges_in es f - 2) (drop (i + 1) faces_of))
    total_on = ap (λ (ys : List ℕ). total_of (map (λ f. edges_in es f - 2) ys)) parted

    pub face_edges : (k : ℕ) → k ≡ get_or es (x * 36 + 3) 0 → edges_in es x ≡ k
    face_edges k z = row_size es x k face_walks.face.bounds z

    module _ (ps : List Float) (P : PointsReady ps) {before room : List ℕ} {at end : ℕ}
        (r : Rest before at (joined (map (face_in ps es) faces_of)) room end (joined (map (face_in ps es) (drop i faces_of)))) where
      pub next_face : {next : List ℕ} {on : ℕ} → Put room end (face_in ps es x) on next → Rest before at (joined (map (face_in ps es) faces_of)) next on (joined (map (face_in ps es) (drop (i + 1) faces_of)))
      next_face p = less_left (left_as (ap (λ (ys : List ℕ). joined (map (face_in ps es) ys)) parted) r) p

      pub face_fits : at + 50 * count_in es root ≤ length before → length room ≡ length before → end + 50 * (edges_in es x - 2) ≤ length room
      unfolding count_in
      face_fits f g =
          let p = (left_as (ap (λ (ys : List ℕ). joined (map (face_in ps es) ys)) parted) r).place in
          let a = length-append (face_in ps es x) (joined (map (face_in ps es) (drop (i + 1) faces_of))) in
          let b = face_long ps es P x face_walks in
          let c = faces_long ps es P faces_of R.faces in
          omega (arith, p, a, b, c, f, g)

  -- the end
  pub total_end : (i : ℕ) → n ≤ i → total_of (map (λ f. edges_in es f - 2) (drop i faces_of)) ≡ 0
  total_end i h = ap (λ (ys : List ℕ). total_of (map (λ f. edges_in es f - 2) ys)) (row_end es root n R.bounds q i h)

  pub no_face : (ps : List Float) {before room : List ℕ} {at end : ℕ} (i : ℕ) → n ≤ i
      → Rest before at (joined (map (face_in ps es) faces_of)) room end (joined (map (face_in ps es) (drop i faces_of))) → Put before at (joined (map (face_in ps es) faces_of)) end room
  no_face ps i h r = none_left (left_as (ap (λ (ys : List ℕ). joined (map (face_in ps es) ys)) (row_end es root n R.bounds q i h)) r)
