-- In a sound memory the words of a piece are its print file: each face can be walked, its walk's numbers are the rules' pairs, and a vertex's row is its point.
use Prim.Native.Nat.{ℕ, zero, suc, ◌+◌, ◌*◌, ◌-◌, ◌≤◌, ◌<◌}
use mathlib.Core.Path.{◌≡◌, refl, sym, ap, ap₂, ◌∙◌, subst}
use mathlib.Core.Bool.{Bool, true, not, ◌&&◌}
use mathlib.Core.List.{List, [], ◌∷◌, ◌++◌, map, append_assoc}
use native.Mathlib.Nat.{le_of_suc-le-suc, suc-mul, add_comm}
use native.Mathlib.Omega.{arith}
use lib.Dec.{ltb}
use lib.ListN.{length, get_or, take, drop, replicate}
use lib.Seq.{drop-drop, take-take}
use lib.Ieee.{Float, is_nan}
use Rattle.rules.specs.Limits.{desk}
use Rattle.rules.specs.Lists.{all, joined, rows, pad, up_from}
use Rattle.rules.specs.Floats.{plus_zero}
use Rattle.rules.specs.Bytes.{bytes_of}
use Rattle.rules.specs.Table.{Table, boundary, element_count, rank}
use Rattle.rules.specs.Sound.{sound, sound_point}
use Rattle.rules.specs.Questions.{Asked, no_answer, answer}
use Rattle.rules.specs.Replies.{in_numbers}
use Rattle.rules.specs.Held.{Holds, points_of, Ranked, AllOf}
use Rattle.rules.specs.Print.{Triangle, Way, way_at, fan, face_triangles, triangles, corner_bytes, triangle_bytes, vertex_at, print_file}
use Rattle.rules.proofs.Boxes.{point_numbers}
use Rattle.rules.proofs.Good.{Good, sound_good}
use Rattle.rules.proofs.Growing.{map_append}
use Rattle.rules.proofs.Laws.{le_test, and_left, and_right, and_true}
use Rattle.rules.proofs.Printed.{all_below, all_long, ways, walked, ways_used, ways_long, three_ways, face_is, triangles_below, vertex_long}
use Rattle.space.proofs.Slices.{slices}
use Rattle.walk.specs.Boundaries.{row_boundary}
use Rattle.walk.proofs.Boundaries.{row_size, bounds, boundary_fits, boundary_is}
use Rattle.walk.proofs.Orders.{face_fits, order_is}
use Rattle.print.specs.Pieces.{point_in, triangle_at, fan_in, walk_in, edges_in, face_in, count_in, file_in, PointsReady, FaceWalks, SolidReady}
use Rattle.print.proofs.Facing.{faces_long}

-- ---- the numbers of a walk, two for each edge

abbrev flat : List Way → List ℕ
flat ps = joined (map (λ (p : Way). p.0 ∷ p.1 ∷ []) ps)

flat_even : (ps : List Way) (k : ℕ) → get_or (flat ps) (2 * k) 0 ≡ (way_at ps k).0
flat_even [] k = refl
flat_even (p ∷ ps) zero = refl
flat_even (p ∷ ps) (suc k) = ap (λ (i : ℕ). get_or (flat (p ∷ ps)) i 0) (let z : 2 * suc k ≡ suc (suc (2 * k)) = omega arith in z) ∙ flat_even ps k

flat_odd : (ps : List Way) (k : ℕ) → get_or (flat ps) (2 * k + 1) 0 ≡ (way_at ps k).1
flat_odd [] k = refl
flat_odd (p ∷ ps) zero = refl
flat_odd (p ∷ ps) (suc k) = ap (λ (i : ℕ). get_or (flat (p ∷ ps)) i 0) (let z : 2 * suc k + 1 ≡ suc (suc (2 * k + 1)) = omega arith in z) ∙ flat_odd ps k

flat_low : (n : ℕ) (ps : List Way) → ((k : ℕ) → k < length ps → ((way_at ps k).0 < n) × ((way_at ps k).1 < n)) → (k : ℕ) → k < 2 * length ps → get_or (flat ps) k 0 < n
flat_low n [] h k l = absurd (let z : ⊥ = omega arith in z)
flat_low n (p ∷ ps) h zero l = (h 0 (let z : 0 < suc (length ps) = omega arith in z)).0
flat_low n (p ∷ ps) h (suc zero) l = (h 0 (let z : 0 < suc (length ps) = omega arith in z)).1
flat_low n (p ∷ ps) h (suc (suc k)) l = flat_low n ps (λ i j. h (suc i) (let z : suc i < suc (length ps) = omega arith in z)) k (let z : k < 2 * length ps = omega arith in z)

same_map : {A : Type 0} (f g : ℕ → A) → ((k : ℕ) → f k ≡ g k) → (xs : List ℕ) → map f xs ≡ map g xs
same_map f g h [] = refl
same_map {A} f g h (x ∷ xs) = ap₂ (λ (y : A) (ys : List A). y ∷ ys) (h x) (same_map f g h xs)

fan_flat : (ps : List Way) → fan_in (flat ps) (length ps) ≡ fan ps
unfolding fan_in fan
fan_flat ps = same_map (triangle_at (flat ps)) _ (λ k i. (flat_even ps 0 i, flat_even ps k i, flat_odd ps k i)) (up_from 1 (length ps - 2))

-- ---- bytes of many

joined_append : (xs ys : List (List ℕ)) → joined (xs ++ ys) ≡ joined xs ++ joined ys
joined_append [] ys = refl
joined_append (x ∷ xs) ys = ap (λ (l : List ℕ). x ++ l) (joined_append xs ys) ∙ sym (append_assoc x (joined xs) (joined ys))

joined_twice : (b : Triangle → List ℕ) (f : ℕ → List Triangle) (xs : List ℕ) → joined (map b (joined (map f xs))) ≡ joined (map (λ x. joined (map b (f x))) xs)
joined_twice b f [] = refl
joined_twice b f (x ∷ xs) =
    ap joined (map_append b (f x) (joined (map f xs))) ∙ joined_append (map b (f x)) (map b (joined (map f xs))) ∙ ap (λ (l : List ℕ). joined (map b (f x)) ++ l) (joined_twice b f xs)

-- points that agree below n
one_same : (at to : ℕ → List Float) (n : ℕ) → ((v : ℕ) → v < n → at v ≡ to v) → (c : Triangle) → all_below n c ≡ true → triangle_bytes at c ≡ triangle_bytes to c
unfolding triangle_bytes
one_same at to n h c a =
    let r = and_right (ltb c.0 n) (ltb c.1 n && ltb c.2 n) a in
    let x = h c.0 (le_test (suc c.0) n (and_left (ltb c.0 n) (ltb c.1 n && ltb c.2 n) a)) in
    let y = h c.1 (le_test (suc c.1) n (and_left (ltb c.1 n) (ltb c.2 n) r)) in
    let z = h c.2 (le_test (suc c.2) n (and_right (ltb c.1 n) (ltb c.2 n) r)) in
    (λ i. replicate 12 0 ++ (corner_bytes (x i) ++ (corner_bytes (y i) ++ (corner_bytes (z i) ++ replicate 2 0))))

bytes_same : (at to : ℕ → List Float) (n : ℕ) → ((v : ℕ) → v < n → at v ≡ to v) → (cs : List Triangle) → all (all_below n) cs ≡ true → map (triangle_bytes at) cs ≡ map (triangle_bytes to) cs
bytes_same at to n h [] a = refl
bytes_same at to n h (c ∷ cs) a =
    ap₂ (λ (y : List ℕ) (ys : List (List ℕ)). y ∷ ys) (one_same at to n h c (and_left (all_below n c) (all (all_below n) cs) a)) (bytes_same at to n h cs (and_right (all_below n c) (all (all_below n) cs) a))

-- the row of a vertex
pub row_point : (d n w i : ℕ) (xs : List Float) → i < n → d ≤ w → get_or (map (take d) (rows n w xs)) i [] ≡ take d (drop (i * w) xs)
row_point d zero w i xs l k = absurd (let z : ⊥ = omega arith in z)
row_point d (suc n) w zero xs l k = take-take d w xs k ∙ ap (λ (j : ℕ). take d (drop j xs)) (let z : 0 ≡ 0 * w = omega arith in z)
row_point d (suc n) w (suc i) xs l k =
    row_point d n w i (drop w xs) (le_of_suc-le-suc l) k ∙ ap (take d) (drop-drop (i * w) w xs)
    ∙ ap (λ (j : ℕ). take d (drop j xs)) (sym (suc-mul i w ∙ add_comm (i * w) w))

-- ---- a sound memory

all_append : (p : Float → Bool) (xs ys : List Float) → all p xs ≡ true → all p ys ≡ true → all p (xs ++ ys) ≡ true
all_append p [] ys h k = k
all_append p (x ∷ xs) ys h k = and_true (p x) (all p (xs ++ ys)) (and_left (p x) (all p xs) h) (all_append p xs ys (and_right (p x) (all p xs) h) k)

zeros_numbers : (n : ℕ) → all (λ x. not (is_nan x)) (replicate n plus_zero) ≡ true
zeros_numbers zero = refl
zeros_numbers (suc n) = and_true (not (is_nan plus_zero)) (all (λ x. not (is_nan x)) (replicate n plus_zero)) (unfold is_nan in refl) (zeros_numbers n)

points_numbers : (d : ℕ) (points : List (List Float)) → all (sound_point d) points ≡ true → all (λ x. not (is_nan x)) (joined (map (pad plus_zero 4) points)) ≡ true
points_numbers d [] h = refl
points_numbers d (p ∷ points) h =
    all_append (λ x. not (is_nan x)) (pad plus_zero 4 p) (joined (map (pad plus_zero 4) points))
    (all_append (λ x. not (is_nan x)) p (replicate (4 - length p) plus_zero) (point_numbers d p (and_left (sound_point d p) (all (sound_point d) points) h)) (zeros_numbers (4 - length p)))
    (points_numbers d points (and_right (sound_point d p) (all (sound_point d) points) h))

abbrev given_or : Asked (List ℕ) → List ℕ
given_or (no_answer n) = []
given_or (answer xs) = xs

module _ {cs : List ℕ} {ps hs : List Float} {es : List ℕ} {t : Table} (H : Holds desk cs ps hs es t) (s : sound desk t ≡ true) where
  g : Good desk t
  g = sound_good desk t s

  slice_numbers : all (λ x. not (is_nan x)) (points_of desk t) ≡ true
  unfolding points_of
  slice_numbers =
      let used = joined (map (pad plus_zero 4) t.points) in
      all_append (λ x. not (is_nan x)) used (replicate (1024 - length used) plus_zero) (points_numbers t.dimension t.points g.points) (zeros_numbers (1024 - length used))

  points_ready : PointsReady ps
  points_ready = record { long = (slices H).points; numbers = ap (all (λ x. not (is_nan x))) H.points ∙ slice_numbers }

  few_points : length t.points ≤ 256
  few_points = le_test (length t.points) 256 g.vertex_room

  -- ---- a face

  module _ (f : ℕ) (u : f < element_count t) (q : rank t f ≡ 2) where
    abbrev own : List Way
    own = ways desk t s f u q

    same_edges : row_boundary es f ≡ boundary t f
    same_edges = boundary_is H g f 1 u q

    edges_count : edges_in es f ≡ length own
    edges_count = ap length same_edges ∙ sym (ways_long desk t s f u q)

    walk_is : walk_in es f ≡ flat own
    walk_is = ap given_or (sym (order_is H s f u q) ∙ ap in_numbers (walked desk t s f u q))

    pub walks : FaceWalks es f
    walks = record {
      face = face_fits H s f u q;
      walk = record {
        three = (let a = edges_count in let b = three_ways desk t s f u q in omega (arith, a, b));
        few = (let a = row_size es f _ (face_fits H s f u q).bounds refl in let b = (face_fits H s f u q).bounds.sized in omega (arith, a, b));
        low = λ k l.
            (let a = flat_low (length t.points) own (ways_used desk t s f u q) k (let c = edges_count in omega (arith, l, c)) in
            let b = ap (λ (ns : List ℕ). get_or ns k 0) walk_is in
            let d = few_points in
            omega (arith, a, b, d));
      };
    }

    fan_of_lem : fan_in (walk_in es f) (edges_in es f) ≡ face_triangles t f
    fan_of_lem = ap₂ fan_in walk_is edges_count ∙ fan_flat own ∙ sym (face_is desk t s f u q)

  -- ---- a piece

  module _ (root : ℕ) (u : root < element_count t) (q : rank t root ≡ 3) where
    same_faces : row_boundary es root ≡ boundary t root
    same_faces = boundary_is H g root 2 u q

    all_walk : (xs : List ℕ) → AllOf (Ranked t 3) xs → AllOf (FaceWalks es) xs
    all_walk [] h = tt
    all_walk (x ∷ xs) h = (walks x h.0.0 (let r = h.0.1 in omega (arith, r)), all_walk xs h.1)

    pub solid_ready : SolidReady ps es root
    solid_ready = record {
      points = points_ready;
      faces = record { bounds = boundary_fits H g root 2 u q; faces = subst (AllOf (FaceWalks es)) (sym same_faces) (all_walk (boundary t root) (bounds H g root 2 u q)) };
    }

    one_fan : (x : ℕ) → x < element_count t → rank t x ≡ 2 → face_in ps es x ≡ joined (map (triangle_bytes (point_in ps)) (face_triangles t x))
    unfolding face_in
    one_fan x v r = ap (λ (cs : List Triangle). joined (map (triangle_bytes (point_in ps)) cs)) (fan_of_lem x v r)

    fans : (xs : List ℕ) → AllOf (Ranked t 3) xs → map (face_in ps es) xs ≡ map (λ f. joined (map (triangle_bytes (point_in ps)) (face_triangles t f))) xs
    fans [] h = refl
    fans (x ∷ xs) h = ap₂ (λ (y : List ℕ) (ys : List (List ℕ)). y ∷ ys) (one_fan x h.0.0 (let r = h.0.1 in let z : rank t x ≡ 2 = omega (arith, r) in z)) (fans xs h.1)

    module _ (d : t.dimension ≡ 3) (at_row : (v : ℕ) → v < length t.points → point_in ps v ≡ vertex_at t v) where
      all_faces : joined (map (face_in ps es) (row_boundary es root)) ≡ joined (map (triangle_bytes (vertex_at t)) (triangles t root))
      unfolding triangles
      all_faces =
          ap (λ (xs : List ℕ). joined (map (face_in ps es) xs)) same_faces
          ∙ ap joined (fans (boundary t root) (bounds H g root 2 u q))
          ∙ sym (joined_twice (triangle_bytes (point_in ps)) (face_triangles t) (boundary t root))
          ∙ ap joined (bytes_same (point_in ps) (vertex_at t) (length t.points) at_row (joined (map (face_triangles t) (boundary t root))) (triangles_below desk t s root u q))

      -- counted by the bytes that they have
      same_count : count_in es root ≡ length (triangles t root)
      unfolding count_in
      same_count =
          let a = faces_long ps es points_ready (row_boundary es root) solid_ready.faces.faces in
          let b = all_long (vertex_at t) (length t.points) (vertex_long desk t s root u q d) (triangles t root) (triangles_below desk t s root u q) in
          let c = ap length all_faces in
          omega (arith, a, b, c)

      pub file_is : file_in ps es root ≡ print_file t root
      unfolding file_in print_file
      file_is = ap₂ (λ (n : ℕ) (xs : List ℕ). replicate 80 0 ++ (bytes_of 4 n ++ xs)) same_count all_faces
