-- A print file that is given: its triangles are the fans of the faces, which are walked, and so many; each has 50 bytes, since a walk names vertices in use.
use Rattle.std.specs.Prelude.{if◌then◌else◌, Some}
use Prim.Native.Nat.{ℕ, zero, suc, ◌+◌, ◌*◌, ◌-◌, ◌^◌, ◌≤◌, ◌<◌, zero-le}
use mathlib.Core.Path.{◌≡◌, refl, sym, ap, ap₂, ◌∙◌, subst}
use mathlib.Core.Bool.{Bool, true, false, not, ◌&&◌, false≢true}
use mathlib.Core.List.{List, [], ◌∷◌, ◌++◌, map}
use native.Mathlib.Nat.{not-suc-le-zero, le_of_suc-le-suc, le_trans, mul-le-mul_right, suc-mul}
use native.Mathlib.Omega.{arith}
use lib.Dec.{leb, ltb, eqb}
use lib.ListN.{length, get_or, drop, replicate, length-append, length-map}
use lib.Ieee.{Float, binary32, to_bits}
use Rattle.rules.specs.Limits.{Limits, Fileable}
use Rattle.rules.specs.Lists.{all, any, joined, member, up_from}
use Rattle.rules.specs.Floats.{within, farthest}
use Rattle.rules.specs.Bytes.{number_at, bytes_of}
use Rattle.rules.specs.Table.{Element, corner, polytope, Table, vertex_of, is_primordial, element, rank, boundary, boundary_of, element_count}
use Rattle.rules.specs.Sound.{sound, sound_point}
use Rattle.rules.specs.Memory.{Memory, decode, sound_memory}
use Rattle.rules.specs.Questions.{Asked, no_answer, answer, edges_in_order, primordial_facet}
use Rattle.rules.specs.Replies.{asked, list_size, listed}
use Rattle.rules.specs.Print.{narrowed, narrowed_bytes, Triangle, Way, way_at, fan, fan_of, face_triangles, triangles, corner_bytes, triangle_bytes, vertex_at, print_file}
use Rattle.rules.specs.Print.{unless_facet, printed, print_reply, total_of, triangle_count, PrintIsSized, Fanned, FacesAreFanned}
use Rattle.rules.specs.Asking.{border, Runs, forth, back, Paired, lowest}
use Rattle.rules.proofs.WalkSteps.{walk_long}
use Rattle.rules.proofs.Borders.{sound_bordered}
use Rattle.rules.proofs.ByteLaws.{bytes_long, number_there}
use Rattle.rules.proofs.Corners.{corner_named_lem}
use Rattle.rules.proofs.Counting.{length_up, all_up}
use Rattle.rules.proofs.Each.{all_get_d}
use Rattle.rules.proofs.Growing.{all_get}
use Rattle.rules.proofs.FaceEdges.{edge_used, edge_rank}
use Rattle.rules.proofs.Fans.{fan_closes}
use Rattle.rules.proofs.Good.{Good, above_zero, sound_good}
use Rattle.rules.proofs.Laws.{le_test, test_le, eq_test, and_left, and_right, and_true, or_left, or_right, eqb_self, none_some}
use Rattle.rules.proofs.OneCall.{sound_table}
use Rattle.rules.proofs.Refusals.{listed_by}
use Rattle.rules.proofs.RingWalked.{face_is_walked}
use Rattle.rules.proofs.WalkRound.{told, walk_goes_round}
use Rattle.rules.specs.declared.Refusal.TheVariants.{NotInUse, NotSound, Rank}

-- ---- how many

pub fan_long : (ps : List Way) → length (fan ps) ≡ length ps - 2
unfolding fan
fan_long ps = length-map (up_from 1 (length ps - 2)) _ ∙ length_up 1 (length ps - 2)

joined_total : (g : ℕ → List Triangle) (h : ℕ → ℕ) (bs : List ℕ) → ((j : ℕ) → j < length bs → length (g (get_or bs j 0)) ≡ h (get_or bs j 0))
    → length (joined (map g bs)) ≡ total_of (map h bs)
joined_total g h [] e = refl
joined_total g h (b ∷ bs) e =
    length-append (g b) (joined (map g bs))
    ∙ ap₂ (λ (m n : ℕ). m + n) (e 0 (let z : 0 < suc (length bs) = omega arith in z)) (joined_total g h bs (λ j l. e (suc j) (let z : suc j < suc (length bs) = omega arith in z)))

total_under : (h : ℕ → ℕ) (k : ℕ) → ((b : ℕ) → h b ≤ k) → (bs : List ℕ) → total_of (map h bs) ≤ length bs * k
total_under h k l [] = let z : 0 ≤ 0 * k = omega arith in z
total_under h k l (b ∷ bs) = let r = total_under h k l bs in let q = l b in let m = suc-mul (length bs) k in omega (arith, r, q, m)

-- ---- how long

corner_long : (p : List Float) → length (corner_bytes p) ≡ 4 * length p
corner_long [] = refl
corner_long (x ∷ xs) =
    let a = length-append (narrowed_bytes x) (corner_bytes xs) in
    let b = bytes_long 4 (to_bits binary32 (narrowed x)) in
    let r = corner_long xs in
    omega (arith, a, b, r)

-- the three vertices of a triangle are below n
abbrev pub all_below : ℕ → Triangle → Bool
all_below n c = ltb c.0 n && (ltb c.1 n && ltb c.2 n)

module _ (at : ℕ → List Float) (n : ℕ) (long : (v : ℕ) → v < n → length (at v) ≡ 3) where
  pub triangle_long : (c : Triangle) → all_below n c ≡ true → length (triangle_bytes at c) ≡ 50
  unfolding triangle_bytes
  triangle_long c h =
      let r = and_right (ltb c.0 n) (ltb c.1 n && ltb c.2 n) h in
      let x = corner_long (at c.0) ∙ ap (λ (k : ℕ). 4 * k) (long c.0 (le_test (suc c.0) n (and_left (ltb c.0 n) (ltb c.1 n && ltb c.2 n) h))) in
      let y = corner_long (at c.1) ∙ ap (λ (k : ℕ). 4 * k) (long c.1 (le_test (suc c.1) n (and_left (ltb c.1 n) (ltb c.2 n) r))) in
      let z = corner_long (at c.2) ∙ ap (λ (k : ℕ). 4 * k) (long c.2 (le_test (suc c.2) n (and_right (ltb c.1 n) (ltb c.2 n) r))) in
      let a = length-append (corner_bytes (at c.0)) (corner_bytes (at c.1) ++ (corner_bytes (at c.2) ++ replicate 2 0)) in
      let b = length-append (corner_bytes (at c.1)) (corner_bytes (at c.2) ++ replicate 2 0) in
      let d = length-append (corner_bytes (at c.2)) (replicate 2 0) in
      length-append (replicate 12 0) (corner_bytes (at c.0) ++ (corner_bytes (at c.1) ++ (corner_bytes (at c.2) ++ replicate 2 0)))
      ∙ (let e : 12 + length (corner_bytes (at c.0) ++ (corner_bytes (at c.1) ++ (corner_bytes (at c.2) ++ replicate 2 0))) ≡ 50 = omega (arith, x, y, z, a, b, d) in e)

  pub all_long : (cs : List Triangle) → all (all_below n) cs ≡ true → length (joined (map (triangle_bytes at) cs)) ≡ 50 * length cs
  all_long [] h = refl
  all_long (c ∷ cs) h =
      let a = length-append (triangle_bytes at c) (joined (map (triangle_bytes at) cs)) in
      let b = triangle_long c (and_left (all_below n c) (all (all_below n) cs) h) in
      let r = all_long cs (and_right (all_below n c) (all (all_below n) cs) h) in
      omega (arith, a, b, r)

-- ---- triangles of a fan, and of many

pub fan_below : (n : ℕ) (ps : List Way) → ((k : ℕ) → k < length ps → ((way_at ps k).0 < n) × ((way_at ps k).1 < n)) → 3 ≤ length ps → all (all_below n) (fan ps) ≡ true
unfolding fan
fan_below n ps h l =
    all_up (λ k. ((way_at ps 0).0, (way_at ps k).0, (way_at ps k).1)) (all_below n) 1 (length ps - 2) (λ i k.
    (let b = h i (let z : i < length ps = omega (arith, k, l) in z) in
    and_true (ltb (way_at ps 0).0 n) _ (test_le (suc (way_at ps 0).0) n (h 0 (let z : 0 < length ps = omega (arith, l) in z)).0)
    (and_true (ltb (way_at ps i).0 n) (ltb (way_at ps i).1 n) (test_le (suc (way_at ps i).0) n b.0) (test_le (suc (way_at ps i).1) n b.1))))

joined_all : (p : Triangle → Bool) (f : ℕ → List Triangle) (bs : List ℕ) → ((j : ℕ) → j < length bs → all p (f (get_or bs j 0)) ≡ true) → all p (joined (map f bs)) ≡ true
joined_all p f [] h = refl
joined_all p f (b ∷ bs) h =
    all_append p (f b) (joined (map f bs)) (h 0 (let z : 0 < suc (length bs) = omega arith in z)) (joined_all p f bs (λ j l. h (suc j) (let z : suc j < suc (length bs) = omega arith in z)))
  where
    all_append : (p : Triangle → Bool) (xs ys : List Triangle) → all p xs ≡ true → all p ys ≡ true → all p (xs ++ ys) ≡ true
    all_append p [] ys h k = k
    all_append p (x ∷ xs) ys h k = and_true (p x) (all p (xs ++ ys)) (and_left (p x) (all p xs) h) (all_append p xs ys (and_right (p x) (all p xs) h) k)

-- ---- a walk names vertices in use

module _ (L : Limits) (t : Table) (s : sound L t ≡ true) where
  g : Good L t
  g = sound_good L t s

  vertex_used : (x : ℕ) → x < element_count t → rank t x ≡ 0 → vertex_of (element t x) < length t.points
  vertex_used x u q = go (element t x) refl
    where
      go : (y : Element) → element t x ≡ y → vertex_of (element t x) < length t.points
      go (corner v) e = subst (λ (y : Element). vertex_of y < length t.points) (sym e) (corner_named_lem L t g x v u e)
      go (polytope r b h m) e = absurd (above_zero L t x r b h m g u e q)

  -- both ends of an edge
  ends_used : (e : ℕ) → e < element_count t → rank t e ≡ 1 → (i : ℕ) → i < 2 → vertex_of (element t (border t e i)) < length t.points
  ends_used e u q i l =
      let b = sound_bordered L t s e u (let z : 0 < rank t e = omega (arith, q) in z) in
      let n : i < length (boundary t e) = (let x = b.enough in omega (arith, x, q, l)) in
      let x = b.earlier i n in
      let r = b.ranks i n in
      vertex_used (border t e i) (let z : border t e i < element_count t = omega (arith, x, u) in z) (let z : rank t (border t e i) ≡ 0 = omega (arith, r, q) in z)

  run_used : (e a b : ℕ) → Runs t e a b → e < element_count t → rank t e ≡ 1 → (a < length t.points) × (b < length t.points)
  run_used e a b forth u q = (ends_used e u q 0 (le_test 1 2 refl), ends_used e u q 1 (le_test 2 2 refl))
  run_used e a b back u q = (ends_used e u q 1 (le_test 2 2 refl), ends_used e u q 0 (le_test 1 2 refl))

  paired_used : (es : List ℕ) (ps : List Way) → Paired t es ps → ((e : ℕ) → member e es ≡ true → (e < element_count t) × (rank t e ≡ 1))
      → (k : ℕ) → k < length ps → ((way_at ps k).0 < length t.points) × ((way_at ps k).1 < length t.points)
  paired_used [] [] h m k l = absurd (not-suc-le-zero l)
  paired_used [] (p ∷ ps) h m k l = absurd h
  paired_used (e ∷ es) [] h m k l = absurd h
  paired_used (e ∷ es) (p ∷ ps) h m zero l = let a = m e (or_left (eqb e e) (member e es) (eqb_self e)) in run_used e p.0 p.1 h.0 a.0 a.1
  paired_used (e ∷ es) (p ∷ ps) h m (suc k) l = paired_used es ps h.1 (λ x i. m x (or_right (eqb x e) (member x es) i)) k (le_of_suc-le-suc l)

  -- ---- a face

  module _ (f : ℕ) (u : f < element_count t) (q : rank t f ≡ 2) where
    pub ways : List Way
    ways = (face_is_walked L t s f u q).0

    pub walked : edges_in_order t f ≡ answer ways
    unfolding ways
    walked = (face_is_walked L t s f u q).1

    pub ways_used : (k : ℕ) → k < length ways → ((way_at ways k).0 < length t.points) × ((way_at ways k).1 < length t.points)
    ways_used =
        let w = walk_goes_round L t s f ways u walked in
        paired_used w.edges ways w.ends (λ e m. (edge_used L t s f u q e (w.own e m), edge_rank L t s f u q e (w.own e m)))

    pub ways_long : length ways ≡ length (boundary t f)
    ways_long = walk_long L t s f ways u walked

    pub three_ways : 3 ≤ length ways
    three_ways = let b = (sound_bordered L t s f u (let z : 0 < rank t f = omega (arith, q) in z)).enough in let n = ways_long in omega (arith, b, n, q)

    pub face_is : face_triangles t f ≡ fan ways
    unfolding face_triangles
    face_is = ap fan_of walked

    face_count : length (face_triangles t f) ≡ length (boundary t f) - 2
    face_count = ap length face_is ∙ fan_long ways ∙ ap (λ (n : ℕ). n - 2) ways_long

    face_below : all (all_below (length t.points)) (face_triangles t f) ≡ true
    face_below = ap (all (all_below (length t.points))) face_is ∙ fan_below (length t.points) ways ways_used three_ways

  -- ---- a piece

  module _ (root : ℕ) (u : root < element_count t) (q : rank t root ≡ 3) where
    face_at : (j : ℕ) → j < length (boundary t root) → (border t root j < element_count t) × (rank t (border t root j) ≡ 2)
    face_at j l =
        let b = sound_bordered L t s root u (let z : 0 < rank t root = omega (arith, q) in z) in
        let x = b.earlier j l in
        let r = b.ranks j l in
        (let z : border t root j < element_count t = omega (arith, x, u) in z, let z : rank t (border t root j) ≡ 2 = omega (arith, r, q) in z)

    count_is : length (triangles t root) ≡ triangle_count t root
    unfolding triangles
    count_is = joined_total (face_triangles t) (λ f. length (boundary t f) - 2) (boundary t root) (λ j l. let a = face_at j l in face_count (border t root j) a.0 a.1)

    pub triangles_below : all (all_below (length t.points)) (triangles t root) ≡ true
    unfolding triangles
    triangles_below = joined_all (all_below (length t.points)) (face_triangles t) (boundary t root) (λ j l. let a = face_at j l in face_below (border t root j) a.0 a.1)

    module _ (d : t.dimension ≡ 3) where
      pub vertex_long : (v : ℕ) → v < length t.points → length (vertex_at t v) ≡ 3
      unfolding sound_point
      vertex_long v l =
          let p = all_get (sound_point t.dimension) t.points v [] l g.points in
          eq_test (length (vertex_at t v)) t.dimension (and_left (eqb (length (vertex_at t v)) t.dimension) (all (within farthest) (vertex_at t v)) p) ∙ d

      pub file_long : length (print_file t root) ≡ 84 + 50 * length (triangles t root)
      unfolding print_file
      file_long =
          let cs = triangles t root in
          let a = length-append (bytes_of 4 (length cs)) (joined (map (triangle_bytes (vertex_at t)) cs)) in
          let b = bytes_long 4 (length cs) in
          let c = all_long (vertex_at t) (length t.points) vertex_long cs triangles_below in
          length-append (replicate 80 0) (bytes_of 4 (length cs) ++ joined (map (triangle_bytes (vertex_at t)) cs))
          ∙ (let e : 80 + length (bytes_of 4 (length cs) ++ joined (map (triangle_bytes (vertex_at t)) cs)) ≡ 84 + 50 * length cs = omega (arith, a, b, c) in e)

    -- a count of 4 bytes
    module _ (F : Fileable L) where
      short_boundary : (x : ℕ) → length (boundary t x) ≤ 65535
      short_boundary x = le_trans (le_test (length (boundary t x)) L.boundary (all_get_d (λ e. leb (length (boundary_of e)) L.boundary) t.elements x (corner 0) (test_le 0 L.boundary zero-le) g.boundary_room)) F.boundary

      count_below : length (triangles t root) < 256 ^ 4
      count_below =
          let a = total_under (λ f. length (boundary t f) - 2) 65533 (λ b. (let x = short_boundary b in omega (arith, x))) (boundary t root) in
          let b : length (boundary t root) * 65533 ≤ 65535 * 65533 = mul-le-mul_right 65533 (short_boundary root) in
          let c = count_is in
          omega (arith, a, b, c)

      said : (rest : List ℕ) → number_at 4 80 (print_file t root ++ rest) ≡ length (triangles t root)
      unfolding print_file
      said rest = number_there 4 (length (triangles t root)) count_below

-- ---- the reply

-- a list that is done is the answer, at the front of the room
record Done (a : Asked (List ℕ)) (room : List ℕ) (n : ℕ) : Type 0 where
  pub list : List ℕ
  pub given : a ≡ answer list
  pub size : n ≡ length list
  pub fills : (listed a room).1 ≡ list ++ drop (length list) room

done : (a : Asked (List ℕ)) (room : List ℕ) (n : ℕ) → list_size (listed a room).0 ≡ Some n → Done a room n
done (no_answer k) room n e = none_some n e
done (answer xs) room n e = go (leb (length xs) (length room)) refl e
  where
    go : (b : Bool) → leb (length xs) (length room) ≡ b → list_size (listed_by xs room b).0 ≡ Some n → Done (answer xs) room n
    go true q h = record { list = xs; given = refl; size = (let z : length xs ≡ n = cc in sym z); fills = ap (λ (b : Bool). (listed_by xs room b).1) q }
    go false q h = none_some n h

-- 3 and 4 have passed
record Passed (L : Limits) (m : Memory) (root : ℕ) (q a : Asked (List ℕ)) : Type 0 where
  pub sound : sound_memory L m ≡ true
  pub used : root < element_count (decode L m)
  pub same : q ≡ a

abbrev is_answer : Asked (List ℕ) → Bool
is_answer (no_answer n) = false
is_answer (answer xs) = true

passed : (L : Limits) (m : Memory) (root : ℕ) (q : Asked (List ℕ)) (xs : List ℕ) → asked L m (root ∷ []) q ≡ answer xs → Passed L m root q (answer xs)
passed L m root q xs e = go (sound_memory L m) (ltb root (element_count (decode L m))) refl refl e
  where
    go : (a b : Bool) → sound_memory L m ≡ a → ltb root (element_count (decode L m)) ≡ b
        → (if not a then no_answer NotSound else if not (b && true) then no_answer NotInUse else q) ≡ answer xs → Passed L m root q (answer xs)
    go false b p r h = absurd (false≢true (ap is_answer h))
    go true false p r h = absurd (false≢true (ap is_answer h))
    go true true p r h = record { sound = p; used = le_test (suc root) (element_count (decode L m)) r; same = h }

-- and 6 and 16
record Given (t : Table) (root : ℕ) (xs : List ℕ) : Type 0 where
  pub solid : t.dimension ≡ 3
  pub ranked : rank t root ≡ t.dimension
  pub file : print_file t root ≡ xs

abbrev list_or : Asked (List ℕ) → List ℕ
list_or (no_answer n) = []
list_or (answer xs) = xs

given_by : (t : Table) (root : ℕ) (xs : List ℕ) → printed t root ≡ answer xs → Given t root xs
unfolding printed primordial_facet
given_by t root xs e = go (eqb t.dimension 3) (eqb (rank t root) t.dimension) (any (λ b. is_primordial (element t b)) (boundary t root)) refl refl e
  where
    go : (a b c : Bool) → eqb t.dimension 3 ≡ a → eqb (rank t root) t.dimension ≡ b
        → (if a then unless_facet (if b then answer c else no_answer Rank) (print_file t root) else no_answer Rank) ≡ answer xs → Given t root xs
    go false b c p q h = absurd (false≢true (ap is_answer h))
    go true false c p q h = absurd (false≢true (ap is_answer h))
    go true true true p q h = absurd (false≢true (ap is_answer h))
    go true true false p q h = record { solid = eq_test t.dimension 3 p; ranked = eq_test (rank t root) t.dimension q; file = ap list_or h }

pub print_is_sized : (L : Limits) → Fileable L → PrintIsSized L
unfolding print_reply
print_is_sized L F m root room n e =
    let t = decode L m in
    let w = done (asked L m (root ∷ []) (printed t root)) room n e in
    let p = passed L m root (printed t root) w.list w.given in
    let h = given_by t root w.list p.same in
    let s = sound_table L m p.sound in
    let q : rank t root ≡ 3 = h.ranked ∙ h.solid in
    let c = count_is L t s root p.used q in (
      w.size ∙ ap length (sym h.file) ∙ file_long L t s root p.used q h.solid ∙ ap (λ (k : ℕ). 84 + 50 * k) c,
      ap (number_at 4 80) w.fills ∙ ap (λ (xs : List ℕ). number_at 4 80 (xs ++ drop (length w.list) room)) (sym h.file)
          ∙ said L t s root p.used q F (drop (length w.list) room) ∙ c,
    )

pub faces_are_fanned : (L : Limits) → FacesAreFanned L
unfolding face_triangles
faces_are_fanned L t s f ps u h =
    let w = told t f ps h in
    let n = walk_long L t s f ps u h in
    let b = (sound_bordered L t s f u (let q = w.ranked in let z : 0 < rank t f = omega (arith, q) in z)).enough in
    let q = w.ranked in
    subst (Fanned ps) (sym (ap fan_of h)) (fan_closes (lowest t f) ps (walk_goes_round L t s f ps u h).round (let z : 3 ≤ length ps = omega (arith, n, b, q) in z))
