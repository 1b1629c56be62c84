-- Each element's own line: the words' test is the table's.
use Rattle.std.specs.Prelude.{if◌then◌else◌, Some, None}
use Prim.Native.Nat.{ℕ, ◌<◌, ◌*◌, zero, suc, ◌+◌, ◌≤◌}
use mathlib.Core.Bool.{not, Bool, true, false, ◌&&◌, false≢true}
use mathlib.Core.List.{List, map, [], ◌∷◌}
use mathlib.Core.Path.{◌≡◌, ap, sym, ◌∙◌, refl, subst, ap₂}
use native.Mathlib.Nat.{not-suc-le-zero, zero-mul, le_of_suc-le-suc, suc-mul, add-zero, le_trans}
use native.Mathlib.Omega.{arith}
use lib.Dec.{eqb, lit≤, ltb, leb}
use lib.ListN.{get_or, take, drop, length, length-drop, length-map}
use lib.Seq.{drop-drop, get_or-take, get_or-drop, length-take-le}
use Rattle.rules.specs.Limits.{desk, no_plane}
use Rattle.rules.specs.Lists.{rows, all, all_from, rises, member, distinct}
use Rattle.rules.specs.Memory.{read_element, plane_named}
use Rattle.rules.specs.Sound.{closed, sound_boundary, sound_facet, names_plane, names_none, sound_element}
use Rattle.rules.specs.Table.{rank, rank_of, Element, corner, polytope, boundary, boundary_of, element, element_count, same_element, Table}
use Rattle.rules.proofs.Apart.{Apart, distinct_apart, Plain, plain_facet, plain, plain_once}
use Rattle.rules.proofs.Growing.{all_at}
use Rattle.rules.proofs.Laws.{eq_test, and_left, and_right, not_eq, test_le, both_ways, and_when}
use Rattle.rules.proofs.FaceEdges.{of_all, two as two-entries}
use Rattle.space.specs.Closed.{first_end, second_end, Untwinned, closed_raw}
use Rattle.space.proofs.TwiceMet.{face_same}
use Rattle.soundness.specs.Words.{boundary_in, boundary_sound, facet_words, element_sound, elements_sound}
use Rattle.soundness.proofs.ReadBack.{rows_length}
use borrow.Author.Tests.{ltb-true, le-ltb}

-- ---- an entry of a table read from rows

rows_at : {A : Type 0} (w n x : ℕ) (l : List A) (d : List A) → x < n → get_or (rows n w l) x d ≡ take w (drop (x * w) l)
rows_at w zero x l d h = absurd (not-suc-le-zero h)
rows_at w (suc n) zero l d h = ap (λ (k : ℕ). take w (drop k l)) (sym (zero-mul w))
rows_at w (suc n) (suc x) l d h =
    rows_at w n x (drop w l) d (le_of_suc-le-suc h)
    ∙ ap (take w) (drop-drop (x * w) w l ∙ ap (λ (k : ℕ). drop k l) (let m = suc-mul x w in let q : w + x * w ≡ suc x * w = omega (arith, m) in q))

getD_at_map : {A B : Type 0} (f : A → B) (l : List A) (n : ℕ) (d : A) (e : B) → n < length l → get_or (map f l) n e ≡ f (get_or l n d)
getD_at_map f [] n d e h = absurd (not-suc-le-zero h)
getD_at_map f (x ∷ l) zero d e h = refl
getD_at_map f (x ∷ l) (suc n) d e h = getD_at_map f l n d e (le_of_suc-le-suc h)

rank_read : (r : List ℕ) → rank_of (read_element r) ≡ get_or r 0 0
unfolding read_element
rank_read r = go (eqb (get_or r 0 0) 0) refl
  where
    go : (b : Bool) → eqb (get_or r 0 0) 0 ≡ b → rank_of (if b then corner (get_or r 4 0) else polytope (get_or r 0 0) (boundary_in r) (plane_named (get_or r 2 0)) (eqb (get_or r 1 0) 1)) ≡ get_or r 0 0
    go true q = sym (eq_test _ _ q)
    go false q = refl

-- of rank above 0
boundary_read : (r : List ℕ) → eqb (get_or r 0 0) 0 ≡ false → boundary_of (read_element r) ≡ boundary_in r
unfolding read_element
boundary_read r q = ap (λ (b : Bool). boundary_of (if b then corner (get_or r 4 0) else polytope (get_or r 0 0) (boundary_in r) (plane_named (get_or r 2 0)) (eqb (get_or r 1 0) 1))) q

-- an edge has two ends, the lower first, and from three dimensions on it is no more than those
record TwoEnds (d : ℕ) (b : List ℕ) (e : Element) : Type 0 where
  count : length b ≡ 2
  order : rises b ≡ true
  plain : 2 < d → Plain e

all_under : (p q r : ℕ → Bool) → ((x : ℕ) → p x ≡ true → q x ≡ r x) → (b : List ℕ) → all p b ≡ true → all q b ≡ all r b
all_under p q r h [] k = refl
all_under p q r h (x ∷ xs) k = ap₂ (λ (a b : Bool). a && b) (h x (and_left (p x) (all p xs) k)) (all_under p q r h xs (and_right (p x) (all p xs) k))

-- the table read from the elements' words, whatever its points
module _ (t : Table) (es : List ℕ) (n : ℕ) (long : length es ≡ 18432) (fit : n ≤ 512) (is : t.elements ≡ map read_element (rows n 36 es))
    (h : ℕ) (planes : length t.planes ≡ h) (low : h ≤ 64) where
  pub entry : (x : ℕ) → x < n → element t x ≡ read_element (take 36 (drop (x * 36) es))
  entry x l =
      ap (λ (k : List Element). get_or k x (corner 0)) is
      ∙ getD_at_map read_element (rows n 36 es) x [] (corner 0) (let e = rows_length n 36 es in let q : x < length (rows n 36 es) = omega (arith, e, l) in q)
      ∙ ap read_element (rows_at 36 n x es [] l)

  word : (x j : ℕ) → j < 36 → get_or (take 36 (drop (x * 36) es)) j 0 ≡ get_or es (x * 36 + j) 0
  word x j l = get_or-take 36 (drop (x * 36) es) j 0 l ∙ get_or-drop (x * 36) es j 0

  rank_at : (x : ℕ) → x < n → rank t x ≡ get_or es (x * 36) 0
  rank_at x l = ap rank_of (entry x l) ∙ rank_read (take 36 (drop (x * 36) es)) ∙ word x 0 (lit≤ tt) ∙ ap (λ (k : ℕ). get_or es k 0) (add-zero (x * 36))

  row_long : (x : ℕ) → x < n → length (take 36 (drop (x * 36) es)) ≡ 36
  row_long x l =
      let k = length-drop (x * 36) es in
      length-take-le 36 (drop (x * 36) es) (let q : 36 ≤ length (drop (x * 36) es) = omega (arith, k, long, l, fit) in q)

  abbrev d : ℕ
  d = t.dimension

  long_table : element_count t ≡ n
  long_table = ap length is ∙ length-map (rows n 36 es) read_element ∙ rows_length n 36 es

  -- each edge has its two ends
  abbrev AllTwo : Type 0
  AllTwo = (x : ℕ) → x < n → rank t x ≡ 1 → TwoEnds d (boundary t x) (element t x)

  facet_same : (r p m : ℕ) → sound_facet t r (plane_named p) (eqb m 1) ≡ facet_words t.dimension h r p m
  unfolding sound_facet facet_words
  facet_same r p m = ap₂ (λ (a b : Bool). if eqb (suc r) t.dimension then a else (b && not (eqb m 1))) (named (eqb p no_plane) refl) (none_named (eqb p no_plane))
    where
      named : (b : Bool) → eqb p no_plane ≡ b → names_plane t (if b then None else Some p) ≡ ltb p h
      named true q = let z = eq_test p no_plane q in sym (le-ltb p h (let y : h ≤ p = omega (arith, low, z) in y))
      named false q = ap (ltb p) planes

      none_named : (b : Bool) → names_none (if b then None else Some p) ≡ b
      none_named true = refl
      none_named false = refl

  two_words : (r : List ℕ) → length r ≡ 36 → length (boundary_in r) ≡ 2 → boundary_in r ≡ get_or r 4 0 ∷ get_or r 5 0 ∷ []
  two_words [] e q = absurd (let z : ⊥ = omega (arith, e) in z)
  two_words (a ∷ []) e q = absurd (let z : ⊥ = omega (arith, e) in z)
  two_words (a ∷ b ∷ []) e q = absurd (let z : ⊥ = omega (arith, e) in z)
  two_words (a ∷ b ∷ c ∷ []) e q = absurd (let z : ⊥ = omega (arith, e) in z)
  two_words (a ∷ b ∷ c ∷ m ∷ l) e q = go m l q
    where
      go : (m : ℕ) (l : List ℕ) → length (take m l) ≡ 2 → take m l ≡ get_or l 0 0 ∷ get_or l 1 0 ∷ []
      go zero l q = absurd (let z : ⊥ = omega (arith, q) in z)
      go (suc m) [] q = absurd (let z : ⊥ = omega (arith, q) in z)
      go (suc zero) (x ∷ l) q = absurd (let z : ⊥ = omega (arith, q) in z)
      go (suc (suc m)) (x ∷ []) q = absurd (let z : ⊥ = omega (arith, q) in z)
      go (suc (suc zero)) (x ∷ y ∷ l) q = refl
      go (suc (suc (suc m))) (x ∷ y ∷ []) q = refl
      go (suc (suc (suc m))) (x ∷ y ∷ z ∷ l) q = absurd (let z : ⊥ = omega (arith, q) in z)

  module _ (two : AllTwo) (apart : Apart t) where
    edge_ends_lem : (x : ℕ) → x < n → rank t x ≡ 1 → boundary t x ≡ first_end es x ∷ second_end es x ∷ []
    edge_ends_lem x l q =
        let r = take 36 (drop (x * 36) es) in
        let e : boundary t x ≡ boundary_in r =
        ap boundary_of (entry x l) ∙ boundary_read r (not_eq (get_or r 0 0) 0 (λ z. let k = sym (rank_read r) ∙ sym (ap rank_of (entry x l)) ∙ q in let y : ⊥ = omega (arith, z, k) in y)) in
        e ∙ two_words r (row_long x l) (ap length (sym e) ∙ (two x l q).count) ∙ (λ i. word x 4 (lit≤ tt) i ∷ word x 5 (lit≤ tt) i ∷ [])

    -- the edges below e, each with its two ends in the memory as in the table
    module _ (e : ℕ) (le : e ≤ n) (b : List ℕ) (p : all (λ x. ltb x e) b ≡ true) (q : all (λ x. eqb (suc (rank t x)) 2) b ≡ true) where
      below_e : (x : ℕ) → member x b ≡ true → x < n
      below_e x m = le_trans (ltb-true x e (of_all (λ y. ltb y e) b x p m)) le

      edge_rank : (x : ℕ) → member x b ≡ true → rank t x ≡ 1
      edge_rank x m = let k = eq_test (suc (rank t x)) 2 (of_all (λ y. eqb (suc (rank t y)) 2) b x q m) in omega (arith, k)

      in_use_lem : (x : ℕ) → member x b ≡ true → x < element_count t
      in_use_lem x m = let l = below_e x m in let k = long_table in omega (arith, l, k)

      alone : 2 < t.dimension → Untwinned t b
      alone l x y mx my =
          plain_once t apart x y (in_use_lem x mx) (in_use_lem y my) ((two x (below_e x mx) (edge_rank x mx)).plain l) ((two y (below_e y my) (edge_rank y my)).plain l)

      face_closed : rises b ≡ true → closed_raw d es 2 b ≡ closed t 2 b
      face_closed up =
          face_same d es t b up (λ x m. let k = two x (below_e x m) (edge_rank x m) in two-entries (boundary t x) k.count k.order) (λ x m. le_trans (below_e x m) fit)
          (λ x m. edge_ends_lem x (below_e x m) (edge_rank x m)) alone

    closed_same : (e : ℕ) → e ≤ n → (r : ℕ) (b : List ℕ) → rises b ≡ true → all (λ x. ltb x e) b ≡ true → all (λ x. eqb (suc (rank t x)) r) b ≡ true → closed t r b ≡ closed_raw d es r b
    closed_same e le zero b up p q = refl
    closed_same e le (suc zero) b up p q = refl
    closed_same e le (suc (suc zero)) b up p q = sym (face_closed e le b p q up)
    closed_same e le (suc (suc (suc r))) b up p q = refl

    bound_same : (e : ℕ) → e ≤ n → (r : ℕ) (b : List ℕ) → sound_boundary t e r b ≡ boundary_sound desk es d e r b
    unfolding sound_boundary boundary_sound
    bound_same e le r b =
        let A = all (λ x. ltb x e) b in
        let K = all (λ x. eqb (suc (rank t x)) r) b in
        let K' = all (λ x. eqb (suc (get_or es (x * 36) 0)) r) b in
        let G = ltb r (length b) in
        and_when (rises b && A && K && G) (closed t r b) (closed_raw d es r b)
        (λ p.
        let ranked = and_left (rises b && A && K) G p in
        let early = and_left (rises b && A) K ranked in
        closed_same e le r b (and_left (rises b) A early) (and_right (rises b) A early) (and_right (rises b && A) K ranked))
        ∙ ap (λ (c : Bool). (c && G) && closed_raw d es r b)
        (and_when (rises b && A) K K'
        (λ p. all_under (λ x. ltb x e) (λ x. eqb (suc (rank t x)) r) (λ x. eqb (suc (get_or es (x * 36) 0)) r) (λ x lx. ap (λ (k : ℕ). eqb (suc k) r) (rank_at x (le_trans (ltb-true x e lx) le))) b (and_right (rises b) A p)))

    element_same : (e : ℕ) → e ≤ n → (r : List ℕ) → sound_element t e (read_element r) ≡ element_sound desk es t.dimension h e r
    unfolding read_element element_sound
    element_same e le r = go (eqb (get_or r 0 0) 0) refl
      where
        go : (b : Bool) → eqb (get_or r 0 0) 0 ≡ b
            → sound_element t e (if b then corner (get_or r 4 0) else polytope (get_or r 0 0) (boundary_in r) (plane_named (get_or r 2 0)) (eqb (get_or r 1 0) 1))
            ≡ (if b then true else (leb (get_or r 0 0) t.dimension && boundary_sound desk es d e (get_or r 0 0) (boundary_in r) && facet_words t.dimension h (get_or r 0 0) (get_or r 2 0) (get_or r 1 0)))
        go true q = refl
        go false q =
            let a = get_or r 0 0 in
            ap (λ (c : Bool). c && leb a t.dimension && sound_boundary t e a (boundary_in r) && sound_facet t a (plane_named (get_or r 2 0)) (eqb (get_or r 1 0) 1)) (test_le 1 a (positive a q))
            ∙ ap₂ (λ (b c : Bool). leb a t.dimension && b && c) (bound_same e le a (boundary_in r)) (facet_same a (get_or r 2 0) (get_or r 1 0))
          where
            positive : (a : ℕ) → eqb a 0 ≡ false → 1 ≤ a
            positive zero q = absurd (false≢true (sym q))
            positive (suc a) q = let z : 1 ≤ suc a = omega arith in z

    from_same : (k : ℕ) (rs : List (List ℕ)) → k + length rs ≤ n → all_from k (sound_element t) (map read_element rs) ≡ all_from k (element_sound desk es t.dimension h) rs
    from_same k [] l = refl
    from_same k (r ∷ rs) l =
        ap₂ (λ (a b : Bool). a && b) (element_same k (let q : k ≤ n = omega (arith, l) in q) r) (from_same (suc k) rs (let q : suc k + length rs ≤ n = omega (arith, l) in q))

    elements_when : all_from 0 (sound_element t) t.elements ≡ elements_sound desk t.dimension n h es
    unfolding elements_sound
    elements_when =
        ap (all_from 0 (sound_element t)) is
        ∙ from_same 0 (rows n 36 es) (let e = rows_length n 36 es in let q : 0 + length (rows n 36 es) ≤ n = omega (arith, e) in q)

  -- ---- either test tells that each edge has two ends

  edge_closed : (r : ℕ) (b : List ℕ) → r ≡ 1 → closed t r b ≡ true → length b ≡ 2
  edge_closed zero b q c = absurd (let z : ⊥ = omega (arith, q) in z)
  edge_closed (suc zero) b q c = eq_test (length b) 2 c
  edge_closed (suc (suc r)) b q c = absurd (let z : ⊥ = omega (arith, q) in z)

  raw_closed : (r : ℕ) (b : List ℕ) → r ≡ 1 → closed_raw d es r b ≡ true → length b ≡ 2
  raw_closed zero b q c = absurd (let z : ⊥ = omega (arith, q) in z)
  raw_closed (suc zero) b q c = eq_test (length b) 2 c
  raw_closed (suc (suc r)) b q c = absurd (let z : ⊥ = omega (arith, q) in z)

  element_two : (k : ℕ) (e : Element) → sound_element t k e ≡ true → rank_of e ≡ 1 → TwoEnds d (boundary_of e) e
  unfolding sound_boundary
  element_two k (corner v) s q = absurd (let z : ⊥ = omega (arith, q) in z)
  element_two k (polytope r b p m) s q =
      let A = all (λ x. ltb x k) b in
      let K = all (λ x. eqb (suc (rank t x)) r) b in
      let G = ltb r (length b) in
      let w = and_right (leb 1 r && leb r t.dimension) (sound_boundary t k r b) (and_left (leb 1 r && leb r t.dimension && sound_boundary t k r b) (sound_facet t r p m) s) in
      record {
        count = edge_closed r b q (and_right (rises b && A && K && G) (closed t r b) w);
        order = and_left (rises b) A (and_left (rises b && A) K (and_left (rises b && A && K) G (and_left (rises b && A && K && G) (closed t r b) w)));
        plain = λ l. plain t k (polytope r b p m) l s q;
      }

  table_two : all_from 0 (sound_element t) t.elements ≡ true → AllTwo
  table_two a x l =
      let e = ap length is ∙ length-map (rows n 36 es) read_element ∙ rows_length n 36 es in
      element_two (0 + x) (element t x) (all_at (sound_element t) 0 t.elements x (corner 0) (let q : x < length t.elements = omega (arith, e, l) in q) a)

  -- the entry of an edge's row
  plain_read : (r : List ℕ) → get_or r 0 0 ≡ 1 → plane_named (get_or r 2 0) ≡ None → eqb (get_or r 1 0) 1 ≡ false → Plain (read_element r)
  unfolding read_element
  plain_read r q none_there unmarked =
      let y = read_element r in
      let e : read_element r ≡ polytope 1 (boundary_in r) None false =
      ap (λ (b : Bool). if b then corner (get_or r 4 0) else polytope (get_or r 0 0) (boundary_in r) (plane_named (get_or r 2 0)) (eqb (get_or r 1 0) 1)) (not_eq (get_or r 0 0) 0 (λ z. let w : ⊥ = omega (arith, z, q) in w))
      ∙ (λ i. polytope (q i) (boundary_in r) (none_there i) (unmarked i)) in
      e ∙ ap (λ (b : List ℕ). polytope 1 b None false) (sym (ap boundary_of e))

  row_two : (k : ℕ) (r : List ℕ) → element_sound desk es t.dimension h k r ≡ true → get_or r 0 0 ≡ 1 → TwoEnds d (boundary_in r) (read_element r)
  unfolding element_sound boundary_sound
  row_two k r s q =
      let a = get_or r 0 0 in
      let b = boundary_in r in
      let B = rises b && all (λ x. ltb x k) b && all (λ x. eqb (suc (get_or es (x * 36) 0)) a) b && ltb a (length b) in
      let F = facet_words t.dimension h a (get_or r 2 0) (get_or r 1 0) in
      let W = leb a t.dimension && (B && closed_raw d es a b) && F in
      let s' : W ≡ true = ap (λ (c : Bool). if c then true else W) (sym (not_eq a 0 (λ z. let y : ⊥ = omega (arith, z, q) in y))) ∙ s in
      let w = and_right (leb a t.dimension) (B && closed_raw d es a b) (and_left (leb a t.dimension && (B && closed_raw d es a b)) F s') in
      let A = all (λ x. ltb x k) b in
      let K = all (λ x. eqb (suc (get_or es (x * 36) 0)) a) b in
      record {
        count = raw_closed a b q (and_right B (closed_raw d es a b) w);
        order = and_left (rises b) A (and_left (rises b && A) K (and_left (rises b && A && K) (ltb a (length b)) (and_left B (closed_raw d es a b) w)));
        plain = λ l.
            let f = and_right (leb a t.dimension && (B && closed_raw d es a b)) F s' in
            let g = plain_facet t (plane_named (get_or r 2 0)) (eqb (get_or r 1 0) 1) l (subst (λ (j : ℕ). sound_facet t j (plane_named (get_or r 2 0)) (eqb (get_or r 1 0) 1) ≡ true) q (facet_same a (get_or r 2 0) (get_or r 1 0) ∙ f)) in
            plain_read r q g.0 g.1;
      }

  words_two : elements_sound desk t.dimension n h es ≡ true → AllTwo
  unfolding elements_sound
  words_two a x l q =
      let r = take 36 (drop (x * 36) es) in
      let one : get_or r 0 0 ≡ 1 = sym (rank_read r) ∙ sym (ap rank_of (entry x l)) ∙ q in
      let s = all_at (element_sound desk es t.dimension h) 0 (rows n 36 es) x [] (let e = rows_length n 36 es in let z : x < length (rows n 36 es) = omega (arith, e, l) in z) a in
      let read = ap boundary_of (entry x l) ∙ boundary_read r (not_eq (get_or r 0 0) 0 (λ z. let y : ⊥ = omega (arith, z, one) in y)) in
      let w = row_two (0 + x) r (subst (λ (y : List ℕ). element_sound desk es t.dimension h (0 + x) y ≡ true) (rows_at 36 n x es [] l) s) one in
      record { count = ap length read ∙ w.count; order = ap rises read ∙ w.order; plain = λ k. subst Plain (sym (entry x l)) (w.plain k) }

  pub elements_same : distinct same_element t.elements ≡ true → all_from 0 (sound_element t) t.elements ≡ elements_sound desk t.dimension n h es
  elements_same unlike =
      both_ways (all_from 0 (sound_element t) t.elements) (elements_sound desk t.dimension n h es)
      (λ a. sym (elements_when (table_two a) (distinct_apart t unlike)) ∙ a)
      (λ b. elements_when (words_two b) (distinct_apart t unlike) ∙ b)
