-- The loops over a boundary.
use Rattle.std.specs.Prelude.{if◌then◌else◌}
use Prim.Native.Nat.{ℕ, suc, ◌≤◌, ◌<◌, zero, ◌+◌, ◌*◌}
use mathlib.Core.Bool.{Bool, not, ◌&&◌, true, false}
use mathlib.Core.List.{List, [], ◌∷◌}
use mathlib.Core.Path.{◌≡◌, sym, subst, refl, ap, ◌∙◌}
use native.Mathlib.Nat.{not-suc-le-zero, le_of_suc-le-suc}
use native.Mathlib.Omega.{arith}
use lib.Dec.{eqb, ltb, leb, lit≤}
use lib.ListN.{length, drop, take, get_or, length-drop}
use lib.Seq.{get_or-take, get_or-drop, length-take-le, drop-drop, take-take}
use Rattle.rules.specs.Limits.{no_plane, desk}
use Rattle.rules.specs.Lists.{all, rises}
use Rattle.rules.proofs.Laws.{and_left, and_right, test_eq, eq_test, not_eq, unlike_eq}
use Rattle.rules.proofs.Borders.{rise_at}
use Rattle.rules.proofs.Growing.{all_get}
use Rattle.space.specs.Closed.{closed_raw, met_twice, ring_raw, few, EndsLow}
use Rattle.space.proofs.TwiceMet.{closed_one, closed_few, closed_many, closed_other}
use Rattle.soundness.specs.Words.{facet_words, head_words, element_sound, number_fits, numbers_fit, few_words, face_words, boundary_sound, boundary_in, EdgesLow}
use Rattle.soundness.proofs.ReadBack.{and_one, and_zero}
use Rattle.soundness.proofs.RowLoops.{head_few, drop_take, row_first, row_word}
use borrow.Author.Tests.{ltb-true, lt-ltb}

pub facet_are : (d h r p m : ℕ) (a b c e : Bool) → eqb (suc r) d ≡ a → ltb p h ≡ b → eqb p no_plane ≡ c → not (eqb m 1) ≡ e → (if a then b else (c && e)) ≡ facet_words d h r p m
unfolding facet_words
facet_are d h r p m a b c e w x y z = sym (λ i. if w i then x i else (y i && z i))

-- an entry of a tested list
all_between : (p : ℕ → Bool) (l : List ℕ) (from to i : ℕ) → to ≤ length l → all p (drop from (take to l)) ≡ true → from ≤ i → i < to → p (get_or l i 0) ≡ true
all_between p l from to i fit h a b =
    subst (λ (x : ℕ). p x ≡ true) (get_or-take to l i 0 b) (go (take to l) from i h a (let e = length-take-le to l fit in let q : i < length (take to l) = omega (arith, e, b) in q))
  where
    go : (k : List ℕ) (f i : ℕ) → all p (drop f k) ≡ true → f ≤ i → i < length k → p (get_or k i 0) ≡ true
    go [] f i h a b = absurd (not-suc-le-zero b)
    go (x ∷ k) zero zero h a b = and_left (p x) (all p k) h
    go (x ∷ k) zero (suc i) h a b = go k zero i (and_right (p x) (all p k) h) (let q : zero ≤ i = omega arith in q) (le_of_suc-le-suc b)
    go (x ∷ k) (suc f) zero h a b = absurd (not-suc-le-zero a)
    go (x ∷ k) (suc f) (suc i) h a b = go k f i h (le_of_suc-le-suc a) (le_of_suc-le-suc b)

-- ---- the row of an element

-- its boundary, in the row and in the memory
pub bound_is : (es : List ℕ) (at n : ℕ) → n ≡ get_or es (at + 3) 0 → n ≤ 32 → boundary_in (take 36 (drop at es)) ≡ drop (at + 4) (take (at + 4 + n) es)
bound_is es at n en l =
    ap (λ (k : ℕ). take k (drop 4 (take 36 (drop at es)))) (row_word at 3 es (lit≤ tt) ∙ sym en) ∙ take_it
    ∙ ap (take n) (drop-drop 4 at es) ∙ sym (drop_take (at + 4) n es)
  where
    take_it : take n (drop 4 (take (4 + 32) (drop at es))) ≡ take n (drop 4 (drop at es))
    take_it = ap (take n) (drop_take 4 32 (drop at es)) ∙ take-take n 32 (drop 4 (drop at es)) l

module _ (es ws : List ℕ) (at e d h r : ℕ) (er : r ≡ get_or ws at 0) where
  abbrev row : List ℕ
  row = take 36 (drop at ws)

  -- by whether it is a vertex
  abbrev by_kind : Bool → Bool
  by_kind c = if c then true else (leb (get_or row 0 0) d && boundary_sound desk es d e (get_or row 0 0) (boundary_in row) && facet_words d h (get_or row 0 0) (get_or row 2 0) (get_or row 1 0))

  pub element_zero : r ≡ 0 → element_sound desk es d h e row ≡ true
  unfolding element_sound
  element_zero z = ap by_kind (test_eq (get_or row 0 0) 0 (row_first at ws ∙ sym er ∙ z))

  pub element_more : (p m : ℕ) → p ≡ get_or ws (at + 2) 0 → m ≡ get_or ws (at + 1) 0 → (r ≡ 0 → ⊥)
      → element_sound desk es d h e row ≡ (leb r d && boundary_sound desk es d e r (boundary_in row) && facet_words d h r p m)
  unfolding element_sound
  element_more p m ep em z =
      let first = row_first at ws ∙ sym er in
      let second = row_word at 1 ws (lit≤ tt) ∙ sym em in
      let third = row_word at 2 ws (lit≤ tt) ∙ sym ep in
      ap by_kind (not_eq (get_or row 0 0) 0 (λ q. z (sym first ∙ q)))
      ∙ (λ i. leb (first i) d && boundary_sound desk es d e (first i) (boundary_in row) && facet_words d h (first i) (third i) (second i))

-- ---- a boundary, test by test

module _ (es ws : List ℕ) (at n d e r : ℕ) (f : at + n ≤ length ws) where
  abbrev there : List ℕ
  there = drop at (take (at + n) ws)

  pub boundary_long : length there ≡ n
  boundary_long =
      let k = length-take-le (at + n) ws f in
      let j = length-drop at (take (at + n) ws) in
      let q : length there ≡ n = omega (arith, k, j) in q

  boundary_are : (G R A K C : Bool) → ltb r n ≡ G → rises there ≡ R → all (λ x. ltb x e) there ≡ A → all (λ x. eqb (suc (get_or es (x * 36) 0)) r) there ≡ K → closed_raw d es r there ≡ C
      → (G && R && A && K && C) ≡ boundary_sound desk es d e r there
  unfolding boundary_sound
  boundary_are G R A K C p₁ p₂ p₃ p₄ p₅ = shuffle G R A K C ∙ sym ((λ i. p₂ i && p₃ i && p₄ i && ltb r (boundary_long i) && p₅ i) ∙ ap (λ (g : Bool). R && A && K && g && C) p₁)
    where
      shuffle : (G R A K C : Bool) → (G && R && A && K && C) ≡ (R && A && K && G && C)
      shuffle true true true true C = refl
      shuffle false true true true C = refl
      shuffle true true true false C = refl
      shuffle false true true false C = refl
      shuffle true true false K C = refl
      shuffle false true false K C = refl
      shuffle true false A K C = refl
      shuffle false false A K C = refl

  pub boundary_by : (G F C : Bool) → ltb r n ≡ G → numbers_fit desk es e r there ≡ F → closed_raw d es r there ≡ C → (G && F && C) ≡ boundary_sound desk es d e r there
  boundary_by G F C p q c = ap (λ (b : Bool). G && b && C) (sym q) ∙ regroup G (rises there) (all (λ x. ltb x e) there) (all (λ x. eqb (suc (get_or es (x * 36) 0)) r) there) C
      ∙ boundary_are G _ _ _ C p refl refl refl c
    where
      regroup : (G R A K C : Bool) → (G && (R && A && K) && C) ≡ (G && R && A && K && C)
      regroup true R A K C = refl
      regroup false R A K C = refl

  -- an edge's is closed by its count, and a body's always
  pub boundary_edge : {x : Bool} → r ≡ 1 → n ≡ 2 → x ≡ numbers_fit desk es e 1 (drop at (take (at + 2) ws)) → x ≡ boundary_sound desk es d e r there
  boundary_edge one two q =
      q ∙ (λ i. numbers_fit desk es e (sym one i) (drop at (take (at + sym two i) ws))) ∙ sym (and_one (numbers_fit desk es e r there))
      ∙ boundary_by true _ true (lt-ltb r n (let z : r < n = omega (arith, one, two) in z)) refl (sym (closed_one d es there r n boundary_long one) ∙ test_eq n 2 two)

  pub boundary_open : r ≡ 1 → (n ≡ 2 → ⊥) → false ≡ boundary_sound desk es d e r there
  boundary_open one more =
      sym (and_zero (ltb r n && numbers_fit desk es e r there)) ∙ boundary_by _ _ false refl refl (sym (closed_one d es there r n boundary_long one) ∙ not_eq n 2 more)

  pub boundary_body : {x : Bool} → (r ≡ 1 → ⊥) → (r ≡ 2 → ⊥) → ltb r n ≡ true → x ≡ numbers_fit desk es e r there → x ≡ boundary_sound desk es d e r there
  boundary_body no_edge no_face g q = q ∙ sym (and_one (numbers_fit desk es e r there)) ∙ boundary_by true _ true g refl (sym (closed_other d es there r no_edge no_face))

  -- a face's, both at once
  pub boundary_few : {x : Bool} → r ≡ 2 → ltb r n ≡ true → n ≤ few d → x ≡ few_words desk es e there → x ≡ boundary_sound desk es d e r there
  boundary_few two g l q =
      q ∙ ap (λ (k : ℕ). numbers_fit desk es e k there && met_twice es there) (sym two)
      ∙ boundary_by true _ _ g refl (sym (closed_few d es there r refl (let m = boundary_long in let z : length there ≤ few d = omega (arith, m, l) in z) two))

  pub boundary_face : {x : Bool} → r ≡ 2 → ltb r n ≡ true → few d < n → x ≡ face_words desk es e there → x ≡ boundary_sound desk es d e r there
  boundary_face two g l q =
      q ∙ ap (λ (k : ℕ). numbers_fit desk es e k there && ring_raw es there) (sym two)
      ∙ boundary_by true _ _ g refl (sym (closed_many d es there r refl (let m = boundary_long in let z : few d < length there = omega (arith, m, l) in z) two))

-- ---- the ends of a face's edges

module _ (es : List ℕ) (e : ℕ) (E : EdgesLow es e) where
  edge_ends_lem : (x : ℕ) → ltb x e ≡ true → eqb (suc (get_or es (x * 36) 0)) 2 ≡ true → EndsLow es x
  edge_ends_lem x b k =
      let l = ltb-true x e b in
      let q = eq_test (suc (get_or es (x * 36) 0)) 2 k in
      let one : get_or es (x * 36) 0 ≡ 1 = omega (arith, q) in
      E.ends x l one

  pub number_ends : (low x : ℕ) → number_fits desk es e 2 low x ≡ true → EndsLow es x
  number_ends low x f =
      edge_ends_lem x (and_right (leb low x) (ltb x e) (and_left (leb low x && ltb x e) (eqb (suc (get_or es (x * 36) 0)) 2) f)) (and_right (leb low x && ltb x e) (eqb (suc (get_or es (x * 36) 0)) 2) f)

  pub numbers_ends : (b : List ℕ) → numbers_fit desk es e 2 b ≡ true → (j : ℕ) → j < length b → EndsLow es (get_or b j 0)
  numbers_ends b f j l =
      edge_ends_lem (get_or b j 0)
      (all_get (λ x. ltb x e) b j 0 l (and_right (rises b) (all (λ x. ltb x e) b) (and_left (rises b && all (λ x. ltb x e) b) (all (λ x. eqb (suc (get_or es (x * 36) 0)) 2) b) f)))
      (all_get (λ x. eqb (suc (get_or es (x * 36) 0)) 2) b j 0 l (and_right (rises b && all (λ x. ltb x e) b) (all (λ x. eqb (suc (get_or es (x * 36) 0)) 2) b) f))

pub number_low : (es : List ℕ) (e r low x : ℕ) → number_fits desk es e r low x ≡ true → x < e
number_low es e r low x f = ltb-true x e (and_right (leb low x) (ltb x e) (and_left (leb low x && ltb x e) (eqb (suc (get_or es (x * 36) 0)) r) f))

-- ---- the edges among the rows that are tested

pub edges_none : (es : List ℕ) → EdgesLow es 0
edges_none es = record { ends = λ x h q. absurd (not-suc-le-zero h) }

module _ (es : List ℕ) (e d h : ℕ) (s : length es ≡ 18432) (u : e < 512) (w : head_words desk (take 36 (drop (e * 36) es)) ≡ true) (S : element_sound desk es d h e (take 36 (drop (e * 36) es)) ≡ true) where
  abbrev size : ℕ
  size = get_or es (e * 36 + 3) 0

  abbrev bound : List ℕ
  bound = drop (e * 36 + 4) (take (e * 36 + 4 + size) es)

  module _ (one : get_or es (e * 36) 0 ≡ 1) where
    some : get_or es (e * 36) 0 ≡ 0 → ⊥
    some z = (let q : ⊥ = omega (arith, one, z) in q)

    size_fits : size ≤ 32
    size_fits = head_few (e * 36) es w

    tested : boundary_sound desk es d e (get_or es (e * 36) 0) bound ≡ true
    tested =
        let F = facet_words d h (get_or es (e * 36) 0) (get_or es (e * 36 + 2) 0) (get_or es (e * 36 + 1) 0) in
        let B = boundary_sound desk es d e (get_or es (e * 36) 0) (boundary_in (take 36 (drop (e * 36) es))) in
        ap (boundary_sound desk es d e (get_or es (e * 36) 0)) (sym (bound_is es (e * 36) size refl size_fits))
        ∙ and_right (leb (get_or es (e * 36) 0) d) B (and_left (leb (get_or es (e * 36) 0) d && B) F (sym (element_more es es (e * 36) e d h _ refl _ _ refl refl some) ∙ S))

    parts : (ltb (get_or es (e * 36) 0) size && rises bound && all (λ x. ltb x e) bound) ≡ true
    parts =
        let G = ltb (get_or es (e * 36) 0) size in
        let A = all (λ x. ltb x e) bound in
        let K = all (λ x. eqb (suc (get_or es (x * 36) 0)) (get_or es (e * 36) 0)) bound in
        let C = closed_raw d es (get_or es (e * 36) 0) bound in
        let f = size_fits in
        and_left (G && rises bound && A) K (and_left (G && rises bound && A && K) C
        (boundary_are es es (e * 36 + 4) size d e (get_or es (e * 36) 0) (let q : e * 36 + 4 + size ≤ length es = omega (arith, f, u, s) in q) _ _ _ _ _ refl refl refl refl refl ∙ tested))

    two_ends : 2 ≤ size
    two_ends =
        let l = ltb-true (get_or es (e * 36) 0) size (and_left (ltb (get_or es (e * 36) 0) size) (rises bound) (and_left (ltb (get_or es (e * 36) 0) size && rises bound) (all (λ x. ltb x e) bound) parts)) in
        let q : 2 ≤ size = omega (arith, l, one) in q

    end_low : (j : ℕ) → e * 36 + 4 ≤ j → j < e * 36 + 4 + size → get_or es j 0 < 512
    end_low j a b =
        let f = size_fits in
        let l = ltb-true (get_or es j 0) e (all_between (λ x. ltb x e) es (e * 36 + 4) (e * 36 + 4 + size) j (let q : e * 36 + 4 + size ≤ length es = omega (arith, f, u, s) in q)
        (and_right (ltb (get_or es (e * 36) 0) size && rises bound) (all (λ x. ltb x e) bound) parts) a b) in
        let q : get_or es j 0 < 512 = omega (arith, l, u) in q

    both_ends : EndsLow es e
    both_ends =
        let z = two_ends in
        let f = size_fits in
        let w : e * 36 + 4 + size ≤ length es = omega (arith, f, u, s) in
        let k = length-take-le (e * 36 + 4 + size) es w in
        let j = length-drop (e * 36 + 4) (take (e * 36 + 4 + size) es) in
        let r = and_right (ltb (get_or es (e * 36) 0) size) (rises bound) (and_left (ltb (get_or es (e * 36) 0) size && rises bound) (all (λ x. ltb x e) bound) parts) in
        record {
          apart =
              let h = rise_at bound r 0 1 (let q : 0 < 1 = omega arith in q) (let q : 1 < length bound = omega (arith, z, k, j) in q) in
              let a = word_of 0 (let q : 0 < size = omega (arith, z) in q) in
              let b = word_of 1 (let q : 1 < size = omega (arith, z) in q) in
              let q : get_or es (e * 36 + 4) 0 < get_or es (e * 36 + 5) 0 = omega (arith, h, a, b) in q;
          second = end_low (e * 36 + 5) (let q : e * 36 + 4 ≤ e * 36 + 5 = omega arith in q) (let q : e * 36 + 5 < e * 36 + 4 + size = omega (arith, z) in q);
        }
      where
        word_of : (i : ℕ) → i < size → get_or bound i 0 ≡ get_or es (e * 36 + (4 + i)) 0
        word_of i l =
            get_or-drop (e * 36 + 4) (take (e * 36 + 4 + size) es) i 0
            ∙ get_or-take (e * 36 + 4 + size) es (e * 36 + 4 + i) 0 (let q : e * 36 + 4 + i < e * 36 + 4 + size = omega (arith, l) in q)
            ∙ ap (λ (m : ℕ). get_or es m 0) (let q : e * 36 + 4 + i ≡ e * 36 + (4 + i) = omega arith in q)

  pub edges_on : EdgesLow es e → EdgesLow es (e + 1)
  edges_on E = record { ends = λ x l q. go x l q (eqb x e) refl }
    where
      go : (x : ℕ) → x < e + 1 → get_or es (x * 36) 0 ≡ 1 → (b : Bool) → eqb x e ≡ b → EndsLow es x
      go x l q true t = let m = eq_test x e t in subst (λ (y : ℕ). EndsLow es y) (sym m) (both_ends (ap (λ (y : ℕ). get_or es (y * 36) 0) (sym m) ∙ q))
      go x l q false t = let m = unlike_eq x e t in E.ends x (let p : x < e = omega (arith, l, m) in p) q
