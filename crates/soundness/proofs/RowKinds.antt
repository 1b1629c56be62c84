-- The row of a vertex, of an edge and of a higher polytope: what the tests of each kind say is what is asked of every row.
use Prim.Native.Nat.{ℕ, ◌+◌, ◌≤◌, ◌<◌}
use mathlib.Core.Bool.{Bool, true, false, ◌&&◌}
use mathlib.Core.List.{List}
use mathlib.Core.Path.{◌≡◌, refl, sym, ap, ap₂, ◌∙◌}
use native.Mathlib.Omega.{arith}
use lib.Dec.{eqb, leb, lit≤}
use lib.ListN.{length, get_or, take, drop}
use Rattle.rules.specs.Limits.{desk, no_plane}
use Rattle.rules.proofs.Laws.{test_le, le_test, test_eq, not_eq, and_when}
use Rattle.soundness.specs.Words.{head_words, corner_named, boundary_in, boundary_sound, polytope_words, numbers_fit, facet_words, row_sound}
use Rattle.soundness.proofs.ReadBack.{and_one}
use Rattle.soundness.proofs.RowLoops.{row_word, head_corner, head_polytope, named_is}
use Rattle.soundness.proofs.BoundaryLoops.{bound_is, boundary_edge, boundary_open, element_zero, element_more}
use Rattle.soundness.proofs.OnePass.{row_is}
use borrow.Author.Tests.{lt-leb}

-- ---- the boundary, with the count that the code has read

module _ (es ws : List ℕ) (at d e n : ℕ) (en : n ≡ get_or ws (at + 3) 0) where
  abbrev row : List ℕ
  row = take 36 (drop at ws)

  abbrev there : List ℕ
  there = drop (at + 4) (take (at + 4 + n) ws)

  counted : (r : ℕ) → polytope_words desk es d e r row ≡ (leb n 32 && boundary_sound desk es d e r there)
  unfolding polytope_words
  counted r =
      ap (λ (k : ℕ). leb k 32 && boundary_sound desk es d e r (boundary_in row)) (row_word at 3 ws (lit≤ tt) ∙ sym en)
      ∙ and_when (leb n 32) (boundary_sound desk es d e r (boundary_in row)) (boundary_sound desk es d e r there) (λ t. ap (boundary_sound desk es d e r) (bound_is ws at n en (le_test n 32 t)))

  pub polytope_many : (r : ℕ) → 32 < n → false ≡ polytope_words desk es d e r row
  polytope_many r h = sym (counted r ∙ ap (λ (b : Bool). b && boundary_sound desk es d e r there) (lt-leb n 32 h))

  pub polytope_few : {x : Bool} (r : ℕ) → n ≤ 32 → x ≡ boundary_sound desk es d e r there → x ≡ polytope_words desk es d e r row
  polytope_few r h q = q ∙ sym (counted r ∙ ap (λ (b : Bool). b && boundary_sound desk es d e r there) (test_le n 32 h))

  module _ (s : at + 36 ≤ length ws) where
    pub edge_open : (n ≡ 2 → ⊥) → false ≡ polytope_words desk es d e 1 row
    edge_open more = go (leb n 32) refl
      where
        go : (b : Bool) → leb n 32 ≡ b → false ≡ polytope_words desk es d e 1 row
        go true t =
            let l = le_test n 32 t in
            polytope_few 1 l (boundary_open es ws (at + 4) n d e 1 (let z : at + 4 + n ≤ length ws = omega (arith, l, s) in z) refl more)
        go false t = sym (counted 1 ∙ ap (λ (b : Bool). b && boundary_sound desk es d e 1 there) t)

    pub edge_two : {x : Bool} → n ≡ 2 → x ≡ numbers_fit desk es e 1 (drop (at + 4) (take (at + 4 + 2) ws)) → x ≡ polytope_words desk es d e 1 row
    edge_two two q =
        polytope_few 1 (let z : n ≤ 32 = omega (arith, two) in z)
        (boundary_edge es ws (at + 4) n d e 1 (let z : at + 4 + n ≤ length ws = omega (arith, two, s) in z) refl two q)

-- ---- the whole row

-- a vertex's, by its tests
pub corner_is : (es : List ℕ) (at k : ℕ) (b c f g : Bool) → get_or es at 0 ≡ 0 → eqb 0 (get_or es (at + 1) 0) ≡ b → eqb no_plane (get_or es (at + 2) 0) ≡ c → eqb 1 (get_or es (at + 3) 0) ≡ f
    → eqb (get_or es (at + 4) 0) k ≡ g → (b && c && f && g) ≡ (head_words desk (take 36 (drop at es)) && corner_named k (take 36 (drop at es)))
corner_is es at k b c f g z pb pc pf pg = ap₂ (λ (x y : Bool). x && y) (head_corner at es b c f z pb pc pf) (sym pg ∙ named_is at k es true (test_eq _ 0 z))

-- by its kind, with the rank that the code has read
module _ (es ws : List ℕ) (at d h k e r : ℕ) (er : r ≡ get_or ws at 0) where
  abbrev whole : List ℕ
  whole = take 36 (drop at ws)

  pub row_corner : {x : Bool} → r ≡ 0 → x ≡ (head_words desk whole && corner_named k whole) → x ≡ row_sound desk es d h k e whole
  row_corner z q = q ∙ sym (and_one (head_words desk whole && corner_named k whole)) ∙ row_is es d h k e whole _ _ true refl refl (element_zero es ws at e d h r er z)

  pub row_polytope : (p m : ℕ) (M D B F : Bool) → (r ≡ 0 → ⊥) → p ≡ get_or ws (at + 2) 0 → m ≡ get_or ws (at + 1) 0 → leb (get_or ws (at + 1) 0) 1 ≡ M → leb r d ≡ D
      → polytope_words desk es d e r whole ≡ B → facet_words d h r p m ≡ F → (M && D && B && F) ≡ row_sound desk es d h k e whole
  unfolding polytope_words
  row_polytope p m M D B F z ep em pM pD pB pF =
      let N = leb (get_or whole 3 0) 32 in
      let W = boundary_sound desk es d e r (boundary_in whole) in
      ap (λ (b : Bool). M && D && b && F) (sym pB) ∙ order M N D W F
      ∙ row_is es d h k e whole (M && N) true (D && W && F)
      (sym (head_polytope at ws M N some pM (ap (λ (x : ℕ). leb x 32) (sym (row_word at 3 ws (lit≤ tt))))))
      (sym (named_is at k ws false (not_eq _ 0 some)))
      (element_more es ws at e d h r er p m ep em z ∙ (λ i. pD i && W && pF i))
    where
      some : get_or ws at 0 ≡ 0 → ⊥
      some q = z (er ∙ q)

      order : (M N D W F : Bool) → (M && D && (N && W) && F) ≡ ((M && N) && true && (D && W && F))
      order true true true W F = refl
      order true true false W F = refl
      order true false true W F = refl
      order true false false W F = refl
      order false N D W F = refl
