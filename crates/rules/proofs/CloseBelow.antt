-- Close calls below an element, found as the rules go, through boundaries: the same in a later table, and those of the vertex set.
use Prim.Native.Nat.{ℕ, zero, suc, ◌<◌}
use mathlib.Core.Bool.{Bool, true, ◌||◌}
use mathlib.Core.List.{List, [], ◌∷◌}
use mathlib.Core.Path.{◌≡◌, refl, sym, ap, subst, ◌∙◌}
use native.Mathlib.Nat.{le_trans, le_of_lt, zero-lt-suc, suc_inj}
use lib.Ieee.{Float}
use lib.ListN.{get_or}
use Rattle.rules.specs.Limits.{Limits}
use Rattle.rules.specs.Lists.{any}
use Rattle.rules.specs.Floats.{close_call, signed_distance}
use Rattle.rules.specs.Table.{Plane, Table, Element, corner, polytope, element, rank, boundary, boundary_of, vertex_of, element_count, point_at, point_of}
use Rattle.rules.specs.Sound.{sound}
use Rattle.rules.specs.Questions.{vertex_set}
use Rattle.rules.specs.Held.{Extends}
use Rattle.rules.specs.Asking.{border, vertex_below}
use Rattle.rules.specs.Touch.{some_close_call}
use Rattle.rules.proofs.Borders.{sound_bordered}
use Rattle.rules.proofs.Common.{vertex_set_is_the_union}
use Rattle.rules.proofs.Extends.{Below, element_same}
use Rattle.rules.proofs.Fine.{Fine, point_at_same, boundary_below}
use Rattle.rules.proofs.Good.{above_zero, sound_good}
use Rattle.rules.proofs.Laws.{both_ways, eq_test, eqb_self}
use Rattle.rules.proofs.Reach.{some_at, at_some, some_of_lem, any_at}

-- whether a point is a close call
abbrev pub close_to : Plane → List Float → Bool
close_to h p = close_call (signed_distance h.normal h.distance p)

-- some corner of element e, of rank r, is a close call
unfoldable pub close_below : Plane → Table → ℕ → ℕ → Bool
close_below h t zero e = close_to h (point_at t e)
close_below h t (suc r) e = any (close_below h t r) (boundary t e)

-- ---- in a later table

any_same : (p q : ℕ → Bool) (n : ℕ) → ((x : ℕ) → x < n → p x ≡ q x) → (xs : List ℕ) → Below n xs → any p xs ≡ any q xs
any_same p q n h [] b = refl
any_same p q n h (x ∷ xs) b = λ j. h x b.0 j || any_same p q n h xs b.1 j

pub close_later : (h : Plane) (t u : Table) → Fine t → Extends t u → (r e : ℕ) → e < element_count t → close_below h u r e ≡ close_below h t r e
unfolding close_below
close_later h t u f x zero e l = ap (close_to h) (point_at_same t u e f x l)
close_later h t u f x (suc r) e l =
    ap (λ (y : Element). any (close_below h u r) (boundary_of y)) (element_same t u e x l)
    ∙ any_same (close_below h u r) (close_below h t r) (element_count t) (λ b m. close_later h t u f x r b m) (boundary t e) (boundary_below t e f l)

-- ---- and the vertex set

module _ (L : Limits) (t : Table) (s : sound L t ≡ true) (h : Plane) where
  abbrev close_vertex : ℕ → Bool
  close_vertex v = close_to h (get_or t.points v [])

  -- a corner has the point of its vertex
  own_point : (e : ℕ) → e < element_count t → rank t e ≡ 0 → close_to h (point_at t e) ≡ close_vertex (vertex_of (element t e))
  own_point e l k = go (element t e) refl
    where
      go : (y : Element) → element t e ≡ y → close_to h (point_of t.points y) ≡ close_vertex (vertex_of y)
      go (corner v) q = refl
      go (polytope r b j m) q = absurd (above_zero L t e r b j m (sound_good L t s) l q k)

  found_vertex : (r e : ℕ) → rank t e ≡ r → e < element_count t → close_below h t r e ≡ true → (v : ℕ) × (vertex_below t r e v ≡ true) × (close_vertex v ≡ true)
  unfolding close_below vertex_below
  found_vertex zero e q l c = (vertex_of (element t e), eqb_self (vertex_of (element t e)), sym (own_point e l q) ∙ c)
  found_vertex (suc r) e q l c =
      let a = some_at (close_below h t r) (boundary t e) c in
      let b = sound_bordered L t s e l (subst (λ (n : ℕ). 0 < n) (sym q) (zero-lt-suc r)) in
      let k = found_vertex r (border t e a.0) (suc_inj (b.ranks a.0 a.1 ∙ q)) (le_trans (b.earlier a.0 a.1) (le_of_lt l)) a.2 in
      (k.0, at_some (λ y. vertex_below t r y k.0) (boundary t e) a.0 a.1 k.1, k.2)

  vertex_found : (r e v : ℕ) → rank t e ≡ r → e < element_count t → vertex_below t r e v ≡ true → close_vertex v ≡ true → close_below h t r e ≡ true
  unfolding close_below vertex_below
  vertex_found zero e v q l m c = own_point e l q ∙ ap close_vertex (sym (eq_test v (vertex_of (element t e)) m)) ∙ c
  vertex_found (suc r) e v q l m c =
      let a = some_at (λ y. vertex_below t r y v) (boundary t e) m in
      let b = sound_bordered L t s e l (subst (λ (n : ℕ). 0 < n) (sym q) (zero-lt-suc r)) in
      at_some (close_below h t r) (boundary t e) a.0 a.1
      (vertex_found r (border t e a.0) v (suc_inj (b.ranks a.0 a.1 ∙ q)) (le_trans (b.earlier a.0 a.1) (le_of_lt l)) a.2 c)

  pub close_vertices : (e : ℕ) → e < element_count t → close_below h t (rank t e) e ≡ some_close_call h t e
  close_vertices e l = both_ways (close_below h t (rank t e) e) (any close_vertex (vertex_set t e)) into out
    where
      into : close_below h t (rank t e) e ≡ true → any close_vertex (vertex_set t e) ≡ true
      into c =
          let k = found_vertex (rank t e) e refl l c in
          any_at close_vertex (vertex_set t e) k.0 (vertex_set_is_the_union L t s e k.0 l ∙ k.1) k.2

      out : any close_vertex (vertex_set t e) ≡ true → close_below h t (rank t e) e ≡ true
      out c =
          let k = some_of_lem close_vertex (vertex_set t e) c in
          vertex_found (rank t e) e k.0 refl l (sym (vertex_set_is_the_union L t s e k.0 l) ∙ k.1) k.2
