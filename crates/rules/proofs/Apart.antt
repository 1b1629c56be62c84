-- No two elements of a sound table are equal. So from three dimensions on no two edges share both ends:
-- an edge names no hyperplane there and has no mark, and so its ends are all that it is.
use Rattle.std.specs.Prelude.{if◌then◌else◌, Option, Some, None}
use Prim.Native.Nat.{ℕ, ◌+◌, ◌<◌}
use mathlib.Core.Bool.{Bool, true, false, not, ◌&&◌, false≢true}
use mathlib.Core.List.{List}
use mathlib.Core.Path.{◌≡◌, refl, ap, sym, ◌∙◌, subst}
use native.Mathlib.Nat.{zero-add}
use native.Mathlib.Omega.{arith}
use Rattle.rules.specs.Lists.{find_from, distinct}
use Rattle.rules.specs.Table.{Element, corner, polytope, Table, element, element_count, boundary, boundary_of, rank_of, same_element}
use Rattle.rules.specs.Sound.{names_plane, names_none, sound_facet, sound_element}
use Rattle.rules.proofs.Good.{whole}
use Rattle.rules.proofs.Laws.{and_left, and_right, not_true, not_eq, value_of}
use Rattle.rules.proofs.Missed.{find_own}
use Rattle.rules.proofs.Selves.{element_self}

abbrev pub Apart : Table → Type 0
Apart t = (e e' : ℕ) → e < element_count t → e' < element_count t → element t e ≡ element t e' → e ≡ e'

pub distinct_apart : (t : Table) → distinct same_element t.elements ≡ true → Apart t
distinct_apart t d e e' l l' q =
    let s = find_own same_element element_self 0 e t.elements (corner 0) l d in
    let s' = find_own same_element element_self 0 e' t.elements (corner 0) l' d in
    let z : 0 + e ≡ 0 + e' = ap value_of (sym s ∙ ap (λ (y : Element). find_from 0 (same_element y) t.elements) q ∙ s') in
    sym (zero-add e) ∙ z ∙ zero-add e'

-- ---- edges that are no facets

-- an edge that is its ends: no hyperplane and no mark
abbrev pub Plain : Element → Type 0
Plain y = y ≡ polytope 1 (boundary_of y) None false

pub plain_facet : (t : Table) (h : Option ℕ) (m : Bool) → 2 < t.dimension → sound_facet t 1 h m ≡ true → (h ≡ None) × (m ≡ false)
unfolding sound_facet
plain_facet t h m l s =
    let k : (names_none h && not m) ≡ true =
    subst (λ (b : Bool). (if b then names_plane t h else (names_none h && not m)) ≡ true) (not_eq 2 t.dimension (λ e. let z : ⊥ = omega (arith, e, l) in z)) s in
    (named h (and_left (names_none h) (not m) k), not_true m (and_right (names_none h) (not m) k))
  where
    named : (h : Option ℕ) → names_none h ≡ true → h ≡ None
    named None e = refl
    named (Some p) e = absurd (false≢true e)

pub plain : (t : Table) (e : ℕ) (y : Element) → 2 < t.dimension → sound_element t e y ≡ true → rank_of y ≡ 1 → Plain y
plain t e (corner v) l s q = absurd (let z : ⊥ = omega (arith, q) in z)
plain t e (polytope r b h m) l s q =
    let f = plain_facet t h m l (subst (λ (k : ℕ). sound_facet t k h m ≡ true) q (whole t e r b h m s).facet) in λ i. polytope (q i) b (f.0 i) (f.1 i)

-- two of them with the same ends are one
pub plain_once : (t : Table) → Apart t → (x y : ℕ) → x < element_count t → y < element_count t → Plain (element t x) → Plain (element t y) → boundary t x ≡ boundary t y → x ≡ y
plain_once t apart x y l k p q e = apart x y l k (p ∙ ap (λ (b : List ℕ). polytope 1 b None false) e ∙ sym q)
