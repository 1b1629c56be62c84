-- Vertex elements name the vertices in order: so a vertex in use has its element, the next vertex has none yet, and a corner names a vertex in use.
use Rattle.std.specs.Prelude.{if◌then◌else◌, Option, Some}
use Prim.Native.Nat.{ℕ, suc, ◌≤◌, ◌<◌, ◌+◌, zero, zero-le}
use mathlib.Core.Bool.{Bool, ◌||◌, true, false, false≢true, true≢false}
use mathlib.Core.List.{List, map, [], ◌∷◌}
use mathlib.Core.Path.{◌≡◌, refl, ap, ◌∙◌, sym, subst}
use native.Mathlib.Nat.{zero-add, le_refl, not-suc-le-zero, le_of_suc-le-suc}
use native.Mathlib.Omega.{arith}
use lib.Dec.{eqb, T, ltb}
use lib.ListN.{length, get_or}
use Rattle.rules.specs.Limits.{Limits}
use Rattle.rules.specs.Lists.{find, find_from, any, keep, up_from}
use Rattle.rules.specs.Table.{corner, Element, same_element, vertex_of, is_corner, polytope, Table, element, element_count}
use Rattle.rules.proofs.Fine.{Fine, Names}
use Rattle.rules.proofs.Good.{Good, all_below_lem, whole_at}
use Rattle.rules.proofs.Laws.{is_found, or_left, test_eq, or_right, neither, not_eq, le_test, not_le}

pub if_is_found : (b : Bool) (k : ℕ) (r : Option ℕ) → is_found (if b then Some k else r) ≡ (b || is_found r)
if_is_found true k r = refl
if_is_found false k r = refl

pub found_corner : (k v : ℕ) (es : List Element) → is_found (find_from k (same_element (corner v)) es) ≡ any (eqb v) (map vertex_of (keep is_corner es))
unfolding same_element
found_corner k v [] = refl
found_corner k v (corner w ∷ es) = if_is_found (eqb v w) k (find_from (suc k) (same_element (corner v)) es) ∙ ap (λ (b : Bool). eqb v w || b) (found_corner (suc k) v es)
found_corner k v (polytope r b h m ∷ es) = found_corner (suc k) v es

pub any_up : (v k n : ℕ) → k ≤ v → v < k + n → any (eqb v) (up_from k n) ≡ true
any_up v k zero l h = absurd (let q : ⊥ = omega arith in q)
any_up v k (suc n) l h = go (eqb v k) refl (λ (m : suc k ≤ v). any_up v (suc k) n m (let q : v < suc k + n = omega arith in q))
  where
    go : (b : Bool) → eqb v k ≡ b → (suc k ≤ v → any (eqb v) (up_from (suc k) n) ≡ true) → (eqb v k || any (eqb v) (up_from (suc k) n)) ≡ true
    go true e f = or_left (eqb v k) (any (eqb v) (up_from (suc k) n)) e
    go false e f =
        let d : v ≡ k → ⊥ = λ q. false≢true (sym e ∙ test_eq v k q) in
        let m : suc k ≤ v = omega (arith, d, l) in
        or_right (eqb v k) (any (eqb v) (up_from (suc k) n)) (f m)

pub none_up : (v k n : ℕ) → k + n ≤ v → any (eqb v) (up_from k n) ≡ false
none_up v k zero l = refl
none_up v k (suc n) l =
    let d : v ≡ k → ⊥ = λ q. (let r : ⊥ = omega arith in r) in
    let m : suc k + n ≤ v = omega arith in
    neither (eqb v k) (any (eqb v) (up_from (suc k) n)) (not_eq v k d) (none_up v (suc k) n m)

module _ (L : Limits) (t : Table) (g : Good L t) where
  pub corner_there : (v : ℕ) → v < length t.points → is_found (find (same_element (corner v)) t.elements) ≡ true
  corner_there v h =
      found_corner 0 v t.elements ∙ ap (any (eqb v)) g.corners
      ∙ any_up v 0 (length t.points) zero-le (subst (λ (k : ℕ). v < k) (sym (zero-add (length t.points))) h)

  pub corner_new : is_found (find (same_element (corner (length t.points))) t.elements) ≡ false
  corner_new =
      found_corner 0 (length t.points) t.elements ∙ ap (any (eqb (length t.points))) g.corners
      ∙ none_up (length t.points) 0 (length t.points) (subst (λ (k : ℕ). k ≤ length t.points) (sym (zero-add (length t.points))) (le_refl (length t.points)))

  -- a corner names a vertex in use
  pub corner_named_lem : (e v : ℕ) → e < element_count t → element t e ≡ corner v → v < length t.points
  corner_named_lem e v h k = go (ltb v (length t.points)) refl
    where
      look : (es : List Element) (i : ℕ) → i < length es → get_or es i (corner 0) ≡ corner v → any (eqb v) (map vertex_of (keep is_corner es)) ≡ true
      look [] i l q = absurd (not-suc-le-zero l)
      look (corner w ∷ es) zero l q = or_left (eqb v w) (any (eqb v) (map vertex_of (keep is_corner es))) (test_eq v w (sym (ap vertex_of q)))
      look (polytope r b x m ∷ es) zero l q = absurd (subst T (sym (ap is_corner q)) tt)
      look (corner w ∷ es) (suc i) l q = or_right (eqb v w) (any (eqb v) (map vertex_of (keep is_corner es))) (look es i (le_of_suc-le-suc l) q)
      look (polytope r b x m ∷ es) (suc i) l q = look es i (le_of_suc-le-suc l) q

      go : (b : Bool) → ltb v (length t.points) ≡ b → v < length t.points
      go true q = le_test (suc v) (length t.points) q
      go false q =
          absurd (true≢false (sym (look t.elements e h k) ∙ ap (any (eqb v)) g.corners
          ∙ none_up v 0 (length t.points) (subst (λ (m : ℕ). m ≤ v) (sym (zero-add (length t.points))) (le_of_suc-le-suc (not_le (suc v) (length t.points) q)))))

-- a sound table is fine
pub good_fine : (L : Limits) (t : Table) → Good L t → Fine t
good_fine L t g = record { names = λ e h. go e h (element t e) refl; planes = le_test _ _ g.primordial }
  where
    go : (e : ℕ) → e < element_count t → (y : Element) → element t e ≡ y → Names (length t.points) e y
    go e h (corner v) q = corner_named_lem L t g e v h q
    go e h (polytope r b k m) q = all_below_lem e b (whole_at L t e r b k m g h q).bound.under
