-- What the walk reads of a face in a sound table that the memory holds: each edge's two words are its ends, and each end is a corner.
-- Where a corner had no other edge the walk would read row 0, which is the corner of vertex 0 and has zeros for ends, in the rules as in the memory.
use Prim.Native.Nat.{ℕ, zero, suc, ◌+◌, ◌*◌, ◌<◌}
use mathlib.Core.Path.{◌≡◌, refl, sym, ap, ◌∙◌, subst}
use mathlib.Core.Bool.{true}
use mathlib.Core.List.{List, [], ◌∷◌, map}
use native.Mathlib.Nat.{le_trans, le_of_eq, not-suc-le-zero}
use native.Mathlib.Omega.{arith}
use lib.Dec.{lit≤}
use lib.ListN.{length, get_or}
use lib.Ieee.{Float}
use Rattle.rules.specs.Limits.{desk}
use Rattle.rules.specs.Lists.{keep, up_to}
use Rattle.rules.specs.Table.{Element, corner, polytope, Table, rank_of, boundary_of, vertex_of, is_corner, element_count, rank, boundary, element}
use Rattle.rules.specs.Sound.{sound, closed, sound_element}
use Rattle.rules.specs.Memory.{element_row}
use Rattle.rules.specs.Held.{Holds, AllOf, Ranked, element_words}
use Rattle.rules.proofs.Borders.{sound_bordered}
use Rattle.rules.proofs.Good.{Good, sound_good, sound_at, whole, above_zero}
use Rattle.rules.proofs.Laws.{eq_test}
use Rattle.space.proofs.Room.{list_of, word, list_word_lem}
use Rattle.walk.specs.Walks.{low_end, high_end}
use Rattle.walk.proofs.Boundaries.{number_is}

-- w is a corner in use, and its row names its vertex
pub record CornerAt (t : Table) (es : List ℕ) (w : ℕ) : Type 0 where
  pub used : w < element_count t
  pub bare : boundary t w ≡ []
  pub named : vertex_of (element t w) ≡ get_or es (w * 36 + 4) 0

-- what the row of x has for ends is what the rules read of its boundary
pub record Met (t : Table) (es : List ℕ) (x : ℕ) : Type 0 where
  pub used : x < element_count t
  pub first : get_or (boundary t x) 0 0 ≡ low_end es x
  pub second : get_or (boundary t x) 1 0 ≡ high_end es x
  pub low : CornerAt t es (low_end es x)
  pub high : CornerAt t es (high_end es x)

-- x is an edge, and its first end is the lower
pub record EdgeAt (t : Table) (es : List ℕ) (x : ℕ) : Type 0 where
  pub met : Met t es x
  pub ends : boundary t x ≡ low_end es x ∷ high_end es x ∷ []
  pub rising : low_end es x < high_end es x
  pub ranked : rank t x ≡ 1

two : (b : List ℕ) → length b ≡ 2 → b ≡ get_or b 0 0 ∷ get_or b 1 0 ∷ []
two [] q = absurd (let z : ⊥ = omega (arith, q) in z)
two (x ∷ []) q = absurd (let z : ⊥ = omega (arith, q) in z)
two (x ∷ y ∷ []) q = refl
two (x ∷ y ∷ z ∷ zs) q = absurd (let k : ⊥ = omega (arith, q) in k)

-- the first corner names vertex 0
first_named : (xs : List Element) (n v : ℕ) → get_or xs 0 (corner 0) ≡ corner v → map vertex_of (keep is_corner xs) ≡ up_to n → v ≡ 0
first_named [] n v q e = ap vertex_of (sym q)
first_named (polytope r b h m ∷ xs) n v q e = ap vertex_of (sym q)
first_named (corner w ∷ xs) n v q e = ap vertex_of (sym q) ∙ ap (λ (l : List ℕ). get_or l 0 0) e ∙ lowest n
  where
    lowest : (k : ℕ) → get_or (up_to k) 0 0 ≡ 0
    lowest zero = refl
    lowest (suc k) = refl

module _ {cs : List ℕ} {ps hs : List Float} {es : List ℕ} {t : Table} (H : Holds desk cs ps hs es t) (s : sound desk t ≡ true) where
  g : Good desk t
  g = sound_good desk t s

  pub corner_at_lem : (w : ℕ) → w < element_count t → rank t w ≡ 0 → CornerAt t es w
  corner_at_lem w u q = go (element t w) refl
    where
      go : (y : Element) → element t w ≡ y → CornerAt t es w
      go (polytope r b h m) e = absurd (above_zero desk t w r b h m g u e q)
      go (corner v) e = record {
        used = u;
        bare = ap boundary_of e;
        named =
            ap vertex_of e ∙ sym (ap (λ (l : List ℕ). get_or l (w * 36 + 4) 0) H.elements
            ∙ list_word_lem desk t H.fits w u 0 (subst (λ (y : Element). 0 < length (list_of y)) (sym e) (lit≤ tt)) (lit≤ tt) ∙ ap (λ (y : Element). get_or (list_of y) 0 0) e);
      }

  module _ (x : ℕ) (u : x < element_count t) (q : rank t x ≡ 1) where
    two_ends : length (boundary t x) ≡ 2
    two_ends = go (element t x) q (sound_at desk t x g u)
      where
        go : (y : Element) → rank_of y ≡ 1 → sound_element t x y ≡ true → length (boundary_of y) ≡ 2
        go (corner v) e h = absurd (let z : ⊥ = omega (arith, e) in z)
        go (polytope r b k m) e h = eq_test (length b) 2 (subst (λ (n : ℕ). closed t n b ≡ true) e (whole t x r b k m h).bound.tight)

    end_at_lem : (i : ℕ) → i < 2 → i < length (boundary t x)
    end_at_lem i h = le_trans h (le_of_eq (sym two_ends))

    word_is : (i : ℕ) → i < 2 → get_or (boundary t x) i 0 ≡ get_or es (x * 36 + (4 + i)) 0
    word_is i h = sym (number_is H g x 0 u q i (end_at_lem i h))

    corner_of : (i : ℕ) → i < 2 → CornerAt t es (get_or es (x * 36 + (4 + i)) 0)
    corner_of i h =
        let b = sound_bordered desk t s x u (le_of_eq (sym q)) in
        subst (CornerAt t es) (word_is i h)
        (corner_at_lem (get_or (boundary t x) i 0) (let e = b.earlier i (end_at_lem i h) in omega (arith, e, u)) (let r = b.ranks i (end_at_lem i h) in omega (arith, r, q)))

    pub edge_at : EdgeAt t es x
    edge_at = record {
      met = record { used = u; first = word_is 0 (lit≤ tt); second = word_is 1 (lit≤ tt); low = corner_of 0 (lit≤ tt); high = corner_of 1 (lit≤ tt) };
      ends = two (boundary t x) two_ends ∙ (λ i. word_is 0 (lit≤ tt) i ∷ word_is 1 (lit≤ tt) i ∷ []);
      rising =
          (let r = (sound_bordered desk t s x u (le_of_eq (sym q))).rising 0 1 (lit≤ tt) (end_at_lem 1 (lit≤ tt)) in
          let a = word_is 0 (lit≤ tt) in
          let b = word_is 1 (lit≤ tt) in
          omega (arith, r, a, b));
      ranked = q;
    }

  pub edges_at : (xs : List ℕ) → AllOf (Ranked t 2) xs → AllOf (EdgeAt t es) xs
  edges_at [] h = tt
  edges_at (x ∷ xs) h = (edge_at x h.0.0 (let q = h.0.1 in omega (arith, q)), edges_at xs h.1)

  -- row 0
  module _ (some : 0 < element_count t) where
    lowest_rank : rank t 0 ≡ 0
    lowest_rank = go (rank t 0) refl
      where
        go : (r : ℕ) → rank t 0 ≡ r → rank t 0 ≡ 0
        go zero q = q
        go (suc r) q =
            let b = sound_bordered desk t s 0 some (let z : 0 < rank t 0 = omega (arith, q) in z) in
            absurd (not-suc-le-zero (b.earlier 0 (let e = b.enough in omega (arith, e))))

    first_corner : CornerAt t es 0
    first_corner = corner_at_lem 0 some lowest_rank

    pub none_met : Met t es 0
    unfolding element_row
    none_met = go (element t 0) refl
      where
        go : (y : Element) → element t 0 ≡ y → Met t es 0
        go (polytope r b h m) e = absurd (above_zero desk t 0 r b h m g some e lowest_rank)
        go (corner v) e =
            let z : v ≡ 0 = first_named t.elements (length t.points) v e g.corners in
            let a : 0 ≡ low_end es 0 = sym z ∙ sym (ap vertex_of e) ∙ first_corner.named in
            let b : 0 ≡ high_end es 0 = sym (ap (λ (l : List ℕ). get_or l 5 0) H.elements ∙ word desk t H.fits 0 some 5 (lit≤ tt) ∙ ap (λ (y : Element). get_or (element_words desk y) 5 0) e) in
            record {
              used = some;
              first = ap (λ (y : Element). get_or (boundary_of y) 0 0) e ∙ a;
              second = ap (λ (y : Element). get_or (boundary_of y) 1 0) e ∙ b;
              low = subst (CornerAt t es) a first_corner;
              high = subst (CornerAt t es) b first_corner;
            }
