-- What sets of elements in use tell of their numbers, and what soundness tells of the element that is cut.
use Prim.Native.Nat.{ℕ, zero, suc, ◌+◌, ◌-◌, ◌*◌, ◌≤◌, ◌<◌}
use mathlib.Core.Path.{◌≡◌, refl, ap, sym, ◌∙◌, subst}
use mathlib.Core.Bool.{true, false≢true}
use mathlib.Core.List.{List, [], ◌∷◌}
use native.Mathlib.Nat.{le_trans, le_of_suc-le-suc, not-suc-le-zero, suc_inj}
use native.Mathlib.Omega.{arith}
use lib.Dec.{lit≤, eqb}
use lib.ListN.{length, get_or}
use lib.Seq.{get_or-take, length-take-le}
use Rattle.rules.specs.Limits.{desk}
use Rattle.rules.specs.Lists.{rises, member}
use Rattle.rules.specs.Table.{Element, corner, polytope, Table, rank_of, boundary, boundary_of, element_count, rank, element}
use Rattle.rules.specs.Sound.{closed, sound_element}
use Rattle.rules.specs.Held.{Fits, elements_of, Ranked, AllOf, SomeOf}
use Rattle.rules.proofs.Apart.{distinct_apart, plain, plain_once}
use Rattle.rules.proofs.Borders.{rise_at}
use Rattle.rules.proofs.Extends.{Below, below_more, below_get}
use Rattle.rules.proofs.Good.{Good, all_below_lem, sound_at, whole}
use Rattle.rules.proofs.Laws.{le_test, eq_test, or_case}
use Rattle.rules.proofs.Ranked.{set_under}
use Rattle.rules.proofs.StaysCut.{Owner, facts}
use Rattle.space.specs.Closed.{Low, LowEnds, EndsLow, EachEdge, Edges, Untwinned}
use Rattle.space.proofs.Room.{list_of, list_word_lem}
use Rattle.gathered.specs.Sets.{size_in, numbers_in, InRoom}
use Rattle.gathered.specs.declared.sets.Set.{Set}
use Rattle.rules.specs.declared.ElementId.{ElementId}
use Rattle.std.specs.Prelude.{Option, Some, None}

-- what is in use is within the room
pub some_fits : (t : Table) → element_count t ≤ 512 → (q : ℕ) (x : Option ElementId) → SomeOf q x t → InRoom x
some_fits t c q None h = tt
some_fits t c q (Some e) h = le_trans h.0 c

pub low_of : (t : Table) → element_count t ≤ 512 → (q : ℕ) (s : Set) → AllOf (Ranked t q) (numbers_in s) → Low s.numbers (size_in s)
low_of t c q s a = record {
  at = λ k h.
      subst (λ (y : ℕ). y < 512) (get_or-take (size_in s) s.numbers k 0 h)
      (below_get 512 (numbers_in s) k (lit≤ tt) (below_more (numbers_in s) c (all_below_lem (element_count t) (numbers_in s) (set_under t q (numbers_in s) a))));
}

-- an element of rank 1 in a sound table has two ends, the lower first
edge_whole : (t : Table) → Good desk t → (x : ℕ) → Ranked t 2 x → (length (boundary t x) ≡ 2) × (rises (boundary t x) ≡ true)
edge_whole t g x h = go (element t x) h.1 (sound_at desk t x g h.0)
  where
    go : (y : Element) → suc (rank_of y) ≡ 2 → sound_element t x y ≡ true → (length (boundary_of y) ≡ 2) × (rises (boundary_of y) ≡ true)
    go (corner v) e s = absurd (let z : ⊥ = omega (arith, e) in z)
    go (polytope r b k m) e s =
        let w = (whole t x r b k m s).bound in
        (eq_test (length b) 2 (subst (λ (n : ℕ). closed t n b ≡ true) (let q : r ≡ 1 = omega (arith, e) in q) w.tight), w.rising)

pub edges_of : (t : Table) → Good desk t → (xs : List ℕ) → rises xs ≡ true → AllOf (Ranked t 2) xs → Edges t xs
edges_of t g xs up h = (up, each xs h, alone)
  where
    ranked : (ys : List ℕ) → AllOf (Ranked t 2) ys → (x : ℕ) → member x ys ≡ true → Ranked t 2 x
    ranked [] k x m = absurd (false≢true m)
    ranked (y ∷ ys) k x m =
        or_case (eqb x y) (member x ys) m (Ranked t 2 x) (λ q. subst (λ (z : ℕ). Ranked t 2 z) (sym (eq_test x y q)) k.0) (λ n. ranked ys k.1 x n)

    alone : 2 < t.dimension → Untwinned t xs
    alone l x y mx my e =
        let a = ranked xs h x mx in
        let b = ranked xs h y my in
        plain_once t (distinct_apart t g.apart) x y a.0 b.0 (plain t x (element t x) l (sound_at desk t x g a.0) (suc_inj a.1)) (plain t y (element t y) l (sound_at desk t y g b.0) (suc_inj b.1)) e

    each : (ys : List ℕ) → AllOf (Ranked t 2) ys → EachEdge t ys
    each [] k = tt
    each (y ∷ ys) k = let w = edge_whole t g y k.0 in (k.0.0, w.0, w.1, each ys k.1)

-- those ends are within the room, as the memory has them
module _ (t : Table) (F : Fits desk t) (g : Good desk t) where
  end_low : (x j : ℕ) → Ranked t 2 x → j < 2 → get_or (elements_of desk t) (x * 36 + (4 + j)) 0 < 512
  end_low x j h l =
      let f = go (element t x) h.1 (sound_at desk t x g h.0) in
      let two = f.0 in
      subst (λ (y : ℕ). y < 512)
      (sym (list_word_lem desk t F x h.0 j (let q : j < length (list_of (element t x)) = omega (arith, two, l) in q) (let q : 4 + j < 36 = omega (arith, l) in q)))
      (below_get 512 (list_of (element t x)) j (lit≤ tt) f.1)
    where
      go : (y : Element) → suc (rank_of y) ≡ 2 → sound_element t x y ≡ true → (length (list_of y) ≡ 2) × Below 512 (list_of y)
      go (corner v) e s = absurd (let z : ⊥ = omega (arith, e) in z)
      go (polytope r b k m) e s =
          let w = (whole t x r b k m s).bound in
          let u = h.0 in
          let c = F.element_room in (
            eq_test (length b) 2 (subst (λ (n : ℕ). closed t n b ≡ true) (let q : r ≡ 1 = omega (arith, e) in q) w.tight),
            below_more b (let q : x ≤ 512 = omega (arith, u, c) in q) (all_below_lem x b w.under),
          )

  end_apart : (x : ℕ) → Ranked t 2 x → get_or (elements_of desk t) (x * 36 + 4) 0 < get_or (elements_of desk t) (x * 36 + 5) 0
  end_apart x h = go (element t x) refl (edge_whole t g x h)
    where
      go : (y : Element) → element t x ≡ y → (length (boundary_of y) ≡ 2) × (rises (boundary_of y) ≡ true) → get_or (elements_of desk t) (x * 36 + 4) 0 < get_or (elements_of desk t) (x * 36 + 5) 0
      go (corner v) e w = absurd (let two = w.0 in let z : ⊥ = omega (arith, two) in z)
      go (polytope r b k m) e w =
          let two = w.0 in
          let long : length (list_of (element t x)) ≡ 2 = ap (λ (y : Element). length (list_of y)) e ∙ two in
          let w₀ = list_word_lem desk t F x h.0 0 (let q : 0 < length (list_of (element t x)) = omega (arith, long) in q) (lit≤ tt) ∙ ap (λ (y : Element). get_or (list_of y) 0 0) e in
          let w₁ = list_word_lem desk t F x h.0 1 (let q : 1 < length (list_of (element t x)) = omega (arith, long) in q) (lit≤ tt) ∙ ap (λ (y : Element). get_or (list_of y) 1 0) e in
          let l = rise_at b w.1 0 1 (lit≤ tt) (let q : 1 < length b = omega (arith, two) in q) in
          omega (arith, w₀, w₁, l)

  pub ends_low : (es : List ℕ) → es ≡ elements_of desk t → (s : Set) → size_in s ≤ length s.numbers → rises (numbers_in s) ≡ true → AllOf (Ranked t 2) (numbers_in s) → LowEnds es s.numbers (size_in s)
  ends_low es e s l up a = record {
    rising = up;
    each = λ k h. subst (λ (w : List ℕ). EndsLow w (get_or s.numbers k 0)) (sym e) (record { apart = end_apart (get_or s.numbers k 0) (ranked k h); second = end_low (get_or s.numbers k 0) 1 (ranked k h) (lit≤ tt) });
  }
    where
      at : (xs : List ℕ) (k : ℕ) → AllOf (Ranked t 2) xs → k < length xs → Ranked t 2 (get_or xs k 0)
      at [] k p h = absurd (not-suc-le-zero h)
      at (x ∷ xs) zero p h = p.0
      at (x ∷ xs) (suc k) p h = at xs k p.1 (le_of_suc-le-suc h)

      ranked : (k : ℕ) → k < size_in s → Ranked t 2 (get_or s.numbers k 0)
      ranked k h =
          let m = length-take-le (size_in s) s.numbers l in
          subst (Ranked t 2) (get_or-take (size_in s) s.numbers k 0 h) (at (numbers_in s) k a (let q : k < length (numbers_in s) = omega (arith, m, h) in q))

-- ---- the element that is cut

pub rank_before : (r : ℕ) → 1 ≤ r → r ≡ suc (r - 1)
rank_before r h = omega (arith, h)

pub owner_of : (t : Table) (e r : ℕ) → Good desk t → e < element_count t → rank t e ≡ r → 1 ≤ r → Owner t (r - 1) (element t e)
owner_of t e r g u q h = (facts desk t e (r - 1) g u (q ∙ rank_before r h)).owner

pub rank_low : (t : Table) (e r : ℕ) → Good desk t → e < element_count t → rank t e ≡ r → 1 ≤ r → r ≤ t.dimension
rank_low t e r g u q h = subst (λ (n : ℕ). n ≤ t.dimension) q (le_test (rank t e) t.dimension (owner_of t e r g u q h).low)
