-- Sharing a vertex is the step of the rules; and its search, over the points that are read back, is theirs.
use Rattle.std.specs.Prelude.{if◌then◌else◌, Option, Some, None, Err}
use Prim.Native.Nat.{ℕ, ◌+◌, suc, ◌≤◌, ◌<◌, ◌*◌, zero}
use mathlib.Core.Bool.{Bool, true, false}
use mathlib.Core.List.{List, [], ◌∷◌}
use mathlib.Core.Path.{◌≡◌, refl, ◌∙◌, ap, subst, sym, ap₂}
use native.Mathlib.Nat.{le_trans, le_of_eq}
use native.Mathlib.Omega.{arith}
use lib.Dec.{eqb, ltb}
use lib.Ieee.{Float}
use lib.ListN.{get_or, length, set, replicate, drop, length-map, take}
use lib.Seq.{sets}
use Rattle.rules.specs.Cut.{share_vertex, add_element, with_point, refused, add_vertex}
use Rattle.rules.specs.Floats.{plus_zero, within, farthest, point_matches}
use Rattle.rules.specs.Held.{Holds, element_words, Came, stopped, elements_of, planes_of, went, points_of}
use Rattle.rules.specs.Limits.{desk}
use Rattle.rules.specs.Lists.{pad, rows, find, all}
use Rattle.rules.specs.Memory.{element_row}
use Rattle.rules.specs.Sound.{sound_point}
use Rattle.rules.specs.Table.{Table, corner}
use Rattle.rules.specs.declared.VertexId.{VertexId}
use Rattle.hypermath.specs.Answers.{vertex_number, points_in}
use Rattle.rules.proofs.Extends.{extends_refl, extends_trans, grown_point}
use Rattle.rules.proofs.Good.{Good, sound_good}
use Rattle.rules.proofs.Growing.{find_bound}
use Rattle.rules.proofs.Laws.{le_test, eq_test, and_left}
use Rattle.rules.proofs.RoundTrip.{point_long, point_back}
use Rattle.rules.proofs.Rows.{read_rows}
use Rattle.space.specs.Found.{RowAdded, row_outcome, placed_at}
use Rattle.space.specs.Numbers.{row_width}
use Rattle.space.specs.Shared.{four, with_points, new_vertex, vertex_by, share_outcome, vertex_outcome, VertexShared, VertexInRoom, VertexAdded}
use Rattle.space.proofs.Laid.{length_padded}
use Rattle.space.proofs.Room.{point_counted, point_words_stored, point_fitted}
use Rattle.space.proofs.RowAdds.{readable_desk}
use borrow.Author.Tests.{le-ltb, lt-ltb}
use Rattle.space.proofs.Slices.{slices}
use Rattle.rules.specs.declared.Refusal.TheVariants.{VerticesFull}
use Rattle.rules.specs.Refusals.{Reply}
use Rattle.rules.specs.declared.ElementId.{ElementId}
use Rattle.rules.specs.declared.Refusal.TheVariants.{VerticesFull}

number : {cs : List ℕ} {ps hs : List Float} {es : List ℕ} {t : Table} (n : ℕ) → n ≡ get_or cs 2 0 → Holds desk cs ps hs es t → n ≡ length t.points
number n k H = k ∙ (slices H).point_count

pub dimension_is : {cs : List ℕ} {ps hs : List Float} {es : List ℕ} {t : Table} (d : ℕ) → d ≡ get_or cs 0 0 → Holds desk cs ps hs es t → d ≡ t.dimension
dimension_is d k H = k ∙ (slices H).dimension

pub four_is : (p : List Float) → length p ≡ 4 → four p ≡ p
four_is [] h = absurd (let z : ⊥ = omega (arith, h) in z)
four_is (a ∷ []) h = absurd (let z : ⊥ = omega (arith, h) in z)
four_is (a ∷ b ∷ []) h = absurd (let z : ⊥ = omega (arith, h) in z)
four_is (a ∷ b ∷ c ∷ []) h = absurd (let z : ⊥ = omega (arith, h) in z)
four_is (a ∷ b ∷ c ∷ d ∷ []) h = refl
four_is (a ∷ b ∷ c ∷ d ∷ e ∷ r) h = absurd (let z : ⊥ = omega (arith, h) in z)

pub corner_is : (v : ℕ) → set (set (set (replicate 36 0) 2 65535) 3 1) 4 v ≡ element_words desk (corner v)
unfolding element_row
corner_is v = refl

-- the outcome where none was found, by the test for room
by_room : (cs : List ℕ) (ps : List Float) (es : List ℕ) (p : List Float) (m : Option VertexId) → m ≡ None → (b : Bool) → ltb (get_or cs 2 0) 256 ≡ b → share_outcome cs ps es p (vertex_number m) ≡ vertex_by cs ps es p b
unfolding share_outcome
by_room cs ps es p m e b t = ap (λ (x : Option VertexId). share_outcome cs ps es p (vertex_number x)) e ∙ ap (vertex_by cs ps es p) t

module _ {cs : List ℕ} {ps : List Float} {es : List ℕ} {p : List Float} {m : Option VertexId} where
  pub shared_old : {row : List ℕ} {r : Reply ElementId} {cs' es' : List ℕ} (v : VertexId) → m ≡ Some v → row ≡ element_words desk (corner v.0) → RowAdded cs es row r cs' es' → VertexShared cs ps es p m r cs' ps es'
  unfolding share_outcome
  shared_old {r = r} {cs' = cs'} {es' = es'} v e w A = record {
    words = ap (with_points ps) (A.words ∙ ap (row_outcome cs es) w) ∙ sym (ap (λ (x : Option VertexId). share_outcome cs ps es p (vertex_number x)) e);
    of = λ hs t q H f l. subst (λ (x : Option VertexId). Came placed_at Err (Holds desk cs' ps hs es') t (share_vertex desk q (vertex_number x) t) r) (sym e) (A.of ps hs t (corner v.0) H w refl);
  }

  module _ (n : ℕ) (k : n ≡ get_or cs 2 0) (e : m ≡ None) where
    pub shared_full : 256 ≤ n → VertexShared cs ps es p m (Err VerticesFull) cs ps es
    shared_full h = record {
      words = sym (by_room cs ps es p m e false (le-ltb (get_or cs 2 0) 256 (subst (λ (i : ℕ). 256 ≤ i) k h)));
      of = λ hs t q H f l.
          stopped VerticesFull t
          (ap (λ (x : Option VertexId). share_vertex desk q (vertex_number x) t) e
          ∙ ap (λ (b : Bool). if b then add_element desk (corner (length t.points)) (with_point q t) else refused VerticesFull) (le-ltb (length t.points) 256 (subst (λ (i : ℕ). 256 ≤ i) (number n k H) h)))
          refl (extends_refl t) H;
    }

    pub shared_new : {row : List ℕ} {r : Reply ElementId} {cs' es' : List ℕ} {ps' : List Float} → n < 256 → ps' ≡ sets ps (n * 4) (four p) → row ≡ element_words desk (corner n)
        → RowAdded (set cs 2 (n + 1)) es row r cs' es' → VertexShared cs ps es p m r cs' ps' es'
    unfolding elements_of planes_of
    shared_new {row} {r} {cs'} {es'} {ps'} h s w A = record {
      words = ap₂ with_points s (A.words ∙ ap (row_outcome (set cs 2 (n + 1)) es) w) ∙ ap (new_vertex cs ps es p) k ∙ sym (by_room cs ps es p m e true (lt-ltb (get_or cs 2 0) 256 (subst (λ (j : ℕ). j < 256) k h)));
      of = λ hs t q H f l.
          (let i = number n k H in
          let u : length t.points < 256 = subst (λ (j : ℕ). j < 256) i h in
          let H' : Holds desk (set cs 2 (n + 1)) ps' hs es (with_point q t) = record {
            counts = ap₂ (λ (c : List ℕ) (j : ℕ). set c 2 (j + 1)) H.counts i ∙ sym (point_counted desk t H.fits q);
            points = s ∙ ap (sets ps (n * 4)) (four_is p (ap length f ∙ length_padded plus_zero 4 q l)) ∙ (λ j. sets (H.points j) (i j * 4) (f j)) ∙ sym (point_words_stored desk t H.fits q u l);
            planes = H.planes;
            elements = H.elements;
            fits = point_fitted desk t H.fits q u l;
          } in
          go hs t q (ap (λ (x : Option VertexId). share_vertex desk q (vertex_number x) t) e
          ∙ ap (λ (b : Bool). if b then add_element desk (corner (length t.points)) (with_point q t) else refused VerticesFull) (lt-ltb (length t.points) 256 u)
          ∙ ap (λ (j : ℕ). add_element desk (corner j) (with_point q t)) (sym i))
          (A.of ps' hs (with_point q t) (corner n) H' w refl));
    }
      where
        go : (hs : List Float) (t : Table) (q : List Float) → share_vertex desk q (vertex_number m) t ≡ add_element desk (corner n) (with_point q t)
            → Came placed_at Err (Holds desk cs' ps' hs es') (with_point q t) (add_element desk (corner n) (with_point q t)) r
            → Came placed_at Err (Holds desk cs' ps' hs es') t (share_vertex desk q (vertex_number m) t) r
        go hs t q o (went a v z b N) = went a v (o ∙ z) b N
        go hs t q o (stopped j v z b y N) = stopped j v (o ∙ z) b (extends_trans (grown_point q t) y) N

-- a corner's row is as long as any
pub row_long : {row : List ℕ} (v : ℕ) → row ≡ element_words desk (corner v) → length row ≡ row_width
unfolding element_row
row_long v e = ap length e

-- ---- the points of a sound table, as they are read back

length_rows : {A : Type 0} (n w : ℕ) (l : List A) → length (rows n w l) ≡ n
length_rows zero w l = refl
length_rows (suc n) w l = ap suc (length_rows n w (drop w l))

-- what is found among n vertices is numbered below n
pub found_in_room : (m : Option VertexId) (d n : ℕ) (p ps : List Float) → vertex_number m ≡ find (λ q. point_matches q (take d p)) (points_in d n ps) → n ≤ 256 → VertexInRoom m
found_in_room None d n p ps e h = tt
found_in_room (Some v) d n p ps e h =
    let b = find_bound (λ q. point_matches q (take d p)) 0 v.0 (points_in d n ps) (sym e) in
    let k = length-map (rows n 4 ps) (take d) ∙ length_rows n 4 ps in
    let q : v.0 < 256 = omega (arith, b, k, h) in q

pub in_room_lem : (m : Option VertexId) (v : VertexId) → m ≡ Some v → VertexInRoom m → v.0 < 256
in_room_lem m v e h = subst VertexInRoom e h

points_back : (t : Table) → Good desk t → points_in t.dimension (length t.points) (points_of desk t) ≡ t.points
unfolding points_of
points_back t g =
    let d = t.dimension in
    read_rows plus_zero (256 * 4) 4 (pad plus_zero 4) (take d) (sound_point d) t.points (point_long desk readable_desk d (le_test d 4 g.high)) (point_back desk readable_desk d) g.points

point_short : (t : Table) → Good desk t → (q : List Float) → sound_point t.dimension q ≡ true → length q ≤ 4
unfolding sound_point
point_short t g q s =
    let d = t.dimension in
    le_trans (le_of_eq (eq_test (length q) d (and_left (eqb (length q) d) (all (within farthest) q) s))) (le_test d 4 g.high)

pub vertex_added : {cs : List ℕ} {ps : List Float} {es : List ℕ} {p : List Float} {m : Option VertexId} {r : Reply ElementId} {cs' : List ℕ} {ps' : List Float} {es' : List ℕ} (d n : ℕ) → d ≡ get_or cs 0 0 → n ≡ get_or cs 2 0
    → vertex_number m ≡ find (λ q. point_matches q (take d p)) (points_in d n ps) → VertexShared cs ps es p m r cs' ps' es' → VertexAdded cs ps es p r cs' ps' es'
unfolding add_vertex vertex_outcome
vertex_added {cs} {ps} {es} {p} {m} {r} {cs'} {ps'} {es'} d n hd hn f S = record {
  words = S.words ∙ ap (share_outcome cs ps es p) (f ∙ (λ i. find (λ q. point_matches q (take (hd i) p)) (points_in (hd i) (hn i) ps)));
  of = λ hs t q H z e s.
      (let g = sound_good desk t z in
      let k : n ≡ length t.points = number n hn H in
      let j : d ≡ t.dimension = dimension_is d hd H in
      let o : vertex_number m ≡ find (λ x. point_matches x q) t.points =
      f ∙ (λ i. find (λ x. point_matches x (take (j i) (e i))) (points_in (j i) (k i) (H.points i)))
      ∙ ap₂ (λ (y : List Float) (xs : List (List Float)). find (λ x. point_matches x y) xs) (point_back desk readable_desk t.dimension q s) (points_back t g) in
      subst (λ (x : Option ℕ). Came placed_at Err (Holds desk cs' ps' hs es') t (share_vertex desk q x t) r) o (S.of hs t q H e (point_short t g q s)));
}
