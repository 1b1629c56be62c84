-- A sound memory's words say what its table does: the corners of a piece, its walk and its area, and so the sheet; then the reply, test by test.
use Rattle.std.proofs.Common.{◌≡◌, ℕ, zero, suc, ◌+◌, ◌*◌, ◌<◌, ◌≤◌, Bool, true, false, ◌&&◌, eqb, ltb, List, [], ◌∷◌, ◌++◌, map, length, get_or, ℤ, pos, ◌+ℤ◌, sym, refl, ap, ◌∙◌, subst, ap₂}
use Rattle.std.proofs.Common.{suc-le-suc, zero-le, le_trans, le_of_eq, le_of_suc-le-suc, not-suc-le-zero, add-zero, arith, lit≤}
use lib.Ieee.{Float, nan}
use Rattle.rules.specs.Limits.{desk}
use Rattle.rules.specs.Lists.{all, joined}
use Rattle.rules.specs.Floats.{plus_zero, within, farthest}
use Rattle.rules.specs.Table.{Table, Element, corner, polytope, element, element_count, rank, rank_of, boundary, vertex_of}
use Rattle.rules.specs.Sound.{sound, sound_point}
use Rattle.rules.specs.Walk.{start_of, around}
use Rattle.rules.specs.Held.{Holds}
use Rattle.rules.specs.Questions.{Asked, no_answer, answer, pairs, edges_in_order}
use Rattle.rules.specs.Replies.{in_numbers}
use Rattle.rules.specs.Areas.{on_grid, units, turn, coordinate, vertex_on_grid, steps, step_on_grid, piece_on_grid, step_turn, sum_of, twice_area, sizes, sheet}
use Rattle.rules.proofs.AreaSizes.{coordinate_within}
use Rattle.rules.proofs.Boxes.{point_long}
use Rattle.rules.proofs.Corners.{corner_named_lem}
use Rattle.rules.proofs.Borders.{sound_bordered}
use Rattle.rules.proofs.Good.{Good, sound_good, whole_at}
use Rattle.rules.proofs.Growing.{all_get}
use Rattle.rules.proofs.Laws.{and_left, and_right, le_test, eq_test, not_le}
use Rattle.rules.proofs.RingWalked.{face_is_walked}
use Rattle.rules.proofs.WalkRound.{told}
use Rattle.space.proofs.Room.{point_word_or}
use Rattle.space.proofs.Slices.{slices}
use Rattle.walk.proofs.Orders.{face_fits, order_is}
use Rattle.areas.specs.Words.{first_of, second_of, corner_on_grid, corner_turn, turns_along, walk_of, word_area, words_on_grid, word_sheet, CornerFits, PieceFits}

-- ---- laws over plain lists

in_list : (p q : List Float) (j : ℕ) → j < length p → get_or (p ++ q) j nan ≡ get_or p j plus_zero
in_list [] q j h = absurd (not-suc-le-zero h)
in_list (x ∷ p) q zero h = refl
in_list (x ∷ p) q (suc j) h = in_list p q j (le_of_suc-le-suc h)

past : (xs : List Element) (i : ℕ) (d : Element) → length xs ≤ i → get_or xs i d ≡ d
past [] i d h = refl
past (x ∷ xs) zero d h = absurd (not-suc-le-zero h)
past (x ∷ xs) (suc i) d h = past xs i d (le_of_suc-le-suc h)

abbrev two_of : ℕ × ℕ → List ℕ
two_of p = p.0 ∷ p.1 ∷ []

regroup : (a b c : Bool) → (a && (b && c)) ≡ (a && b && c)
regroup true b c = refl
regroup false b c = refl

entries : Asked (List ℕ) → List ℕ
entries (no_answer n) = []
entries (answer xs) = xs

unanswered : (xs ys : List ℕ) → answer xs ≡ answer ys → xs ≡ ys
unfolding entries
unanswered xs ys e = ap entries e

module _ {cs : List ℕ} {ps hs : List Float} {es : List ℕ} {t : Table} (H : Holds desk cs ps hs es t) (s : sound desk t ≡ true) (flat : t.dimension ≡ 2) where
  g : Good desk t
  g = sound_good desk t s

  -- ---- a vertex

  module _ (v : ℕ) (u : v < length t.points) where
    coordinate_is : (j : ℕ) → j < 2 → get_or ps (v * 4 + j) nan ≡ coordinate t v j
    coordinate_is j h =
        let size = point_long t.dimension (get_or t.points v []) (all_get (sound_point t.dimension) t.points v [] u g.points) ∙ flat in
        ap (λ (l : List Float). get_or l (v * 4 + j) nan) H.points ∙ point_word_or desk t H.fits v j nan u (le_trans h (lit≤ tt))
        ∙ in_list (get_or t.points v []) _ j (le_trans h (le_of_eq (sym size)))

    first_is : first_of ps v ≡ coordinate t v 0
    first_is = ap (λ (k : ℕ). get_or ps k nan) (sym (add-zero (v * 4))) ∙ coordinate_is 0 (lit≤ tt)

    second_is : second_of ps v ≡ coordinate t v 1
    second_is = coordinate_is 1 (lit≤ tt)

    grid_is : corner_on_grid ps v ≡ vertex_on_grid t v
    grid_is = ap₂ (λ (x y : Float). on_grid x && on_grid y) first_is second_is

    corner_fits : CornerFits ps v
    corner_fits = record {
      points = (slices H).points;
      room = le_trans u H.fits.point_room;
      first = ap (within farthest) first_is ∙ coordinate_within desk t s v 0;
      second = ap (within farthest) second_is ∙ coordinate_within desk t s v 1;
    }

  turn_is : (a b : ℕ) → a < length t.points → b < length t.points → corner_turn ps a b ≡ step_turn t (a, b)
  turn_is a b u w i = turn (units (first_is a u i)) (units (second_is a u i)) (units (first_is b w i)) (units (second_is b w i))

  -- ---- steps between corners

  module _ (some : 0 < element_count t) where
    -- some vertex is in use, for element 0 has no earlier one and is a corner
    vertex_there : 0 < length t.points
    vertex_there = go (element t 0) refl
      where
        go : (y : Element) → element t 0 ≡ y → 0 < length t.points
        go (corner v) e = le_trans (suc-le-suc zero-le) (corner_named_lem desk t g 0 v some e)
        go (polytope r b h m) e =
            let w = le_test 1 r (whole_at desk t 0 r b h m g some e).some_rank in
            let k = sound_bordered desk t s 0 some (le_trans w (le_of_eq (sym (ap rank_of e)))) in
            absurd (not-suc-le-zero (k.earlier 0 (let l = k.enough in omega (arith, l))))

    named : (x : ℕ) → vertex_of (element t x) < length t.points
    named x = go (element t x) refl (ltb x (element_count t)) refl
      where
        go : (y : Element) → element t x ≡ y → (b : Bool) → ltb x (element_count t) ≡ b → vertex_of y < length t.points
        go (polytope r b h m) e c l = vertex_there
        go (corner v) e true l = corner_named_lem desk t g x v (le_test (suc x) (element_count t) l) e
        go (corner v) e false l =
            subst (λ (k : ℕ). k < length t.points) (ap vertex_of (sym (past t.elements x (corner 0) (le_of_suc-le-suc (not_le (suc x) (element_count t) l))) ∙ e)) vertex_there

    module _ (v : ℕ) where
      abbrev numbers : List (ℕ × ℕ) → List ℕ
      numbers ss = joined (map two_of (pairs t v ss))

    grids_along : (v : ℕ) (ss : List (ℕ × ℕ)) → all (corner_on_grid ps) (numbers v ss) ≡ all (step_on_grid t) (pairs t v ss)
    grids_along v [] = refl
    grids_along v (x ∷ ss) =
        regroup (corner_on_grid ps (vertex_of (element t v))) (corner_on_grid ps (vertex_of (element t x.1))) (all (corner_on_grid ps) (numbers x.1 ss))
        ∙ (λ i. grid_is (vertex_of (element t v)) (named v) i && grid_is (vertex_of (element t x.1)) (named x.1) i && grids_along x.1 ss i)

    turns_are : (v : ℕ) (ss : List (ℕ × ℕ)) → turns_along ps (numbers v ss) ≡ sum_of (map (step_turn t) (pairs t v ss))
    unfolding turns_along
    turns_are v [] = refl
    turns_are v (x ∷ ss) = λ i. turn_is (vertex_of (element t v)) (vertex_of (element t x.1)) (named v) (named x.1) i +ℤ turns_are x.1 ss i

    fits_along : (v : ℕ) (ss : List (ℕ × ℕ)) (i : ℕ) → i < length (numbers v ss) → CornerFits ps (get_or (numbers v ss) i 0)
    fits_along v [] i h = absurd (not-suc-le-zero h)
    fits_along v (x ∷ ss) zero h = corner_fits (vertex_of (element t v)) (named v)
    fits_along v (x ∷ ss) (suc zero) h = corner_fits (vertex_of (element t x.1)) (named x.1)
    fits_along v (x ∷ ss) (suc (suc i)) h = fits_along x.1 ss i (le_of_suc-le-suc (le_of_suc-le-suc h))

  -- ---- a piece

  module _ (f : ℕ) (u : f < element_count t) (q : rank t f ≡ 2) where
    some : 0 < element_count t
    some = le_trans (suc-le-suc zero-le) u

    abbrev start : ℕ
    start = start_of t (boundary t f)

    abbrev way : List (ℕ × ℕ)
    way = around t (boundary t f)

    walked : edges_in_order t f ≡ answer (pairs t start way)
    walked = let w = face_is_walked desk t s f u q in w.1 ∙ ap answer (sym (told t f w.0 w.1).same)

    words_are : joined (map two_of (pairs t start way)) ≡ walk_of es f
    words_are = unanswered _ _ (sym (ap in_numbers walked) ∙ order_is H s f u q)

    pub on_grid_is : words_on_grid ps es f ≡ piece_on_grid t f
    unfolding words_on_grid piece_on_grid
    on_grid_is = ap (all (corner_on_grid ps)) (sym words_are) ∙ grids_along some start way ∙ ap (λ (a : Asked (List (ℕ × ℕ))). all (step_on_grid t) (steps a)) (sym walked)

    pub area_is : word_area ps es f ≡ twice_area t f
    unfolding word_area twice_area
    area_is = ap (turns_along ps) (sym words_are) ∙ turns_are some start way ∙ ap (λ (a : Asked (List (ℕ × ℕ))). sum_of (map (step_turn t) (steps a))) (sym walked)

    pub piece_fits : PieceFits ps es f
    piece_fits = record {
      face = face_fits H s f u q;
      corners = subst (λ (ns : List ℕ). (i : ℕ) → i < length ns → CornerFits ps (get_or ns i 0)) words_are (fits_along some start way);
    }

  -- ---- some pieces

  abbrev Faces : List ℕ → Type 0
  Faces fs = (all (λ f. ltb f (element_count t)) fs ≡ true) × (all (λ f. eqb (rank t f) 2) fs ≡ true)

  module _ (f : ℕ) (fs : List ℕ) (h : Faces (f ∷ fs)) where
    head_used : f < element_count t
    head_used = le_test (suc f) (element_count t) (and_left (ltb f (element_count t)) _ h.0)

    head_face : rank t f ≡ 2
    head_face = eq_test (rank t f) 2 (and_left (eqb (rank t f) 2) _ h.1)

    others : Faces fs
    others = (and_right (ltb f (element_count t)) _ h.0, and_right (eqb (rank t f) 2) _ h.1)

  pub grids_are : (fs : List ℕ) → Faces fs → all (words_on_grid ps es) fs ≡ all (piece_on_grid t) fs
  grids_are [] h = refl
  grids_are (f ∷ fs) h = λ i. on_grid_is f (head_used f fs h) (head_face f fs h) i && grids_are fs (others f fs h) i

  areas_are : (fs : List ℕ) → Faces fs → map (word_area ps es) fs ≡ map (twice_area t) fs
  areas_are [] h = refl
  areas_are (f ∷ fs) h = λ i. area_is f (head_used f fs h) (head_face f fs h) i ∷ areas_are fs (others f fs h) i

  pub sheet_is : (fs : List ℕ) → Faces fs → word_sheet ps es fs ≡ sheet t fs
  unfolding word_sheet sheet
  sheet_is fs h = ap (λ (zs : List ℤ). zs ++ pos (length fs) ∷ pos (sizes zs) ∷ []) (areas_are fs h)

  pub all_fit : (fs : List ℕ) → Faces fs → (i : ℕ) → i < length fs → PieceFits ps es (get_or fs i 0)
  all_fit [] h i l = absurd (not-suc-le-zero l)
  all_fit (f ∷ fs) h zero l = piece_fits f (head_used f fs h) (head_face f fs h)
  all_fit (f ∷ fs) h (suc i) l = all_fit fs (others f fs h) i (le_of_suc-le-suc l)
