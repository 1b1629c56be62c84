-- The walk of a piece in a list of 64 numbers: its front is the walk, whose corners fit, and so is its area small.
use Rattle.std.proofs.Common.{◌≡◌, ℕ, suc, ◌+◌, ◌*◌, ◌^◌, ◌<◌, ◌≤◌, List, [], ◌∷◌, map, length, get_or, take, nat_abs, sym, refl, ap, ◌∙◌, subst, suc-le-suc, zero-le, le_trans, le_of_eq, zero-add, arith, get_or-take, take_at}
use lib.Ieee.{Float}
use lib.Seq.{sets, sets-eq, length-sets}
use Rattle.rules.specs.Areas.{sizes}
use Rattle.rules.proofs.AreaSizes.{size_sum}
use Rattle.walk.specs.Boundaries.{row_boundary, BoundaryFits}
use Rattle.walk.specs.Walks.{words_in_order, lowest_end, no_edge, first_way}
use Rattle.walk.proofs.Boundaries.{row_size}
use Rattle.walk.proofs.Orders.{two_each}
use Rattle.areas.specs.Words.{corner_turn, turns_along, walk_of, word_area, CornerFits, CornersFit, StepsFit, PieceFits, PiecesFit}
use Rattle.areas.proofs.Loops.{corner_turn_few}

-- ---- a walk whose corners fit

pub walk_few : (ps : List Float) (ns : List ℕ) → ((i : ℕ) → i < length ns → CornerFits ps (get_or ns i 0)) → nat_abs (turns_along ps ns) ≤ length ns * 2 ^ 52
unfolding turns_along
walk_few ps [] fit = zero-le
walk_few ps (a ∷ []) fit = zero-le
walk_few ps (a ∷ b ∷ ns) fit =
    let here = corner_turn_few ps a b (record { from = fit 0 (suc-le-suc zero-le); to = fit 1 (suc-le-suc (suc-le-suc zero-le)) }) in
    let rest = walk_few ps ns (λ i h. fit (suc (suc i)) (suc-le-suc (suc-le-suc h))) in
    let both = size_sum (corner_turn ps a b) (turns_along ps ns) in
    let z : nat_abs (turns_along ps (a ∷ b ∷ ns)) ≤ suc (suc (length ns)) * 2 ^ 52 = omega (arith, here, rest, both) in
    z

-- ---- the walk of a face

module _ (es : List ℕ) (f n : ℕ) (B : BoundaryFits es f) (q : n ≡ get_or es (f * 36 + 3) 0) where
  pub edges_few : n ≤ 32
  edges_few = le_trans (le_of_eq q) B.sized

  pub walk_size : length (walk_of es f) ≡ 2 * n
  unfolding words_in_order
  walk_size =
      let xs = row_boundary es f in
      two_each (length xs) es xs (lowest_end es no_edge xs) (first_way es (lowest_end es no_edge xs) xs) ∙ ap (λ (k : ℕ). 2 * k) (row_size es f n B q)

  module _ (list out : List ℕ) (long : length list ≡ 64) (e : out ≡ sets list 0 (walk_of es f)) where
    enough : length (walk_of es f) ≤ length list
    enough = let w = walk_size in let k = edges_few in omega (arith, w, k, long)

    pub front : take (2 * n) out ≡ walk_of es f
    front = ap (take (2 * n)) (e ∙ sets-eq (walk_of es f) list 0 (le_trans (le_of_eq (zero-add (length (walk_of es f)))) enough)) ∙ take_at (walk_of es f) _ (2 * n) walk_size

    out_long : 2 * n ≤ length out
    out_long = let w = walk_size in let k = enough in let o = ap length e ∙ length-sets list 0 (walk_of es f) in omega (arith, w, k, o)

    pub corners_fit : (ps : List Float) → PieceFits ps es f → CornersFit ps out (2 * n)
    corners_fit ps P = record {
      long = out_long;
      each = λ i h. subst (CornerFits ps) (ap (λ (l : List ℕ). get_or l i 0) (sym front) ∙ get_or-take (2 * n) out i 0 h) (P.corners i (le_trans h (le_of_eq (sym walk_size))));
    }

    pub steps_fit : (ps : List Float) → PieceFits ps es f → StepsFit ps out n
    steps_fit ps P = record { few = edges_few; corners = corners_fit ps P }

pub room_for : (es : List ℕ) (f : ℕ) → BoundaryFits es f → 2 * length (row_boundary es f) ≤ 64
room_for es f B = let r = row_size es f _ B refl in let k = B.sized in omega (arith, r, k)

pub area_small : (ps : List Float) (es : List ℕ) (f : ℕ) → PieceFits ps es f → nat_abs (word_area ps es f) ≤ 2 ^ 58
unfolding word_area
area_small ps es f P =
    let B = P.face.bounds in
    let w = walk_size es f _ B refl in
    let k = B.sized in
    let l = walk_few ps (walk_of es f) P.corners in
    omega (arith, w, k, l)

pub sizes_small : (ps : List Float) (es fs : List ℕ) → ((i : ℕ) → i < length fs → PieceFits ps es (get_or fs i 0)) → sizes (map (word_area ps es) fs) ≤ length fs * 2 ^ 58
sizes_small ps es [] fit = zero-le
sizes_small ps es (f ∷ fs) fit =
    let here = area_small ps es f (fit 0 (suc-le-suc zero-le)) in
    let rest = sizes_small ps es fs (λ i h. fit (suc i) (suc-le-suc h)) in
    let z : nat_abs (word_area ps es f) + sizes (map (word_area ps es) fs) ≤ suc (length fs) * 2 ^ 58 = omega (arith, here, rest) in
    z

pub sheet_small : (ps : List Float) (es fs : List ℕ) → PiecesFit ps es fs → sizes (map (word_area ps es) fs) ≤ 2 ^ 62
sheet_small ps es fs P = let l = sizes_small ps es fs P.each in let n = P.few in omega (arith, l, n)
