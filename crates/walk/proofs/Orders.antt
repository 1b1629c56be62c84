-- The reply of the edges in order: of the numbers that the code wrote, and then of the memory, by what was asked.
use Rattle.std.specs.Prelude.{if◌then◌else◌, Ok, Err}
use Prim.Native.Nat.{ℕ, zero, suc, ◌+◌, ◌*◌, ◌≤◌, ◌<◌}
use mathlib.Core.Path.{◌≡◌, refl, sym, ap, ap₂, ◌∙◌, subst}
use mathlib.Core.Bool.{Bool, true, not}
use mathlib.Core.List.{List, [], ◌∷◌, ◌++◌}
use native.Mathlib.Nat.{le_trans, le_of_eq, zero-add}
use native.Mathlib.Omega.{arith}
use lib.Dec.{eqb}
use lib.ListN.{length, get_or, drop}
use lib.Seq.{sets, sets-eq}
use lib.Ieee.{Float}
use Rattle.rules.specs.Limits.{desk}
use Rattle.rules.specs.Table.{Table, element_count, rank, boundary}
use Rattle.rules.specs.Sound.{sound}
use Rattle.rules.specs.Held.{Holds, AllOf, memory_of}
use Rattle.rules.specs.Walk.{walk, first_edge, start_of, around}
use Rattle.rules.specs.Questions.{Asked, no_answer, answer, pairs, edges_in_order}
use Rattle.rules.specs.Replies.{listed, in_numbers, edges_in_order_reply}
use Rattle.rules.proofs.WalkSteps.{rising, all_steps}
use Rattle.rules.proofs.FaceEdges.{start_first, takes_all}
use Rattle.rules.proofs.Good.{Good, sound_good}
use Rattle.rules.proofs.Laws.{if_true, if_false, test_eq, not_eq, test_le, test_above}
use Rattle.rules.proofs.WalkRound.{taken}
use Rattle.soundness.specs.Asked.{roots_asked}
use Rattle.soundness.proofs.AskedOnce as once
use Rattle.soundness.proofs.AskedOnce.{table}
use Rattle.walk.specs.Boundaries.{row_boundary, BoundaryFits}
use Rattle.walk.specs.Walks.{end_across, edge_beside, lowest_end, no_edge, first_way, numbers_from, words_in_order, EdgeFits, FaceFits}
use Rattle.walk.proofs.Asking as ask
use Rattle.walk.proofs.Boundaries.{row_size, bounds, boundary_fits, boundary_is}
use Rattle.walk.proofs.Faces.{CornerAt, Met, EdgeAt, edges_at, none_met}
use Rattle.walk.proofs.Starts.{start_corner, start_is}
use Rattle.walk.proofs.Walking.{first_is, first_met, walk_is}
use Rattle.rules.specs.Refusals.{Reply}
use Rattle.rules.specs.declared.Refusal.TheVariants.{NotClosed, Rank, RoomShort}
use Rattle.rules.specs.declared.Refusal.{Refusal}

-- ---- 12, or the list written

pub two_each : (n : ℕ) (es xs : List ℕ) (v e : ℕ) → length (numbers_from n es xs v e) ≡ 2 * n
unfolding numbers_from
two_each zero es xs v e = refl
two_each (suc n) es xs v e =
    let w = end_across es v e in
    let q = two_each n es xs w (edge_beside es e w xs) in
    let z : suc (suc (length (numbers_from n es xs w (edge_beside es e w xs)))) ≡ 2 * suc n = omega (arith, q) in
    z

module _ (es : List ℕ) (f n : ℕ) (room : List ℕ) (B : BoundaryFits es f) (q : n ≡ get_or es (f * 36 + 3) 0) where
  abbrev xs : List ℕ
  xs = row_boundary es f

  abbrev numbers : List ℕ
  numbers = words_in_order es xs

  size_is : length numbers ≡ 2 * n
  unfolding words_in_order
  size_is = two_each (length xs) es xs (lowest_end es no_edge xs) (first_way es (lowest_end es no_edge xs) xs) ∙ ap (λ (k : ℕ). 2 * k) (row_size es f n B q)

  -- the choice between the list and 12
  abbrev choice : Bool → Reply ℕ × List ℕ
  choice c = if c then (Ok (length numbers), numbers ++ drop (length numbers) room) else (Err RoomShort, room)

  pub no_room : length room < 2 * n → (Err RoomShort, room) ≡ listed (answer numbers) room
  no_room l = ap choice (sym (test_above (length numbers) (length room) (le_trans l (le_of_eq (sym size_is)))))

  pub list_done : (out : List ℕ) → 2 * n ≤ length room → out ≡ sets room 0 numbers → (Ok (2 * n), out) ≡ listed (answer numbers) room
  list_done out l e =
      let fit : length numbers ≤ length room = le_trans (le_of_eq size_is) l in
      let all_in = sets-eq numbers room 0 (le_trans (le_of_eq (zero-add (length numbers))) fit) in
      (λ i. (Ok (sym size_is i), (e ∙ all_in ∙ ap (λ (k : ℕ). numbers ++ drop k room) (zero-add (length numbers))) i))
      ∙ ap choice (sym (test_le (length numbers) (length room) fit))

-- the walk from the lowest corner by the first edge is the whole
pub whole_walk : (es xs : List ℕ) (start first : ℕ) → start ≡ lowest_end es no_edge xs → first ≡ first_way es start xs → numbers_from (length xs) es xs start first ≡ words_in_order es xs
unfolding words_in_order
whole_walk es xs start first hs hf = ap (numbers_from (length xs) es xs start) hf ∙ ap (λ (v : ℕ). numbers_from (length xs) es xs v (first_way es v xs)) hs

-- ---- a face of a sound table

module _ {cs : List ℕ} {ps hs : List Float} {es : List ℕ} {t : Table} (H : Holds desk cs ps hs es t) (s : sound desk t ≡ true) (f : ℕ) (u : f < element_count t) (q : rank t f ≡ 2) where
  g : Good desk t
  g = sound_good desk t s

  same : row_boundary es f ≡ boundary t f
  same = boundary_is H g f 1 u q

  edges : AllOf (EdgeAt t es) (boundary t f)
  edges = edges_at H s (boundary t f) (bounds H g f 1 u q)

  none : Met t es 0
  none = none_met H s (let z : 0 < element_count t = omega (arith, u) in z)

  start_at : CornerAt t es (lowest_end es no_edge (boundary t f))
  start_at = start_corner H s f u q edges

  met_fits : (x : ℕ) → Met t es x → EdgeFits es x
  met_fits x M = record {
    used = le_trans M.used H.fits.element_room;
    first = le_trans M.low.used H.fits.element_room;
    second = le_trans M.high.used H.fits.element_room;
  }

  all_fit : (xs : List ℕ) → AllOf (EdgeAt t es) xs → AllOf (EdgeFits es) xs
  all_fit [] h = tt
  all_fit (x ∷ xs) h = (met_fits x h.0.met, all_fit xs h.1)

  pub face_fits : FaceFits es f
  face_fits = record {
    bounds = boundary_fits H g f 1 u q;
    edges = subst (AllOf (EdgeFits es)) (sym same) (all_fit (boundary t f) edges);
    none = met_fits 0 none;
    start = subst (λ (l : List ℕ). lowest_end es no_edge l < 512) (sym same) (le_trans start_at.used H.fits.element_room);
  }

  abbrev lowest : ℕ
  lowest = start_of t (boundary t f)

  lowest_is : lowest ≡ lowest_end es no_edge (boundary t f)
  lowest_is = sym (start_first desk t s f u q) ∙ start_is H s f u q edges

  abbrev begin : ℕ
  begin = lowest_end es no_edge (boundary t f)

  abbrev first : ℕ
  first = first_way es begin (boundary t f)

  around_is : around t (boundary t f) ≡ walk (length (boundary t f)) t (boundary t f) begin begin first
  around_is =
      ap (λ (x : ℕ). walk (length (boundary t f)) t (boundary t f) x x (first_edge t x (boundary t f))) lowest_is
      ∙ ap (walk (length (boundary t f)) t (boundary t f) begin begin) (first_is t es (boundary t f) edges none H.fits.element_room (rising desk t s f u q) begin)

  -- never 6, for it is a face, and never 7, for the walk takes every edge
  pub order_is : in_numbers (edges_in_order t f) ≡ answer (words_in_order es (row_boundary es f))
  unfolding edges_in_order words_in_order
  order_is =
      ap in_numbers (if_false (not (eqb (rank t f) 2)) (no_answer Rank) _ (ap not (test_eq (rank t f) 2 q)) ∙ if_true _ _ (no_answer NotClosed) (takes_all desk t s f u q))
      ∙ ap₂ (λ (v : ℕ) (ss : List (ℕ × ℕ)). in_numbers (answer (pairs t v ss))) lowest_is around_is
      ∙ ap answer (walk_is t es (boundary t f) edges none (length (boundary t f)) begin begin first
      (first_met t es (boundary t f) edges none H.fits.element_room (rising desk t s f u q) begin) start_at
      (subst (λ (ss : List (ℕ × ℕ)). length (boundary t f) ≤ length (taken ss)) around_is (all_steps desk t s f u q)))
      ∙ ap (λ (l : List ℕ). answer (words_in_order es l)) (sym same)

-- ---- what was asked, and then the walk

-- n is what the code found
module _ (root : ℕ) (cs : List ℕ) (ps hs : List Float) (es room : List ℕ) (n : Reply (Unit {0})) (e : n ≡ roots_asked (memory_of cs ps hs es) (root ∷ [])) where
  abbrev t : Table
  t = table cs ps hs es

  abbrev reply : Reply ℕ × List ℕ
  reply = edges_in_order_reply desk (memory_of cs ps hs es) root room

  pub refused : (x : Refusal) → n ≡ Err x → (Err x, room) ≡ reply
  unfolding edges_in_order_reply
  refused x z = ap (λ (a : Asked (List ℕ)). listed a room) (once.refused cs ps hs es (root ∷ []) n e (in_numbers (edges_in_order t root)) x z)

  module _ (z : n ≡ Ok tt) where
    goes : listed (in_numbers (edges_in_order t root)) room ≡ reply
    unfolding edges_in_order_reply
    goes = ap (λ (a : Asked (List ℕ)). listed a room) (once.question_is cs ps hs es (root ∷ []) n e z (in_numbers (edges_in_order t root)))

    module _ (r : ℕ) (er : r ≡ get_or es (root * 36) 0) where
      rank_is : r ≡ rank t root
      rank_is = ask.rank_is cs ps hs es root n e z r er

      pub no_face : (r ≡ 2 → ⊥) → (Err Rank, room) ≡ reply
      unfolding edges_in_order
      no_face w =
          ap (λ (a : Asked (List (ℕ × ℕ))). listed (in_numbers a) room) (sym (if_true (not (eqb (rank t root) 2)) (no_answer Rank) _ (ap not (not_eq (rank t root) 2 (λ y. w (rank_is ∙ y)))))) ∙ goes

      module _ (w : r ≡ 2) where
        pub face_asked : FaceFits es root
        face_asked = face_fits (ask.holds cs ps hs es root n e z) (ask.table_sound cs ps hs es root n e z) root (ask.in_use_lem cs ps hs es root n e z) (sym rank_is ∙ w)

        pub face_replied : {x : Reply ℕ × List ℕ} → x ≡ listed (answer (words_in_order es (row_boundary es root))) room → x ≡ reply
        face_replied h =
            h ∙ ap (λ (a : Asked (List ℕ)). listed a room)
            (sym (order_is (ask.holds cs ps hs es root n e z) (ask.table_sound cs ps hs es root n e z) root (ask.in_use_lem cs ps hs es root n e z) (sym rank_is ∙ w))) ∙ goes
