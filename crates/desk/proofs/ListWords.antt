-- No list that a question gives has more numbers than there is room for elements, and no file more bytes than two of them count: its size fits above the reply's number.
use Rattle.std.specs.Prelude.{if◌then◌else◌, Ok, Err}
use Prim.Native.Nat.{ℕ, zero, suc, ◌*◌, ◌≤◌, ◌<◌}
use mathlib.Core.Bool.{Bool, true, false, not, ◌&&◌}
use mathlib.Core.List.{List, [], ◌∷◌, ◌++◌, map}
use mathlib.Core.Path.{◌≡◌, refl, sym, ap, subst, ◌∙◌}
use native.Mathlib.Nat.{le_trans, le_of_eq}
use native.Mathlib.Omega.{arith}
use lib.Dec.{leb, ltb, eqb, lit≤}
use lib.ListN.{length, drop, length-map}
use Rattle.rules.specs.Limits.{desk}
use Rattle.rules.specs.Lists.{all, keep, up_to, joined}
use Rattle.rules.specs.Table.{Table, vertex_of, element, rank, boundary, boundary_of, corner, element_count}
use Rattle.rules.specs.Memory.{Memory, decode, sound_memory}
use Rattle.rules.specs.Questions.{Asked, no_answer, answer, is_below, sub_elements, with_rank, vertex_set, common_with_rank, some_or, greatest_from, greatest_common, pairs, edges_in_order}
use Rattle.rules.specs.Walk.{walk, first_edge, start_of, each_once}
use Rattle.rules.specs.Replies.{asked, listed, sub_elements_reply, with_rank_reply, vertex_set_reply, greatest_common_reply, in_numbers, edges_in_order_reply}
use Rattle.rules.proofs.WalkSteps.{walk_short}
use Rattle.rules.proofs.Counting.{length_up}
use Rattle.rules.proofs.Good.{sound_good}
use Rattle.rules.proofs.Growing.{all_get}
use Rattle.rules.proofs.Laws.{le_test, and_left}
use Rattle.rules.proofs.OneCall.{sound_table}
use Rattle.rules.proofs.RingWalked.{kept_length}
use Rattle.desk.specs.Words.{longest, SizeFits, size_word, list_word}
use Rattle.rules.specs.Refusals.{Reply}
use Rattle.rules.specs.declared.Refusal.TheVariants.{NotClosed, NotInUse, NotSound, Rank, RoomShort}

-- no longer than that, where it is answered
abbrev Short : Asked (List ℕ) → Type 0
Short (no_answer n) = Unit {0}
Short (answer xs) = length xs ≤ desk.elements

list_fits_lem : (q : Asked (List ℕ)) (room : List ℕ) → Short q → SizeFits (listed q room).0
list_fits_lem (no_answer n) room h = tt
list_fits_lem (answer xs) room h = go (leb (length xs) (length room))
  where
    go : (b : Bool) → SizeFits (if◌then◌else◌ {A = Reply ℕ × List ℕ} b (Ok (length xs), xs ++ drop (length xs) room) (Err RoomShort, room)).0
    go true = le_trans h (lit≤ tt)
    go false = tt

-- what is asked of a memory that is not sound, or of a number not in use, is refused
asked_fits : (m : Memory) (es : List ℕ) (q : Asked (List ℕ))
    → (sound_memory desk m ≡ true → all (λ e. ltb e (element_count (decode desk m))) es ≡ true → Short q) → Short (asked desk m es q)
asked_fits m es q h = go (sound_memory desk m) (all (λ e. ltb e (element_count (decode desk m))) es) h
  where
    go : (s u : Bool) → (s ≡ true → u ≡ true → Short q) → Short (if not s then no_answer NotSound else if not u then no_answer NotInUse else q)
    go false u k = tt
    go true false k = tt
    go true true k = k refl refl

module _ (m : Memory) where
  abbrev t : Table
  t = decode desk m

  up_fits : sound_memory desk m ≡ true → length (up_to (element_count t)) ≤ desk.elements
  up_fits s = le_trans (le_of_eq (length_up 0 (element_count t))) (le_test (element_count t) desk.elements (sound_good desk t (sound_table desk m s)).element_room)

  kept_fits : (p : ℕ → Bool) → sound_memory desk m ≡ true → length (keep p (up_to (element_count t))) ≤ desk.elements
  kept_fits p s = le_trans (kept_length p (up_to (element_count t))) (up_fits s)

  pub sub_fits : (e : ℕ) (room : List ℕ) → SizeFits (sub_elements_reply desk m e room).0
  unfolding sub_elements_reply sub_elements
  sub_fits e room = list_fits_lem (asked desk m (e ∷ []) (answer (sub_elements t e))) room (asked_fits m (e ∷ []) (answer (sub_elements t e)) (λ s u. kept_fits (is_below t e) s))

  pub rank_fits_list : (k e : ℕ) → sound_memory desk m ≡ true → length (with_rank t k e) ≤ desk.elements
  unfolding with_rank sub_elements
  rank_fits_list k e s = le_trans (kept_length (λ x. eqb (rank t x) k) (sub_elements t e)) (kept_fits (is_below t e) s)

  pub rank_fits : (k e : ℕ) (room : List ℕ) → SizeFits (with_rank_reply desk m k e room).0
  unfolding with_rank_reply
  rank_fits k e room = list_fits_lem (asked desk m (e ∷ []) (answer (with_rank t k e))) room (asked_fits m (e ∷ []) (answer (with_rank t k e)) (λ s u. rank_fits_list k e s))

  pub vertices_fit : (e : ℕ) (room : List ℕ) → SizeFits (vertex_set_reply desk m e room).0
  unfolding vertex_set_reply vertex_set
  vertices_fit e room =
      list_fits_lem (asked desk m (e ∷ []) (answer (vertex_set t e))) room (asked_fits m (e ∷ []) (answer (vertex_set t e))
      (λ s u. le_trans (le_of_eq (length-map (with_rank t 0 e) (λ x. vertex_of (element t x)))) (rank_fits_list 0 e s)))

  greatest_fits : (r : ℕ) (es : List ℕ) → sound_memory desk m ≡ true → length (greatest_from t r es) ≤ desk.elements
  unfolding greatest_from common_with_rank
  greatest_fits zero es s = let z : 0 ≤ desk.elements = omega arith in z
  greatest_fits (suc r) es s = go (common_with_rank t (suc r) es) (kept_fits (λ x. eqb (rank t x) (suc r) && all (λ e. is_below t e x) es) s) (greatest_fits r es s)
    where
      go : (xs : List ℕ) → length xs ≤ desk.elements → length (greatest_from t r es) ≤ desk.elements → length (some_or xs (greatest_from t r es)) ≤ desk.elements
      go [] h k = k
      go (x ∷ xs) h k = h

  pub common_fits : (es room : List ℕ) → SizeFits (greatest_common_reply desk m es room).0
  unfolding greatest_common_reply greatest_common
  common_fits es room = list_fits_lem (asked desk m es (greatest_common t es)) room (asked_fits m es (greatest_common t es) (λ s u. go es s))
    where
      go : (es : List ℕ) → sound_memory desk m ≡ true → Short (greatest_common t es)
      go [] s = tt
      go (e ∷ es) s = by (all (λ x. eqb (rank t x) (rank t e)) es)
        where
          by : (b : Bool) → Short (if b then answer (greatest_from t (rank t e) (e ∷ es)) else no_answer Rank)
          by true = greatest_fits (rank t e) (e ∷ es) s
          by false = tt

  pairs_long : (v : ℕ) (ss : List (ℕ × ℕ)) → length (joined (map (λ (p : ℕ × ℕ). p.0 ∷ p.1 ∷ []) (pairs t v ss))) ≡ 2 * length ss
  pairs_long v [] = refl
  pairs_long v (s ∷ ss) = let h = pairs_long s.1 ss in let z : suc (suc (length (joined (map (λ (p : ℕ × ℕ). p.0 ∷ p.1 ∷ []) (pairs t s.1 ss))))) ≡ 2 * suc (length ss) = omega (arith, h) in z

  pub edges_fit : (e : ℕ) (room : List ℕ) → SizeFits (edges_in_order_reply desk m e room).0
  unfolding edges_in_order_reply edges_in_order
  edges_fit e room = list_fits_lem (asked desk m (e ∷ []) (in_numbers (edges_in_order t e))) room (asked_fits m (e ∷ []) (in_numbers (edges_in_order t e)) (λ s u.
      by (not (eqb (rank t e) 2)) (each_once es steps)
      (most s (le_test (suc e) (element_count t) (and_left (ltb e (element_count t)) true u)))))
    where
      es : List ℕ
      es = boundary t e

      start : ℕ
      start = start_of t es

      steps : List (ℕ × ℕ)
      steps = walk (length es) t es start start (first_edge t start es)

      most : sound_memory desk m ≡ true → e < element_count t → length steps ≤ desk.boundary
      most s u =
          le_trans (walk_short t (length es) es start start (first_edge t start es))
          (le_test (length es) desk.boundary (all_get (λ x. leb (length (boundary_of x)) desk.boundary) t.elements e (corner 0) u (sound_good desk t (sound_table desk m s)).boundary_room))

      by : (a b : Bool) → length steps ≤ desk.boundary → Short (in_numbers (if a then no_answer Rank else if b then answer (pairs t start steps) else no_answer NotClosed))
      by true b h = tt
      by false false h = tt
      by false true h = let k = pairs_long start steps in let z : length (joined (map (λ (p : ℕ × ℕ). p.0 ∷ p.1 ∷ []) (pairs t start steps))) ≤ desk.elements = omega (arith, k, h) in z

-- ---- the number

pub list_said : {A : Type 0} {r : Reply ℕ} {room : List A} {w : Reply ℕ × List A} (x : ℕ) → (r, room) ≡ w → x ≡ size_word r → (x, room) ≡ list_word w
list_said {room = room} x e q = (λ j. (q j, room)) ∙ ap list_word e

pub fits_as : {A : Type 0} {r : Reply ℕ} {room : List A} {w : Reply ℕ × List A} → (r, room) ≡ w → SizeFits w.0 → SizeFits r
fits_as {A} e h = subst SizeFits (sym (ap (λ (x : Reply ℕ × List A). x.0) e)) h

pub listed_low : {r : Reply ℕ} (n : ℕ) → r ≡ Ok n → SizeFits r → n ≤ longest
listed_low n q h = subst SizeFits q h
