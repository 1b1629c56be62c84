-- Demand 1 and the numbers: a refusal leaves what was lent, and carries a number of its table. By cases on each reply's tests.
use Rattle.std.specs.Prelude.{if◌then◌else◌, Some, Ok, Err}
use Prim.Native.Nat.{ℕ, suc, ◌<◌}
use mathlib.Core.Bool.{Bool, false, true, ◌||◌, not, ◌&&◌, true≢false}
use mathlib.Core.List.{List, ◌∷◌, [], ◌++◌}
use mathlib.Core.Path.{◌≡◌, sym, ◌∙◌, ap, refl, subst}
use native.Mathlib.Nat.{suc-ne-zero, lt_irrefl}
use lib.Dec.{ltb, eqb, leb}
use lib.Ieee.{Float}
use lib.ListN.{length, drop}
use lib.Seq.{length_front, length-take-le, drop-append_seam}
use Rattle.rules.specs.Limits.{Limits}
use Rattle.rules.specs.Lists.{member, all, any}
use Rattle.rules.specs.Table.{element_count, Table, is_primordial, element, rank, boundary}
use Rattle.rules.specs.Sound.{sound}
use Rattle.rules.specs.Memory.{Memory, sound_memory, decode, encode, right_size}
use Rattle.rules.specs.Cube.{cube, radius_fits}
use Rattle.rules.specs.Cut.{cut, refused, Outcome, done}
use Rattle.rules.specs.Questions.{Asked, no_answer, answer, sub_elements, with_rank, vertex_set, greatest_common, edges_in_order, primordial_facet}
use Rattle.rules.specs.Replies.{cut_reply, divider_fits, params_of, cube_reply, listed, list_size, asked, in_numbers, facet_answer, is_sound_reply}
use Rattle.rules.specs.Replies.{sub_elements_reply, with_rank_reply, vertex_set_reply, greatest_common_reply, edges_in_order_reply, primordial_facet_reply}
use Rattle.rules.specs.Print.{unless_facet, print_file, printed, print_reply}
use Rattle.rules.specs.Files.{file_of, save_reply}
use Rattle.rules.specs.Calls.{ListQuestion, sub_elements_of, sub_elements_with_rank, vertex_set_of, greatest_common_of, edges_in_order_of, file_of_table, print_file_of, list_reply, list_refusals}
use Rattle.rules.specs.Calls.{Filled, CutNumbered, ListNumbered, FacetNumbered}
use Rattle.rules.specs.Promises.{RefusedCutLeaves, RefusedCubeLeaves, RefusedListLeaves, ListFillsFront, CutNumbers, CubeNumbers, ListNumbers, FacetNumbers, SoundNumbers}
use Rattle.rules.specs.declared.ElementAnswer.{ElementAnswer}
use Rattle.rules.specs.declared.CutParams.{CutParams}
use Rattle.rules.proofs.Built.{RuleNumber, refused_number}
use Rattle.rules.proofs.Laws.{holds, and_left, le_test, eq_test, either, if_true, or_right, none_some}
use Rattle.rules.proofs.OneCall.{reply_by_lem, reply_by, sound_table}
use Rattle.rules.proofs.RingWalked.{face_is_walked}
use Rattle.rules.specs.Refusals.{refusal_number, Reply, reply_number}
use Rattle.rules.specs.declared.Refusal.TheVariants.{Dimension, Radius, NotSound, NotInUse, Divider, Rank, RoomShort}
use Rattle.rules.specs.declared.Refusal.{Refusal}

-- ---- the cut

module _ (L : Limits) (p : CutParams) (root : ℕ) (m : Memory) where
  pub refused_leaves : (m' : Memory) (n : Refusal) → cut_reply L p root m ≡ (Err n, m') → m' ≡ m
  refused_leaves m' n e =
      go (sound_memory L m) (ltb root (element_count (decode L m))) (divider_fits L (decode L m).dimension p.divider)
      (cut L (params_of (decode L m).dimension p) root (decode L m)) (sym (reply_by_lem L p root m) ∙ e)
    where
      go : (s u f : Bool) (r : Outcome ElementAnswer) → reply_by L p root m s u f r ≡ (Err n, m') → m' ≡ m
      go false u f r q = sym (ap (λ (x : Reply ElementAnswer × Memory). x.1) q)
      go true false f r q = sym (ap (λ (x : Reply ElementAnswer × Memory). x.1) q)
      go true true false r q = sym (ap (λ (x : Reply ElementAnswer × Memory). x.1) q)
      go true true true (refused k) q = sym (ap (λ (x : Reply ElementAnswer × Memory). x.1) q)
      go true true true (done b t) q = let z₀ : Ok b ≡ Err n = ap (λ (x : Reply ElementAnswer × Memory). x.0) q in let z : ◌≡◌ {A = ℕ} 0 1 = cc in absurd (suc-ne-zero 0 (sym z))

pub refused_cut_leaves : (L : Limits) → RefusedCutLeaves L
refused_cut_leaves L p root m = go (cut_reply L p root m).0 (cut_reply L p root m).1 refl
  where
    go : (r : Reply ElementAnswer) (m' : Memory) → cut_reply L p root m ≡ (r, m') → 0 < reply_number r → m' ≡ m
    go (Err n) m' e k = refused_leaves L p root m m' n e
    go (Ok a) m' e k = absurd (lt_irrefl 0 k)

-- a refusal's number, of a sound memory
pub sound_refusal_number : (L : Limits) (p : CutParams) (root : ℕ) (m : Memory) (n : Refusal)
    → sound_memory L m ≡ true → (cut_reply L p root m).0 ≡ Err n → member (refusal_number n) (4 ∷ 5 ∷ 7 ∷ 8 ∷ 9 ∷ 10 ∷ 11 ∷ []) ≡ true
sound_refusal_number L p root m n s e =
    go (ltb root (element_count (decode L m))) (divider_fits L (decode L m).dimension p.divider)
    (cut L (params_of (decode L m).dimension p) root (decode L m)) refl
    (sym (ap (λ (b : Bool). (reply_by L p root m b (ltb root (element_count (decode L m))) (divider_fits L (decode L m).dimension p.divider)
    (cut L (params_of (decode L m).dimension p) root (decode L m))).0) s) ∙ ap (λ (x : Reply ElementAnswer × Memory). x.0) (sym (reply_by_lem L p root m)) ∙ e)
  where
    numbers : List ℕ
    numbers = 4 ∷ 5 ∷ 7 ∷ 8 ∷ 9 ∷ 10 ∷ 11 ∷ []

    is : (k : Refusal) → member (refusal_number k) numbers ≡ true → ◌≡◌ {A = Reply ElementAnswer} (Err k) (Err n) → member (refusal_number n) numbers ≡ true
    is k h q = let p : k ≡ n = cc in subst (λ (j : Refusal). member (refusal_number j) numbers ≡ true) p h

    rule : (k : Refusal) → RuleNumber k → member (refusal_number k) numbers ≡ true
    rule r h =
        let k = refusal_number r in
        or_right (eqb k 4) (eqb k 5 || member k (7 ∷ 8 ∷ 9 ∷ 10 ∷ 11 ∷ [])) (or_right (eqb k 5) (member k (7 ∷ 8 ∷ 9 ∷ 10 ∷ 11 ∷ [])) (holds (member k (7 ∷ 8 ∷ 9 ∷ 10 ∷ 11 ∷ [])) h))

    go : (u f : Bool) (r : Outcome ElementAnswer) → cut L (params_of (decode L m).dimension p) root (decode L m) ≡ r
        → (reply_by L p root m true u f r).0 ≡ Err n → member (refusal_number n) numbers ≡ true
    go false f r c q = is NotInUse refl q
    go true false r c q = is Divider refl q
    go true true (refused k) c q = is k (rule k (refused_number L (params_of (decode L m).dimension p) root (decode L m) k c)) q
    go true true (done b t) c q = let z : ◌≡◌ {A = ℕ} 0 1 = cc in absurd (suc-ne-zero 0 (sym z))

-- a refusal's number
pub cut_refusal_number : (L : Limits) (p : CutParams) (root : ℕ) (m : Memory) (n : Refusal)
    → (cut_reply L p root m).0 ≡ Err n → member (refusal_number n) (3 ∷ 4 ∷ 5 ∷ 7 ∷ 8 ∷ 9 ∷ 10 ∷ 11 ∷ []) ≡ true
cut_refusal_number L p root m n e = go (sound_memory L m) refl
  where
    numbers : List ℕ
    numbers = 4 ∷ 5 ∷ 7 ∷ 8 ∷ 9 ∷ 10 ∷ 11 ∷ []

    unsound : sound_memory L m ≡ false → ◌≡◌ {A = Reply ElementAnswer} (Err NotSound) (Err n)
    unsound s =
        sym (ap (λ (b : Bool). (reply_by L p root m b (ltb root (element_count (decode L m))) (divider_fits L (decode L m).dimension p.divider)
        (cut L (params_of (decode L m).dimension p) root (decode L m))).0) s) ∙ ap (λ (x : Reply ElementAnswer × Memory). x.0) (sym (reply_by_lem L p root m)) ∙ e

    go : (s : Bool) → sound_memory L m ≡ s → member (refusal_number n) (3 ∷ numbers) ≡ true
    go false s = let q = unsound s in let k : NotSound ≡ n = cc in subst (λ (j : Refusal). member (refusal_number j) (3 ∷ numbers) ≡ true) k refl
    go true s = or_right (eqb (refusal_number n) 3) (member (refusal_number n) numbers) (sound_refusal_number L p root m n s e)

-- a number of a list without 0 is not 0
not_none : (ns : List ℕ) (n : ℕ) → member 0 ns ≡ false → member n ns ≡ true → n ≡ 0 → ⊥
not_none ns n h k z = true≢false (sym (subst (λ (j : ℕ). member j ns ≡ true) z k) ∙ h)

pub cut_numbers : (L : Limits) → CutNumbers L
cut_numbers L p root m = go (cut_reply L p root m).0 refl
  where
    numbers : List ℕ
    numbers = 3 ∷ 4 ∷ 5 ∷ 7 ∷ 8 ∷ 9 ∷ 10 ∷ 11 ∷ []

    go : (r : Reply ElementAnswer) → (cut_reply L p root m).0 ≡ r → CutNumbered numbers r
    go (Err n) e =
        let k = cut_refusal_number L p root m n e in
        record { number = or_right (eqb (refusal_number n) 0) (member (refusal_number n) numbers) k; answered = λ z. absurd (not_none numbers (refusal_number n) refl k z); refused = λ l. (refl, refl) }
    go (Ok a) e = record { number = refl; answered = λ z. (a, refl); refused = λ l. absurd (lt_irrefl 0 l) }

-- ---- the cube

module _ (L : Limits) (d : ℕ) (radius : Float) (m : Memory) where
  abbrev pub cube_by : Bool → Bool → Bool → Reply (Unit {0}) × Memory
  cube_by p q s = if not p then (Err Dimension, m) else if not q then (Err Radius, m) else if not s then (Err NotSound, m) else (Ok tt, encode L (cube d radius))

  pub cube_by_lem : cube_reply L d radius m ≡ cube_by (leb 1 d && leb d L.dimensions) (radius_fits radius) (right_size L m)
  unfolding cube_reply
  cube_by_lem = refl

pub refused_cube_leaves : (L : Limits) → RefusedCubeLeaves L
refused_cube_leaves L d radius m k =
    ap (λ (x : Reply (Unit {0}) × Memory). x.1) (cube_by_lem L d radius m)
    ∙ go (leb 1 d && leb d L.dimensions) (radius_fits radius) (right_size L m) (subst (λ (x : Reply (Unit {0}) × Memory). 0 < reply_number x.0) (cube_by_lem L d radius m) k)
  where
    go : (p q s : Bool) → 0 < reply_number (cube_by L d radius m p q s).0 → (cube_by L d radius m p q s).1 ≡ m
    go false q s l = refl
    go true false s l = refl
    go true true false l = refl
    go true true true l = absurd (lt_irrefl 0 l)

pub cube_numbers : (L : Limits) → CubeNumbers L
cube_numbers L d radius m =
    subst (λ (x : Reply (Unit {0}) × Memory). member (reply_number x.0) (0 ∷ 1 ∷ 2 ∷ 3 ∷ []) ≡ true) (sym (cube_by_lem L d radius m))
    (go (leb 1 d && leb d L.dimensions) (radius_fits radius) (right_size L m))
  where
    go : (p q s : Bool) → member (reply_number (cube_by L d radius m p q s).0) (0 ∷ 1 ∷ 2 ∷ 3 ∷ []) ≡ true
    go false q s = refl
    go true false s = refl
    go true true false = refl
    go true true true = refl

-- ---- the questions

-- a list and its room, by whether it fits
abbrev pub listed_by : {A : Type 0} → List A → List A → Bool → Reply ℕ × List A
listed_by xs room b = if b then (Ok (length xs), xs ++ drop (length xs) room) else (Err RoomShort, room)

-- a refused question leaves the list room
pub listed_refused : {A : Type 0} (a : Asked (List A)) (room : List A) → 0 < reply_number (listed a room).0 → (listed a room).1 ≡ room
listed_refused (no_answer n) room k = refl
listed_refused (answer xs) room k = go (leb (length xs) (length room)) k
  where
    go : (b : Bool) → 0 < reply_number (listed_by xs room b).0 → (listed_by xs room b).1 ≡ room
    go true l = absurd (lt_irrefl 0 l)
    go false l = refl

-- a list done fills the front
pub listed_fills : {A : Type 0} (a : Asked (List A)) (room : List A) (n : ℕ) → list_size (listed a room).0 ≡ Some n → Filled n room (listed a room).1
listed_fills (no_answer k) room n e = none_some n e
listed_fills (answer xs) room n e = go (leb (length xs) (length room)) refl e
  where
    go : (b : Bool) → leb (length xs) (length room) ≡ b → list_size (listed_by xs room b).0 ≡ Some n → Filled n room (listed_by xs room b).1
    go true t q =
        let l = le_test (length xs) (length room) t in
        let k : length xs ≡ n = cc in
        subst (λ (j : ℕ). Filled j room (xs ++ drop (length xs) room)) k
        (record { fits = l; size = length_front room xs (length xs) (sym (length-take-le (length xs) room l)); rest = drop-append_seam xs (drop (length xs) room) })
    go false t q = none_some n q

-- every such reply is what `listed` makes of an answer
pub list_answer : Limits → ListQuestion → Memory → Asked (List ℕ)
list_answer L (sub_elements_of e) m = asked L m (e ∷ []) (answer (sub_elements (decode L m) e))
list_answer L (sub_elements_with_rank k e) m = asked L m (e ∷ []) (answer (with_rank (decode L m) k e))
list_answer L (vertex_set_of e) m = asked L m (e ∷ []) (answer (vertex_set (decode L m) e))
list_answer L (greatest_common_of es) m = asked L m es (greatest_common (decode L m) es)
list_answer L (edges_in_order_of e) m = asked L m (e ∷ []) (in_numbers (edges_in_order (decode L m) e))
list_answer L file_of_table m = asked L m [] (answer (file_of (decode L m)))
list_answer L (print_file_of e) m = asked L m (e ∷ []) (printed (decode L m) e)

list_by_lem : (L : Limits) (q : ListQuestion) (m : Memory) (room : List ℕ) → list_reply L q m room ≡ listed (list_answer L q m) room
unfolding list_answer sub_elements_reply with_rank_reply vertex_set_reply greatest_common_reply edges_in_order_reply save_reply print_reply
list_by_lem L (sub_elements_of e) m room = refl
list_by_lem L (sub_elements_with_rank k e) m room = refl
list_by_lem L (vertex_set_of e) m room = refl
list_by_lem L (greatest_common_of es) m room = refl
list_by_lem L (edges_in_order_of e) m room = refl
list_by_lem L file_of_table m room = refl
list_by_lem L (print_file_of e) m room = refl

pub refused_list_leaves : (L : Limits) → RefusedListLeaves L
refused_list_leaves L q m room k =
    ap (λ (x : Reply ℕ × List ℕ). x.1) (list_by_lem L q m room)
    ∙ listed_refused (list_answer L q m) room (subst (λ (x : Reply ℕ × List ℕ). 0 < reply_number x.0) (list_by_lem L q m room) k)

pub list_fills_front : (L : Limits) → ListFillsFront L
list_fills_front L q m room n e =
    subst (λ (x : Reply ℕ × List ℕ). Filled n room x.1) (sym (list_by_lem L q m room))
    (listed_fills (list_answer L q m) room n (subst (λ (x : Reply ℕ × List ℕ). list_size x.0 ≡ Some n) (list_by_lem L q m room) e))

-- ---- the numbers of the questions

-- an answer, or a refusal with one of some numbers
abbrev pub RefusedIn : {A : Type 0} → List ℕ → Asked A → Type 0
RefusedIn ns (no_answer n) = member (refusal_number n) ns ≡ true
RefusedIn ns (answer x) = Unit {0}

-- asked of a sound memory, with numbers in use
asked_of : {A : Type 0} (L : Limits) (m : Memory) (es ns : List ℕ) (q : Asked A) → member 3 ns ≡ true → member 4 ns ≡ true
    → (sound_memory L m ≡ true → all (λ e. ltb e (element_count (decode L m))) es ≡ true → RefusedIn ns q) → RefusedIn ns (asked L m es q)
asked_of {A} L m es ns q h₃ h₄ h = go (sound_memory L m) (all (λ e. ltb e (element_count (decode L m))) es) refl refl
  where
    go : (s u : Bool) → sound_memory L m ≡ s → all (λ e. ltb e (element_count (decode L m))) es ≡ u
        → RefusedIn {A = A} ns (if not s then no_answer NotSound else if not u then no_answer NotInUse else q)
    go false u p r = h₃
    go true false p r = h₄
    go true true p r = h p r

asked_in : {A : Type 0} (L : Limits) (m : Memory) (es ns : List ℕ) (q : Asked A) → member 3 ns ≡ true → member 4 ns ≡ true → RefusedIn ns q → RefusedIn ns (asked L m es q)
asked_in L m es ns q h₃ h₄ h = asked_of L m es ns q h₃ h₄ (λ s u. h)

greatest_in : (t : Table) (es : List ℕ) → RefusedIn (3 ∷ 4 ∷ 6 ∷ 12 ∷ []) (greatest_common t es)
unfolding greatest_common
greatest_in t [] = refl
greatest_in t (e ∷ es) = either (RefusedIn (3 ∷ 4 ∷ 6 ∷ 12 ∷ [])) (all (λ x. eqb (rank t x) (rank t e)) es) _ _ tt refl

six : (t : Table) (f : ℕ) → eqb (rank t f) 2 ≡ false → edges_in_order t f ≡ no_answer Rank
unfolding edges_in_order
six t f q = if_true (not (eqb (rank t f) 2)) _ _ (ap not q)

-- the walk of a face of a sound table is answered
edges_in_lem : (L : Limits) (t : Table) (f : ℕ) → sound L t ≡ true → f < element_count t → RefusedIn (3 ∷ 4 ∷ 6 ∷ 12 ∷ []) (in_numbers (edges_in_order t f))
edges_in_lem L t f s u = go (eqb (rank t f) 2) refl
  where
    go : (b : Bool) → eqb (rank t f) 2 ≡ b → RefusedIn (3 ∷ 4 ∷ 6 ∷ 12 ∷ []) (in_numbers (edges_in_order t f))
    go true q = let w = face_is_walked L t s f u (eq_test (rank t f) 2 q) in subst (λ (a : Asked (List (ℕ × ℕ))). RefusedIn (3 ∷ 4 ∷ 6 ∷ 12 ∷ []) (in_numbers a)) (sym w.1) tt
    go false q = subst (λ (a : Asked (List (ℕ × ℕ))). RefusedIn (3 ∷ 4 ∷ 6 ∷ 12 ∷ []) (in_numbers a)) (sym (six t f q)) refl

printed_in : (t : Table) (e : ℕ) → RefusedIn (3 ∷ 4 ∷ 6 ∷ 16 ∷ 12 ∷ []) (printed t e)
unfolding printed primordial_facet
printed_in t e =
    either (RefusedIn (3 ∷ 4 ∷ 6 ∷ 16 ∷ 12 ∷ [])) (eqb t.dimension 3) _ _
    (either (λ (a : Asked Bool). RefusedIn (3 ∷ 4 ∷ 6 ∷ 16 ∷ 12 ∷ []) (unless_facet a (print_file t e))) (eqb (rank t e) t.dimension) _ _
    (go (any (λ b. is_primordial (element t b)) (boundary t e))) refl) refl
  where
    go : (b : Bool) → RefusedIn (3 ∷ 4 ∷ 6 ∷ 16 ∷ 12 ∷ []) (unless_facet (answer b) (print_file t e))
    go true = refl
    go false = tt

list_in : (L : Limits) (q : ListQuestion) (m : Memory) → RefusedIn (list_refusals q) (list_answer L q m)
unfolding list_answer
list_in L (sub_elements_of e) m = asked_in L m (e ∷ []) (list_refusals (sub_elements_of e)) (answer (sub_elements (decode L m) e)) refl refl tt
list_in L (sub_elements_with_rank k e) m = asked_in L m (e ∷ []) (list_refusals (sub_elements_with_rank k e)) (answer (with_rank (decode L m) k e)) refl refl tt
list_in L (vertex_set_of e) m = asked_in L m (e ∷ []) (list_refusals (vertex_set_of e)) (answer (vertex_set (decode L m) e)) refl refl tt
list_in L (greatest_common_of es) m = asked_in L m es (list_refusals (greatest_common_of es)) (greatest_common (decode L m) es) refl refl (greatest_in (decode L m) es)
list_in L (edges_in_order_of e) m =
    asked_of L m (e ∷ []) (list_refusals (edges_in_order_of e)) (in_numbers (edges_in_order (decode L m) e)) refl refl
    (λ s u. edges_in_lem L (decode L m) e (sound_table L m s) (le_test (suc e) (element_count (decode L m)) (and_left (ltb e (element_count (decode L m))) true u)))
list_in L file_of_table m = either (RefusedIn (3 ∷ 12 ∷ [])) (not (sound_memory L m)) (no_answer NotSound) (answer (file_of (decode L m))) refl tt
list_in L (print_file_of e) m = asked_in L m (e ∷ []) (list_refusals (print_file_of e)) (printed (decode L m) e) refl refl (printed_in (decode L m) e)

-- a room too short is 12
last_in : (q : ListQuestion) → member 12 (list_refusals q) ≡ true
last_in (sub_elements_of e) = refl
last_in (sub_elements_with_rank k e) = refl
last_in (vertex_set_of e) = refl
last_in (greatest_common_of es) = refl
last_in (edges_in_order_of e) = refl
last_in file_of_table = refl
last_in (print_file_of e) = refl

no_zero : (q : ListQuestion) → member 0 (list_refusals q) ≡ false
no_zero (sub_elements_of e) = refl
no_zero (sub_elements_with_rank k e) = refl
no_zero (vertex_set_of e) = refl
no_zero (greatest_common_of es) = refl
no_zero (edges_in_order_of e) = refl
no_zero file_of_table = refl
no_zero (print_file_of e) = refl

pub listed_in : {A : Type 0} (ns : List ℕ) (a : Asked (List A)) (room : List A) → RefusedIn ns a → member 12 ns ≡ true → member 0 ns ≡ false → ListNumbered ns (listed a room).0
listed_in ns (no_answer n) room h t z = refused_in n h
  where
    refused_in : (k : Refusal) → member (refusal_number k) ns ≡ true → ListNumbered ns (Err k)
    refused_in k h = record { number = or_right (eqb (refusal_number k) 0) (member (refusal_number k) ns) h; answered = λ e. absurd (not_none ns (refusal_number k) z h e); refused = λ l. refl }
listed_in ns (answer xs) room h t z = go (leb (length xs) (length room))
  where
    go : (b : Bool) → ListNumbered ns (listed_by xs room b).0
    go true = record { number = refl; answered = λ e. (length xs, refl); refused = λ l. absurd (lt_irrefl 0 l) }
    go false = record { number = or_right (eqb 12 0) (member 12 ns) t; answered = λ e. absurd (not_none ns 12 z t e); refused = λ l. refl }

pub list_numbers : (L : Limits) → ListNumbers L
list_numbers L q m room =
    subst (λ (x : Reply ℕ × List ℕ). ListNumbered (list_refusals q) x.0) (sym (list_by_lem L q m room))
    (listed_in (list_refusals q) (list_answer L q m) room (list_in L q m) (last_in q) (no_zero q))

pub facet_numbers : (L : Limits) → FacetNumbers L
unfolding primordial_facet_reply
facet_numbers L m e = go (asked L m (e ∷ []) (primordial_facet (decode L m) e)) (asked_in L m (e ∷ []) (3 ∷ 4 ∷ 6 ∷ []) (primordial_facet (decode L m) e) refl refl own)
  where
    own : RefusedIn (3 ∷ 4 ∷ 6 ∷ []) (primordial_facet (decode L m) e)
    own = unfold primordial_facet in either (RefusedIn (3 ∷ 4 ∷ 6 ∷ [])) (eqb (rank (decode L m) e) (decode L m).dimension) _ _ tt refl

    go : (a : Asked Bool) → RefusedIn (3 ∷ 4 ∷ 6 ∷ []) a → FacetNumbered (3 ∷ 4 ∷ 6 ∷ []) (facet_answer a)
    go (no_answer k) h = record {
      number = or_right (eqb (refusal_number k) 0) (member (refusal_number k) (3 ∷ 4 ∷ 6 ∷ [])) h;
      answered = λ z. absurd (not_none (3 ∷ 4 ∷ 6 ∷ []) (refusal_number k) refl h z);
      refused = λ l. refl;
    }
    go (answer b) h = record { number = refl; answered = λ z. (b, refl); refused = λ l. absurd (lt_irrefl 0 l) }

pub sound_numbers : (L : Limits) → SoundNumbers L
unfolding is_sound_reply
sound_numbers L m = either (λ (r : Reply (Unit {0})). member (reply_number r) (0 ∷ 3 ∷ []) ≡ true) (sound_memory L m) (Ok tt) (Err NotSound) refl refl
