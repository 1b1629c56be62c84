-- Every public reply in a roomier room: the table is the same, so each reply's tests are, but for those that compare with the room.
use Rattle.std.specs.Prelude.{if◌then◌else◌, Err, Ok}
use Prim.Native.Nat.{ℕ, ◌≤◌, ◌<◌, zero, suc, ◌+◌, ◌-◌, ◌*◌}
use mathlib.Core.Bool.{Bool, true, false, not, ◌&&◌, ◌||◌, false≢true}
use mathlib.Core.List.{List, [], ◌∷◌, ◌++◌, map}
use mathlib.Core.Path.{◌≡◌, subst, sym, refl, ap, ◌∙◌}
use native.Mathlib.Nat.{le_trans, le_of_eq, suc-ne-zero, suc-mul, mul-le-mul_right, zero-add}
use native.Mathlib.Omega.{arith}
use lib.Dec.{ltb, leb, eqb}
use lib.Ieee.{Float}
use lib.IntN.{ℤ}
use lib.ListN.{length, length-map, length-drop, take, drop, replicate}
use lib.Seq.{length-take-le, take-append-le, drop-append-le}
use Rattle.rules.specs.Limits.{Limits, Readable, HasCubes, Roomier}
use Rattle.rules.specs.Lists.{all, member, up_from}
use Rattle.rules.specs.Floats.{plus_zero, same_bits, unit}
use Rattle.rules.specs.Table.{Plane, Table, element_count}
use Rattle.rules.specs.Memory.{Memory, plane_width, encode, decode, right_size, sound_memory}
use Rattle.rules.specs.Cube.{cube, radius_fits}
use Rattle.rules.specs.Cut.{Outcome, refused, done, cut}
use Rattle.rules.specs.Questions.{Asked, no_answer, answer, sub_elements, with_rank, vertex_set, greatest_common, edges_in_order, primordial_facet}
use Rattle.rules.specs.Replies.{is_sound_reply, cube_reply, divider_fits, distance_fits, divider_of, is_kept, params_of, cut_reply, asked, listed, in_numbers, facet_answer}
use Rattle.rules.specs.Replies.{sub_elements_reply, with_rank_reply, vertex_set_reply, greatest_common_reply, edges_in_order_reply, primordial_facet_reply}
use Rattle.rules.specs.Touch.{touch, touch_reply}
use Rattle.rules.specs.Print.{printed, print_reply}
use Rattle.rules.specs.Files.{file_of, save_reply, open_reply}
use Rattle.rules.specs.Calls.{ListQuestion, sub_elements_of, sub_elements_with_rank, vertex_set_of, greatest_common_of, edges_in_order_of, file_of_table, print_file_of, list_reply}
use Rattle.rules.specs.CutLists.{most_cuts, CutList, list_fits, ListedCut, divider_at, cut_at, cuts_of, going_on, cuts_from, cut_list_reply, cut_list_number}
use Rattle.rules.specs.Areas.{piece_on_grid, areas_reply}
use Rattle.rules.specs.Rooms.{TablesAlike, RepliesAlike, RoomierAlike, moved, widened, widened_params, widened_cut, SameCuts}
use Rattle.rules.specs.declared.CutListReply.{CutListReply}
use Rattle.rules.specs.declared.CutParams.{CutParams}
use Rattle.rules.specs.declared.ElementAnswer.{ElementAnswer}
use Rattle.rules.specs.declared.Hyperplane.{Hyperplane}
use Rattle.rules.proofs.AreaReplies.{sheet_by, few, used, flat, sheet_by_lem}
use Rattle.rules.proofs.Built.{RuleNumber, refused_number}
use Rattle.rules.proofs.CubeCalls.{cube_done}
use Rattle.rules.proofs.AfterList.{list_by, list_by_lem}
use Rattle.rules.proofs.CutLists.{as_many}
use Rattle.rules.proofs.FileReplies.{accepted, taken, open_accepted, opens_roomier, layout_alone}
use Rattle.rules.proofs.Good.{sound_good}
use Rattle.rules.proofs.Laws.{and_true, and_left, and_right, le_test, test_le, test_eq, eq_test, if_true}
use Rattle.rules.proofs.OneCall.{sound_table, reply_by, reply_by_lem, it, memory_table}
use Rattle.rules.proofs.Refusals.{cut_refusal_number, cube_by, cube_by_lem}
use Rattle.rules.proofs.Roomier.{Alike, cut_alike, sound_alike}
use Rattle.rules.proofs.RoundTrip.{written_sound, table_back}
use Rattle.rules.proofs.Rows.{length_pad}
use Rattle.rules.specs.Refusals.{Reply, reply_number}
use Rattle.rules.specs.declared.Refusal.TheVariants.{Divider, NotInUse, NotSound}
use Rattle.rules.specs.declared.Touched.{Touched}
use Rattle.rules.specs.declared.Refusal.TheVariants.{Dimension, Radius, NotSound, Divider, Rank, NotClosed, VerticesFull, ElementsFull, HyperplanesFull, BoundaryFull, RoomShort, Layout, PrimordialFacet, OffGrid, ListLong}
use Rattle.rules.specs.Refusals.{refusal_number}
use Rattle.rules.specs.declared.Refusal.{Refusal}

-- ---- a divider with more axes

-- zeros added at the end are zero bits
zeros_more : (xs : List Float) (n : ℕ) → all (same_bits plus_zero) (xs ++ replicate n plus_zero) ≡ all (same_bits plus_zero) xs
zeros_more [] zero = refl
zeros_more [] (suc n) = zeros_more [] n
zeros_more (x ∷ xs) n = ap (λ (b : Bool). same_bits plus_zero x && b) (zeros_more xs n)

-- of the refusals that a rule gives, the one that is among 0, 4, 5 and 7
seven : (k : Refusal) → RuleNumber k → member (refusal_number k) (0 ∷ 4 ∷ 5 ∷ 7 ∷ []) ≡ true → k ≡ NotClosed
seven Dimension r h = absurd (false≢true h)
seven Radius r h = absurd (false≢true h)
seven NotSound r h = absurd (false≢true h)
seven NotInUse r h = absurd r
seven Divider r h = absurd r
seven Rank r h = absurd (false≢true h)
seven NotClosed r h = refl
seven VerticesFull r h = absurd (false≢true h)
seven ElementsFull r h = absurd (false≢true h)
seven HyperplanesFull r h = absurd (false≢true h)
seven BoundaryFull r h = absurd (false≢true h)
seven RoomShort r h = absurd (false≢true h)
seven Layout r h = absurd (false≢true h)
seven PrimordialFacet r h = absurd (false≢true h)
seven OffGrid r h = absurd (false≢true h)
seven ListLong r h = absurd (false≢true h)

-- no cut is refused with 12
not_twelve : (n : ℕ) → member n (3 ∷ 4 ∷ 5 ∷ 7 ∷ 8 ∷ 9 ∷ 10 ∷ 11 ∷ []) ≡ true → member n (0 ∷ 4 ∷ 5 ∷ 7 ∷ 12 ∷ []) ≡ true → member n (0 ∷ 4 ∷ 5 ∷ 7 ∷ []) ≡ true
not_twelve n r h = go (eqb n 12) refl h
  where
    go : (b : Bool) → eqb n 12 ≡ b → (eqb n 0 || (eqb n 4 || (eqb n 5 || (eqb n 7 || (b || false))))) ≡ true → member n (0 ∷ 4 ∷ 5 ∷ 7 ∷ []) ≡ true
    go true e q = absurd (false≢true (subst (λ (k : ℕ). member k (3 ∷ 4 ∷ 5 ∷ 7 ∷ 8 ∷ 9 ∷ 10 ∷ 11 ∷ []) ≡ true) (eq_test n 12 e) r))
    go false e q = q

module _ (L M : Limits) (O : Roomier L M) (h : Hyperplane) (long : length h.normal ≡ L.dimensions) (d : ℕ) (low : d ≤ L.dimensions) where
  -- the zeros that are added
  abbrev more : List Float
  more = replicate (M.dimensions - length h.normal) plus_zero

  short : d ≤ length h.normal
  short = le_trans low (le_of_eq (sym long))

  take_widened : take d (widened M h).normal ≡ take d h.normal
  take_widened = take-append-le d h.normal more short

  divider_same : divider_of d (widened M h) ≡ divider_of d h
  divider_same = λ j. record { normal = take_widened j; distance = h.distance }

  fits_same : divider_fits M d (widened M h) ≡ divider_fits L d h
  unfolding divider_fits
  fits_same = λ j. first j && unit (take_widened j) && rest j && distance_fits h.distance
    where
      first : eqb (length (widened M h).normal) M.dimensions ≡ eqb (length h.normal) L.dimensions
      first =
          test_eq _ _ (length_pad plus_zero M.dimensions h.normal (le_trans (le_of_eq long) O.dimensions))
          ∙ sym (test_eq (length h.normal) L.dimensions long)

      rest : all (same_bits plus_zero) (drop d (widened M h).normal) ≡ all (same_bits plus_zero) (drop d h.normal)
      rest = ap (all (same_bits plus_zero)) (drop-append-le d h.normal more short) ∙ zeros_more (drop d h.normal) (M.dimensions - length h.normal)

module _ (L M : Limits) (O : Roomier L M) (R : Readable L) (H : HasCubes L) (W : Readable M) where
  -- ---- the same table in the other memory

  module _ (m : Memory) (s : sound_memory L m ≡ true) where
    sound_there : sound_memory M (moved L M m) ≡ true
    sound_there = written_sound M W (decode L m) (sound_alike L M O (decode L m) (sound_table L m s))

    table_there : decode M (moved L M m) ≡ decode L m
    table_there = table_back M W (decode L m) (sound_alike L M O (decode L m) (sound_table L m s))

  is_sound : (m : Memory) → is_sound_reply L m ≡ Ok tt → is_sound_reply M (moved L M m) ≡ Ok tt
  unfolding is_sound_reply
  is_sound m z = if_true (sound_memory M (moved L M m)) (Ok tt) (Err NotSound) (sound_there m (go (sound_memory L m) refl z))
    where
      go : (b : Bool) → sound_memory L m ≡ b → ◌≡◌ {A = Reply (Unit {0})} (if b then Ok tt else Err NotSound) (Ok tt) → sound_memory L m ≡ true
      go true e q = e
      go false e q = absurd (suc-ne-zero 2 (ap reply_number q))

  -- ---- a cube

  dimension_there : (d : ℕ) → (leb 1 d && leb d L.dimensions) ≡ true → (leb 1 d && leb d M.dimensions) ≡ true
  dimension_there d h =
      and_true (leb 1 d) (leb d M.dimensions) (and_left (leb 1 d) (leb d L.dimensions) h)
      (test_le d M.dimensions (le_trans (le_test d L.dimensions (and_right (leb 1 d) (leb d L.dimensions) h)) O.dimensions))

  cube_there : (d : ℕ) (radius : Float) (m n : Memory) → reply_number (cube_reply L d radius m).0 ≡ 0 → right_size M n ≡ true → cube_reply M d radius n ≡ (Ok tt, moved L M (cube_reply L d radius m).1)
  cube_there d radius m n z r =
      let c = cube_done L H d radius m z in
      cube_by_lem M d radius n
      ∙ (λ j. cube_by M d radius n (dimension_there d c.dimension j) (c.fits j) (r j))
      ∙ (λ j. (Ok tt, encode M (sym (ap (decode L) c.writes ∙ table_back L R (cube d radius) c.is_sound) j)))

  radius_there : (d : ℕ) (radius : Float) (m n : Memory) → (cube_reply L d radius m).0 ≡ Err Radius → cube_reply M d radius n ≡ (Err Radius, n)
  radius_there d radius m n z =
      go (leb 1 d && leb d L.dimensions) (radius_fits radius) (right_size L m) refl refl (ap (λ (x : Reply (Unit {0}) × Memory). x.0) (sym (cube_by_lem L d radius m)) ∙ z)
    where
      go : (p q s : Bool) → (leb 1 d && leb d L.dimensions) ≡ p → radius_fits radius ≡ q → (cube_by L d radius m p q s).0 ≡ Err Radius → cube_reply M d radius n ≡ (Err Radius, n)
      go false q s e f k = absurd (let x : ◌≡◌ {A = ℕ} 0 1 = cc in suc-ne-zero 0 (sym x))
      go true false s e f k = cube_by_lem M d radius n ∙ (λ j. cube_by M d radius n (dimension_there d e j) (f j) (right_size M n))
      go true true false e f k = absurd (let x : ◌≡◌ {A = ℕ} 0 1 = cc in suc-ne-zero 0 (sym x))
      go true true true e f k = absurd (let x : ◌≡◌ {A = ℕ} 0 1 = cc in suc-ne-zero 0 (sym x))

  -- ---- a file

  open_there : (bs : List ℕ) (m n : Memory) → reply_number (open_reply L bs m).0 ≡ 0 → right_size M n ≡ true → open_reply M bs n ≡ (Ok tt, moved L M (open_reply L bs m).1)
  open_there bs m n z r =
      let k = taken L bs m z in
      open_accepted M bs n k.table ((opens_roomier L M O bs k.table).0 k.says) r
      ∙ (λ j. (Ok tt, encode M (sym (ap (decode L) k.writes ∙ table_back L R k.table (accepted L bs k.table k.says).is_sound) j)))

  -- ---- a cut

  module _ (p : CutParams) (root : ℕ) (m : Memory) (long : length p.divider.normal ≡ L.dimensions) where
    abbrev t : Table
    t = decode L m

    abbrev n : Memory
    n = moved L M m

    abbrev answers : Limits → Outcome ElementAnswer
    answers K = cut K (params_of t.dimension p) root t

    params_same : t.dimension ≤ L.dimensions → params_of t.dimension (widened_params M p) ≡ params_of t.dimension p
    params_same low = ap (λ (h : Plane). record { divider = h; keep_inside = is_kept p.inside; keep_outside = is_kept p.outside }) (divider_same L M O p.divider long t.dimension low)

    -- the reply there, by the tests here
    there : sound_memory L m ≡ true → cut_reply M (widened_params M p) root n
        ≡ reply_by M (widened_params M p) root n true (ltb root (element_count t)) (divider_fits L t.dimension p.divider) (answers M)
    there s =
        reply_by_lem M (widened_params M p) root n
        ∙ (λ j. let u = table_there m s j in
        reply_by M (widened_params M p) root n (sound_there m s j) (ltb root (element_count u)) (divider_fits M u.dimension (widened M p.divider)) (cut M (params_of u.dimension (widened_params M p)) root u))
        ∙ (λ j. reply_by M (widened_params M p) root n true (ltb root (element_count t)) (fits_same L M O p.divider long t.dimension low j) (cut M (params_same low j) root t))
      where
        low : t.dimension ≤ L.dimensions
        low = le_test t.dimension L.dimensions (sound_good L t (sound_table L m s)).high

    go : (s u f : Bool) (r : Outcome ElementAnswer) → sound_memory L m ≡ s → ltb root (element_count t) ≡ u → divider_fits L t.dimension p.divider ≡ f → answers L ≡ r
        → member (reply_number (reply_by L p root m s u f r).0) (0 ∷ 4 ∷ 5 ∷ 7 ∷ []) ≡ true
        → cut_reply M (widened_params M p) root n ≡ ((reply_by L p root m s u f r).0, moved L M (reply_by L p root m s u f r).1)
    go false u f r p₁ p₂ p₃ p₄ k = absurd (false≢true k)
    go true false f r p₁ p₂ p₃ p₄ k = there p₁ ∙ (λ j. reply_by M (widened_params M p) root n true (p₂ j) (divider_fits L t.dimension p.divider) (answers M))
    go true true false r p₁ p₂ p₃ p₄ k = there p₁ ∙ (λ j. reply_by M (widened_params M p) root n true (p₂ j) (p₃ j) (answers M))
    go true true true (refused q) p₁ p₂ p₃ p₄ k =
        let e = seven q (refused_number L (params_of t.dimension p) root t q p₄) k in
        let a : Alike (refused q) (answers M) = subst (λ (x : Outcome ElementAnswer). Alike x (answers M)) p₄ (cut_alike L M O (params_of t.dimension p) root t) in
        there p₁ ∙ (λ j. reply_by M (widened_params M p) root n true (p₂ j) (p₃ j) (a e j))
    go true true true (done b v) p₁ p₂ p₃ p₄ k =
        let a : Alike (done b v) (answers M) = subst (λ (x : Outcome ElementAnswer). Alike x (answers M)) p₄ (cut_alike L M O (params_of t.dimension p) root t) in
        let e : cut_reply L p root m ≡ (Ok b, encode L v) = reply_by_lem L p root m ∙ (λ j. reply_by L p root m (p₁ j) (p₂ j) (p₃ j) (p₄ j)) in
        let w = it L R p root m b (encode L v) e in
        let same : done b v ≡ done b w.table_after_lem = sym p₄ ∙ w.cuts in
        let back : decode L (encode L v) ≡ v = memory_table L R p root m b (encode L v) e ∙ sym (ap (λ (x : Outcome ElementAnswer). table_or v x) same) in
        there p₁ ∙ (λ j. reply_by M (widened_params M p) root n true (p₂ j) (p₃ j) (a j)) ∙ (λ j. (Ok b, encode M (sym back j)))
      where
        table_or : Table → Outcome ElementAnswer → Table
        table_or x (refused q) = x
        table_or x (done c y) = y

    cut_there : member (reply_number (cut_reply L p root m).0) (0 ∷ 4 ∷ 5 ∷ 7 ∷ []) ≡ true
        → cut_reply M (widened_params M p) root n ≡ ((cut_reply L p root m).0, moved L M (cut_reply L p root m).1)
    cut_there =
        subst (λ (x : Reply ElementAnswer × Memory). member (reply_number x.0) (0 ∷ 4 ∷ 5 ∷ 7 ∷ []) ≡ true → cut_reply M (widened_params M p) root n ≡ (x.0, moved L M x.1))
        (sym (reply_by_lem L p root m)) (go (sound_memory L m) (ltb root (element_count t)) (divider_fits L t.dimension p.divider) (answers L) refl refl refl refl)

  -- ---- a list of cuts

  -- a result here, with the memory as the other room has it
  abbrev elsewhere : CutListReply × List ℕ × Memory → CutListReply × List ℕ × Memory
  elsewhere r = (r.0, r.1, moved L M r.2)

  abbrev LongDividers : List ListedCut → Type 0
  LongDividers [] = Unit {0}
  LongDividers (c ∷ cs) = (length c.params.divider.normal ≡ L.dimensions) × LongDividers cs

  abbrev alike_number : ℕ → Bool
  alike_number n = member n (0 ∷ 4 ∷ 5 ∷ 7 ∷ 12 ∷ [])

  cuts_there : (cs : List ListedCut) (i : ℕ) (room : List ℕ) (m : Memory) → LongDividers cs → alike_number (cut_list_number (cuts_from L cs i room m).0) ≡ true
      → cuts_from M (map (widened_cut M) cs) i room (moved L M m) ≡ elsewhere (cuts_from L cs i room m)
  cuts_there [] i room m long k = refl
  cuts_there (c ∷ cs) i room m long k =
      go (cut_reply L c.params c.root m).0 (cut_reply L c.params c.root m).1 refl k (λ x n q. cuts_there cs (suc i) x n long.1 q)
    where
      one_there : (r : Reply ElementAnswer) (m' : Memory) → cut_reply L c.params c.root m ≡ (r, m') → member (reply_number r) (0 ∷ 4 ∷ 5 ∷ 7 ∷ []) ≡ true
          → cut_reply M (widened_params M c.params) c.root (moved L M m) ≡ (r, moved L M m')
      one_there r m' e h =
          cut_there c.params c.root m long.0 (subst (λ (x : Reply ElementAnswer × Memory). member (reply_number x.0) (0 ∷ 4 ∷ 5 ∷ 7 ∷ []) ≡ true) (sym e) h)
          ∙ (λ j. ((e j).0, moved L M (e j).1))

      go : (r : Reply ElementAnswer) (m' : Memory) → cut_reply L c.params c.root m ≡ (r, m') → alike_number (cut_list_number (going_on i room (r, m') (cuts_from L cs (suc i))).0) ≡ true
          → ((x : List ℕ) (n : Memory) → alike_number (cut_list_number (cuts_from L cs (suc i) x n).0) ≡ true
          → cuts_from M (map (widened_cut M) cs) (suc i) x (moved L M n) ≡ elsewhere (cuts_from L cs (suc i) x n))
          → going_on i room (cut_reply M (widened_params M c.params) c.root (moved L M m)) (cuts_from M (map (widened_cut M) cs) (suc i))
          ≡ elsewhere (going_on i room (r, m') (cuts_from L cs (suc i)))
      go (Err n) m' e q later =
          ap (λ (x : Reply ElementAnswer × Memory). going_on i room x (cuts_from M (map (widened_cut M) cs) (suc i)))
          (one_there (Err n) m' e (not_twelve (refusal_number n) (cut_refusal_number L c.params c.root m n (ap (λ (x : Reply ElementAnswer × Memory). x.0) e)) q))
      go (Ok a) m' e q later =
          ap (λ (x : Reply ElementAnswer × Memory). going_on i room x (cuts_from M (map (widened_cut M) cs) (suc i))) (one_there (Ok a) m' e refl) ∙ later _ m' q

  -- every row of a list that fits has a component for each axis
  module _ (l : CutList) (fits : list_fits L l ≡ true) where
    divider_long : (i : ℕ) → i < length l.roots → length (divider_at L l.dividers i).normal ≡ L.dimensions
    unfolding list_fits
    divider_long i h =
        let n = length l.roots in let w = plane_width L in
        let whole : length l.dividers ≡ n * w = eq_test _ _ (and_right (leb n most_cuts && eqb (length l.kept) n) (eqb (length l.dividers) (n * w)) fits) in
        let below : suc i * w ≤ n * w = mul-le-mul_right w h in
        let row : length (take w (drop (i * w) l.dividers)) ≡ w = length-take-le w (drop (i * w) l.dividers)
        (let d = length-drop (i * w) l.dividers in let z = suc-mul i w in let y : w ≤ length (drop (i * w) l.dividers) = omega (arith, d, z, below, whole) in y) in
        length-take-le L.dimensions (take w (drop (i * w) l.dividers)) (let z : L.dimensions ≤ length (take w (drop (i * w) l.dividers)) = omega (arith, row) in z)

    long_up : (n i : ℕ) → i + n ≤ length l.roots → LongDividers (map (cut_at L l) (up_from i n))
    long_up zero i h = tt
    long_up (suc n) i h =
        (divider_long i (let z : i < length l.roots = omega (arith, h) in z), long_up n (suc i) (let z : suc i + n ≤ length l.roots = omega (arith, h) in z))

    long_dividers : LongDividers (cuts_of L l)
    unfolding cuts_of
    long_dividers = long_up (length l.roots) 0 (le_of_eq (zero-add (length l.roots)))

  cut_list_there : (l k : CutList) (room : List ℕ) (m : Memory) → SameCuts L M l k → let r = cut_list_reply L l room m in
      alike_number (cut_list_number r.0) ≡ true → cut_list_reply M k room (moved L M m) ≡ (r.0, r.1, moved L M r.2)
  cut_list_there l k room m S =
      subst (λ (r : CutListReply × List ℕ × Memory). alike_number (cut_list_number r.0) ≡ true → cut_list_reply M k room (moved L M m) ≡ elsewhere r)
      (sym (list_by_lem L l room m ∙ (λ j. list_by L l room m (sound_memory L m) (S.here j) (ltb (length room) (length l.roots)))))
      (go (sound_memory L m) (ltb (length room) (length l.roots)) refl refl)
    where
      as_long : length k.roots ≡ length l.roots
      as_long = sym (as_many M k) ∙ ap (λ (cs : List ListedCut). length cs) S.cuts ∙ length-map (cuts_of L l) (widened_cut M) ∙ as_many L l

      there : sound_memory L m ≡ true → (b : Bool) → ltb (length room) (length l.roots) ≡ b → cut_list_reply M k room (moved L M m) ≡ list_by M k room (moved L M m) true true b
      there s b e =
          list_by_lem M k room (moved L M m)
          ∙ (λ j. list_by M k room (moved L M m) (sound_there m s j) (S.there j) ((ap (λ (n : ℕ). ltb (length room) n) as_long ∙ e) j))

      go : (s b : Bool) → sound_memory L m ≡ s → ltb (length room) (length l.roots) ≡ b → alike_number (cut_list_number (list_by L l room m s true b).0) ≡ true
          → cut_list_reply M k room (moved L M m) ≡ elsewhere (list_by L l room m s true b)
      go false b p q h = absurd (false≢true h)
      go true true p q h = there p true q
      go true false p q h =
          there p false q
          ∙ ap (λ (cs : List ListedCut). cuts_from M cs 0 room (moved L M m)) S.cuts
          ∙ cuts_there (cuts_of L l) 0 room m (long_dividers l S.here) h

  -- ---- the questions

  module _ (m : Memory) (s : sound_memory L m ≡ true) where
    asked_there : {A : Type 0} (es : List ℕ) (f : Table → Asked A) → asked M (moved L M m) es (f (decode M (moved L M m))) ≡ asked L m es (f (decode L m))
    asked_there {A} es f = (λ j. by (sound_there m s j) (table_there m s j)) ∙ (λ j. by (sym s j) (decode L m))
      where
        by : Bool → Table → Asked A
        by b t = if not b then no_answer NotSound else if not (all (λ e. ltb e (element_count t)) es) then no_answer NotInUse else f t

    list_there : (q : ListQuestion) (room : List ℕ) → list_reply M q (moved L M m) room ≡ list_reply L q m room
    unfolding sub_elements_reply with_rank_reply vertex_set_reply greatest_common_reply edges_in_order_reply save_reply print_reply
    list_there (sub_elements_of e) room = ap (λ (a : Asked (List ℕ)). listed a room) (asked_there (e ∷ []) (λ t. answer (sub_elements t e)))
    list_there (sub_elements_with_rank k e) room = ap (λ (a : Asked (List ℕ)). listed a room) (asked_there (e ∷ []) (λ t. answer (with_rank t k e)))
    list_there (vertex_set_of e) room = ap (λ (a : Asked (List ℕ)). listed a room) (asked_there (e ∷ []) (λ t. answer (vertex_set t e)))
    list_there (greatest_common_of es) room = ap (λ (a : Asked (List ℕ)). listed a room) (asked_there es (λ t. greatest_common t es))
    list_there (edges_in_order_of e) room = ap (λ (a : Asked (List ℕ)). listed a room) (asked_there (e ∷ []) (λ t. in_numbers (edges_in_order t e)))
    list_there file_of_table room = ap (λ (a : Asked (List ℕ)). listed a room) (asked_there [] (λ t. answer (file_of t)))
    list_there (print_file_of e) room = ap (λ (a : Asked (List ℕ)). listed a room) (asked_there (e ∷ []) (λ t. printed t e))

    facet_there : (e : ℕ) → primordial_facet_reply M (moved L M m) e ≡ primordial_facet_reply L m e
    unfolding primordial_facet_reply
    facet_there e = ap facet_answer (asked_there (e ∷ []) (λ t. primordial_facet t e))

    -- ---- a touch

    module _ (h : Hyperplane) (root : ℕ) (long : length h.normal ≡ L.dimensions) where
      low : (decode L m).dimension ≤ L.dimensions
      low = le_test (decode L m).dimension L.dimensions (sound_good L (decode L m) (sound_table L m s)).high

      by : Bool → Table → Bool → Plane → Reply Touched
      by b t f g = if not b then Err NotSound else if not (ltb root (element_count t)) then Err NotInUse else if not f then Err Divider else touch g root t

      touch_there : touch_reply M (widened M h) root (moved L M m) ≡ touch_reply L h root m
      unfolding touch_reply by
      touch_there =
          (λ j. let t = table_there m s j in by (sound_there m s j) t (divider_fits M t.dimension (widened M h)) (divider_of t.dimension (widened M h)))
          ∙ (λ j. by (sym s j) (decode L m) (fits_same L M O h long (decode L m).dimension low j) (divider_same L M O h long (decode L m).dimension low j))

    -- ---- an area sheet

    areas_there : (pieces : List ℕ) (room : List ℤ) → areas_reply M (moved L M m) pieces room ≡ areas_reply L m pieces room
    unfolding areas_reply
    areas_there pieces room =
        ap (λ (a : Asked (List ℤ)). listed a room)
        (sheet_by_lem M (moved L M m) pieces ∙ (λ j. sheet_of (sound_there m s j) (table_there m s j)) ∙ (λ j. sheet_of (sym s j) (decode L m)) ∙ sym (sheet_by_lem L m pieces))
      where
        sheet_of : Bool → Table → Asked (List ℤ)
        sheet_of b t = sheet_by t pieces b (few pieces) (used t pieces) (flat t pieces) (all (piece_on_grid t) pieces)

  replies_alike : RepliesAlike L M
  replies_alike = record {
    is_sound = is_sound;
    cube_done = cube_there;
    cube_refused = radius_there;
    open_done = open_there;
    open_refused = λ bs m n z. layout_alone L M bs m n z;
    cut_alike = cut_there;
    cut_list_alike = cut_list_there;
    list_alike = λ q m room s. list_there m s q room;
    facet_alike = λ m e s. facet_there m s e;
    touch_alike = λ h root m l s. touch_there m s h root l;
    areas_alike = λ m pieces room s. areas_there m s pieces room;
  }

tables_alike : (L M : Limits) → Roomier L M → TablesAlike L M
tables_alike L M O = record {
  cuts = λ p root t t' a e. subst (λ (q : Outcome ElementAnswer). Alike q (cut M p root t)) e (cut_alike L M O p root t);
  refuses = λ p root t e. subst (λ (q : Outcome ElementAnswer). Alike q (cut M p root t)) e (cut_alike L M O p root t) refl;
  stays_sound = sound_alike L M O;
}

pub roomier_alike : (L : Limits) → Readable L → HasCubes L → RoomierAlike L
roomier_alike L R H M O = (tables_alike L M O, replies_alike L M O R H)
