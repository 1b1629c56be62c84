-- From rank to rank: a way down to an element ends with a step from one whose boundary it is in, which is of the next rank up; so the boundaries of all of one rank are the next.
use Prim.Native.Nat.{ℕ, suc, ◌+◌, ◌*◌, ◌-◌, ◌/◌, ◌^◌, ◌<◌, ◌≤◌}
use mathlib.Core.Bool.{Bool, true, ◌&&◌, ◌||◌}
use mathlib.Core.List.{List, [], ◌∷◌, ◌++◌}
use mathlib.Core.Logic.{◌⊎◌, inl, inr}
use mathlib.Core.Path.{◌≡◌, refl, sym, ap, subst, ◌∙◌}
use native.Mathlib.Nat.{suc_inj}
use native.Mathlib.Omega.{arith}
use lib.Count.{count_trailing_zeros}
use lib.Dec.{eqb, ltb}
use lib.ListN.{length, get_or}
use Rattle.rules.specs.Limits.{desk}
use Rattle.rules.specs.Lists.{all, member, up_to}
use Rattle.rules.specs.Table.{Table, element_count, rank, boundary}
use Rattle.rules.specs.Questions.{is_below}
use Rattle.rules.specs.Asking.{Reaches, itself, lower, border}
use Rattle.rules.proofs.Common.{kept_member, member_up}
use Rattle.rules.proofs.Counting.{all_up}
use Rattle.rules.proofs.FaceEdges.{member_at}
use Rattle.rules.proofs.Laws.{or_left, or_right, or_none, and_left, and_true, eq_test, test_eq, test_le, eqb_self, both_ways, refute}
use Rattle.rules.proofs.Reach.{some_at, some_of_lem, any_at, is_below_lem}
use Rattle.elements.specs.Marks.{is_marked, marking, marking_all, NoneMarked, bits_from, words_from, marked_numbers}
use Rattle.elements.specs.Below.{Lent, Used, boundary_word, boundary_numbers, BoundaryReady}
use Rattle.elements.specs.Levels.{marking_under, is_under, WordReady, SetReady, Under, Level}
use Rattle.elements.proofs.MarkLaws.{marking_all_long, marked_all, marked_alone, or_turn}
use Rattle.elements.proofs.MemberLaws.{word_marked, members_marked}
use Rattle.elements.proofs.WordLoops.{Leaving, numbers_left, leaving_start, all_left, none_left, next_left, leaving_next, words_whole, next_word, no_words}
use Rattle.elements.proofs.BelowLoops.{in_room_lem, lent_rank, boundary_is, boundary_ready, border_ranked, border_lower, further, reached_earlier}
use Rattle.elements.proofs.RankLoops.{wanted_used, wanted_rank, ranked_kept}

-- ---- the boundaries of a list, one after another

under_on : (es ws : List ℕ) (y : ℕ) (ys : List ℕ) → marking_under es ws (y ∷ ys) ≡ marking_under es (marking_all ws (boundary_numbers es y)) ys
unfolding marking_under
under_on es ws y ys = refl

under_none : (es ws : List ℕ) → marking_under es ws [] ≡ ws
unfolding marking_under
under_none es ws = refl

under_append : (es ws xs ys : List ℕ) → marking_under es ws (xs ++ ys) ≡ marking_under es (marking_under es ws xs) ys
unfolding marking_under
under_append es ws [] ys = refl
under_append es ws (x ∷ xs) ys = under_append es (marking_all ws (boundary_numbers es x)) xs ys

boundary_low : (es : List ℕ) (y : ℕ) → BoundaryReady es y → all (λ x. ltb x 512) (boundary_numbers es y) ≡ true
unfolding boundary_numbers
boundary_low es y b = all_up (boundary_word es y) (λ x. ltb x 512) 0 (get_or es (y * 36 + 3) 0) (λ i l. test_le (suc (boundary_word es y i)) 512 (b.low i (omega (arith, l))))

-- exactly what is in one of them is marked more
marked_under : (es ws ys : List ℕ) (x : ℕ) → length ws ≡ 8 → ((y : ℕ) → member y ys ≡ true → BoundaryReady es y) → is_marked (marking_under es ws ys) x ≡ (is_under es ys x || is_marked ws x)
unfolding marking_under
marked_under es ws [] x l ready = refl
marked_under es ws (y ∷ ys) x l ready =
    marked_under es (marking_all ws (boundary_numbers es y)) ys x (marking_all_long ws (boundary_numbers es y) ∙ l) (λ z m. ready z (or_right (eqb z y) (member z ys) m))
    ∙ ap (λ (b : Bool). is_under es ys x || b)
    (marked_all ws (boundary_numbers es y) x l (boundary_low es y (ready y (or_left (eqb y y) (member y ys) (eqb_self y)))))
    ∙ or_turn (is_under es ys x) (member x (boundary_numbers es y)) (is_marked ws x)

-- ---- those of a word

-- the numbers that are left of it are to come
pub record Passing (es : List ℕ) (word base : ℕ) (ws₀ ws : List ℕ) (x left : ℕ) : Type 0 where
  pub low : base ≤ 448
  pub leaving : Leaving base x left
  pub each : (y : ℕ) → member y (numbers_left base x left) ≡ true → BoundaryReady es y
  pub same : marking_under es ws₀ (bits_from 64 word base) ≡ marking_under es ws (numbers_left base x left)

pub passing_start : (es : List ℕ) (word base : ℕ) (ws : List ℕ) → word < 2 ^ 64 → WordReady es word base → Passing es word base ws ws base word
passing_start es word base ws h r =
    let e = all_left base word in
    record {
      low = r.low;
      leaving = leaving_start base word h;
      each = λ y m. r.each y (ap (member y) e ∙ m);
      same = ap (marking_under es ws) e;
    }

module _ (es : List ℕ) (word base : ℕ) (ws₀ ws : List ℕ) (x left : ℕ) (p : Passing es word base ws₀ ws x left) where
  pub passing_end : left ≡ 0 → ws ≡ marking_under es ws₀ (bits_from 64 word base)
  passing_end e = sym (p.same ∙ ap (marking_under es ws) (none_left base x left e) ∙ under_none es ws)

  module _ (z : ℕ) (q : z ≡ count_trailing_zeros 64 left) (n : left ≡ 0 → ⊥) where
    abbrev rest : List ℕ
    rest = numbers_left base (x + z + 1) (left / 2 ^ z / 2 ^ 1)

    split : numbers_left base x left ≡ (x + z) ∷ rest
    split = next_left base x left p.leaving z q n

    pub passing_ready : BoundaryReady es (x + z)
    passing_ready = p.each (x + z) (ap (member (x + z)) split ∙ or_left (eqb (x + z) (x + z)) (member (x + z) rest) (eqb_self (x + z)))

    pub passing_next : (ws' : List ℕ) → ws' ≡ marking_all ws (boundary_numbers es (x + z)) → Passing es word base ws₀ ws' (x + z + 1) (left / 2 ^ z / 2 ^ 1)
    passing_next ws' e = record {
      low = p.low;
      leaving = leaving_next base x left p.leaving z q n;
      each = λ y m. p.each y (ap (member y) split ∙ or_right (eqb y (x + z)) (member y rest) m);
      same = p.same ∙ ap (marking_under es ws) split ∙ under_on es ws (x + z) rest ∙ ap (λ (v : List ℕ). marking_under es v rest) (sym e);
    }

-- ---- those of a set

-- the words from w on are left
pub record Passed (es set ws₀ ws : List ℕ) (w : ℕ) : Type 0 where
  pub same : marking_under es ws₀ (marked_numbers set) ≡ marking_under es ws (words_from (8 - w) w set)

pub passed_start : (es set ws : List ℕ) → Passed es set ws ws 0
passed_start es set ws = record { same = ap (marking_under es ws) (words_whole set) }

pub word_ready : (es set : List ℕ) (w : ℕ) → w < 8 → SetReady es set → WordReady es (get_or set w 0) (w * 64)
word_ready es set w l r = record { low = omega (arith, l); each = λ y m. r.each y (word_marked set y w m) }

module _ (es set ws₀ ws : List ℕ) (w : ℕ) (p : Passed es set ws₀ ws w) where
  pub passed_next : (ws' : List ℕ) → w < 8 → ws' ≡ marking_under es ws (bits_from 64 (get_or set w 0) (w * 64)) → Passed es set ws₀ ws' (w + 1)
  passed_next ws' l e = record {
    same =
        p.same ∙ ap (marking_under es ws) (next_word set w l)
        ∙ under_append es ws (bits_from 64 (get_or set w 0) (w * 64)) (words_from (8 - (w + 1)) (w + 1) set)
        ∙ ap (λ (v : List ℕ). marking_under es v (words_from (8 - (w + 1)) (w + 1) set)) (sym e);
  }

  pub passed_end : w ≡ 8 → length ws₀ ≡ 8 → NoneMarked ws₀ → SetReady es set → Under es set ws
  passed_end e l none r = record {
    of = λ x.
        ap (λ (v : List ℕ). is_marked v x) (sym (p.same ∙ ap (marking_under es ws) (no_words set w e) ∙ under_none es ws))
        ∙ marked_under es ws₀ (marked_numbers set) x l (λ y m. r.each y (members_marked set y m))
        ∙ ap (λ (b : Bool). is_under es (marked_numbers set) x || b) (none.of x)
        ∙ or_none (is_under es (marked_numbers set) x);
  }

-- ---- ways down

-- the last step of one, if there is any
last_step : {t : Table} {e x : ℕ} → Reaches t e x → (x ≡ e) ⊎ ((y : ℕ) × (n : ℕ) × Reaches t e y × (n < length (boundary t y)) × (x ≡ border t y n))
last_step (itself e) = inl refl
last_step (lower e n x l h) = elim (last_step h) [
  | inl q ↦ inr (e, n, itself e, l, q)
  | inr s ↦ inr (s.0, s.1, lower e n s.0 l s.2, s.3, s.4)
]

module _ (es : List ℕ) (t : Table) (lent : Lent es t) where
  step_down : (e n : ℕ) → e < element_count t → n < length (boundary t e) → suc (rank t (border t e n)) ≡ rank t e
  step_down e n u l = border_lower es t lent e u (border_ranked es t lent e u n l) n l

  reached_used : {e x : ℕ} → Reaches t e x → e < element_count t → x < element_count t
  reached_used h u = let r = reached_earlier es t lent h u in omega (arith, r, u)

  itself_or_lower : {e x : ℕ} → Reaches t e x → e < element_count t → (x ≡ e) ⊎ (rank t x < rank t e)
  itself_or_lower (itself e) u = inl refl
  itself_or_lower (lower e n x l h) u =
      let s = step_down e n u l in
      let v = reached_used (lower e n (border t e n) l (itself (border t e n))) u in
      elim (itself_or_lower h v) [
        | inl q ↦ let r = ap (rank t) q in inr (omega (arith, s, r))
        | inr k ↦ inr (omega (arith, s, k))
      ]

-- ---- one rank after another

level_top : (es : List ℕ) (root k : ℕ) (none ws : List ℕ) → length none ≡ 8 → NoneMarked none → root < 512 → ws ≡ marking none root → k ≡ get_or es (root * 36) 0 → Level es root k ws
level_top es root k none ws l n h q e = record {
  of = λ t lent u x.
      let r = e ∙ lent_rank es t lent root u in
      let i = is_below_lem desk t lent.sound root x u in
      marked_alone none ws root x l n h q
      ∙ both_ways (eqb x root) (is_below t root x && eqb (rank t x) k)
      (λ m. let p = eq_test x root m in and_true (is_below t root x) (eqb (rank t x) k) (i.1 (subst (Reaches t root) (sym p) (itself root))) (test_eq (rank t x) k (ap (rank t) p ∙ sym r)))
      (λ m. elim (itself_or_lower es t lent (i.0 (and_left (is_below t root x) (eqb (rank t x) k) m)) u) [
        | inl p ↦ test_eq x root p
        | inr b ↦ let j = wanted_rank es t lent root u k x m in absurd (omega (arith, b, j, r))
      ]);
}

module _ (es : List ℕ) (root k : ℕ) (ws out : List ℕ) (above : Level es root (suc k) ws) (under : Under es ws out) where
  module _ (t : Table) (lent : Lent es t) (u : root < element_count t) where
    abbrev at : ℕ → ℕ → Bool
    at j x = is_below t root x && eqb (rank t x) j

    below : (x : ℕ) → (is_below t root x ≡ true → Reaches t root x) × (Reaches t root x → is_below t root x ≡ true)
    below x = is_below_lem desk t lent.sound root x u

    -- the boundary of one of the rank above
    boundary_of_lem : (y : ℕ) → y < element_count t → rank t y ≡ suc k → boundary_numbers es y ≡ boundary t y
    boundary_of_lem y v q = boundary_is es t lent y v (omega (arith, q))

    down : (x : ℕ) → is_under es (marked_numbers ws) x ≡ true → at k x ≡ true
    down x m = and_true (is_below t root x) (eqb (rank t x) k) ((below x).1 (subst (Reaches t root) (sym q) (further ((below y).0 (and_left (is_below t root y) (eqb (rank t y) (suc k)) w)) n l)))
        (test_eq (rank t x) k (ap (rank t) q ∙ suc_inj (step_down es t lent y n v l ∙ r)))
      where
        s : (y : ℕ) × (member y (marked_numbers ws) ≡ true) × (member x (boundary_numbers es y) ≡ true)
        s = some_of_lem (λ y. member x (boundary_numbers es y)) (marked_numbers ws) m

        y : ℕ
        y = s.0

        w : at (suc k) y ≡ true
        w = sym (above.of t lent u y) ∙ members_marked ws y s.1

        v : y < element_count t
        v = wanted_used es t lent root u (suc k) y w

        r : rank t y ≡ suc k
        r = wanted_rank es t lent root u (suc k) y w

        j : (n : ℕ) × (n < length (boundary t y)) × (eqb x (border t y n) ≡ true)
        j = some_at (eqb x) (boundary t y) (sym (ap (member x) (boundary_of_lem y v r)) ∙ s.2)

        n : ℕ
        n = j.0

        l : n < length (boundary t y)
        l = j.1

        q : x ≡ border t y n
        q = eq_test x (border t y n) j.2

    up : suc k ≤ rank t root → (x : ℕ) → at k x ≡ true → is_under es (marked_numbers ws) x ≡ true
    up h x m = elim (last_step ((below x).0 (and_left (is_below t root x) (eqb (rank t x) k) m))) [
      | inl p ↦ let z = ap (rank t) p in let r = wanted_rank es t lent root u k x m in absurd (omega (arith, z, r, h))
      | inr s ↦ from s.0 s.1 s.2 s.3 s.4
    ]
      where
        from : (y n : ℕ) → Reaches t root y → n < length (boundary t y) → x ≡ border t y n → is_under es (marked_numbers ws) x ≡ true
        from y n g l q =
            let v = reached_used es t lent g u in
            let r : rank t y ≡ suc k = sym (step_down es t lent y n v l) ∙ ap suc (ap (rank t) (sym q) ∙ wanted_rank es t lent root u k x m) in
            let w = and_true (is_below t root y) (eqb (rank t y) (suc k)) ((below y).1 g) (test_eq (rank t y) (suc k) r) in
            any_at (λ z. member x (boundary_numbers es z)) (marked_numbers ws) y
            (ap (member y) (ranked_kept es t lent root u (suc k) ws above) ∙ kept_member (at (suc k)) (up_to (element_count t)) y (member_up (element_count t) y v) w)
            (ap (member x) (boundary_of_lem y v r) ∙ subst (λ (z : ℕ). member z (boundary t y) ≡ true) (sym q) (member_at (boundary t y) n l))

  level_next : suc k ≤ get_or es (root * 36) 0 → Level es root k out
  level_next h = record {
    of = λ t lent u x.
        under.of x ∙ both_ways (is_under es (marked_numbers ws) x) (is_below t root x && eqb (rank t x) k) (down t lent u x) (up t lent u (subst (λ (r : ℕ). suc k ≤ r) (lent_rank es t lent root u) h) x);
  }

level_ready : (es : List ℕ) (root k : ℕ) (ws : List ℕ) → Used es root → Level es root (suc k) ws → SetReady es ws
level_ready es root k ws w above = record {
  each = λ y m.
      let t = w.table in
      let a = sym (above.of t w.lent w.used y) ∙ m in
      let r = wanted_rank es t w.lent root w.used (suc k) y a in
      boundary_ready es t w.lent y (wanted_used es t w.lent root w.used (suc k) y a) (omega (arith, r));
}

-- above the root's rank there is none
pub no_level : (es : List ℕ) (root k : ℕ) (ws : List ℕ) → NoneMarked ws → get_or es (root * 36) 0 < k → Level es root k ws
no_level es root k ws n h = record {
  of = λ t lent u x.
      n.of x ∙ sym (refute (is_below t root x && eqb (rank t x) k) (λ m.
      let r = wanted_rank es t lent root u k x m in
      let q = lent_rank es t lent root u in
      elim (itself_or_lower es t lent ((is_below_lem desk t lent.sound root x u).0 (and_left (is_below t root x) (eqb (rank t x) k) m)) u) [
        | inl p ↦ let e = ap (rank t) p in omega (arith, e, r, q, h)
        | inr b ↦ omega (arith, b, r, q, h)
      ]));
}

-- ---- down to a rank

-- the first marks are the root alone
pub record First (es : List ℕ) (root top : ℕ) (first : List ℕ) : Type 0 where
  pub used : Used es root
  pub rank : top ≡ get_or es (root * 36) 0
  pub level : Level es root top first

pub root_first : (es : List ℕ) (root top : ℕ) (none ws : List ℕ) → Used es root → length none ≡ 8 → NoneMarked none → ws ≡ marking none root → top ≡ get_or es (root * 36) 0 → First es root top ws
root_first es root top none ws w l n q e = record { used = w; rank = e; level = level_top es root top none ws l n (in_room_lem es w.table w.lent root w.used) q e }

-- whatever root that is: from k up to i, as many ranks below it
pub record Lowered (es : List ℕ) (top k : ℕ) (first ws : List ℕ) (i : ℕ) : Type 0 where
  pub from : k ≤ i
  pub to : i ≤ top
  pub of : (root : ℕ) → First es root top first → Level es root (top + k - i) ws

pub lowered_start : (es : List ℕ) (top k : ℕ) (ws : List ℕ) → k ≤ top → Lowered es top k ws ws k
lowered_start es top k ws l = record { from = omega arith; to = l; of = λ root f. subst (λ (j : ℕ). Level es root j ws) (let z : top ≡ top + k - k = omega arith in z) f.level }

module _ (es : List ℕ) (top k : ℕ) (first ws : List ℕ) (i : ℕ) (p : Lowered es top k first ws i) where
  pub lowered_end : top ≤ i → (root : ℕ) → First es root top first → Level es root k ws
  lowered_end l root f = subst (λ (j : ℕ). Level es root j ws) (let z : top + k - i ≡ k = (let h = p.to in omega (arith, l, h)) in z) (p.of root f)

  module _ (l : i < top) where
    left_to_go : (root : ℕ) → First es root top first → Level es root (suc (top + k - (i + 1))) ws
    left_to_go root f = subst (λ (j : ℕ). Level es root j ws) (let z : top + k - i ≡ suc (top + k - (i + 1)) = omega (arith, l) in z) (p.of root f)

    pub lowered_ready : (root : ℕ) → First es root top first → SetReady es ws
    lowered_ready root f = level_ready es root (top + k - (i + 1)) ws f.used (left_to_go root f)

    pub lowered_next : (out : List ℕ) → Under es ws out → Lowered es top k first out (i + 1)
    lowered_next out u = record {
      from = let h = p.from in omega (arith, h);
      to = omega (arith, l);
      of = λ root f. level_next es root (top + k - (i + 1)) ws out (left_to_go root f) u (let q = f.rank in let h = p.from in omega (arith, q, l, h));
    }
