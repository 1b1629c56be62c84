-- What is marked for every root so far, with what is left of the roots, is what all have; and ranks are gone through from the highest down.
use Prim.Native.Nat.{ℕ, zero, suc, ◌+◌, ◌*◌, ◌-◌, ◌/◌, ◌%◌, ◌^◌, ◌<◌, ◌≤◌}
use mathlib.Core.Bool.{Bool, true, false, ◌&&◌}
use mathlib.Core.List.{List, [], ◌∷◌}
use mathlib.Core.Path.{◌≡◌, refl, sym, ap, ap₂, subst, ◌∙◌}
use native.Mathlib.Nat.{mod-lt, div-add-mod', not-suc-le-zero}
use native.Mathlib.Numerals.{add-one}
use native.Mathlib.Omega.{arith}
use lib.Bits.{bit_and, and_shr, and_mod}
use lib.Dec.{eqb, ltb}
use lib.ListN.{length, get_or, take, drop, set, length-set, drop_of_length-le}
use lib.Seq.{get_or-set_same, get_or-set_other, drop-cons, get_or-drop, get_or-take}
use Rattle.rules.specs.Lists.{all}
use Rattle.rules.specs.Table.{Table, element_count, rank}
use Rattle.rules.specs.Questions.{no_answer, answer, is_below, common_with_rank, some_or, greatest_from, greatest_common}
use Rattle.rules.proofs.Borders.{at_each}
use Rattle.rules.proofs.Laws.{eq_test, unlike_eq, and_left, and_right, and_swap, and_when, eqb_self, le_test, not_le, if_true, if_false}
use Rattle.soundness.proofs.ReadBack.{and_assoc, and_one}
use Rattle.elements.specs.Marks.{bit, is_marked, marked_numbers, NoneMarked, Both}
use Rattle.elements.specs.Below.{Lent, Used, Below}
use Rattle.elements.specs.Ranks.{OfRank, AllUsed, Common, Greatest}
use Rattle.elements.proofs.MarkLaws.{marked_high}
use Rattle.elements.proofs.MemberLaws.{members_are, true_below}
use Rattle.elements.proofs.BelowLoops.{in_room_lem, lent_rank, none_below}
use Rattle.rules.specs.declared.Refusal.TheVariants.{Rank}

-- ---- two sets, word by word

-- the words before w are of both, those from w on as they came
pub record Meeting (a b ws : List ℕ) (w : ℕ) : Type 0 where
  pub long : length ws ≡ 8
  pub met : (k : ℕ) → k < w → get_or ws k 0 ≡ bit_and (get_or a k 0) (get_or b k 0)
  pub left : (k : ℕ) → w ≤ k → get_or ws k 0 ≡ get_or a k 0

pub meeting_start : (a b : List ℕ) → length a ≡ 8 → Meeting a b a 0
meeting_start a b l = record { long = l; met = λ k h. absurd (not-suc-le-zero h); left = λ k h. refl }

pub meeting_next : (a b ws : List ℕ) (w : ℕ) → w < 8 → Meeting a b ws w → Meeting a b (set ws w (bit_and (get_or ws w 0) (get_or b w 0))) (w + 1)
meeting_next a b ws w h m = record {
  long = length-set ws w (bit_and (get_or ws w 0) (get_or b w 0)) ∙ m.long;
  met = λ k l. go k l (eqb k w) refl;
  left = λ k l. get_or-set_other ws w k (bit_and (get_or ws w 0) (get_or b w 0)) 0 (λ e. let n : ⊥ = omega (arith, e, l) in n) ∙ m.left k (omega (arith, l));
}
  where
    go : (k : ℕ) → k < w + 1 → (c : Bool) → eqb k w ≡ c → get_or (set ws w (bit_and (get_or ws w 0) (get_or b w 0))) k 0 ≡ bit_and (get_or a k 0) (get_or b k 0)
    go k l true e =
        let q = eq_test k w e in
        ap (λ (j : ℕ). get_or (set ws w (bit_and (get_or ws w 0) (get_or b w 0))) j 0) q
        ∙ get_or-set_same ws w (bit_and (get_or ws w 0) (get_or b w 0)) 0 (let n = m.long in omega (arith, n, h))
        ∙ ap (λ (v : ℕ). bit_and v (get_or b w 0)) (m.left w (omega arith))
        ∙ ap (λ (j : ℕ). bit_and (get_or a j 0) (get_or b j 0)) (sym q)
    go k l false e =
        let n = unlike_eq k w e in
        get_or-set_other ws w k (bit_and (get_or ws w 0) (get_or b w 0)) 0 n ∙ m.met k (omega (arith, l, n))

digits_meet : (p q : ℕ) → p < 2 → q < 2 → eqb (bit_and p q) 1 ≡ (eqb p 1 && eqb q 1)
digits_meet zero zero h k = refl
digits_meet zero (suc zero) h k = refl
digits_meet (suc zero) zero h k = refl
digits_meet (suc zero) (suc zero) h k = refl
digits_meet (suc (suc p)) q h k = absurd (omega (arith, h))
digits_meet zero (suc (suc q)) h k = absurd (omega (arith, k))
digits_meet (suc zero) (suc (suc q)) h k = absurd (omega (arith, k))

bits_meet : (v w c : ℕ) → eqb (bit (bit_and v w) c) 1 ≡ (eqb (bit v c) 1 && eqb (bit w c) 1)
bits_meet v w c =
    ap (λ (d : ℕ). eqb d 1) (ap (λ (x : ℕ). x % 2) (and_shr v w c) ∙ and_mod (v / 2 ^ c) (w / 2 ^ c) 1)
    ∙ digits_meet (bit v c) (bit w c) (mod-lt (v / 2 ^ c) (omega arith)) (mod-lt (w / 2 ^ c) (omega arith))

pub meeting_end : (a b ws : List ℕ) (w : ℕ) → 8 ≤ w → length a ≡ 8 → Meeting a b ws w → Both a b ws
unfolding is_marked
meeting_end a b ws w h l m = record { of = λ x. go x (ltb x 512) refl }
  where
    go : (x : ℕ) (c : Bool) → ltb x 512 ≡ c → is_marked ws x ≡ (is_marked a x && is_marked b x)
    go x true e =
        let u = le_test (suc x) 512 e in
        ap (λ (v : ℕ). eqb (bit v (x % 64)) 1) (m.met (x / 64) (omega (arith, u, h, div-add-mod' x 64)))
        ∙ bits_meet (get_or a (x / 64) 0) (get_or b (x / 64) 0) (x % 64)
    go x false e =
        let u : 512 ≤ x = let n = not_le (suc x) 512 e in omega (arith, n) in
        marked_high ws x m.long u ∙ sym (ap (λ (c : Bool). c && is_marked b x) (marked_high a x l u))

-- ---- the roots

root_at : (t : Table) (roots : List ℕ) (i : ℕ) → all (λ e. ltb e (element_count t)) roots ≡ true → i < length roots → get_or roots i 0 < element_count t
root_at t roots i u h = le_test (suc (get_or roots i 0)) (element_count t) (at_each (λ e. ltb e (element_count t)) roots i u h)

pub roots_used_at : (es roots : List ℕ) (i r : ℕ) → AllUsed es roots → i < length roots → r ≡ get_or roots i 0 → Used es r
roots_used_at es roots i r a h q = record {
  table = a.table;
  lent = a.lent;
  used = subst (λ (x : ℕ). x < element_count a.table) (sym q) (root_at a.table roots i a.used h);
}

pub used_in_room : (es : List ℕ) (e : ℕ) → Used es e → e < 512
used_in_room es e w = in_room_lem es w.table w.lent e w.used

-- the marks, and the roots from i on, are all roots
pub record Narrowing (es roots : List ℕ) (i : ℕ) (ws : List ℕ) : Type 0 where
  pub of : (t : Table) → Lent es t → all (λ e. ltb e (element_count t)) roots ≡ true → (x : ℕ) → (is_marked ws x && all (λ e. is_below t e x) (drop i roots)) ≡ all (λ e. is_below t e x) roots

pub root_behind : (roots : List ℕ) (i x : ℕ) → i + 1 < length roots → x ≡ get_or (take (length roots - 1) (drop 1 roots)) i 0 → x ≡ get_or roots (i + 1) 0
root_behind roots i x h e = e ∙ get_or-take (length roots - 1) (drop 1 roots) i 0 (omega (arith, h)) ∙ get_or-drop 1 roots i 0 ∙ ap (λ (k : ℕ). get_or roots k 0) (let z : 1 + i ≡ i + 1 = omega arith in z)

pub narrowing_start : (es roots : List ℕ) (r : ℕ) (ws : List ℕ) → 0 < length roots → r ≡ get_or roots 0 0 → Below es r ws → Narrowing es roots 1 ws
narrowing_start es roots r ws h q b = record {
  of = λ t lent u x.
      ap (λ (c : Bool). c && all (λ e. is_below t e x) (drop 1 roots)) (b.of t lent (subst (λ (y : ℕ). y < element_count t) (sym q) (root_at t roots 0 u h)) x ∙ ap (λ (e : ℕ). is_below t e x) q)
      ∙ sym (ap (all (λ e. is_below t e x)) (drop-cons roots 0 0 h));
}

pub narrowing_next : (es roots : List ℕ) (i r : ℕ) (ws next ws' : List ℕ) → i < length roots → r ≡ get_or roots i 0 → Below es r next → Both ws next ws'
    → Narrowing es roots i ws → Narrowing es roots (i + 1) ws'
narrowing_next es roots i r ws next ws' h q b m n = record {
  of = λ t lent u x.
      ap₂ (λ (c : Bool) (xs : List ℕ). c && all (λ e. is_below t e x) xs)
      (m.of x ∙ ap (λ (c : Bool). is_marked ws x && c) (b.of t lent (subst (λ (y : ℕ). y < element_count t) (sym q) (root_at t roots i u h)) x ∙ ap (λ (e : ℕ). is_below t e x) q))
      (ap (λ (k : ℕ). drop k roots) (add-one i))
      ∙ sym (and_assoc (is_marked ws x) (is_below t (get_or roots i 0) x) (all (λ e. is_below t e x) (drop (suc i) roots)))
      ∙ ap (λ (xs : List ℕ). is_marked ws x && all (λ e. is_below t e x) xs) (sym (drop-cons roots i 0 h))
      ∙ n.of t lent u x;
}

pub narrowing_end : (es roots : List ℕ) (i : ℕ) (ws : List ℕ) → length roots ≤ i → Narrowing es roots i ws → Common es roots ws
narrowing_end es roots i ws h n = record {
  of = λ t lent u x. sym (and_one (is_marked ws x)) ∙ sym (ap (λ (xs : List ℕ). is_marked ws x && all (λ e. is_below t e x) xs) (drop_of_length-le roots h)) ∙ n.of t lent u x;
}

-- ---- rank by rank

first_fails : (p : ℕ → Bool) (xs : List ℕ) → 0 < length xs → p (get_or xs 0 0) ≡ false → all p xs ≡ false
first_fails p [] h e = absurd (not-suc-le-zero h)
first_fails p (x ∷ xs) h e = ap (λ (b : Bool). b && all p xs) e

module _ (es : List ℕ) (t : Table) (roots : List ℕ) (lent : Lent es t) (u : all (λ e. ltb e (element_count t)) roots ≡ true) (some : 0 < length roots) where
  abbrev shared : ℕ → Bool
  shared x = all (λ e. is_below t e x) roots

  none_shared : (x : ℕ) → element_count t ≤ x → shared x ≡ false
  none_shared x h = first_fails (λ e. is_below t e x) roots some (none_below es t (get_or roots 0 0) x lent (root_at t roots 0 u some) h)

  shared_used : (x : ℕ) → shared x ≡ true → x < element_count t
  shared_used = true_below shared (element_count t) none_shared

  common_marked : (ws out : List ℕ) (k : ℕ) → ((x : ℕ) → is_marked ws x ≡ shared x) → OfRank es ws k out → marked_numbers out ≡ common_with_rank t k roots
  unfolding common_with_rank
  common_marked ws out k same r =
      members_are out (element_count t) (λ x. eqb (rank t x) k && shared x) lent.fits.element_room
      (λ x. r.of x ∙ ap (λ (c : Bool). c && eqb (get_or es (x * 36) 0) k) (same x)
      ∙ and_when (shared x) (eqb (get_or es (x * 36) 0) k) (eqb (rank t x) k) (λ h. ap (λ (n : ℕ). eqb n k) (lent_rank es t lent x (shared_used x h)))
      ∙ and_swap (shared x) (eqb (rank t x) k))
      (λ x h. and_swap (eqb (rank t x) k) (shared x) ∙ ap (λ (c : Bool). c && eqb (rank t x) k) (none_shared x h))

-- ranks above r - i have none
pub record Descending (es ws : List ℕ) (r i : ℕ) : Type 0 where
  pub of : (t : Table) (roots : List ℕ) → Lent es t → all (λ e. ltb e (element_count t)) roots ≡ true → 0 < length roots
      → ((x : ℕ) → is_marked ws x ≡ all (λ e. is_below t e x) roots) → greatest_from t r roots ≡ greatest_from t (r - i) roots

pub descending_start : (es ws : List ℕ) (r : ℕ) → Descending es ws r 0
descending_start es ws r = record { of = λ t roots l u s m. ap (λ (k : ℕ). greatest_from t k roots) (let q : r ≡ r - 0 = omega arith in q) }

greatest_on : (t : Table) (roots : List ℕ) (r : ℕ) → greatest_from t (suc r) roots ≡ some_or (common_with_rank t (suc r) roots) (greatest_from t r roots)
unfolding greatest_from
greatest_on t roots r = refl

greatest_end : (t : Table) (roots : List ℕ) → greatest_from t 0 roots ≡ []
unfolding greatest_from
greatest_end t roots = refl

some_first : (xs lower : List ℕ) → 0 < length xs → some_or xs lower ≡ xs
some_first [] lower h = absurd (not-suc-le-zero h)
some_first (x ∷ xs) lower h = refl

none_first : (xs lower : List ℕ) → length xs ≡ 0 → some_or xs lower ≡ lower
none_first [] lower h = refl
none_first (x ∷ xs) lower h = absurd (omega (arith, h))

module _ (es ws : List ℕ) (r i : ℕ) (d : Descending es ws r i) where
  module _ (l : i < r) (out : List ℕ) (k : OfRank es ws (r - i) out) where
    at_rank : (t : Table) (roots : List ℕ) → greatest_from t (r - i) roots ≡ some_or (common_with_rank t (r - i) roots) (greatest_from t (r - (i + 1)) roots)
    at_rank t roots =
        let q : r - i ≡ suc (r - (i + 1)) = omega (arith, l) in
        subst (λ (j : ℕ). greatest_from t j roots ≡ some_or (common_with_rank t j roots) (greatest_from t (r - (i + 1)) roots)) (sym q) (greatest_on t roots (r - (i + 1)))

    pub descending_next : length (marked_numbers out) ≡ 0 → Descending es ws r (i + 1)
    descending_next z = record {
      of = λ t roots lent u s m.
          let c = common_marked es t roots lent u s ws out (r - i) m k in
          d.of t roots lent u s m ∙ at_rank t roots ∙ none_first (common_with_rank t (r - i) roots) (greatest_from t (r - (i + 1)) roots) (sym (ap length c) ∙ z);
    }

    pub descending_found : 0 < length (marked_numbers out) → Greatest es ws r out
    descending_found z = record {
      of = λ t roots lent u s m.
          let c = common_marked es t roots lent u s ws out (r - i) m k in
          sym (d.of t roots lent u s m ∙ at_rank t roots ∙ some_first (common_with_rank t (r - i) roots) (greatest_from t (r - (i + 1)) roots) (subst (λ (n : ℕ). 0 < n) (ap length c) z) ∙ sym c);
    }

  pub descending_end : r ≤ i → (out : List ℕ) → NoneMarked out → Greatest es ws r out
  descending_end h out n = record {
    of = λ t roots lent u s m.
        members_are out 0 (λ x. false) (omega arith) n.of (λ x l. refl)
        ∙ sym (d.of t roots lent u s m ∙ ap (λ (j : ℕ). greatest_from t j roots) (let q : r - i ≡ 0 = omega (arith, h) in q) ∙ greatest_end t roots);
  }

-- ---- the answer

all_ranks : (es : List ℕ) (t : Table) (lent : Lent es t) (k : ℕ) (roots : List ℕ) → all (λ e. ltb e (element_count t)) roots ≡ true
    → all (λ e. eqb (get_or es (e * 36) 0) k) roots ≡ all (λ e. eqb (rank t e) k) roots
all_ranks es t lent k [] u = refl
all_ranks es t lent k (e ∷ roots) u =
    ap₂ (λ (a b : Bool). a && b) (ap (λ (n : ℕ). eqb n k) (lent_rank es t lent e (le_test (suc e) (element_count t) (and_left (ltb e (element_count t)) (all (λ y. ltb y (element_count t)) roots) u))))
    (all_ranks es t lent k roots (and_right (ltb e (element_count t)) (all (λ y. ltb y (element_count t)) roots) u))

pub no_roots : (t : Table) (roots : List ℕ) → length roots ≡ 0 → no_answer Rank ≡ greatest_common t roots
unfolding greatest_common
no_roots t [] h = refl
no_roots t (e ∷ roots) h = absurd (omega (arith, h))

module _ (es : List ℕ) (t : Table) (lent : Lent es t) (k : ℕ) where
  first_rank : (e : ℕ) (roots : List ℕ) → all (λ y. ltb y (element_count t)) (e ∷ roots) ≡ true → k ≡ get_or es (e * 36) 0 → k ≡ rank t e
  first_rank e roots u q = q ∙ lent_rank es t lent e (le_test (suc e) (element_count t) (and_left (ltb e (element_count t)) (all (λ y. ltb y (element_count t)) roots) u))

  -- the first has its own rank, so the test of all is the test of the others
  one_rank : (e : ℕ) (roots : List ℕ) → all (λ y. ltb y (element_count t)) (e ∷ roots) ≡ true → k ≡ get_or es (e * 36) 0
      → all (λ y. eqb (rank t y) (rank t e)) roots ≡ all (λ y. eqb (get_or es (y * 36) 0) k) (e ∷ roots)
  one_rank e roots u q =
      sym (ap (λ (b : Bool). b && all (λ y. eqb (rank t y) (rank t e)) roots) (eqb_self (rank t e)))
      ∙ ap (λ (j : ℕ). all (λ y. eqb (rank t y) j) (e ∷ roots)) (sym (first_rank e roots u q))
      ∙ sym (all_ranks es t lent k (e ∷ roots) u)

  pub unlike_roots : (roots : List ℕ) → all (λ y. ltb y (element_count t)) roots ≡ true → k ≡ get_or es (get_or roots 0 0 * 36) 0
      → all (λ y. eqb (get_or es (y * 36) 0) k) roots ≡ false → no_answer Rank ≡ greatest_common t roots
  unfolding greatest_common
  unlike_roots [] u q f = refl
  unlike_roots (e ∷ roots) u q f = sym (if_false (all (λ y. eqb (rank t y) (rank t e)) roots) (answer (greatest_from t (rank t e) (e ∷ roots))) (no_answer Rank) (one_rank e roots u q ∙ f))

  pub greatest_answered : (roots ws out : List ℕ) → all (λ y. ltb y (element_count t)) roots ≡ true → 0 < length roots → k ≡ get_or es (get_or roots 0 0 * 36) 0
      → all (λ y. eqb (get_or es (y * 36) 0) k) roots ≡ true → Common es roots ws → Greatest es ws k out → answer (marked_numbers out) ≡ greatest_common t roots
  unfolding greatest_common
  greatest_answered [] ws out u s q f c g = absurd (not-suc-le-zero s)
  greatest_answered (e ∷ roots) ws out u s q f c g =
      ap answer (g.of t (e ∷ roots) lent u s (c.of t lent u) ∙ ap (λ (j : ℕ). greatest_from t j (e ∷ roots)) (first_rank e roots u q))
      ∙ sym (if_true (all (λ y. eqb (rank t y) (rank t e)) roots) (answer (greatest_from t (rank t e) (e ∷ roots))) (no_answer Rank) (one_rank e roots u q ∙ f))
